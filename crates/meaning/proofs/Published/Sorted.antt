-- Lists in order under any strict order: there is one order of given elements, and insertion keeps it.
-- Assumes nothing.
use mathlib.Core.Path.{◌≡◌, refl, sym, ◌∙◌, ap, ap₂, subst}
use mathlib.Core.Logic.{◌⊎◌, inl, inr, ⊎_elim}
use mathlib.Core.Bool.{Bool, true, false, cond, true≢false}
use mathlib.Core.List.Memᴰ
use mathlib.Core.List.{List, [], ◌∷◌, ◌++◌, map, Memᴰ}
use Prim.Native.Nat.{zero, suc}
use native.Mathlib.Omega.{arith}
use Rattle.meaning.specs.Lists.{count, insert_at}
use Rattle.meaning.specs.Machine.Place.{place}
use Rattle.meaning.specs.Published.Order.{InOrder}
use Rattle.meaning.proofs.Tests.{never}
use Rattle.meaning.proofs.Lists.{mem_map_inv, mem_insert_at, mem_count, count_mem}

module _ {A : Type 0} where
  -- what keeps the order of any two keeps the list in order
  pub map_in_order : (b : A → A → Bool) (f : A → A) → ((i j : A) → b i j ≡ true → b (f i) (f j) ≡ true) → (l : List A) → InOrder b l
      → InOrder b (map f l)
  map_in_order b f keeps [] s = tt
  map_in_order b f keeps (x ∷ l) s = (first, map_in_order b f keeps l s.1)
    where
      first : (y : A) → Memᴰ y (map f l) → b (f x) y ≡ true
      first y h = let r = mem_map_inv f l h in ap (b (f x)) r.2 ∙ keeps x r.0 (s.0 r.0 r.1)

  -- what a list is cut into where x is put in front of the first that a test picks
  pub record Cut (c : A → Bool) (x : A) (l : List A) : Type 0 where
    pub front : List A
    pub back : List A
    pub was : l ≡ front ++ back
    pub is : insert_at (place c l) x l ≡ front ++ (x ∷ back)
    pub none : (y : A) → Memᴰ y front → c y ≡ false
    pub each : (y : A) → Memᴰ y back → c y ≡ true

  -- in a list in order the test picks none ahead of x and each behind it, if it picks each that may stand behind one that it picks
  pub cut_in_order : (b : A → A → Bool) (c : A → Bool) (x : A) (l : List A) → ((j y : A) → c j ≡ true → b j y ≡ true → c y ≡ true) → InOrder b l → Cut c x l
  cut_in_order b c x [] up s = record { front = []; back = []; was = refl; is = refl; none = λ y h. absurd (Memᴰ.not-nil h); each = λ y h. absurd (Memᴰ.not-nil h) }
  cut_in_order b c x (j ∷ l) up s = go (c j) refl (cut_in_order b c x l up s.1)
    where
      rest : Cut c x l → (e : c j ≡ false) → Cut c x (j ∷ l)
      rest w e = record {
        front = j ∷ w.front;
        back = w.back;
        was = ap (λ (k : List A). j ∷ k) w.was;
        is = rw e (ap (λ (k : List A). j ∷ k) w.is);
        none = λ y h. ⊎_elim (λ (d : y ≡ j). ap c d ∙ e) (w.none y) (Memᴰ.cases_cons h);
        each = w.each;
      }

      go : (d : Bool) → c j ≡ d → Cut c x l → Cut c x (j ∷ l)
      go true e w = record {
        front = [];
        back = j ∷ l;
        was = refl;
        is = rw e refl;
        none = λ y h. absurd (Memᴰ.not-nil h);
        each = λ y h. ⊎_elim (λ (d : y ≡ j). ap c d ∙ e) (λ (g : Memᴰ y l). up j y e (s.0 y g)) (Memᴰ.cases_cons h);
      }
      go false e w = rest w e

module _ {A : Type 0} (b : A → A → Bool) (trans : (i j k : A) → b i j ≡ true → b j k ≡ true → b i k ≡ true) where
  -- a new element in front of the first that a test picks, else last: it may stand in front of each that the test picks, and behind each other
  pub insert_in_order : (c : A → Bool) (x : A) (l : List A) → ((j : A) → Memᴰ j l → c j ≡ true → b x j ≡ true)
      → ((j : A) → Memᴰ j l → c j ≡ false → b j x ≡ true) → InOrder b l → InOrder b (insert_at (place c l) x l)
  insert_in_order c x [] lets keeps s = (λ y h. absurd (Memᴰ.not-nil h), tt)
  insert_in_order c x (j ∷ l) lets keeps s =
      go (c j) refl (insert_in_order c x l (λ i h. lets i (Memᴰ.tail h)) (λ i h. keeps i (Memᴰ.tail h)) s.1)
    where
      go : (d : Bool) → c j ≡ d → InOrder b (insert_at (place c l) x l) → InOrder b (insert_at (cond d zero (suc (place c l))) x (j ∷ l))
      go true e ih =
          let f = lets j (Memᴰ.head refl) e in
          (λ y h. ⊎_elim (λ (d : y ≡ j). ap (b x) d ∙ f) (λ (g : Memᴰ y l). trans x j y f (s.0 y g)) (Memᴰ.cases_cons h), s)
      go false e ih =
          (λ y h. ⊎_elim (λ (d : y ≡ x). ap (b j) d ∙ keeps j (Memᴰ.head refl) e) (s.0 y) (mem_insert_at (place c l) l h), ih)

-- what holds of any two in order
pub in_order_map : {A : Type 0} (b c : A → A → Bool) → ((i j : A) → b i j ≡ true → c i j ≡ true) → (l : List A) → InOrder b l → InOrder c l
in_order_map b c f [] s = tt
in_order_map b c f (x ∷ l) s = (λ y h. f x y (s.0 y h), in_order_map b c f l s.1)

-- `same` tests whether two are one
module _ {A : Type 0} (same : A → A → Bool) (same_refl : (i : A) → same i i ≡ true) (same_is : (i j : A) → same i j ≡ true → i ≡ j) where
  -- what is counted in the one list is in the other
  pub counted : (x : A) (l r : List A) → Memᴰ x l → count (same x) l ≡ count (same x) r → Memᴰ x r
  counted x l r h e =
      let w = count_mem (same x) r (let n = mem_count (same x) h (same_refl x) in omega arith) in
      subst (λ (a : A). Memᴰ a r) (sym (same_is x w.0 w.2)) w.1

-- an order in which two that go before each other are one
module _ {A : Type 0} (b same : A → A → Bool) (one : (i j : A) → b i j ≡ true → b j i ≡ true → i ≡ j)
    (same_refl : (i : A) → same i i ≡ true) (same_is : (i j : A) → same i j ≡ true → i ≡ j) where
  head_one : (x y : A) (l r : List A) → InOrder b (x ∷ l) → InOrder b (y ∷ r) → Memᴰ x (y ∷ r) → Memᴰ y (x ∷ l) → x ≡ y
  head_one x y l r sl sr h g = go (Memᴰ.cases_cons h) (Memᴰ.cases_cons g)
    where
      go : (x ≡ y) ⊎ Memᴰ x r → (y ≡ x) ⊎ Memᴰ y l → x ≡ y
      go (inl e) w = e
      go (inr u) (inl e) = sym e
      go (inr u) (inr v) = one x y (sl.0 y v) (sr.0 x u)

  count_behind : (a x y : A) (l r : List A) → x ≡ y → count (same a) (x ∷ l) ≡ count (same a) (y ∷ r) → count (same a) l ≡ count (same a) r
  count_behind a x y l r e h = go (same a x) (same a y) (ap (same a) e) h
    where
      go : (c d : Bool) → c ≡ d → cond c (suc (count (same a) l)) (count (same a) l) ≡ cond d (suc (count (same a) r)) (count (same a) r)
          → count (same a) l ≡ count (same a) r
      go true true f g = omega arith
      go true false f g = absurd (true≢false f)
      go false true f g = absurd (true≢false (sym f))
      go false false f g = g

  -- there is one order of given elements, each as often as it is given
  pub in_order_one : (l r : List A) → InOrder b l → InOrder b r → ((a : A) → count (same a) l ≡ count (same a) r) → l ≡ r
  in_order_one [] [] sl sr f = refl
  in_order_one [] (y ∷ r) sl sr f = absurd (Memᴰ.not-nil (counted same same_refl same_is y (y ∷ r) [] (Memᴰ.head refl) (sym (f y))))
  in_order_one (x ∷ l) [] sl sr f = absurd (Memᴰ.not-nil (counted same same_refl same_is x (x ∷ l) [] (Memᴰ.head refl) (f x)))
  in_order_one (x ∷ l) (y ∷ r) sl sr f =
      let e : x ≡ y =
      head_one x y l r sl sr (counted same same_refl same_is x (x ∷ l) (y ∷ r) (Memᴰ.head refl) (f x))
      (counted same same_refl same_is y (y ∷ r) (x ∷ l) (Memᴰ.head refl) (sym (f y))) in
      let t : l ≡ r = in_order_one l r sl.1 sr.1 (λ a. count_behind a x y l r e (f a)) in
      ap₂ (λ (a : A) (k : List A). a ∷ k) e t

-- a list is cut in one way into those that a test does not pick and those that it picks
pub cut_one : {A : Type 0} (c : A → Bool) (f g f' g' : List A) → f ++ g ≡ f' ++ g'
    → ((y : A) → Memᴰ y f → c y ≡ false) → ((y : A) → Memᴰ y g → c y ≡ true)
    → ((y : A) → Memᴰ y f' → c y ≡ false) → ((y : A) → Memᴰ y g' → c y ≡ true) → (f ≡ f') × (g ≡ g')
cut_one c [] g [] g' e n y n' y' = (refl, e)
cut_one c [] g (x ∷ f') g' e n y n' y' =
    absurd (never (y x (rw e (Memᴰ.head refl))) (n' x (Memᴰ.head refl)))
cut_one c (x ∷ f) g [] g' e n y n' y' =
    absurd (never (y' x (rw (sym e) (Memᴰ.head refl))) (n x (Memᴰ.head refl)))
cut_one {A} c (x ∷ f) g (x' ∷ f') g' e n y n' y' =
    let d : x ≡ x' = cc in
    let r : f ++ g ≡ f' ++ g' = cc in
    let k = cut_one c f g f' g' r (λ z h. n z (Memᴰ.tail h)) y (λ z h. n' z (Memᴰ.tail h)) y' in
    (ap₂ (λ (a : A) (l : List A). a ∷ l) d k.0, k.1)
