-- Laws of the words for lists.
-- Assumes nothing.
use mathlib.Core.Path.{◌≡◌, refl, sym, ◌∙◌, ap, ap₂, subst}
use mathlib.Core.Logic.{◌⊎◌, inl, inr, ⊎_elim}
use mathlib.Core.Bool.{Bool, true, false, cond, ◌||◌, true≢false}
use mathlib.Core.List.Memᴰ
use mathlib.Core.List.{List, [], ◌∷◌, ◌++◌, map, Memᴰ}
use mathlib.Core.Option.{some}
use Prim.Native.Nat.{ℕ, zero, suc, ◌+◌, ◌≤◌, ◌<◌}
use native.Mathlib.Omega.{arith}
use native.Mathlib.Decide.{ℕ_discrete}
use lib.Dec.{eqb, ltb}
use lib.ListN.{length, get_elem?, get_or, get_or-append}
use lib.Seq.{get_or-append-add}
use borrow.Author.Tests.{eqb-true, eq-eqb, lt-ltb}
use Rattle.meaning.specs.Lists.{every, elem, count, same_list, insert_at, next, first, up_to, flat}
use Rattle.meaning.specs.Inner.Words.{tab_from}
use Rattle.meaning.proofs.Tests.{and_left, and_right, and_both}

-- ── membership ─────────────────────────────────────────────────────────────────────────────────

module _ {A B : Type 0} where
  pub mem_map : (f : A → B) {a : A} {l : List A} → Memᴰ a l → Memᴰ (f a) (map f l)
  mem_map f (Memᴰ.head e) = Memᴰ.head (ap f e)
  mem_map f (Memᴰ.tail h) = Memᴰ.tail (mem_map f h)

  pub mem_map_inv : (f : A → B) {b : B} (l : List A) → Memᴰ b (map f l) → (a : A) × Memᴰ a l × (b ≡ f a)
  mem_map_inv f {b = b} [] x' = elim x' [ ]
  mem_map_inv f (x ∷ l) (Memᴰ.head e) = (x, Memᴰ.head refl, e)
  mem_map_inv f (x ∷ l) (Memᴰ.tail h) = let r = mem_map_inv f l h in (r.0, Memᴰ.tail r.1, r.2)

  pub mem_flat : (f : A → List B) {a : A} {b : B} {l : List A} → Memᴰ a l → Memᴰ b (f a) → Memᴰ b (flat f l)
  mem_flat f {b = b} (Memᴰ.head {xs = xs} e) k = Memᴰ.append_left _ (subst (λ (x : A). Memᴰ b (f x)) e k)
  mem_flat f (Memᴰ.tail {x = x} h) k = Memᴰ.append_right (f x) (mem_flat f h k)

  pub map_insert_at : (f : A → B) (k : ℕ) (x : A) (xs : List A) → map f (insert_at k x xs) ≡ insert_at k (f x) (map f xs)
  map_insert_at f zero x xs = refl
  map_insert_at f (suc k) x [] = refl
  map_insert_at f (suc k) x (y ∷ ys) = ap (λ (l : List B). f y ∷ l) (map_insert_at f k x ys)

  pub map_append : (f : A → B) (l r : List A) → map f (l ++ r) ≡ map f l ++ map f r
  map_append f [] r = refl
  map_append f (x ∷ l) r = ap (λ (y : List B). f x ∷ y) (map_append f l r)

module _ {A : Type 0} where
  pub mem_insert_at : {a x : A} (k : ℕ) (l : List A) → Memᴰ a (insert_at k x l) → (a ≡ x) ⊎ Memᴰ a l
  mem_insert_at zero l (Memᴰ.head e) = inl e
  mem_insert_at zero l (Memᴰ.tail h) = inr h
  mem_insert_at (suc k) [] (Memᴰ.head e) = inl e
  mem_insert_at (suc k) [] (Memᴰ.tail h) = inr h
  mem_insert_at (suc k) (y ∷ l) (Memᴰ.head e) = inr (Memᴰ.head e)
  mem_insert_at (suc k) (y ∷ l) (Memᴰ.tail h) = ⊎_elim (λ e. inl e) (λ g. inr (Memᴰ.tail g)) (mem_insert_at k l h)

  pub mem_at : {a : A} {l : List A} → Memᴰ a l → (k : ℕ) × (get_elem? l k ≡ some a)
  mem_at (Memᴰ.head e) = (0, ap some (sym e))
  mem_at (Memᴰ.tail h) = let r = mem_at h in (suc r.0, r.1)

  pub at_mem : (a : A) (l : List A) (k : ℕ) → get_elem? l k ≡ some a → Memᴰ a l
  at_mem a [] k e = absurd (let z : ◌≡◌ {A = ℕ} 0 1 = cc in omega arith)
  at_mem a (x ∷ l) zero e = let q : a ≡ x = cc in Memᴰ.head q
  at_mem a (x ∷ l) (suc k) e = Memᴰ.tail (at_mem a l k e)

  pub nth_some : (l : List A) (k : ℕ) → k < length l → (a : A) × (get_elem? l k ≡ some a)
  nth_some [] k h = absurd (omega arith)
  nth_some (x ∷ l) zero h = (x, refl)
  nth_some (x ∷ l) (suc k) h = nth_some l k (omega arith)

  -- the test holds of every element exactly if it holds of each
  pub every_mem : (f : A → Bool) (l : List A) → every f l ≡ true → (a : A) → Memᴰ a l → f a ≡ true
  every_mem f [] t a x'' = elim x'' [ ]
  every_mem f (x ∷ l) t a (Memᴰ.head e) = ap f e ∙ and_left (f x) (every f l) t
  every_mem f (x ∷ l) t a (Memᴰ.tail h) = every_mem f l (and_right (f x) (every f l) t) a h

  pub mem_every : (f : A → Bool) (l : List A) → ((a : A) → Memᴰ a l → f a ≡ true) → every f l ≡ true
  mem_every f [] h = refl
  mem_every f (x ∷ l) h = and_both (f x) (every f l) (h x (Memᴰ.head refl)) (mem_every f l (λ a k. h a (Memᴰ.tail k)))

-- ── the first ──────────────────────────────────────────────────────────────────────────────────

next_zero : (n : ℕ) → next n ≡ 0 → n ≡ 0
next_zero zero e = refl
next_zero (suc n) e = absurd (omega arith)

next_one : (n : ℕ) → next n ≡ 1 → ⊥
next_one zero e = omega arith
next_one (suc n) e = omega arith

next_more : (n i : ℕ) → next n ≡ suc (suc i) → n ≡ suc i
next_more zero i e = absurd (omega arith)
next_more (suc n) i e = omega arith

module _ {A : Type 0} where
  abbrev pub Found : (A → Bool) → List A → ℕ → Type 0
  Found f l k = (a : A) × (get_elem? l k ≡ some a) × (f a ≡ true)

  -- the first is one at which the test holds
  pub first_at : (f : A → Bool) (l : List A) (k : ℕ) → first f l ≡ suc k → Found f l k
  first_at f [] k e = absurd (omega arith)
  first_at f (x ∷ l) k e = go (f x) refl k e (first_at f l)
    where
      go : (b : Bool) → f x ≡ b → (i : ℕ) → cond b 1 (next (first f l)) ≡ suc i → ((j : ℕ) → first f l ≡ suc j → Found f l j) → Found f (x ∷ l) i
      go true q zero h ih = (x, refl, q)
      go true q (suc i) h ih = absurd (omega arith)
      go false q zero h ih = absurd (next_one (first f l) h)
      go false q (suc i) h ih = ih i (next_more (first f l) i h)

  -- no first: none at all
  pub first_none : (f : A → Bool) (l : List A) → first f l ≡ 0 → (a : A) → Memᴰ a l → f a ≡ false
  first_none f [] e a h = elim h [ ]
  first_none f (x ∷ l) e a h = go (f x) refl e h (first_none f l)
    where
      go : (b : Bool) → f x ≡ b → cond b 1 (next (first f l)) ≡ 0 → Memᴰ a (x ∷ l) → (first f l ≡ 0 → (y : A) → Memᴰ y l → f y ≡ false) → f a ≡ false
      go true q z w ih = absurd (omega arith)
      go false q z w ih = ⊎_elim (λ (r : a ≡ x). ap f r ∙ q) (λ r. ih (next_zero _ z) a r) (Memᴰ.cases_cons w)

-- ── numbers in a list ──────────────────────────────────────────────────────────────────────────

pub mem_up_to : (n k p : ℕ) → k ≤ p → p ≤ k + n → Memᴰ p (up_to k n)
mem_up_to zero k p h g = let e : p ≡ k = omega arith in Memᴰ.head e
mem_up_to (suc n) k p h g = go (mem_up_to n (suc k) p) (ℕ_discrete p k)
  where
    go : (suc k ≤ p → p ≤ suc k + n → Memᴰ p (up_to (suc k) n)) → Dec (p ≡ k) → Memᴰ p (up_to k (suc n))
    go ih (yes e) = Memᴰ.head e
    go ih (no d) = Memᴰ.tail (ih (omega arith) (omega arith))

pub same_list_refl : (l : List ℕ) → same_list l l ≡ true
same_list_refl [] = refl
same_list_refl (x ∷ xs) = and_both (eqb x x) (same_list xs xs) (eq-eqb x x refl) (same_list_refl xs)

pub same_list_eq : (l r : List ℕ) → same_list l r ≡ true → l ≡ r
same_list_eq [] [] e = refl
same_list_eq [] (y ∷ r) e = absurd (true≢false (sym e))
same_list_eq (x ∷ l) [] e = absurd (true≢false (sym e))
same_list_eq (x ∷ l) (y ∷ r) e =
    ap₂ (λ (a : ℕ) (b : List ℕ). a ∷ b) (eqb-true x y (and_left (eqb x y) (same_list l r) e)) (same_list_eq l r (and_right (eqb x y) (same_list l r) e))

-- a number that stands neither in the list nor in its new place
pub elem_insert_at : (u k t : ℕ) (o : List ℕ) → elem u (insert_at k t o) ≡ (eqb u t || elem u o)
elem_insert_at u zero t o = refl
elem_insert_at u (suc k) t [] = refl
elem_insert_at u (suc k) t (x ∷ o) = ap (λ (b : Bool). eqb u x || b) (elem_insert_at u k t o) ∙ swap (eqb u x) (eqb u t) (elem u o)
  where
    swap : (a b c : Bool) → (a || (b || c)) ≡ (b || (a || c))
    swap true true c = refl
    swap true false c = refl
    swap false true c = refl
    swap false false c = refl

-- ── how many ───────────────────────────────────────────────────────────────────────────────────

module _ {A : Type 0} where
  pub count_yes : (f : A → Bool) (x : A) (l : List A) → f x ≡ true → count f (x ∷ l) ≡ suc (count f l)
  count_yes f x l e = rw e refl

  pub count_no : (f : A → Bool) (x : A) (l : List A) → f x ≡ false → count f (x ∷ l) ≡ count f l
  count_no f x l e = rw e refl

  pub count_more : (f : A → Bool) (x : A) (l : List A) → count f l ≤ count f (x ∷ l)
  count_more f x l = go (f x)
    where
      go : (b : Bool) → count f l ≤ cond b (suc (count f l)) (count f l)
      go true = omega arith
      go false = omega arith

  -- it does not look at the order
  pub count_insert_at : (f : A → Bool) (k : ℕ) (x : A) (l : List A) → count f (insert_at k x l) ≡ count f (x ∷ l)
  count_insert_at f zero x l = refl
  count_insert_at f (suc k) x [] = refl
  count_insert_at f (suc k) x (y ∷ l) = ap (λ (n : ℕ). cond (f y) (suc n) n) (count_insert_at f k x l) ∙ swap (f y) (f x) (count f l)
    where
      swap : (a b : Bool) (n : ℕ) → cond a (suc (cond b (suc n) n)) (cond b (suc n) n) ≡ cond b (suc (cond a (suc n) n)) (cond a (suc n) n)
      swap true true n = refl
      swap true false n = refl
      swap false true n = refl
      swap false false n = refl

  pub length_insert_at : (k : ℕ) (x : A) (l : List A) → length (insert_at k x l) ≡ suc (length l)
  length_insert_at zero x l = refl
  length_insert_at (suc k) x [] = refl
  length_insert_at (suc k) x (y ∷ l) = ap suc (length_insert_at k x l)

  -- one that the test holds of is counted, and what is counted is there
  pub mem_count : (f : A → Bool) {a : A} {l : List A} → Memᴰ a l → f a ≡ true → 1 ≤ count f l
  mem_count f (Memᴰ.head {x = x} {xs = l} e) h = let r = count_yes f x l (sym (ap f e) ∙ h) in omega arith
  mem_count f (Memᴰ.tail {x = x} {xs = l} w) h = let r = mem_count f w h in let n = count_more f x l in omega arith

  pub count_mem : (f : A → Bool) (l : List A) → 1 ≤ count f l → (a : A) × Memᴰ a l × (f a ≡ true)
  count_mem f [] h = absurd (omega arith)
  count_mem f (x ∷ l) h = go (f x) refl h (count_mem f l)
    where
      go : (b : Bool) → f x ≡ b → 1 ≤ cond b (suc (count f l)) (count f l) → (1 ≤ count f l → (a : A) × Memᴰ a l × (f a ≡ true))
          → (a : A) × Memᴰ a (x ∷ l) × (f a ≡ true)
      go true e g ih = (x, Memᴰ.head refl, e)
      go false e g ih = let r = ih g in (r.0, Memᴰ.tail r.1, r.2)

-- a number that stands in a list is one of its elements
pub elem_mem : (t : ℕ) (o : List ℕ) → elem t o ≡ true → Memᴰ t o
elem_mem t [] h = absurd (true≢false (sym h))
elem_mem t (x ∷ o) h = go (eqb t x) refl h (elem_mem t o)
  where
    go : (b : Bool) → eqb t x ≡ b → (b || elem t o) ≡ true → (elem t o ≡ true → Memᴰ t o) → Memᴰ t (x ∷ o)
    go true e g ih = Memᴰ.head (eqb-true t x e)
    go false e g ih = Memᴰ.tail (ih g)

pub mem_elem : (t : ℕ) (o : List ℕ) → Memᴰ t o → elem t o ≡ true
mem_elem t (x ∷ o) (Memᴰ.head e) = ap (λ (b : Bool). b || elem t o) (eq-eqb t x e)
mem_elem t [] x' = elim x' [ ]
mem_elem t (x ∷ o) (Memᴰ.tail h) = ap (λ (b : Bool). eqb t x || b) (mem_elem t o h) ∙ or_true (eqb t x)
  where
    or_true : (b : Bool) → (b || true) ≡ true
    or_true true = refl
    or_true false = refl

-- a number stands in a list exactly if it is counted there
pub elem_count : (t : ℕ) (o : List ℕ) → elem t o ≡ ltb 0 (count (eqb t) o)
elem_count t [] = refl
elem_count t (x ∷ o) = go (eqb t x) (elem_count t o)
  where
    go : (b : Bool) → elem t o ≡ ltb 0 (count (eqb t) o) → (b || elem t o) ≡ ltb 0 (cond b (suc (count (eqb t) o)) (count (eqb t) o))
    go true e = sym (lt-ltb 0 (suc (count (eqb t) o)) (omega arith))
    go false e = e

-- ── at its place ───────────────────────────────────────────────────────────────────────────────

module _ {A : Type 0} where
  -- behind another list
  pub append_back : (l r : List A) (k : ℕ) → get_elem? (l ++ r) (length l + k) ≡ get_elem? r k
  append_back [] r k = let e : 0 + k ≡ k = omega arith in ap (get_elem? r) e
  append_back (x ∷ l) r k = let e : suc (length l) + k ≡ suc (length l + k) = omega arith in ap (get_elem? (x ∷ l ++ r)) e ∙ append_back l r k

  -- in front of another list
  pub append_front : (l r : List A) (k : ℕ) (a : A) → get_elem? l k ≡ some a → get_elem? (l ++ r) k ≡ some a
  append_front [] r k a e = absurd (let z : ◌≡◌ {A = ℕ} 0 1 = cc in omega arith)
  append_front (x ∷ l) r zero a e = e
  append_front (x ∷ l) r (suc k) a e = append_front l r k a e

pub map_at : {A B : Type 0} (f : A → B) (l : List A) (k : ℕ) (a : A) → get_elem? l k ≡ some a → get_elem? (map f l) k ≡ some (f a)
map_at f [] k a e = absurd (let z : ◌≡◌ {A = ℕ} 0 1 = cc in omega arith)
map_at f (x ∷ l) zero a e = let q : x ≡ a = cc in ap (λ y. some (f y)) q
map_at f (x ∷ l) (suc k) a e = map_at f l k a e

-- ── a list made from a table ───────────────────────────────────────────────────────────────────

module _ {A : Type 0} where
  pub length_tab : (k : ℕ) (f : ℕ → A) (n : ℕ) → length (tab_from k f n) ≡ n
  length_tab k f zero = refl
  length_tab k f (suc n) = ap suc (length_tab (suc k) f n)

  pub get_d_tab : (k : ℕ) (f : ℕ → A) (n i : ℕ) (d : A) → i < n → get_or (tab_from k f n) i d ≡ f (k + i)
  get_d_tab k f zero i d h = absurd (omega arith)
  get_d_tab k f (suc n) zero d h = let e : k ≡ k + 0 = omega arith in ap f e
  get_d_tab k f (suc n) (suc i) d h = let e : suc k + i ≡ k + suc i = omega arith in get_d_tab (suc k) f n i d (omega arith) ∙ ap f e

  -- a table and a rest behind it
  pub tab_front : (f : ℕ → A) (n : ℕ) (r : List A) (i : ℕ) (d : A) → i < n → get_or (tab_from 1 f n ++ r) i d ≡ f (suc i)
  tab_front f n r i d h =
      let e : 1 + i ≡ suc i = omega arith in
      get_or-append (tab_from 1 f n) r d i (omega (arith, length_tab 1 f n)) ∙ get_d_tab 1 f n i d h ∙ ap f e

  pub tab_back : (f : ℕ → A) (n : ℕ) (r : List A) (i : ℕ) (d : A) → get_or (tab_from 1 f n ++ r) (n + i) d ≡ get_or r i d
  tab_back f n r i d =
      let e : n + i ≡ length (tab_from 1 f n) + i = omega (arith, length_tab 1 f n) in
      ap (λ (k : ℕ). get_or (tab_from 1 f n ++ r) k d) e ∙ get_or-append-add (tab_from 1 f n) r i d

pub get_d_map_suc : (l : List ℕ) (i : ℕ) → i < length l → get_or (map suc l) i 0 ≡ suc (get_or l i 0)
get_d_map_suc [] i h = absurd (omega arith)
get_d_map_suc (x ∷ l) zero h = refl
get_d_map_suc (x ∷ l) (suc i) h = get_d_map_suc l i (omega arith)
