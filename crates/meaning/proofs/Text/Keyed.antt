-- A list in the order of its keys is what is collected from the cells of its keys.
-- Assumes nothing.
use Prim.Native.Nat.{◌+◌, ◌-◌, ◌<◌, ◌≤◌, suc, zero, ℕ}
use mathlib.Core.Bool.{Bool, false, true}
use mathlib.Core.List.{List, [], ◌++◌, ◌∷◌, append_assoc, append-nil}
use mathlib.Core.Option.{Option, none, some}
use mathlib.Core.Path.{◌∙◌, ◌≡◌, ap, refl, subst, sym}
use native.Mathlib.Nat.{add-zero}
use native.Mathlib.Omega.{arith}
use lib.Dec.{ltb}
use lib.ListN.{get_elem?, length, take}
use lib.Seq.{take_all}
use borrow.Author.Tests.{eq-eqb, lt-ltb, ne_eqb}
use Rattle.meaning.proofs.Text.Choices.{and_true, by_eq, nonsense}
use Rattle.meaning.specs.Lists.{every}
use Rattle.meaning.specs.Text.Choice.{pick}
use Rattle.meaning.specs.Text.ModelTable.{collect, keyed}
use Rattle.meaning.specs.Text.RightModel.{Each, Ordered}

-- ---- each of a list

pub each_map : {A : Type 0} {P Q : A → Type 0} (xs : List A) → ((x : A) → P x → Q x) → Each P xs → Each Q xs
each_map [] f a = tt
each_map (x ∷ xs) f a = (f x a.0, each_map xs f a.1)

pub each_map₂ : {A : Type 0} {P Q S : A → Type 0} (xs : List A) → ((x : A) → P x → Q x → S x) → Each P xs → Each Q xs → Each S xs
each_map₂ [] f a b = tt
each_map₂ (x ∷ xs) f a b = (f x a.0 b.0, each_map₂ xs f a.1 b.1)

-- a test of each
pub every_each : {A : Type 0} (f : A → Bool) (xs : List A) → every f xs ≡ true → Each (λ (x : A). f x ≡ true) xs
every_each f [] e = tt
every_each f (x ∷ xs) e = let a = and_true (f x) (every f xs) e in (a.0, every_each f xs a.1)

pub each_every : {A : Type 0} (f : A → Bool) (xs : List A) → Each (λ (x : A). f x ≡ true) xs → every f xs ≡ true
each_every f [] a = refl
each_every f (x ∷ xs) a = rw a.0 (each_every f xs a.1)

pub each_nth : {A : Type 0} (P : A → Type 0) (xs : List A) (n : ℕ) (x : A) → Each P xs → get_elem? xs n ≡ some x → P x
each_nth P [] n x a e = nonsense (cc)
each_nth P (y ∷ xs) zero x a e = let z : y ≡ x = cc in subst P z a.0
each_nth P (y ∷ xs) (suc n) x a e = each_nth P xs n x a.1 e

pub ordered_nth : {A : Type 0} (R : A → A → Type 0) (xs : List A) (j k : ℕ) (x y : A) → Ordered R xs → j < k → get_elem? xs j ≡ some x → get_elem? xs k ≡ some y → R x y
ordered_nth R [] j k x y o h e f = nonsense (cc)
ordered_nth R (z ∷ xs) j zero x y o h e f = absurd (omega arith)
ordered_nth {A} R (z ∷ xs) zero (suc k) x y o h e f = let q : z ≡ x = cc in subst (λ (u : A). R u y) q (each_nth (R z) xs k y o.0 f)
ordered_nth R (z ∷ xs) (suc j) (suc k) x y o h e f = ordered_nth R xs j k x y o.1 (omega arith) e f

pub ordered_map : {A : Type 0} {R S : A → A → Type 0} {P : A → Type 0} (xs : List A) → ((x y : A) → P x → P y → R x y → S x y) → Each P xs → Ordered R xs → Ordered S xs
ordered_map [] f a o = tt
ordered_map (x ∷ xs) f a o = (each_map₂ xs (λ y b c. f x y a.0 b c) a.1 o.0, ordered_map xs f a.1 o.1)

pub nth_some : {A : Type 0} (xs : List A) (n : ℕ) (x : A) → get_elem? xs n ≡ some x → n < length xs
nth_some [] n x e = nonsense (cc)
nth_some (y ∷ xs) zero x e = omega arith
nth_some (y ∷ xs) (suc n) x e = let h = nth_some xs n x e in omega arith

pub nth_none : {A : Type 0} (xs : List A) (n : ℕ) → length xs ≤ n → get_elem? xs n ≡ none
nth_none [] n h = refl
nth_none (y ∷ xs) zero h = absurd (omega arith)
nth_none (y ∷ xs) (suc n) h = nth_none xs n (omega arith)

pub nth_in : {A : Type 0} (xs : List A) (n : ℕ) → n < length xs → (x : A) × (get_elem? xs n ≡ some x)
nth_in [] n h = absurd (omega arith)
nth_in (y ∷ xs) zero h = (y, refl)
nth_in (y ∷ xs) (suc n) h = nth_in xs n (omega arith)

-- an element, or the list's end
pub by_nth {ℓ} : {A : Type 0} {X : Type ℓ} (xs : List A) (n : ℕ) → ((x : A) → get_elem? xs n ≡ some x → X) → (get_elem? xs n ≡ none → X) → X
by_nth {X} xs n f g = go (get_elem? xs n) refl
  where
    go : (o : Option _) → get_elem? xs n ≡ o → X
    go (some x) e = f x e
    go none e = g e

-- ---- a list by its places

abbrev one : {A : Type 0} → Option A → List A
one none = []
one (some x) = x ∷ []

take_more : {A : Type 0} (xs : List A) (n : ℕ) → take (suc n) xs ≡ take n xs ++ one (get_elem? xs n)
take_more [] zero = refl
take_more [] (suc n) = refl
take_more (x ∷ xs) zero = refl
take_more (x ∷ xs) (suc n) = ap (λ l. x ∷ l) (take_more xs n)

module _ {A : Type 0} (xs : List A) (p : ℕ → Bool) (f : ℕ → A) where
  collect_take : (n : ℕ) → ((k : ℕ) (x : A) → k < n → get_elem? xs k ≡ some x → (p k ≡ true) × (f k ≡ x)) → ((k : ℕ) → k < n → get_elem? xs k ≡ none → p k ≡ false)
      → collect n p f ≡ take n xs
  unfolding collect
  collect_take zero a b = refl
  collect_take (suc n) a b = go (get_elem? xs n) refl (collect_take n (λ k x h e. a k x (omega arith) e) (λ k h e. b k (omega arith) e)) ∙ sym (take_more xs n)
    where
      go : (o : Option A) → get_elem? xs n ≡ o → collect n p f ≡ take n xs → collect n p f ++ pick (p n) (f n ∷ []) [] ≡ take n xs ++ one (get_elem? xs n)
      go (some x) e ih = let w = a n x (omega arith) e in rw (ih, w.0, w.1, e)
      go none e ih = rw (ih, b n (omega arith) e, e)

  pub collect_all : (n : ℕ) → length xs ≤ n → ((k : ℕ) (x : A) → k < n → get_elem? xs k ≡ some x → (p k ≡ true) × (f k ≡ x))
      → ((k : ℕ) → k < n → get_elem? xs k ≡ none → p k ≡ false) → collect n p f ≡ xs
  collect_all n h a b = collect_take n a b ∙ take_all n xs h

-- the same tests and the same values, the same list
pub collect_same : {A : Type 0} (n : ℕ) (p q : ℕ → Bool) (f g : ℕ → A) → ((k : ℕ) → k < n → (p k ≡ q k) × (f k ≡ g k)) → collect n p f ≡ collect n q g
unfolding collect
collect_same zero p q f g h = refl
collect_same (suc n) p q f g h = let w = h n (omega arith) in rw (collect_same n p q f g (λ k l. h k (omega arith)), w.0, w.1)

-- ---- a list by its keys

module _ {A : Type 0} (p : ℕ → Bool) (f : ℕ → A) where
  -- f of each of the d numbers from a on for which p holds
  unfoldable gather : ℕ → ℕ → List A
  gather a zero = []
  gather a (suc d) = pick (p a) (f a ∷ []) [] ++ gather (suc a) d

  collect_gather : (d a : ℕ) → collect (a + d) p f ≡ collect a p f ++ gather a d
  unfolding gather collect
  collect_gather zero a = rw (add-zero a, append-nil)
  collect_gather (suc d) a =
      let z : a + suc d ≡ suc a + d = omega arith in
      rw (z, collect_gather d (suc a), append_assoc)

  module _ (key : A → ℕ) where
    gather_keys : (d a : ℕ) (xs : List A) → Ordered (λ (x y : A). key x < key y) xs → Each (λ (x : A). (a ≤ key x) × (key x < a + d)) xs
        → Each (λ (x : A). (p (key x) ≡ true) × (f (key x) ≡ x)) xs → ((k : ℕ) → a ≤ k → k < a + d → Each (λ (x : A). key x ≡ k → ⊥) xs → p k ≡ false)
        → gather a d ≡ xs
    unfolding gather
    gather_keys zero a [] o r t n = refl
    gather_keys zero a (x ∷ xs) o r t n = absurd (let q = r.0 in omega arith)
    gather_keys (suc d) a [] o r t n =
        rw (n a (omega arith) (omega arith) tt) (gather_keys d (suc a) [] tt tt tt (λ k h l e. n k (omega arith) (omega arith) tt))
    gather_keys (suc d) a (x ∷ xs) o r t n =
        by_eq (key x) a
        (λ e.
        let b : p a ≡ true = ap p (sym e) ∙ t.0.0 in
        let c : f a ≡ x = ap f (sym e) ∙ t.0.1 in
        rw (b, c) (ap (λ (l : List A). x ∷ l) (gather_keys d (suc a) xs o.1
        (each_map₂ xs (λ y u w. (omega arith, omega arith)) o.0 r.1)
        t.1
        (λ k h l q. n k (omega arith) (omega arith) ((omega arith), q)))))
        (λ e.
        let b : p a ≡ false = n a (omega arith) (omega arith) (e, each_map₂ xs (λ y u w v. (let q = r.0 in omega arith)) o.0 r.1) in
        rw b (gather_keys d (suc a) (x ∷ xs) o
        ((let u = r.0 in omega arith, let u = r.0 in omega arith), each_map₂ xs (λ y u w. (let q = r.0 in omega arith, omega arith)) o.0 r.1)
        t
        (λ k h l q. n k (omega arith) (omega arith) q)))

    pub collect_keys : (n : ℕ) (xs : List A) → Ordered (λ (x y : A). key x < key y) xs → Each (λ (x : A). key x < n) xs
        → Each (λ (x : A). (p (key x) ≡ true) × (f (key x) ≡ x)) xs → ((k : ℕ) → k < n → Each (λ (x : A). key x ≡ k → ⊥) xs → p k ≡ false)
        → collect n p f ≡ xs
    unfolding collect
    collect_keys n xs o r t e =
        (let z : 0 + n ≡ n = omega arith in rw z at (collect_gather n 0))
        ∙ gather_keys n 0 xs o (each_map xs (λ x q. (omega arith, omega arith)) r) t (λ k h l q. e k (omega arith) q)

-- ---- the cells of keys

module _ {A : Type 0} (key val : A → ℕ) where
  pub keyed_none : (xs : List A) (k : ℕ) → Each (λ (x : A). key x ≡ k → ⊥) xs → keyed key val xs k ≡ 0
  unfolding keyed
  keyed_none [] k e = refl
  keyed_none (x ∷ xs) k e = rw (ne_eqb (key x) k e.0) (keyed_none xs k e.1)

  pub keyed_here : (xs : List A) → Ordered (λ (x y : A). key x < key y) xs → Each (λ (x : A). keyed key val xs (key x) ≡ suc (val x)) xs
  unfolding keyed
  keyed_here [] o = tt
  keyed_here (x ∷ xs) o = (
    rw (eq-eqb (key x) (key x) refl),
    each_map₂ xs (λ y u w. rw (ne_eqb (key x) (key y) (λ e. omega arith)) w) o.0 (keyed_here xs o.1),
  )

  -- a cell that is not 0 is told by one of the list
  pub keyed_found : (P : A → Type 0) (xs : List A) (k : ℕ) → Each P xs → 0 < keyed key val xs k → (x : A) × (key x ≡ k) × (keyed key val xs k ≡ suc (val x)) × P x
  unfolding keyed
  keyed_found P [] k a h = absurd (omega arith)
  keyed_found P (x ∷ xs) k a h =
      by_eq (key x) k
      (λ e. (x, e, rw (eq-eqb (key x) k e), a.0))
      (λ e. let n = ne_eqb (key x) k e in rw n (keyed_found P xs k a.1 (rw n at h)))

  -- a list in the order of its keys, which are o, o + 1, .., is what its cells tell
  pub keyed_collect : (make : ℕ → ℕ → A) (o n : ℕ) (xs : List A) → Ordered (λ (x y : A). key x < key y) xs
      → Each (λ (x : A). (o ≤ key x) × (key x < o + n) × (make (key x) (val x) ≡ x)) xs
      → collect n (λ x. ltb 0 (keyed key val xs (o + x))) (λ x. make (o + x) (keyed key val xs (o + x) - 1)) ≡ xs
  keyed_collect make o n xs r e =
      collect_keys (λ x. ltb 0 (keyed key val xs (o + x))) (λ x. make (o + x) (keyed key val xs (o + x) - 1)) (λ x. key x - o) n xs
      (ordered_map xs (λ x y a b c. let u = a.0 in let w = b.0 in omega arith) e r)
      (each_map xs (λ x q. let u = q.1 in let w = q.0 in omega arith) e)
      (each_map₂ xs (λ x q c.
      let z : o + (key x - o) ≡ key x = (let u = q.0 in omega arith) in
      let d : keyed key val xs (key x) - 1 ≡ val x = omega arith in
      (rw (z, lt-ltb 0 (keyed key val xs (key x)) (omega arith)), rw (z, d) q.2))
      e (keyed_here xs r))
      (λ k h q. rw (keyed_none xs (o + k) (each_map₂ xs (λ x u w v. u (let y = w.0 in omega arith)) q e)))
