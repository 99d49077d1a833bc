-- Lists in which nothing stands twice.
-- Assumes nothing.
use mathlib.Core.Path.{◌≡◌, refl, sym, ◌∙◌, ap, subst}
use mathlib.Core.List.Memᴰ
use mathlib.Core.List.{List, [], ◌∷◌, ◌++◌, map, Memᴰ}
use mathlib.Core.Logic.{◌⊎◌, inl, inr, ⊎_elim}
use mathlib.Core.Option.{some}
use mathlib.Core.Bool.{Bool, true, false, cond}
use Prim.Native.Nat.{ℕ, zero, suc, ◌+◌, ◌≤◌, ◌<◌}
use native.Mathlib.Omega.{arith}
use native.Mathlib.Decide.{dec_lt}
use lib.Dec.{eqb}
use lib.ListN.{length, get_elem?}
use borrow.Author.Tests.{eqb-true, eqb-false}
use Rattle.meaning.specs.Lists.{up_to, flat}
use Rattle.meaning.proofs.Lists.{mem_map_inv, at_mem}

module _ {A : Type 0} where
  -- nothing stands in both lists
  abbrev pub Apart : List A → List A → Type 0
  Apart l r = (a : A) → Memᴰ a l → Memᴰ a r → ⊥

  -- nothing stands twice
  abbrev pub Distinct : List A → Type 0
  Distinct [] = Unit
  Distinct (x ∷ l) = (Memᴰ x l → ⊥) × Distinct l

  pub distinct_one : (a : A) → Distinct (a ∷ [])
  distinct_one a = (Memᴰ.not-nil, tt)

  pub distinct_append : (l r : List A) → Distinct l → Distinct r → Apart l r → Distinct (l ++ r)
  distinct_append [] r dl dr ap = dr
  distinct_append (x ∷ l) r dl dr ap = (fresh, distinct_append l r dl.1 dr (λ a h g. ap a (Memᴰ.tail h) g))
    where
      fresh : Memᴰ x (l ++ r) → ⊥
      fresh h = ⊎_elim dl.0 (λ g. ap x (Memᴰ.head refl) g) (Memᴰ.append_cases l h)

  -- what stands at two places stands at one
  pub distinct_at : (l : List A) → Distinct l → (a : A) (i j : ℕ) → get_elem? l i ≡ some a → get_elem? l j ≡ some a → i ≡ j
  distinct_at [] d a i j e g = absurd (let z : ◌≡◌ {A = ℕ} 0 1 = cc in omega arith)
  distinct_at (x ∷ l) d a zero zero e g = refl
  distinct_at (x ∷ l) d a zero (suc j) e g = let q : a ≡ x = cc in absurd (d.0 (at_mem x l j (g ∙ ap some q)))
  distinct_at (x ∷ l) d a (suc i) zero e g = let q : a ≡ x = cc in absurd (d.0 (at_mem x l i (e ∙ ap some q)))
  distinct_at (x ∷ l) d a (suc i) (suc j) e g = ap suc (distinct_at l d.1 a i j e g)

module _ {A B : Type 0} where
  pub distinct_map : (f : A → B) → ((a b : A) → f a ≡ f b → a ≡ b) → (l : List A) → Distinct l → Distinct (map f l)
  distinct_map f inj [] d = tt
  distinct_map f inj (x ∷ l) d = (fresh, distinct_map f inj l d.1)
    where
      fresh : Memᴰ (f x) (map f l) → ⊥
      fresh h = let r = mem_map_inv f l h in d.0 (subst (λ (y : A). Memᴰ y l) (sym (inj x r.0 r.2)) r.1)

  pub mem_flat_inv : (f : A → List B) (b : B) (l : List A) → Memᴰ b (flat f l) → (a : A) × Memᴰ a l × Memᴰ b (f a)
  mem_flat_inv f b [] h = elim h [ ]
  mem_flat_inv f b (x ∷ l) h = go (Memᴰ.append_cases (f x) h) (mem_flat_inv f b l)
    where
      go : Memᴰ b (f x) ⊎ Memᴰ b (flat f l) → (Memᴰ b (flat f l) → (a : A) × Memᴰ a l × Memᴰ b (f a))
          → (a : A) × Memᴰ a (x ∷ l) × Memᴰ b (f a)
      go (inl g) ih = (x, Memᴰ.head refl, g)
      go (inr g) ih = let r = ih g in (r.0, Memᴰ.tail r.1, r.2)

  pub distinct_flat : (f : A → List B) → ((a : A) → Distinct (f a)) → ((a b : A) (y : B) → Memᴰ y (f a) → Memᴰ y (f b) → a ≡ b)
      → (l : List A) → Distinct l → Distinct (flat f l)
  distinct_flat f each own [] d = tt
  distinct_flat f each own (x ∷ l) d = distinct_append (f x) (flat f l) (each x) (distinct_flat f each own l d.1) other
    where
      other : Apart (f x) (flat f l)
      other y h g =
          let r = mem_flat_inv f y l g in
          d.0 (subst (λ (a : A). Memᴰ a l) (sym (own x r.0 y h r.2)) r.1)

pub up_to_from : (n k p : ℕ) → Memᴰ p (up_to k n) → k ≤ p
up_to_from zero k p (Memᴰ.tail h) = elim h [ ]
up_to_from zero k p (Memᴰ.head e) = omega arith
up_to_from (suc n) k p (Memᴰ.head e) = omega arith
up_to_from (suc n) k p (Memᴰ.tail h) = let g = up_to_from n (suc k) p h in omega arith

pub up_to_upto : (n k p : ℕ) → Memᴰ p (up_to k n) → p ≤ k + n
up_to_upto zero k p (Memᴰ.tail h) = elim h [ ]
up_to_upto zero k p (Memᴰ.head e) = omega arith
up_to_upto (suc n) k p (Memᴰ.head e) = omega arith
up_to_upto (suc n) k p (Memᴰ.tail h) = let g = up_to_upto n (suc k) p h in omega arith

pub distinct_up_to : (n k : ℕ) → Distinct (up_to k n)
distinct_up_to zero k = distinct_one k
distinct_up_to (suc n) k = (λ h. let g = up_to_from n (suc k) k h in omega arith, distinct_up_to n (suc k))

-- ---- among the numbers 1 to n at most n are distinct

-- the list without the first n in it
less : ℕ → List ℕ → List ℕ
less n [] = []
less n (x ∷ o) = cond (eqb n x) o (x ∷ less n o)

less_length : (n : ℕ) (o : List ℕ) → length o ≤ suc (length (less n o))
unfolding less
less_length n [] = omega arith
less_length n (x ∷ o) = go (eqb n x) (less_length n o)
  where
    go : (b : Bool) → length o ≤ suc (length (less n o)) → suc (length o) ≤ suc (length (cond b o (x ∷ less n o)))
    go true h = omega arith
    go false h = omega arith

less_in : (n : ℕ) (o : List ℕ) (y : ℕ) → Memᴰ y (less n o) → Memᴰ y o
unfolding less
less_in n [] y h = absurd (Memᴰ.not-nil h)
less_in n (x ∷ o) y h = go (eqb n x) h (less_in n o y)
  where
    go : (b : Bool) → Memᴰ y (cond b o (x ∷ less n o)) → (Memᴰ y (less n o) → Memᴰ y o) → Memᴰ y (x ∷ o)
    go true w f = Memᴰ.tail w
    go false (Memᴰ.head e) f = Memᴰ.head e
    go false (Memᴰ.tail w) f = Memᴰ.tail (f w)

less_out : (n : ℕ) (o : List ℕ) → Distinct o → Memᴰ n (less n o) → ⊥
unfolding less
less_out n [] d h = Memᴰ.not-nil h
less_out n (x ∷ o) d h = go (eqb n x) refl h (less_out n o d.1)
  where
    go : (b : Bool) → eqb n x ≡ b → Memᴰ n (cond b o (x ∷ less n o)) → (Memᴰ n (less n o) → ⊥) → ⊥
    go true e w f = d.0 (subst (λ (y : ℕ). Memᴰ y o) (eqb-true n x e) w)
    go false e (Memᴰ.head q) f = eqb-false n x e q
    go false e (Memᴰ.tail w) f = f w

less_distinct : (n : ℕ) (o : List ℕ) → Distinct o → Distinct (less n o)
unfolding less
less_distinct n [] d = tt
less_distinct n (x ∷ o) d = go (eqb n x) (less_distinct n o d.1)
  where
    go : (b : Bool) → Distinct (less n o) → Distinct (cond b o (x ∷ less n o))
    go true f = d.1
    go false f = (λ w. d.0 (less_in n o x w), f)

-- a list of numbers 1 to n in which none stands twice has at most n
pub crowd : (n : ℕ) (o : List ℕ) → Distinct o → ((y : ℕ) → Memᴰ y o → (1 ≤ y) × (y ≤ n)) → length o ≤ n
crowd zero [] d b = omega arith
crowd zero (x ∷ o) d b = let w = b x (Memᴰ.head refl) in absurd (omega (arith, w.0, w.1))
crowd (suc n) o d b =
    let r = crowd n (less (suc n) o) (less_distinct (suc n) o d) (λ y h.
    let w = b y (less_in (suc n) o y h) in
    (w.0, other y h w.1)) in
    omega (arith, less_length (suc n) o)
  where
    other : (y : ℕ) → Memᴰ y (less (suc n) o) → y ≤ suc n → y ≤ n
    other y h l = go (dec_lt n y)
      where
        go : Dec (n < y) → y ≤ n
        go (yes w) = let e : y ≡ suc n = omega arith in absurd (less_out (suc n) o d (subst (λ (z : ℕ). Memᴰ z (less (suc n) o)) e h))
        go (no w) = omega arith
