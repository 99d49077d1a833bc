-- Solutions of a closed matrix: the smallest one; the smallest one in which variable i is at least c above variable j; and that its entries are tight.
-- Assumes nothing.
use mathlib.Core.Path.{◌≡◌, refl, sym, subst}
use mathlib.Core.Bool.{Bool, true, false}
use Prim.Native.Nat.{ℕ, zero, suc, ◌+◌, ◌-◌, ◌<◌, ◌≤◌, max}
use native.Mathlib.Omega.{arith}
use native.Mathlib.Decide.{dec_lt}
use lib.Dec.{T, leb, leb→le, le→leb}
use lib.IntN.{ℤ, pos}
use Rattle.meaning.specs.Numbers.{over, under, within}
use Rattle.bounds.specs.Matrix.{Finite, Meets, Sol, Closed}

-- ---- a bound is met: the test of `meaning`, and the inequality
pub meets_within : (i j : ℕ) (c : ℤ) (x : ℕ → ℕ) → Meets i j c x → within (x i) (x j) c ≡ true
meets_within i j c x h = yes_true (leb (x i + under c) (x j + over c)) (le→leb (x i + under c) (x j + over c) h)
  where
    yes_true : (t : Bool) → T t → t ≡ true
    yes_true true t = refl
    yes_true false t = absurd t

pub within_meets : (i j : ℕ) (c : ℤ) (x : ℕ → ℕ) → within (x i) (x j) c ≡ true → Meets i j c x
within_meets i j c x e = leb→le (x i + under c) (x j + over c) (subst T (sym e) tt)

-- ---- a solution is one by its first n variables
pub sol_same : (d : ℕ → ℕ → ℤ) (n : ℕ) (x y : ℕ → ℕ) → 0 < n → ((a : ℕ) → a < n → x a ≡ y a) → Sol d n x → Sol d n y
sol_same d n x y h e s = record {
  zero = omega (arith, e 0 h, s.zero);
  holds = λ a b ha hb f. omega (arith, e a ha, e b hb, s.holds a b ha hb f);
}

-- ---- by cases on a test
abbrev pub pick : {P : Type 0} → Dec P → ℕ → ℕ → ℕ
pick (yes p) a b = a
pick (no p) a b = b

pub pick_ind : {P : Type 0} (t : Dec P) (a b : ℕ) (Q : ℕ → Type 0) → (P → Q a) → ((P → ⊥) → Q b) → Q (pick t a b)
pick_ind (yes p) a b Q f g = f p
pick_ind (no p) a b Q f g = g p

module _ (d : ℕ → ℕ → ℤ) where
  pub finite? : (a b : ℕ) → Dec (Finite (d a b))
  finite? a b = dec_lt (over (d a b)) (1000000000 + under (d a b))

-- ---- the smallest solution
abbrev pub low : (ℕ → ℕ → ℤ) → ℕ → ℕ
low d k = under (d 0 k) - over (d 0 k)

module _ (d : ℕ → ℕ → ℤ) (n : ℕ) (K : Closed d n) where
  fin_row : (b : ℕ) → b < n → Finite (d 0 b)
  fin_row b h = omega (arith, K.row b h)

  pub low_sol : Sol d n (low d)
  low_sol = record {
    zero = omega (arith, K.diag 0 K.some);
    holds = λ a b ha hb f. omega (arith, K.row a ha, K.row b hb, (K.tri 0 a b K.some ha hb (fin_row a ha) f).1);
  }

  pub low_least : (x : ℕ → ℕ) → Sol d n x → (k : ℕ) → k < n → low d k ≤ x k
  low_least x s k h = omega (arith, K.row k h, s.zero, s.holds 0 k K.some h (fin_row k h))

-- ---- the smallest solution with x i at least c above x j
abbrev pub far : (ℕ → ℕ → ℤ) → ℕ → ℕ → ℤ → ℕ → ℕ
far d i j c k = pick (finite? d i k) (max (low d k) (under (d 0 j) + over c + under (d i k) - (over (d 0 j) + under c + over (d i k)))) (low d k)

module _ (d : ℕ → ℕ → ℤ) (n i j : ℕ) (c : ℤ) (K : Closed d n) (hi : i < n) (hj : j < n)
    (room : Finite (d i j) → over c + under (d i j) ≤ over (d i j) + under c) where
  pub far_sol : Sol d n (far d i j c)
  far_sol = record { zero = zero'; holds = holds' }
    where
      zero' : far d i j c 0 ≡ 0
      zero' = pick_ind (finite? d i 0) _ _ (λ r. r ≡ 0)
          (λ f. let t = K.tri i 0 j hi K.some hj f (fin_row d n K j hj) in
          omega (arith, K.row j hj, K.diag 0 K.some, t.1, room t.0))
          (λ f. omega (arith, K.diag 0 K.some))

      holds' : (a b : ℕ) → a < n → b < n → Finite (d a b) → far d i j c a + under (d a b) ≤ far d i j c b + over (d a b)
      holds' a b ha hb f =
          let l = (low_sol d n K).holds a b ha hb f in
          pick_ind (finite? d i a) _ _ (λ r. r + under (d a b) ≤ far d i j c b + over (d a b))
          (λ g. let t = K.tri i a b hi ha hb g f in
          pick_ind (finite? d i b) _ _ (λ r. max (low d a) (under (d 0 j) + over c + under (d i a) - (over (d 0 j) + under c + over (d i a))) + under (d a b) ≤ r + over (d a b))
          (λ h. omega (arith, t.1))
          (λ h. absurd (h t.0)))
          (λ g. pick_ind (finite? d i b) _ _ (λ r. low d a + under (d a b) ≤ r + over (d a b)) (λ h. omega arith) (λ h. l))

  pub far_apart : far d i j c j + over c ≤ far d i j c i + under c
  far_apart = pick_ind (finite? d i i) _ _ (λ r. far d i j c j + over c ≤ r + under c)
      (λ f. pick_ind (finite? d i j) _ _ (λ r. r + over c ≤ max (low d i) (under (d 0 j) + over c + under (d i i) - (over (d 0 j) + under c + over (d i i))) + under c)
      (λ g. omega (arith, K.diag i hi, K.row j hj, room g))
      (λ g. omega (arith, K.diag i hi, K.row j hj)))
      (λ f. absurd (f (omega (arith, K.diag i hi))))

  pub far_least : (x : ℕ → ℕ) → Sol d n x → x j + over c ≤ x i + under c → (k : ℕ) → k < n → far d i j c k ≤ x k
  far_least x s h k hk =
      let l = low_least d n K x s in
      pick_ind (finite? d i k) _ _ (λ r. r ≤ x k)
      (λ f. omega (arith, l k hk, l j hj, K.row j hj, s.holds i k hi hk f))
      (λ f. l k hk)

-- ---- the entries of a closed matrix are tight
module _ (d : ℕ → ℕ → ℤ) (n a b : ℕ) (K : Closed d n) (ha : a < n) (hb : b < n) where
  -- each bound is met by a solution
  pub entry_tight : Finite (d a b) → (x : ℕ → ℕ) × Sol d n x × (x a + under (d a b) ≡ x b + over (d a b))
  entry_tight f =
      let s = far_sol d n a b (d a b) K ha hb (λ _. omega arith) in
      (far d a b (d a b), s, omega (arith, s.holds a b ha hb f, far_apart d n a b (d a b) K ha hb (λ _. omega arith)))

  -- where there is no bound the difference exceeds every number
  pub entry_unbounded : (Finite (d a b) → ⊥) → (N : ℕ) → (x : ℕ → ℕ) × Sol d n x × (x b + N < x a)
  entry_unbounded f N = (
    far d a b (pos (N + 1)),
    far_sol d n a b (pos (N + 1)) K ha hb (λ g. absurd (f g)),
    omega (arith, far_apart d n a b (pos (N + 1)) K ha hb (λ g. absurd (f g))),
  )

-- ---- of a function on the numbers below n
-- the greatest of f below n
abbrev pub most : (ℕ → ℕ) → ℕ → ℕ
most f zero = 0
most f (suc n) = max (most f n) (f n)

pub most_above : (f : ℕ → ℕ) (n k : ℕ) → k < n → f k ≤ most f n
most_above f zero k h = absurd (omega arith)
most_above f (suc n) k h = go (dec_lt k n) (most_above f n k)
  where
    go : Dec (k < n) → (k < n → f k ≤ most f n) → f k ≤ most f (suc n)
    go (yes p) m = omega (arith, m p)
    go (no p) m = let e : n ≡ k = omega arith in subst (λ (q : ℕ). f q ≤ most f (suc n)) e (omega arith)

pub most_below : (f : ℕ → ℕ) (n B : ℕ) → ((k : ℕ) → k < n → f k ≤ B) → most f n ≤ B
most_below f zero B h = omega arith
most_below f (suc n) B h = omega (arith, most_below f n B (λ k l. h k (omega arith)), h n (omega arith))
