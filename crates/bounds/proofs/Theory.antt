-- One bound more, c on i minus j, in a closed matrix d: the matrix e, each entry the least of the old one and the way over c, is closed where the way back over c is not below 0, and its solutions are those of d that meet the bound. And the matrix of which nothing is known.
-- Assumes nothing.
use mathlib.Core.Path.{◌≡◌, refl, ◌∙◌, ap, subst₂}
use mathlib.Core.List.{List}
use mathlib.Core.Logic.{◌⊎◌, inl, inr}
use Prim.Native.Nat.{ℕ, ◌+◌, ◌*◌, ◌/◌, ◌%◌, ◌<◌, ◌≤◌}
use native.Mathlib.Omega.{arith}
use native.Mathlib.Decide.{ℕ_discrete}
use lib.IntN.{ℤ}
use Rattle.meaning.specs.Numbers.{over, under}
use Rattle.bounds.proofs.Points.{low, low_sol}
use Rattle.bounds.specs.Matrix.{ent, at, Finite, Entry, Entries, Sol, Closed}
use Rattle.bounds.specs.Results.{Widest, Exact}
use Rattle.bounds.specs.Inner.{Unknown, Way, Via, Shortened}
use Rattle.bounds.proofs.Signed.{eq_read}

module _ (d e : ℕ → ℕ → ℤ) (n i j : ℕ) (c : ℤ) (K : Closed d n) (hi : i < n) (hj : j < n) (fc : Finite c)
    (U : (a b : ℕ) → a < n → b < n → Via (d a b) (d a i) c (d j b) (e a b)) where
  fin_diag : (a : ℕ) → a < n → Finite (d a a)
  fin_diag a h = omega (arith, K.diag a h)

  -- ---- the solutions
  pub to : (x : ℕ → ℕ) → Sol d n x → x i + under c ≤ x j + over c → Sol e n x
  to x s h = record { zero = s.zero; holds = λ a b ha hb f. go a b ha hb f (U a b ha hb).one }
    where
      go : (a b : ℕ) → a < n → b < n → Finite (e a b)
          → Way (d a b) (d a i) c (d j b) (e a b)
          → x a + under (e a b) ≤ x b + over (e a b)
      go a b ha hb f (inl q) = let r = eq_read q in omega (arith, s.holds a b ha hb (omega arith))
      go a b ha hb f (inr w) = omega (arith, s.holds a i ha hi w.1, s.holds j b hj hb w.2)

  pub from : (x : ℕ → ℕ) → Sol e n x → Sol d n x
  from x s = record { zero = s.zero; holds = λ a b ha hb f. let v = (U a b ha hb).kept in omega (arith, s.holds a b ha hb (omega arith)) }

  pub bound : (x : ℕ → ℕ) → Sol e n x → x i + under c ≤ x j + over c
  bound x s =
      let v = (U i j hi hj).short (fin_diag i hi) (fin_diag j hj) in
      omega (arith, K.diag i hi, K.diag j hj, s.holds i j hi hj v.0)

  -- ---- closed again
  module _ (ok : Finite (d j i) → under (d j i) + under c ≤ over (d j i) + over c) where
    pub closed : Closed e n
    closed = record {
      some = K.some;
      diag = λ a h. diag' a h (U a a h h).one;
      tri = λ a k b ha hk hb f g. tri' a k b ha hk hb f g (U a k ha hk).one (U k b hk hb).one;
      row = λ b h. omega (arith, K.row b h, (U 0 b K.some h).kept);
    }
      where
        diag' : (a : ℕ) → a < n → Way (d a a) (d a i) c (d j a) (e a a) → over (e a a) ≡ under (e a a)
        diag' a h (inl q) = omega (arith, eq_read q, K.diag a h)
        diag' a h (inr w) =
            let t = K.tri j a i hj h hi w.2 w.1 in
            omega (arith, K.diag a h, (U a a h h).kept, t.1, ok t.0, w.3)

        tri' : (a k b : ℕ) → a < n → k < n → b < n → Finite (e a k) → Finite (e k b)
            → Way (d a k) (d a i) c (d j k) (e a k)
            → Way (d k b) (d k i) c (d j b) (e k b)
            → Finite (e a b) × (over (e a b) + under (e a k) + under (e k b) ≤ over (e a k) + over (e k b) + under (e a b))
        tri' a k b ha hk hb f g (inl p) (inl q) =
            let r = eq_read p in let u = eq_read q in
            let t = K.tri a k b ha hk hb (omega arith) (omega arith) in
            let v = (U a b ha hb).kept in
            (omega arith, omega arith)
        tri' a k b ha hk hb f g (inl p) (inr w) =
            let r = eq_read p in
            let t = K.tri a k i ha hk hi (omega arith) w.1 in
            let v = (U a b ha hb).short t.0 w.2 in
            (v.0, omega arith)
        tri' a k b ha hk hb f g (inr w) (inl q) =
            let r = eq_read q in
            let t = K.tri j k b hj hk hb w.2 (omega arith) in
            let v = (U a b ha hb).short w.1 t.0 in
            (v.0, omega arith)
        tri' a k b ha hk hb f g (inr w) (inr u) =
            let t = K.tri j k i hj hk hi w.2 u.1 in
            let o = ok t.0 in
            let v = (U a b ha hb).short w.1 u.2 in
            (v.0, omega arith)

-- where the way back over c is below 0, nothing meets the bound
pub none_meets : (d : ℕ → ℕ → ℤ) (n i j : ℕ) (c : ℤ) → i < n → j < n → Finite (d j i) → over (d j i) + over c < under (d j i) + under c
    → (x : ℕ → ℕ) → Sol d n x → x i + under c ≤ x j + over c → ⊥
none_meets d n i j c hi hj f l x s h = omega (arith, s.holds j i hj hi f)

-- a bound that is no less than the one that stands there changes nothing
pub all_meet : (d : ℕ → ℕ → ℤ) (n i j : ℕ) (c : ℤ) → i < n → j < n → Finite (d i j) → over (d i j) + under c ≤ over c + under (d i j)
    → (x : ℕ → ℕ) → Sol d n x → x i + under c ≤ x j + over c
all_meet d n i j c hi hj f l x s = omega (arith, s.holds i j hi hj f)

-- ---- of the matrices as they are stored
pub exact : (m : List ℤ) (n i j : ℕ) (c : ℤ) (r : List ℤ) → Shortened m n i j c r → Entries m → n ≤ 17 → i < n → j < n → Finite c → Closed (at m) n
    → (Finite (at m j i) → under (at m j i) + under c ≤ over (at m j i) + over c) → Exact m n i j c r
exact m n i j c r u E hn hi hj fc K ok =
    let w = u.cells in
    let C = closed (at m) (at r) n i j c K hi hj fc w ok in
    record {
      closed = C;
      stored = λ a b ha hb. omega (arith, (w a b ha hb).kept, (E (a * 17 + b) (omega arith)).most);
      sound = λ x s. (from (at m) (at r) n i j c K hi hj fc w x s, bound (at m) (at r) n i j c K hi hj fc w x s);
      whole = λ x s h. to (at m) (at r) n i j c K hi hj fc w x s h;
      some = (low (at r), low_sol (at r) n C);
      outside = u.outside;
    }

pub exact_same : (m : List ℤ) (n i j : ℕ) (c : ℤ) → Entries m → n ≤ 17 → i < n → j < n → Finite c → Closed (at m) n → over (at m i j) + under c ≤ over c + under (at m i j) → Exact m n i j c m
exact_same m n i j c E hn hi hj fc K l =
    record {
      closed = K;
      stored = λ a b ha hb. (E (a * 17 + b) (omega arith)).most;
      sound = λ x s. (s, all_meet (at m) n i j c hi hj (omega arith) l x s);
      whole = λ x s h. s;
      some = (low (at m), low_sol (at m) n K);
      outside = λ k h. refl;
    }

-- ---- the matrix of which nothing is known
module _ (r : List ℤ) (h : (k : ℕ) → k < 289 → Unknown (k / 17) (k % 17) (ent r k)) where
  first_at : (a b : ℕ) → a < 17 → b < 17 → Unknown a b (at r a b)
  first_at a b ha hb =
      let p : (a * 17 + b) / 17 ≡ a = omega arith in
      let q : (a * 17 + b) % 17 ≡ b = omega arith in
      subst₂ (λ (s t : ℕ). Unknown s t (at r a b)) p q (h (a * 17 + b) (omega arith))

  -- by cases: a bound that is there is 0, and a is 0 or b
  pub first_cases : (a b : ℕ) → a < 17 → b < 17 → Finite (at r a b) → ((a ≡ 0) ⊎ (a ≡ b)) × (over (at r a b) ≡ under (at r a b))
  first_cases a b ha hb f = go (ℕ_discrete a 0) (ℕ_discrete a b)
    where
      go : Dec (a ≡ 0) → Dec (a ≡ b) → ((a ≡ 0) ⊎ (a ≡ b)) × (over (at r a b) ≡ under (at r a b))
      go (yes p) d = (inl p, omega (arith, eq_read ((first_at a b ha hb).row p)))
      go (no p) (yes q) = (inr q, omega (arith, eq_read ((first_at a b ha hb).diag q)))
      go (no p) (no q) = absurd (omega (arith, eq_read ((first_at a b ha hb).rest p q)))

  pub top_entries : Entries r
  top_entries k l = go (ℕ_discrete (k / 17) 0) (ℕ_discrete (k / 17) (k % 17))
    where
      go : Dec (k / 17 ≡ 0) → Dec (k / 17 ≡ k % 17) → Entry (ent r k)
      go (yes p) d = omega (arith, eq_read ((h k l).row p))
      go (no p) (yes q) = omega (arith, eq_read ((h k l).diag q))
      go (no p) (no q) = omega (arith, eq_read ((h k l).rest p q))

  pub top_closed : (n : ℕ) → 0 < n → n ≤ 17 → Closed (at r) n
  top_closed n h₀ hn = record {
    some = h₀;
    diag = λ a ha. omega (arith, eq_read ((first_at a a (omega arith) (omega arith)).diag refl));
    tri = λ a k b ha hk hb f g.
        let u = first_cases a k (omega arith) (omega arith) f in
        let v = first_cases k b (omega arith) (omega arith) g in
        tri' a k b (omega arith) (omega arith) (omega arith) u.1 v.1 u.0 v.0;
    row = λ b hb. omega (arith, eq_read ((first_at 0 b (omega arith) (omega arith)).row refl));
  }
    where
      tri' : (a k b : ℕ) → a < 17 → k < 17 → b < 17 → over (at r a k) ≡ under (at r a k) → over (at r k b) ≡ under (at r k b) → (a ≡ 0) ⊎ (a ≡ k) → (k ≡ 0) ⊎ (k ≡ b)
          → Finite (at r a b) × (over (at r a b) + under (at r a k) + under (at r k b) ≤ over (at r a k) + over (at r k b) + under (at r a b))
      tri' a k b ha hk hb f g (inl p) v = omega (arith, eq_read ((first_at a b ha hb).row p))
      tri' a k b ha hk hb f g (inr p) (inl q) = omega (arith, eq_read ((first_at a b ha hb).row (p ∙ q)))
      tri' a k b ha hk hb f g (inr p) (inr q) = omega (arith, eq_read ((first_at a b ha hb).diag (p ∙ q)))

  pub top_sol : (n : ℕ) → n ≤ 17 → (x : ℕ → ℕ) → x 0 ≡ 0 → Sol (at r) n x
  top_sol n hn x e = record {
    zero = e;
    holds = λ a b ha hb f. let u = first_cases a b (omega arith) (omega arith) f in go a b u.1 u.0;
  }
    where
      go : (a b : ℕ) → over (at r a b) ≡ under (at r a b) → (a ≡ 0) ⊎ (a ≡ b) → x a + under (at r a b) ≤ x b + over (at r a b)
      go a b f (inl p) = omega (arith, ap x p)
      go a b f (inr p) = omega (arith, ap x p)

  pub widest : Widest r
  widest = record { entries = top_entries; closed = top_closed 17 (omega arith) (omega arith); all = top_sol 17 (omega arith) }
