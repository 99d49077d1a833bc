-- A claimed bound against the reached entry: where the entry is not above it, the image of no solution breaks it; where it is, that of some solution does. And the smallest solution that breaks a bound.
-- Assumes nothing.
use mathlib.Core.Path.{◌≡◌, subst₂}
use mathlib.Core.List.{List}
use mathlib.Core.Logic.{inl, inr}
use Prim.Native.Nat.{ℕ, ◌+◌, ◌-◌, ◌*◌, ◌<◌, ◌≤◌}
use native.Mathlib.Omega.{arith}
use native.Mathlib.Decide.{dec_lt, dec_le}
use lib.IntN.{ℤ, pos, neg_ℤ, ◌-ℤ◌}
use Rattle.std.specs.Prelude.{None, Some}
use Rattle.meaning.specs.Numbers.{over, under}
use Rattle.bounds.specs.Matrix.{ent, at, Finite, Entries, Meets, Sol, Closed}
use Rattle.bounds.specs.Images.{var, Map, Image}
use Rattle.bounds.specs.Claims.{bias, cell, Before, Cells}
use Rattle.bounds.specs.Results.{Tightened, Smallest, Met, BrokenBy}
use Rattle.bounds.specs.Inner.{Shift, Claimed}
use Rattle.meaning.proofs.Numbers.{over_neg, under_neg}
use Rattle.bounds.proofs.Signed.{eq_read, diff_law}
use Rattle.bounds.proofs.Points.{finite?, entry_tight, entry_unbounded}

-- the image of x
abbrev pub moved : (ℕ → ℕ) → (ℕ → ℤ) → (ℕ → ℕ) → ℕ → ℕ
moved p off x a = x (p a) + over (off a) - under (off a)

pub moved_image : (d : ℕ → ℕ → ℤ) (n₀ n : ℕ) (p : ℕ → ℕ) (off : ℕ → ℤ) → Map d n₀ n p off → (x : ℕ → ℕ) → Sol d n₀ x → Image n p off x (moved p off x)
moved_image d n₀ n p off P x s a ha = omega (arith, P.stays x s a ha)

-- ---- the reached entry r, of new variables a and b, is tight over the images
module _ (d : ℕ → ℕ → ℤ) (n₀ n a b : ℕ) (p : ℕ → ℕ) (off : ℕ → ℤ) (r : ℤ) (ha : a < n) (hb : b < n) (K : Closed d n₀) (P : Map d n₀ n p off) (U : Shift (d (p a) (p b)) (off a) (off b) r) where
  old_finite : Finite r → Finite (d (p a) (p b))
  old_finite f = go (finite? d (p a) (p b))
    where
      go : Dec (Finite (d (p a) (p b))) → Finite (d (p a) (p b))
      go (yes g) = g
      go (no g) = omega (arith, eq_read (U.kept g))

  pub reached_holds : Finite r → (x y : ℕ → ℕ) → Sol d n₀ x → Image n p off x y → Meets a b r y
  reached_holds f x y s i =
      let g = old_finite f in
      omega (arith, i a ha, i b hb, (U.some g).1, s.holds (p a) (p b) (P.into a ha) (P.into b hb) g)

  pub reached_tight : Finite r → (x : ℕ → ℕ) × Sol d n₀ x × (moved p off x a + under r ≡ moved p off x b + over r)
  reached_tight f =
      let g = old_finite f in
      let t = entry_tight d n₀ (p a) (p b) K (P.into a ha) (P.into b hb) g in
      let e = t.2 in
      (t.0, t.1, omega (arith, (U.some g).1, P.stays t.0 t.1 a ha, P.stays t.0 t.1 b hb))

  pub reached_unbounded : (Finite r → ⊥) → (N : ℕ) → (x : ℕ → ℕ) × Sol d n₀ x × (moved p off x b + N < moved p off x a)
  reached_unbounded f N =
      let t = entry_unbounded d n₀ (p a) (p b) K (P.into a ha) (P.into b hb) (λ g. f (U.some g).0) (N + over (off b) + under (off a)) in
      let e = t.2 in
      (t.0, t.1, omega (arith, P.stays t.0 t.1 a ha, P.stays t.0 t.1 b hb))

-- ---- a claimed bound against it
-- the image of no solution breaks the bound claimed at (a, b), however many variables m has
abbrev pub Fine : List ℤ → ℕ → List ℕ → List ℤ → List ℕ → ℕ → ℕ → ℕ → Type 0
Fine m n p off claims start a b = (n₀ : ℕ) → Map (at m) n₀ n (var p) (ent off) → Met m n₀ n p off claims start a b

module _ (m : List ℤ) (n : ℕ) (p : List ℕ) (off : List ℤ) (claims : List ℕ) (start a b : ℕ) (ha : a < n) (hb : b < n) (hn : n ≤ 17)
    (C : Cells claims start) (entry bound : ℤ)
    (U : Shift (at m (var p a) (var p b)) (ent off a) (ent off b) entry) (W : Claimed (cell claims start a b) bound) where
  small : cell claims start a b ≤ 2 * bias - 1
  small = C.small (a * 17 + b) (omega arith)

  pub claim_met : over entry + under bound ≤ over bound + under entry → Fine m n p off claims start a b
  claim_met l n₀ P x y s i w = go (dec_lt (over (at m (var p a) (var p b))) (1000000000 + under (at m (var p a) (var p b))))
    where
      there : 0 < cell claims start a b
      there = w.there

      go : Dec (Finite (at m (var p a) (var p b))) → ⊥
      go (yes f) = omega (arith, (U.some f).1, W.bound there, w.above, i a ha, i b hb, s.holds (var p a) (var p b) (P.into a ha) (P.into b hb) f)
      go (no f) = f (omega (arith, eq_read (U.kept f), W.bound there, small))

  module _ (l : over bound + under entry < over entry + under bound) (E : Entries m) (I : (a : ℕ) → a < n → var p a < 17) (n₀ : ℕ) (K : Closed (at m) n₀) (P : Map (at m) n₀ n (var p) (ent off)) where
    by : (x : ℕ → ℕ) → Sol (at m) n₀ x → moved (var p) (ent off) x b + cell claims start a b < moved (var p) (ent off) x a + bias → 0 < cell claims start a b → BrokenBy m n₀ n p off claims start a b
    by x s h g = record {
      x = x;
      y = moved (var p) (ent off) x;
      sol = s;
      image = moved_image (at m) n₀ n (var p) (ent off) P x s;
      breaks = record { there = g; above = h };
    }

    pub claim_broken : BrokenBy m n₀ n p off claims start a b
    claim_broken = go (dec_lt 0 (cell claims start a b)) (finite? (at m) (var p a) (var p b))
      where
        most : over (at m (var p a) (var p b)) ≤ 1000000000 + under (at m (var p a) (var p b))
        most = (E (var p a * 17 + var p b) (omega (arith, I a ha, I b hb))).most

        go : Dec (0 < cell claims start a b) → Dec (Finite (at m (var p a) (var p b))) → BrokenBy m n₀ n p off claims start a b
        go (no g) (yes f) = let e : cell claims start a b ≡ 0 = omega arith in absurd (omega (arith, eq_read (W.nothing e), (U.some f).0))
        go (no g) (no f) = let e : cell claims start a b ≡ 0 = omega arith in absurd (omega (arith, eq_read (W.nothing e), eq_read (U.kept f), most))
        go (yes g) (yes f) =
            let t = reached_tight (at m) n₀ n a b (var p) (ent off) entry ha hb K P U (U.some f).0 in
            let e = t.2 in
            by t.0 t.1 (omega (arith, W.bound g)) g
        go (yes g) (no f) =
            let t = reached_unbounded (at m) n₀ n a b (var p) (ent off) entry ha hb K P U (λ h. f (omega (arith, eq_read (U.kept f)))) (cell claims start a b) in
            let e = t.2 in
            by t.0 t.1 (omega arith) g

-- ---- the claims before an index
abbrev pub Sound : List ℤ → ℕ → List ℕ → List ℤ → List ℕ → ℕ → ℕ → Type 0
Sound m n p off claims start q = (a b : ℕ) → a < n → b < n → a * 17 + b < q → Fine m n p off claims start a b

module _ (m : List ℤ) (n : ℕ) (p : List ℕ) (off : List ℤ) (claims : List ℕ) (start : ℕ) where
  pub sound_step : (a b : ℕ) → n ≤ 17 → b < 17 → Sound m n p off claims start (a * 17 + b) → Fine m n p off claims start a b → Sound m n p off claims start (a * 17 + (b + 1))
  sound_step a b hn hb s k a' b' ha' hb' h = go (dec_lt (a' * 17 + b') (a * 17 + b))
    where
      go : Dec (a' * 17 + b' < a * 17 + b) → Fine m n p off claims start a' b'
      go (yes l) = s a' b' ha' hb' l
      go (no l) =
          let e : a' * 17 + b' ≡ a * 17 + b = omega arith in
          let q₁ : a ≡ a' = omega arith in
          let q₂ : b ≡ b' = omega arith in
          subst₂ (λ (s t : ℕ). Fine m n p off claims start s t) q₁ q₂ k

  pub sound_row : (a b : ℕ) → n ≤ 17 → n ≤ b → Sound m n p off claims start (a * 17 + b) → Sound m n p off claims start ((a + 1) * 17)
  sound_row a b hn l s a' b' ha' hb' h = go (dec_le a' a)
    where
      go : Dec (a' ≤ a) → Fine m n p off claims start a' b'
      go (yes q) = s a' b' ha' hb' (omega arith)
      go (no q) = absurd (omega arith)

-- an index that comes before, row by row
pub before_index : (a b i j : ℕ) → b < 17 → Before a b i j → a * 17 + b < i * 17 + j
before_index a b i j h (inl l) = omega arith
before_index a b i j h (inr w) = let e = w.0 in let l = w.1 in omega arith

-- ---- the smallest solution that breaks a bound: `tighten` by the negated bound, then `least`
-- x breaks "variable i minus variable j is at most c"
abbrev pub Exceeds : ℕ → ℕ → ℤ → (ℕ → ℕ) → Type 0
Exceeds i j c x = x j + over c < x i + under c

-- c' is −c − 1
abbrev pub Negated : ℤ → ℤ → Type 0
Negated c c' = over c' + over c + 1 ≡ under c' + under c

pub negated_bound : (c : ℤ) → Negated c (neg_ℤ c -ℤ pos 1)
negated_bound c = omega (arith, diff_law (neg_ℤ c) (pos 1), over_neg c, under_neg c)

pub exceeds_meets : (i j : ℕ) (c c' : ℤ) (x : ℕ → ℕ) → Negated c c' → Exceeds i j c x → Meets j i c' x
exceeds_meets i j c c' x o h = omega arith

pub meets_exceeds : (i j : ℕ) (c c' : ℤ) (x : ℕ → ℕ) → Negated c c' → Meets j i c' x → Exceeds i j c x
meets_exceeds i j c c' x o h = omega arith

module _ (m : List ℤ) (n i j : ℕ) (c c' : ℤ) (o : Negated c c') where
  pub none_breaks : Tightened m n j i c' None → (x : ℕ → ℕ) → Sol (at m) n x → Exceeds i j c x → ⊥
  none_breaks t x s h = t x s (exceeds_meets i j c c' x o h)

  pub least_breaking : (r : List ℤ) → Tightened m n j i c' (Some r) → (s : List ℕ) → Smallest r n s
      → Sol (at m) n (var s) × Exceeds i j c (var s) × ((x : ℕ → ℕ) → Sol (at m) n x → Exceeds i j c x → (k : ℕ) → k < n → var s k ≤ x k)
  least_breaking r d s l =
      let w = d.sound (var s) l.sol in
      (w.0, meets_exceeds i j c c' (var s) o w.1, λ x p h. l.least x (d.whole x p (exceeds_meets i j c c' x o h)))

-- of the images: y i − y j is above c just where x (p j) − x (p i) is at most off i − off j − c − 1
pub image_exceeds : (n : ℕ) (p : ℕ → ℕ) (off : ℕ → ℤ) (i j : ℕ) (c c' : ℤ) (x y : ℕ → ℕ) → i < n → j < n → Image n p off x y
    → over c' + under (off i) + over (off j) + over c + 1 ≡ under c' + over (off i) + under (off j) + under c
    → (Exceeds i j c y → Meets (p j) (p i) c' x) × (Meets (p j) (p i) c' x → Exceeds i j c y)
image_exceeds n p off i j c c' x y hi hj h o = ((λ g. omega (arith, h i hi, h j hj)), (λ g. omega (arith, h i hi, h j hj)))

-- and the image of the smaller is the smaller
pub image_least : (n₀ n : ℕ) (p : ℕ → ℕ) (off : ℕ → ℤ) (x y x' y' : ℕ → ℕ) → ((a : ℕ) → a < n → p a < n₀) → Image n p off x y → Image n p off x' y'
    → ((k : ℕ) → k < n₀ → x k ≤ x' k) → (k : ℕ) → k < n → y k ≤ y' k
image_least n₀ n p off x y x' y' into h g l k hk = omega (arith, h k hk, g k hk, l (p k) (into k hk))
