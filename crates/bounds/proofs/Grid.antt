-- A double loop that stores one entry a turn, row by row, among the first n variables: what it has shown, of the index that it has reached.
-- Assumes nothing.
use mathlib.Core.Path.{◌≡◌, refl, ◌∙◌, subst, subst₂}
use mathlib.Core.List.{List}
use mathlib.Core.Logic.{inl, inr}
use Prim.Native.Nat.{ℕ, ◌+◌, ◌*◌, ◌/◌, ◌%◌, ◌<◌, ◌≤◌}
use native.Mathlib.Omega.{arith}
use native.Mathlib.Decide.{dec_lt}
use lib.IntN.{ℤ}
use lib.ListN.{length, set, length-set}
use Rattle.bounds.specs.Matrix.{ent, at, Outside}
use Rattle.bounds.proofs.Store.{stored, beyond}

-- P holds of what stands at an index that was passed, among the first n columns; every other entry is that of m
pub record Upto (P : ℕ → ℕ → ℤ → Type 0) (m : List ℤ) (n : ℕ) (r : List ℤ) (p : ℕ) : Type 0 where
  pub whole : length r ≡ 289
  pub passed : (q : ℕ) → q < p → (q % 17 < n → P (q / 17) (q % 17) (ent r q)) × (n ≤ q % 17 → ent r q ≡ ent m q)
  pub ahead : (q : ℕ) → p ≤ q → ent r q ≡ ent m q

module _ (P : ℕ → ℕ → ℤ → Type 0) (m : List ℤ) (n : ℕ) where
  pub start : length m ≡ 289 → Upto P m n m 0
  start l = record { whole = l; passed = λ q h. absurd (omega arith); ahead = λ q h. refl }

  -- the same index by another name
  pub same : (r : List ℤ) (p q : ℕ) → p ≡ q → Upto P m n r p → Upto P m n r q
  same r p q e u = subst (λ (k : ℕ). Upto P m n r k) e u

  pub step : (r : List ℤ) (a b : ℕ) (v : ℤ) → n ≤ 17 → a < 17 → b < n → Upto P m n r (a * 17 + b) → P a b v → Upto P m n (set r (a * 17 + b) v) (a * 17 + (b + 1))
  step r a b v hn ha hb u h =
      let w = u.whole in record {
        whole = length-set r (a * 17 + b) v ∙ u.whole;
        passed = λ q l. stored (λ k z. (k % 17 < n → P (k / 17) (k % 17) z) × (n ≤ k % 17 → z ≡ ent m k)) r (a * 17 + b) v (omega arith) u.passed
            ((λ f. subst₂ (λ (s t : ℕ). P s t v) p₁ p₂ h), (λ f. absurd (omega arith))) q (omega arith);
        ahead = λ q l. beyond r m (a * 17 + b) v u.ahead q (omega arith);
      }
    where
      p₁ : a ≡ (a * 17 + b) / 17
      p₁ = omega arith

      p₂ : b ≡ (a * 17 + b) % 17
      p₂ = omega arith

  pub row_end : (r : List ℤ) (a b : ℕ) → n ≤ 17 → n ≤ b → b ≤ n → Upto P m n r (a * 17 + b) → Upto P m n r ((a + 1) * 17)
  row_end r a b hn l g u = record { whole = u.whole; passed = λ q h. go q h (dec_lt q (a * 17 + b)); ahead = λ q h. u.ahead q (omega arith) }
    where
      go : (q : ℕ) → q < (a + 1) * 17 → Dec (q < a * 17 + b) → (q % 17 < n → P (q / 17) (q % 17) (ent r q)) × (n ≤ q % 17 → ent r q ≡ ent m q)
      go q h (yes p) = u.passed q p
      go q h (no p) = ((λ f. absurd (omega arith)), (λ f. u.ahead q (omega arith)))

  -- the loops' end
  pub cells : (r : List ℤ) (p : ℕ) → n ≤ 17 → n * 17 ≤ p → Upto P m n r p → (a b : ℕ) → a < n → b < n → P a b (at r a b)
  cells r p hn l u a b ha hb =
      let s : (a * 17 + b) / 17 ≡ a = omega arith in
      let t : (a * 17 + b) % 17 ≡ b = omega arith in
      subst₂ (λ (s t : ℕ). P s t (at r a b)) s t ((u.passed (a * 17 + b) (omega arith)).0 (omega arith))

  pub outside : (r : List ℤ) (p : ℕ) → n * 17 ≡ p → Upto P m n r p → (k : ℕ) → Outside n k → ent r k ≡ ent m k
  outside r p e u k (inl h) = u.ahead k (omega arith)
  outside r p e u k (inr h) = go (dec_lt k p)
    where
      go : Dec (k < p) → ent r k ≡ ent m k
      go (yes l) = (u.passed k l).1 h
      go (no l) = u.ahead k (omega arith)
