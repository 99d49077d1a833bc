-- A loop that stores one element a turn, at k: what it has shown of every index passed, and that the others are as they were. And that an entry fits an i32.
-- Assumes nothing.
use mathlib.Core.Path.{◌≡◌, refl, sym, subst, ◌∙◌}
use mathlib.Core.Bool.{true, false}
use mathlib.Core.List.{List}
use Prim.Native.Nat.{ℕ, zero, suc, ◌+◌, ◌<◌, ◌≤◌}
use native.Mathlib.Omega.{arith}
use native.Mathlib.Decide.{ℕ_discrete}
use lib.IntN.{ℤ, pos}
use lib.ListN.{length, set, replicate}
use lib.Seq.{get_or-set_same, get_or-set_other}
use mir.Syntax.{w32}
use mir.Val.{SFits}
use Rattle.bounds.specs.Matrix.{ent, Entry, Size}
use Rattle.bounds.specs.Images.{var}
use Rattle.bounds.proofs.Signed.{fits_make}

pub true_false : true ≡ false → ⊥
true_false e = let z : ◌≡◌ {A = ℕ} 0 1 = cc e in omega arith

pub false_true : false ≡ true → ⊥
false_true e = let z : ◌≡◌ {A = ℕ} 0 1 = cc e in omega arith

pub entry_fits : {z : ℤ} → Entry z → SFits w32 z
entry_fits e = fits_make (omega arith) (omega arith)

pub size_fits : {z : ℤ} → Size z 100000000 → SFits w32 z
size_fits e = fits_make (omega arith) (omega arith)

module _ (P : ℕ → ℤ → Type 0) (r : List ℤ) (k : ℕ) (v : ℤ) where
  pub stored : k < length r → ((q : ℕ) → q < k → P q (ent r q)) → P k v → (q : ℕ) → q < k + 1 → P q (ent (set r k v) q)
  stored l all here q h = go (ℕ_discrete q k)
    where
      go : Dec (q ≡ k) → P q (ent (set r k v) q)
      go (yes e) = subst (λ (p : ℕ). P p (ent (set r k v) p)) (sym e) (subst (P k) (sym (get_or-set_same r k v (pos 0) l)) here)
      go (no f) = subst (P q) (sym (get_or-set_other r k q v (pos 0) f)) (all q (omega arith))

-- the same for naturals
pub stored_n : (P : ℕ → ℕ → Type 0) (r : List ℕ) (k v : ℕ) → k < length r → ((q : ℕ) → q < k → P q (var r q)) → P k v → (q : ℕ) → q < k + 1 → P q (var (set r k v) q)
stored_n P r k v l all here q h = go (ℕ_discrete q k)
  where
    go : Dec (q ≡ k) → P q (var (set r k v) q)
    go (yes e) = subst (λ (p : ℕ). P p (var (set r k v) p)) (sym e) (subst (P k) (sym (get_or-set_same r k v 0 l)) here)
    go (no f) = subst (P q) (sym (get_or-set_other r k q v 0 f)) (all q (omega arith))

pub beyond : (r m : List ℤ) (k : ℕ) (v : ℤ) → ((q : ℕ) → k ≤ q → ent r q ≡ ent m q) → (q : ℕ) → k + 1 ≤ q → ent (set r k v) q ≡ ent m q
beyond r m k v all q h = get_or-set_other r k q v (pos 0) (omega arith) ∙ all q (omega arith)

pub beyond_n : (r : List ℕ) (k v : ℕ) → ((q : ℕ) → k ≤ q → var r q ≡ 0) → (q : ℕ) → k + 1 ≤ q → var (set r k v) q ≡ 0
beyond_n r k v all q h = get_or-set_other r k q v 0 (omega arith) ∙ all q (omega arith)

-- an array that was made by repeat
pub zeros : (n q : ℕ) → var (replicate n 0) q ≡ 0
zeros zero q = refl
zeros (suc n) zero = refl
zeros (suc n) (suc q) = zeros n q

pub zeros_z : (n q : ℕ) → ent (replicate n (pos 0)) q ≡ pos 0
zeros_z zero q = refl
zeros_z (suc n) zero = refl
zeros_z (suc n) (suc q) = zeros_z n q
