-- Laws of the number that a bound's cell keeps.
-- Assumes nothing.
use Prim.Native.Nat.{ℕ, ◌-◌, ◌≤◌, ◌<◌}
use mathlib.Core.Path.{◌≡◌}
use native.Mathlib.Omega.{arith}
use lib.IntN.{ℤ, pos, negsuc, ◌-ℤ◌}
use mir.Syntax.{w32}
use mir.Val.{SFits, to_z, of_z}
use mir.ValLaws.{to_z_pos, to_z-of_z}
use Rattle.meaning.specs.Numbers.{over, under}
use Rattle.meaning.specs.Text.ModelTable.{lowered}
use Rattle.meaning.proofs.Numbers.{sum_parts, parts_one}
use Rattle.meaning.proofs.Text.ModelDecode.{lowered_over, lowered_under}

less_is : (v : ℕ) → 0 < v → pos v -ℤ pos 10001 ≡ lowered (v - 1)
less_is v h = parts_one (pos v -ℤ pos 10001) (lowered (v - 1)) (omega (arith, sum_parts (pos v) (negsuc 10000), lowered_over (v - 1), lowered_under (v - 1)))

small : (z : ℤ) → over z ≤ 100000 → under z ≤ 100000 → SFits w32 z
small (pos n) a b = record { sfits = omega arith }
small (negsuc n) a b = record { sfits = omega arith }

lowered_fits : (v : ℕ) → v ≤ 20000 → SFits w32 (lowered v)
lowered_fits v h = small (lowered v) (omega (arith, lowered_over v)) (omega (arith, lowered_under v))

-- what is computed is the number that the cell keeps
pub kept_lowered : (v : ℕ) → 0 < v → v ≤ 20001 → to_z w32 (of_z w32 (to_z w32 v -ℤ pos 10001)) ≡ lowered (v - 1)
kept_lowered v a b = rw (to_z_pos w32 v (omega arith), less_is v a) (to_z-of_z w32 (lowered (v - 1)) (lowered_fits (v - 1) (omega arith)))
