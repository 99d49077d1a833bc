-- What the loops of `bounds_length` keep, and how they end.
use Prim.Native.Nat.{◌-◌, ◌*◌, ◌≤◌}
use mathlib.Core.Path.{◌≡◌}
use lib.ListN.{length}
use Rattle.zone_table.proofs.RowLaws.{bound_row}
use Rattle.zone_table.proofs.lengths.bounds_length.Given as goal

abbrev pub invariant-loop-x : goal.invariant-loop-x
invariant-loop-x l = (l.x ≤ 289) × (l.n ≡ length (bound_row l.zones (l.zone - 1) l.x)) × (l.n ≤ 27 * l.x)
