-- What the loops of `claims_length` keep, and how they end.
use Prim.Native.Nat.{◌+◌, ◌*◌, ◌≤◌}
use mathlib.Core.Path.{◌≡◌}
use lib.ListN.{length}
use Rattle.zone_table.proofs.RowLaws.{claim_row}
use Rattle.zone_table.proofs.lengths.claims_length.Given as goal

abbrev pub invariant-loop-x : goal.invariant-loop-x
invariant-loop-x l = (l.x ≤ l.n) × (l.length ≡ 3 + length (claim_row l.zones l.from l.x)) × (l.length ≤ 3 + 8 * l.x)
