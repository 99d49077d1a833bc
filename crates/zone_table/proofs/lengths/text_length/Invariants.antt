-- What the loops of `text_length` keep, and how they end.
use Prim.Native.Nat.{◌*◌, ◌≤◌}
use mathlib.Core.Path.{◌≡◌}
use lib.ListN.{length}
use Rattle.zone_table.proofs.RowLaws.{zone_row}
use Rattle.zone_table.proofs.lengths.text_length.Given as goal

abbrev pub invariant-loop-k : goal.invariant-loop-k
invariant-loop-k l = (l.k ≤ 48) × (l.n ≡ length (zone_row l.zones l.k)) × (l.n ≤ 34359800000 * l.k)
