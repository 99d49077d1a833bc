-- What the loops of `order_length` keep, and how they end.
use Prim.Native.Nat.{◌+◌, ◌-◌, ◌*◌, ◌≤◌}
use mathlib.Core.Path.{◌≡◌}
use lib.ListN.{length, get_or}
use Rattle.meaning.specs.Text.Lines.{kept_text}
use Rattle.zone_table.proofs.RowLaws.{task_row}
use Rattle.zone_table.proofs.lengths.order_length.Given as goal

abbrev pub invariant-loop-x : goal.invariant-loop-x
invariant-loop-x l = (l.x ≤ 6) × (l.n ≡ 4 + length (kept_text 0 (get_or l.zones (8 * (l.zone - 1)) 0 - 1)) + length (task_row l.zones (l.zone - 1) l.x)) × (l.n ≤ 11 + 8 * l.x)
