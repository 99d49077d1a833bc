-- What the loops of `write_bounds` keep, and how they end.
use Prim.Native.Nat.{◌-◌, ◌≤◌}
use mathlib.Core.Path.{◌≡◌}
use lib.ListN.{length}
use Rattle.lines.specs.Put.{Put}
use Rattle.zone_table.proofs.RowLaws.{bound_row}
use Rattle.zone_text.proofs.writing.write_bounds.Given as goal

abbrev pub invariant-loop-x : goal.invariant-loop-x
invariant-loop-x l = (l.x ≤ 289) × (length l.buf ≡ length l.initial.buf) × Put l.initial.buf l.at (bound_row l.zones (l.zone - 1) l.x) l.buf l.p
