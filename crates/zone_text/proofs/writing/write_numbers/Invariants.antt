-- What the loops of `write_numbers` keep, and how they end.
use Prim.Native.Nat.{◌≤◌}
use mathlib.Core.Path.{◌≡◌}
use lib.ListN.{length}
use Rattle.lines.specs.Put.{Put}
use Rattle.zone_table.proofs.RowLaws.{claim_row}
use Rattle.zone_text.proofs.writing.write_numbers.Given as goal

abbrev pub invariant-loop-x : goal.invariant-loop-x
invariant-loop-x l = (l.x ≤ l.n) × (length l.buf ≡ length l.initial.buf) × Put l.initial.buf l.at (claim_row l.zones l.from l.x) l.buf l.p
