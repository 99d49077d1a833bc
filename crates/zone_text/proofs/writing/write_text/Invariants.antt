-- What the loops of `write_text` keep, and how they end.
use Prim.Native.Nat.{◌≤◌}
use mathlib.Core.Path.{◌≡◌}
use lib.ListN.{length}
use Rattle.lines.specs.Put.{Put}
use Rattle.zone_table.proofs.RowLaws.{zone_row}
use Rattle.zone_text.proofs.writing.write_text.Given as goal

abbrev pub invariant-loop-k : goal.invariant-loop-k
invariant-loop-k l = (l.k ≤ 48) × (length l.buf ≡ length l.initial.buf) × Put l.initial.buf 0 (zone_row l.zones l.k) l.buf l.p
