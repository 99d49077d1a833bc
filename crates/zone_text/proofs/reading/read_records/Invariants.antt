-- What the loops of `read_records` keep, and how they end.
use Prim.Native.Nat.{◌-◌}
use lib.ListN.{length}
use Rattle.zone_text.proofs.Laws.Reading.{ReadingAt}
use Rattle.zone_text.proofs.reading.read_records.Given as goal

abbrev pub invariant-loop-next : goal.invariant-loop-next
invariant-loop-next l = ReadingAt l.model.cells.now l.s l.at l.sofar l.t

abbrev pub decreases-loop-next : goal.decreases-loop-next
decreases-loop-next l = length l.s - l.at
