-- What the loop of `read_records` keeps, and how it ends.
use Prim.Native.Nat.{◌-◌}
use lib.ListN.{length}
use Rattle.meaning.proofs.Text.ModelLoop.{Reading}
use Rattle.model_text.proofs.reading.read_records.Given as goal

abbrev pub invariant-loop-next : goal.invariant-loop-next
invariant-loop-next l = Reading l.s l.place.at l.place.cursor l.t

abbrev pub decreases-loop-next : goal.decreases-loop-next
decreases-loop-next l = length l.s - l.place.at
