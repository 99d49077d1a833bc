-- What the loop of `slots_with` keeps: so many releases have come.
use Rattle.slots.proofs.SlotLaws.{Came}
use Rattle.slots.proofs.change.slots_with.Given as goal

abbrev pub invariant-loop-k : goal.invariant-loop-k
invariant-loop-k l = Came l.releases.tasks l.ahead l.k l.initial.slots l.slots
