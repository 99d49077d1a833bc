-- What the loop of `overflows` keeps: none of the releases that it has passed overflows.
use Rattle.model_table.specs.Held.{model_of}
use Rattle.home.proofs.QueueLaws.{Passed}
use Rattle.home.proofs.queue.overflows.Given as goal

abbrev pub invariant-loop-k : goal.invariant-loop-k
invariant-loop-k l = Passed (model_of l.model) l.releases l.tasks l.k
