-- What the loop of `place` keeps.
use lib.ListN.{take}
use Rattle.machine.proofs.SeenLaws.{Sound}
use Rattle.machine.proofs.place.Given as goal

-- the jobs so far are right, and that is what is seen of them
abbrev pub invariant-loop-job : goal.invariant-loop-job
invariant-loop-job l = Sound l.model l.task (take l.job-index l.jobs) l.seen
