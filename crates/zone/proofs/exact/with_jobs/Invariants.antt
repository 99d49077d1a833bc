-- What the loop of `with_jobs` keeps.
use Rattle.zone.proofs.ExactLaws.{JobsUpto}
use Rattle.zone.proofs.exact.with_jobs.Given as goal

abbrev pub invariant-loop-job : goal.invariant-loop-job
invariant-loop-job l = JobsUpto l.initial.r l.n l.jobs l.r l.ahead l.sum l.job-index
