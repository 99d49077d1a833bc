-- What the loop of `sums` keeps.
use Prim.Native.Nat.{◌*◌, ◌≤◌}
use Rattle.try_machine.proofs.print.sums.Given as goal

abbrev pub invariant-loop-job : goal.invariant-loop-job
invariant-loop-job l = l.sum ≤ 4294967296 * l.job-index
