-- What the loops of `first_late` keep.
use Prim.Native.Nat.{ℕ, ◌<◌}
use Rattle.meaning.specs.Text.ModelTable.{clocks}
use Rattle.shown.proofs.LateLaws.{OnTime}
use Rattle.shown.proofs.late.first_late.Given as goal

abbrev pub invariant-loop-k : goal.invariant-loop-k
invariant-loop-k l = (i : ℕ) → i < l.k → OnTime l.model.cells.now l.m l.plan.from l.plan.off l.tasks (clocks l.model.cells.now) i
