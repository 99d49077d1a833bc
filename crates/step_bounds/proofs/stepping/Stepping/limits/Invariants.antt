-- What the loop of `limits` keeps.
use Prim.Native.Nat.{◌-◌}
use Rattle.meaning.specs.Inner.StepBounds.{limit_bounds}
use Rattle.zone_bounds.specs.Narrowed.{Narrows}
use Rattle.step_bounds.proofs.TableLaws.{limits_to}
use Rattle.step_bounds.proofs.stepping.Stepping.limits.Given as goal

abbrev pub invariant-loop-clock : goal.invariant-loop-clock
invariant-loop-clock l = Narrows (limit_bounds (limits_to l.self.model.cells.now l.self.home.location (l.clock - 1))) l.initial.r l.r
