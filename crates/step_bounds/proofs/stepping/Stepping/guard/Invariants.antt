-- What the loop of `guard` keeps.
use Rattle.zone_bounds.specs.Narrowed.{Narrows}
use Rattle.step_bounds.proofs.TableLaws.{guard_to}
use Rattle.step_bounds.proofs.stepping.Stepping.guard.Given as goal

abbrev pub invariant-loop-x : goal.invariant-loop-x
invariant-loop-x l = Narrows (guard_to l.self.model.cells.now l.edge l.x) l.initial.r l.r
