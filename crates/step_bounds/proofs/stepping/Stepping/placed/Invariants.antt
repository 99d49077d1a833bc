-- What the loop of `placed` keeps.
use lib.ListN.{take}
use Rattle.std.specs.Prelude.{Some}
use Rattle.step_bounds.specs.Stepping.{model_of}
use Rattle.meaning.specs.Inner.Slots.{slots_of}
use Rattle.meaning.specs.Inner.Places.{position_bounds}
use Rattle.home.specs.Stands.{order_of, tasks_of}
use Rattle.zone_bounds.specs.Narrowed.{Narrows}
use Rattle.step_bounds.proofs.stepping.Stepping.placed.Given as goal

abbrev pub invariant-loop-k : goal.invariant-loop-k
invariant-loop-k l =
    Narrows (position_bounds (model_of l.self) (take l.k (tasks_of l.releases)) (take l.k l.ahead) (slots_of (model_of l.self) (order_of l.self.home))) (Some l.initial.r) (Some l.r)
