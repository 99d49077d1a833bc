-- What the loop of `beats_none` keeps.
use mathlib.Core.List.{List}
use Rattle.std.specs.Prelude.{Some}
use Rattle.step_bounds.specs.Stepping.{model_of}
use Rattle.meaning.specs.Inner.Slots.{Slot}
use Rattle.meaning.specs.Inner.Tests.{test_at}
use Rattle.slots.specs.Stands.{Stand}
use Rattle.zone_bounds.specs.Narrowed.{Narrows}
use Rattle.step_bounds.specs.Places.{staying}
use Rattle.step_bounds.proofs.stepping.Stepping.beats_none.Given as goal

abbrev pub invariant-loop-k : goal.invariant-loop-k
invariant-loop-k l = (ss : List Slot) → Stand ss l.slots → Narrows (staying (test_at (model_of l.self) l.task) l.first l.k ss) (Some l.initial.r) (Some l.r)
