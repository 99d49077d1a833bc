-- The start, and runs however long.
-- Assumes nothing.
use Rattle.std.specs.Prelude.{◌≡◌, true, [], replicate}
use Rattle.meaning.specs.Model.{Model, released_at_start}
use Rattle.meaning.specs.Machine.State.{State}
use Rattle.meaning.specs.Machine.Release.{put_all}
use Rattle.meaning.specs.Machine.Step.{Event, allowed, step, after}

-- "Start: location 1, all clocks 0, and the queue holding the job of location 1's task, if it has one (done 0, age 0)."
abbrev pub start : Model → State
start m = record { location = 1; clocks = replicate m.clocks 0; queue = put_all m (released_at_start m) [] }

-- "Runs in demand 3 have no end to their clocks": any number of allowed steps, those behind a miss or an overflow too
pub data Run (m : Model) : State → Type 0 where
  begin : Run m (start m)
  more : {s : State} → Run m s → (ev : Event) → allowed m s ev ≡ true → Run m (after s (step m s ev))
