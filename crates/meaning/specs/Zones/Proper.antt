-- Proper states.
-- Assumes nothing.
use Rattle.std.specs.Prelude.{◌≡◌, Bool, true, not, ◌&&◌, ℕ, ◌<◌, length}
use mathlib.Core.List.{List, [], ◌∷◌, Memᴰ}
use Rattle.meaning.specs.Model.{Model, task_at}
use Rattle.meaning.specs.Machine.State.{Job, State, order}
use Rattle.meaning.specs.Machine.Release.{overflows}

-- "0 ≤ done ≤ C − 1 and 0 ≤ age ≤ D − 1"
pub record ProperJob (m : Model) (j : Job) : Type 0 where
  pub done : j.done < (task_at m j.task).C
  pub age : j.age < (task_at m j.task).D

-- "no task twice": the release of none of the tasks would overflow a queue of those behind it
abbrev pub fits : Model → List ℕ → Bool
fits m [] = true
fits m (t ∷ o) = not (overflows m t o) && fits m o

-- "A proper state has 0 ≤ done ≤ C − 1 and 0 ≤ age ≤ D − 1 for each job, no task twice, and clocks ≥ 0."
pub record Proper (m : Model) (s : State) : Type 0 where
  pub clocks : length s.clocks ≡ m.clocks
  pub jobs : (j : Job) → Memᴰ j s.queue → ProperJob m j
  pub fit : fits m (order s.queue) ≡ true
