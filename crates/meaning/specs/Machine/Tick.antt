-- A tick: limits after it, work and ages, the head that finishes, and then the miss.
-- Assumes nothing.
use Rattle.std.specs.Prelude.{Bool, true, false, List, [], ◌∷◌, map, ℕ, suc, leb, eqb}
use Rattle.meaning.specs.Lists.{nth1D, every, first}
use Rattle.meaning.specs.Model.{Limit, Model, task_at, location_at}
use Rattle.meaning.specs.Machine.State.{Job, State}

-- "clock ≤ limit"
abbrev pub limit_test : List ℕ → Limit → Bool
limit_test cs l = leb (nth1D cs l.clock 0) l.most

-- "Tick: allowed when the clocks after it meet the location's limits."
abbrev pub tick_allowed : Model → State → Bool
tick_allowed m s = every (limit_test (map suc s.clocks)) (location_at m s.location).limits

-- "Clocks and ages grow by 1"
abbrev pub older : Job → Job
older j = record { task = j.task; done = j.done; age = suc j.age }

-- "the head's done by 1"
abbrev pub worked : Job → Job
worked j = record { task = j.task; done = suc j.done; age = suc j.age }

-- "A head whose done reaches C": this tick is the head's last
unfoldable pub finishes : Model → List Job → Bool
finishes m [] = false
finishes m (j ∷ js) = leb (task_at m j.task).C (suc j.done)

-- "leaves in that same step": the queue after a tick at which the head finishes, or goes on
abbrev pub served : Bool → List Job → List Job
served b [] = []
served true (j ∷ js) = map older js
served false (j ∷ js) = worked j ∷ map older js

-- the state after a tick at which the head finishes, or goes on
abbrev pub ticked : State → Bool → State
ticked s b = record { location = s.location; clocks = map suc s.clocks; queue = served b s.queue }

-- the state after a tick
abbrev pub tick_to : Model → State → State
tick_to m s = ticked s (finishes m s.queue)

-- "Then a job still queued with age equal to D is a miss"
abbrev pub is_late : Model → Job → Bool
is_late m j = eqb j.age (task_at m j.task).D

-- "the first position at fault in the new queue"; 0: none
abbrev pub late : Model → List Job → ℕ
late m q = first (is_late m) q
