-- The variables of a state: clocks, running sums, ages.
-- Assumes nothing.
use Rattle.std.specs.Prelude.{List, [], ◌∷◌, ◌++◌, ℕ, suc, ◌+◌, length}
use Rattle.meaning.specs.Lists.{nth1D}
use Rattle.meaning.specs.Model.{Model}
use Rattle.meaning.specs.Machine.State.{Job, State}

-- "The running sum of a job is the done of that job and of all jobs ahead of it": of a queue behind jobs that have done a in all,
-- running sum and age, position by position
abbrev pub queue_vars : ℕ → List Job → List ℕ
queue_vars a [] = []
queue_vars a (j ∷ js) = (a + j.done) ∷ j.age ∷ queue_vars (a + j.done) js

-- "With n clocks, clocks are 1 to n; queue position k has its running sum at n + 2k − 1 and its age at n + 2k."
abbrev pub vars : State → List ℕ
vars s = s.clocks ++ queue_vars 0 s.queue

-- "Variable 0 is always 0."
abbrev pub var : State → ℕ → ℕ
var s i = nth1D (vars s) i 0

-- how many variables a queue of the tasks o has in all, variable 0 among them: "at most 17"
abbrev pub variables : Model → List ℕ → ℕ
variables m o = suc (m.clocks + (length o + length o))
