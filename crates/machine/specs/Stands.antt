-- What a `State` stands for, and which may be lent.
-- Assumes nothing.
use Rattle.std.specs.Prelude.{ℕ, zero, suc, ◌≤◌, ◌≡◌, List, [], ◌∷◌, map, length, get_or, take}
use Rattle.meaning.specs.Model.{Model}
use Rattle.meaning.specs.Machine.State as M
use Rattle.meaning.specs.Zones.Proper.{Proper}
use Rattle.machine.specs.declared.Job.{Job}
use Rattle.machine.specs.declared.State.{State}

-- "a clock above 32,000"
abbrev pub clock_most : ℕ
clock_most = 32000

-- the job of a `Job`
abbrev pub job_of : Job → M.Job
job_of j = record { task = j.task; done = j.done; age = j.age }

-- and the `Job` of a job
abbrev pub cell_of : M.Job → Job
cell_of j = record { task = j.task; done = j.done; age = j.age }

-- the task of a `Job`
abbrev pub task_of : Job → ℕ
task_of j = j.task

-- the queue of the first n cells, head first
abbrev pub queue_of : List Job → ℕ → List M.Job
queue_of js n = map job_of (take n js)

-- the state that a `State` stands for: of its clocks those that the model has, of its jobs as many as it counts
abbrev pub state_of : Model → State → M.State
state_of m s = record { location = s.location; clocks = take m.clocks s.clocks; queue = queue_of s.jobs s.count }

-- what stands in an unused cell
abbrev pub no_job : Job
no_job = record { task = 0; done = 0; age = 0 }

-- n cells with the list in them, and d in those that are unused
abbrev pub padded : {A : Type 0} → A → ℕ → List A → List A
padded d zero l = []
padded d (suc n) [] = d ∷ padded d n []
padded d (suc n) (x ∷ l) = x ∷ padded d n l

-- the cells of a queue
abbrev pub cells_of : List M.Job → List Job
cells_of q = padded no_job 6 (map cell_of q)

-- the `State` that stands for a state: "unused cells 0"
abbrev pub held : M.State → State
held x = record { location = x.location; clocks = padded 0 4 x.clocks; jobs = cells_of x.queue; count = length x.queue }

-- the states that may be lent are those without refusal 13: "a state, queue or job that isn't proper (a task twice too), names what the model lacks,
-- or has a clock above 32,000", or an unused cell that is not 0
pub record Lendable (m : Model) (s : State) : Type 0 where
  pub proper : Proper m (state_of m s)
  pub location_low : 1 ≤ s.location
  pub location_high : s.location ≤ length m.locations
  pub clocks : (k : ℕ) → get_or s.clocks k 0 ≤ clock_most
  pub unused : s ≡ held (state_of m s)
