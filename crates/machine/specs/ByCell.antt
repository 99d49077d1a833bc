-- What the inner functions say of single cells: for their contracts, not for a reader to believe.
-- Assumes nothing.
use Rattle.std.specs.Prelude.{ℕ, suc, ◌+◌, ◌-◌, ◌≤◌, ◌≡◌, Bool, true, false, ◌&&◌, ◌||◌, List, ltb, leb, eqb, length, get_or, take, drop}
use Rattle.std.specs.List.{list_all}
use Rattle.model_table.specs.Parts.{policy_in, work_in, deadline_in, priority_in}
use Rattle.meaning.specs.Numbers.{within}
use Rattle.meaning.specs.Text.Choice.{pick}
use Rattle.meaning.specs.Text.ModelTable.{lowered}
use Rattle.meaning.specs.Text.Ranges.{time_most}
use Rattle.machine.specs.Stands.{clock_most, no_job}
use Rattle.machine.specs.declared.Job.{Job}

-- ---- clocks

-- no clock is above the end
pub record UpToEnd (cs : List ℕ) : Type 0 where
  pub each : (k : ℕ) → get_or cs k 0 ≤ clock_most

-- the limit's cell v, if anything is in it, is met by x
abbrev pub limit_met : ℕ → ℕ → Bool
limit_met v x = pick (ltb 0 v) (leb x (v - 1)) true

-- the bound's cell v, if anything is in it, is met by x minus y
abbrev pub bound_met : ℕ → ℕ → ℕ → Bool
bound_met v x y = pick (ltb 0 v) (within x y (lowered (v - 1))) true

-- none of the first n clocks is above the end, and those behind them, which the model lacks, are 0
abbrev pub clocks_right : List ℕ → ℕ → Bool
clocks_right cs n = list_all (λ (c : ℕ). leb c clock_most) (take n cs) && list_all (λ (c : ℕ). eqb c 0) (drop n cs)

-- ---- jobs

-- the job is not older, and has not more done, than any that is proper
pub record YoungJob (j : Job) : Type 0 where
  pub age : j.age ≤ time_most
  pub done : j.done ≤ time_most

-- six cells, and each job is so
pub record Young (js : List Job) : Type 0 where
  pub long : length js ≡ 6
  pub each : (k : ℕ) → YoungJob (get_or js k no_job)

-- a job one tick older
abbrev pub older_cell : Job → Job
older_cell j = record { task = j.task; done = j.done; age = suc j.age }

-- the head that goes on, with one tick more of work done
abbrev pub worked_cell : Job → Job
worked_cell j = record { task = j.task; done = suc j.done; age = suc j.age }

-- a new job of task n has fewer ticks left than the queued job j, by the table; at equality the larger number
unfoldable pub sooner_in : List ℕ → ℕ → Job → Bool
sooner_in t n j =
    ltb (deadline_in t n + j.age) (deadline_in t j.task) || (eqb (deadline_in t n + j.age) (deadline_in t j.task) && ltb j.task n)

-- it has less work than j still owes
unfoldable pub shorter_in : List ℕ → ℕ → Job → Bool
shorter_in t n j = ltb (work_in t n + j.done) (work_in t j.task)

-- it beats j
unfoldable pub beats_in : List ℕ → ℕ → Job → Bool
beats_in t n j =
    pick (eqb (policy_in t) 1) (ltb (priority_in t j.task) (priority_in t n)) (pick (eqb (policy_in t) 2) (sooner_in t n j) (shorter_in t n j))

-- the job has work and time left, by the table
abbrev pub timely : List ℕ → Job → Bool
timely t j = ltb j.done (work_in t j.task) && ltb j.age (deadline_in t j.task)

-- an unused cell
abbrev pub unused : Job → Bool
unused j = eqb j.task 0 && (eqb j.done 0 && eqb j.age 0)

-- the first n jobs have work and time left, and the cells behind them are unused
abbrev pub jobs_right : List ℕ → List Job → ℕ → Bool
jobs_right t js n = list_all (timely t) (take n js) && list_all unused (drop n js)

-- what a test says of a fact
abbrev pub Tells : Bool → Type 0 → Type 0
Tells true P = P
Tells false P = P → ⊥
