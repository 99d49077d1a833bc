-- 000's delays, of whole ticks: the queue after it was executed for so long, the clocks, the limits; and ticks one after the other.
-- Assumes nothing.
use Rattle.std.specs.Prelude.{Bool, cond, ℕ, zero, suc, ◌+◌, ◌-◌, ◌<◌, leb}
use mathlib.Core.List.{List, [], ◌∷◌, map, Memᴰ}
use Rattle.meaning.specs.Lists.{every}
use Rattle.meaning.specs.Model.{Model, task_at, location_at}
use Rattle.meaning.specs.Machine.State.{Job, State}
use Rattle.meaning.specs.Machine.Tick.{limit_test, tick_to}

-- 000: "t_i(c_i, d_i)": the computing time that the job still owes
abbrev pub owed : Model → Job → ℕ
owed m j = (task_at m j.task).C - j.done

-- 000: "delays in locations correspond to the execution of tasks": the job, executed for d ticks
abbrev pub executed : ℕ → Job → Job
executed d j = record { task = j.task; done = j.done + d; age = j.age }

-- 000: "Run(q, δ) is a function that returns the ready queue after it was executed for δ time units": the work of d ticks, head first
abbrev pub works_off : Model → ℕ → List Job → List Job
works_off m d [] = []
works_off m d (j ∷ q) = cond (leb (owed m j) d) (works_off m (d - owed m j) q) (executed d j ∷ q)

-- 000: "the time left until the absolute deadline" is less by d: the job, d ticks older
abbrev pub aged : ℕ → Job → Job
aged d j = record { task = j.task; done = j.done; age = j.age + d }

-- 000: "Run(q, δ)"
abbrev pub ran_for : Model → ℕ → List Job → List Job
ran_for m d q = map (aged d) (works_off m d q)

-- 000: "u ⊕ δ is the result of adding δ ∈ ℝ≥0 to all clock values in u"
abbrev pub clocks_plus : ℕ → List ℕ → List ℕ
clocks_plus d cs = map (λ (c : ℕ). c + d) cs

-- 000, Definition 2: "⟨l, u, q⟩ →δ ⟨l, u ⊕ δ, Run(q, δ)⟩"
abbrev pub delayed : Model → ℕ → State → State
delayed m d s = record { location = s.location; clocks = clocks_plus d s.clocks; queue = ran_for m d s.queue }

-- 000, Definition 2: "if (u ⊕ δ) ⊨ I(l)"
abbrev pub delay_allowed : Model → ℕ → State → Bool
delay_allowed m d s = every (limit_test (clocks_plus d s.clocks)) (location_at m s.location).limits

-- 000: "a sequence of delay and action transitions": n ticks one after the other
abbrev pub ticks : Model → ℕ → State → State
ticks m zero s = s
ticks m (suc n) s = tick_to m (ticks m n s)

-- 000: "c_i > 0": every job of the queue owes work
abbrev pub Owing : Model → List Job → Type 0
Owing m q = (j : Job) → Memᴰ j q → j.done < (task_at m j.task).C
