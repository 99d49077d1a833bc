-- The parts of a model's table, read where they stand. A number that names nothing reads 0.
-- Assumes nothing.
use Rattle.std.specs.Prelude.{ℕ, zero, suc, ◌+◌, ◌-◌, ◌*◌, ◌/◌, ◌%◌, Bool, false, ◌&&◌, List, ltb, get_or}
use Rattle.meaning.specs.Text.Choice.{pick}
use Rattle.meaning.specs.Text.Ranges.{tasks_most, locations_most, edges_most, clocks_most}
use Rattle.meaning.specs.Model.{Task, Limit, Bound, Edge}
use Rattle.meaning.specs.Text.ModelTable.{policy_slot, task_slot, location_slot, edge_slot, collect, lowered}

-- cell r of task n
unfoldable pub of_task : List ℕ → ℕ → ℕ → ℕ
of_task t zero r = 0
of_task t (suc k) r = pick (ltb k tasks_most) (get_or t (task_slot k + r) 0) 0

-- cell r of location n
unfoldable pub of_location : List ℕ → ℕ → ℕ → ℕ
of_location t zero r = 0
of_location t (suc k) r = pick (ltb k locations_most) (get_or t (location_slot k + r) 0) 0

-- cell r of edge n
unfoldable pub of_edge : List ℕ → ℕ → ℕ → ℕ
of_edge t zero r = 0
of_edge t (suc k) r = pick (ltb k edges_most) (get_or t (edge_slot k + r) 0) 0

-- the policy's number: "1 FPS, 2 EDF"; M-100: "PO may be 3"
abbrev pub policy_in : List ℕ → ℕ
policy_in t = get_or t policy_slot 0 - 1

-- C of task n
abbrev pub work_in : List ℕ → ℕ → ℕ
work_in t n = of_task t n 0 - 1

-- D of task n
abbrev pub deadline_in : List ℕ → ℕ → ℕ
deadline_in t n = of_task t n 1 - 1

-- the priority of task n
abbrev pub priority_in : List ℕ → ℕ → ℕ
priority_in t n = of_task t n 2 - 1

-- the task of location l, or 0
abbrev pub released_in : List ℕ → ℕ → ℕ
released_in t l = of_location t l 0 - 1

-- the limit of clock k at location l and 1; 0: there is none
unfoldable pub limit_in : List ℕ → ℕ → ℕ → ℕ
limit_in t l zero = 0
limit_in t l (suc k) = pick (ltb k clocks_most) (of_location t l (suc k)) 0

-- the location that edge e leaves
abbrev pub from_in : List ℕ → ℕ → ℕ
from_in t e = of_edge t e 0 - 1

-- the location that edge e enters
abbrev pub to_in : List ℕ → ℕ → ℕ
to_in t e = of_edge t e 1 - 1

-- c of the bound of i minus j in the guard of edge e, 10,000 and 1; 0: there is none
unfoldable pub bound_in : List ℕ → ℕ → ℕ → ℕ → ℕ
bound_in t e i j = pick (ltb i 5 && ltb j 5) (of_edge t e (2 + 5 * i + j)) 0

-- is clock k reset by edge e?
unfoldable pub reset_in : List ℕ → ℕ → ℕ → Bool
reset_in t e zero = false
reset_in t e (suc k) = pick (ltb k clocks_most) (ltb 0 (of_edge t e (27 + k))) false

-- ---- the model's parts, put together from these numbers

-- task n
abbrev pub task_of : List ℕ → ℕ → Task
task_of t n = record { C = work_in t n; D = deadline_in t n; prio = priority_in t n }

-- the limits of location l, in the order of their clocks
abbrev pub limits_of : List ℕ → ℕ → List Limit
limits_of t l = collect 4 (λ x. ltb 0 (limit_in t l (1 + x))) (λ x. record { clock = 1 + x; most = limit_in t l (1 + x) - 1 })

-- the guard of edge e, row by row
abbrev pub guard_of : List ℕ → ℕ → List Bound
guard_of t e = collect 25 (λ x. ltb 0 (bound_in t e (x / 5) (x % 5))) (λ x. record { i = x / 5; j = x % 5; c = lowered (bound_in t e (x / 5) (x % 5) - 1) })

-- the resets of edge e
abbrev pub resets_of : List ℕ → ℕ → List ℕ
resets_of t e = collect 4 (λ x. reset_in t e (1 + x)) (λ x. 1 + x)

-- edge e
abbrev pub edge_of : List ℕ → ℕ → Edge
edge_of t e = record { from = from_in t e; to = to_in t e; guard = guard_of t e; resets = resets_of t e }
