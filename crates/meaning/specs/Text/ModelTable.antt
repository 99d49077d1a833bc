-- The model's table: where in it a model's parts stand, the model that it holds, and the table of a model.
--
-- The table is a list of 1,092 cells in the order of the text. A cell is 0 where nothing is there; else it holds a number of the text and 1 (c of
-- GU: the number, 10,000 and 1).
--   0             policy
--   1             clocks
--   2 + 3 t       task t + 1: C, D, priority                        t from 0 to 5
--   20 + 5 l      location l + 1: its task                          l from 0 to 15
--   20 + 5 l + k  the limit of its clock k                          k from 1 to 4
--   100 + 31 e    edge e + 1: from, to                              e from 0 to 31
--     + 2 + 5 i + j   c of the guard's bound of i minus j           i and j from 0 to 4
--     + 26 + k        reset of clock k: k                           k from 1 to 4
-- Assumes nothing.
use Rattle.std.specs.Prelude.{ℕ, zero, suc, ◌+◌, ◌-◌, ◌*◌, ◌/◌, ◌%◌, List, [], ◌∷◌, ◌++◌, Bool, ltb, eqb, ℤ, get_or}
use Rattle.std.proofs.Math.Option.{Option, none, some}
use Rattle.std.proofs.Math.ListN.{get_elem?}
use Rattle.meaning.specs.Model.{Task, Limit, Bound, Location, Edge, Model}
use Rattle.meaning.specs.Text.Choice.{pick}
use Rattle.meaning.specs.Text.Ranges.{time_most, tasks_most, locations_most, edges_most}
use Rattle.meaning.specs.Text.Lines.{lowered_by}
use Rattle.meaning.specs.Text.ModelText.{policy_number, policy_of, raised}

-- "its full size"
abbrev pub size : ℕ
size = 1092

-- ---- where a record's first cell stands: its slot

abbrev pub policy_slot : ℕ
policy_slot = 0

abbrev pub clocks_slot : ℕ
clocks_slot = 1

abbrev pub task_slot : ℕ → ℕ
task_slot t = 2 + 3 * t

abbrev pub location_slot : ℕ → ℕ
location_slot l = 20 + 5 * l

abbrev pub edge_slot : ℕ → ℕ
edge_slot e = 100 + 31 * e

-- ---- what a table has

-- is something in the cell?
abbrev pub there : List ℕ → ℕ → Bool
there t k = ltb 0 (get_or t k 0)

-- how many of the n cells from `at` on, each `step` after the one before, have something in them
unfoldable pub count : List ℕ → ℕ → ℕ → ℕ → ℕ
count t at step zero = 0
count t at step (suc n) = count t at step n + pick (there t (at + step * n)) 1 0

-- "clocks, 0 to 4"
abbrev pub clocks : List ℕ → ℕ
clocks t = get_or t clocks_slot 0 - 1

-- how many tasks
unfoldable pub tasks : List ℕ → ℕ
tasks t = count t 2 3 tasks_most

-- how many locations
unfoldable pub locations : List ℕ → ℕ
locations t = count t 20 5 locations_most

-- how many edges
unfoldable pub edges : List ℕ → ℕ
edges t = count t 100 31 edges_most

-- ---- the model that a table holds

-- f of each of the numbers below n for which p holds, in rising order
unfoldable pub collect : {A : Type 0} → ℕ → (ℕ → Bool) → (ℕ → A) → List A
collect zero p f = []
collect (suc n) p f = collect n p f ++ pick (p n) (f n ∷ []) []

-- c of GU from what is kept of it: 10,000 less
unfoldable pub lowered : ℕ → ℤ
lowered v = lowered_by time_most v

module _ (t : List ℕ) where
  -- the task whose slot is k
  unfoldable pub task_in : ℕ → Task
  task_in k = record { C = get_or t k 0 - 1; D = get_or t (k + 1) 0 - 1; prio = get_or t (k + 2) 0 - 1 }

  -- the limits of the location whose slot is k
  unfoldable pub limits_in : ℕ → List Limit
  limits_in k = collect 4 (λ x. there t (k + 1 + x)) (λ x. record { clock = 1 + x; most = get_or t (k + 1 + x) 0 - 1 })

  -- the location whose slot is k
  unfoldable pub location_in : ℕ → Location
  location_in k = record { task = get_or t k 0 - 1; limits = limits_in k }

  -- the guard of the edge whose slot is k
  unfoldable pub guard_in : ℕ → List Bound
  guard_in k = collect 25 (λ x. there t (k + 2 + x)) (λ x. record { i = x / 5; j = x % 5; c = lowered (get_or t (k + 2 + x) 0 - 1) })

  -- the resets of the edge whose slot is k
  unfoldable pub resets_in : ℕ → List ℕ
  resets_in k = collect 4 (λ x. there t (k + 27 + x)) (λ x. 1 + x)

  -- the edge whose slot is k
  unfoldable pub edge_in : ℕ → Edge
  edge_in k = record { from = get_or t k 0 - 1; to = get_or t (k + 1) 0 - 1; guard = guard_in k; resets = resets_in k }

  -- what the table stands for
  unfoldable pub decode : Model
  decode = record {
    policy = policy_of (get_or t policy_slot 0 - 1);
    clocks = clocks t;
    tasks = collect tasks_most (λ x. there t (task_slot x)) (λ x. task_in (task_slot x));
    locations = collect locations_most (λ x. there t (location_slot x)) (λ x. location_in (location_slot x));
    edges = collect edges_most (λ x. there t (edge_slot x)) (λ x. edge_in (edge_slot x));
  }

-- ---- the table of a model

-- cell r of a task
unfoldable pub task_cell : Option Task → ℕ → ℕ
task_cell none r = 0
task_cell (some x) r = pick (eqb r 0) (suc x.C) (pick (eqb r 1) (suc x.D) (suc x.prio))

-- the cell of key k: 1 more than the number of the one in the list that has this key; 0 where none has it
unfoldable pub keyed : {A : Type 0} → (A → ℕ) → (A → ℕ) → List A → ℕ → ℕ
keyed key val [] k = 0
keyed key val (x ∷ xs) k = pick (eqb (key x) k) (suc (val x)) (keyed key val xs k)

-- cell r of a location
unfoldable pub location_cell : Option Location → ℕ → ℕ
location_cell none r = 0
location_cell (some x) r = pick (eqb r 0) (suc x.task) (keyed (λ (y : Limit). y.clock) (λ (y : Limit). y.most) x.limits r)

-- cell r of an edge
unfoldable pub edge_cell : Option Edge → ℕ → ℕ
edge_cell none r = 0
edge_cell (some x) r =
    pick (eqb r 0) (suc x.from) (pick (eqb r 1) (suc x.to)
    (pick (ltb r 27) (keyed (λ (y : Bound). 5 * y.i + y.j) (λ (y : Bound). raised y.c) x.guard (r - 2))
    (keyed (λ (y : ℕ). y) (λ (y : ℕ). y) x.resets (r - 26))))

-- cell k of the table of a model
unfoldable pub cell : Model → ℕ → ℕ
cell m k =
    pick (ltb k 1) (suc (policy_number m.policy)) (pick (ltb k 2) (suc m.clocks)
    (pick (ltb k 20) (task_cell (get_elem? m.tasks ((k - 2) / 3)) ((k - 2) % 3))
    (pick (ltb k 100) (location_cell (get_elem? m.locations ((k - 20) / 5)) ((k - 20) % 5))
    (edge_cell (get_elem? m.edges ((k - 100) / 31)) ((k - 100) % 31)))))

-- f 0, f 1, .., n of them
unfoldable pub tabulate : ℕ → (ℕ → ℕ) → List ℕ
tabulate zero f = []
tabulate (suc n) f = f 0 ∷ tabulate n (λ k. f (suc k))

-- the table of a model
unfoldable pub encode : Model → List ℕ
encode m = tabulate size (cell m)
