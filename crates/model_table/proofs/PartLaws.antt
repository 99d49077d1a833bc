-- The parts of a right table are those of the model that it holds, and its numbers are small.
-- Assumes nothing.
use Prim.Native.Nat.{ℕ, zero, suc, ◌+◌, ◌-◌, ◌*◌, ◌≤◌, ◌<◌}
use mathlib.Core.Path.{◌≡◌, refl, sym, ap}
use mathlib.Core.List.{List}
use mathlib.Core.Option.{none, some}
use native.Mathlib.Omega.{arith}
use lib.ListN.{length, get_or}
use Rattle.meaning.specs.Lists.{nth1}
use Rattle.meaning.specs.Model.{Task, no_task, task_at, location_at}
use Rattle.meaning.specs.Text.ModelTable.{decode, count, clocks, tasks, locations, edges}
use Rattle.meaning.specs.Text.ModelText.{policy_number}
use Rattle.meaning.proofs.Text.Choices.{by_lt}
use Rattle.meaning.proofs.Text.Keyed.{by_nth, each_nth}
use Rattle.meaning.proofs.Text.ModelLaws.{edges_le}
use Rattle.model_table.specs.Right.{RightTable}
use Rattle.model_table.specs.Parts.{of_edge, policy_in, work_in, deadline_in, priority_in, released_in, from_in, bound_in, limits_of, edge_of}
use Rattle.model_table.proofs.CellLaws.{edge_zero, edge_out, edge_in}
use Rattle.model_table.proofs.CountLaws.{count_there, count_more, count_full}
use Rattle.model_table.proofs.GivenLaws.{get_d_some, get_d_none}

-- the first cell of an edge by its number
first_cell : (t : List ℕ) (k : ℕ) → k < 32 → of_edge t (suc k) 0 ≡ get_or t (100 + 31 * k) 0
first_cell t k h = let z : 100 + 31 * (suc k - 1) + 0 ≡ 100 + 31 * k = omega arith in rw z at (edge_in t (suc k) 0 (omega arith) (omega arith))

edges_count : (t : List ℕ) → edges t ≡ count t 100 31 32
unfolding edges
edges_count t = refl

module _ (t : List ℕ) (g : RightTable t) where
  pub policy_is : policy_in t ≡ policy_number (decode t).policy
  policy_is = g.policy

  pub clocks_is : clocks t ≡ (decode t).clocks
  unfolding decode
  clocks_is = refl

  pub tasks_is : tasks t ≡ length (decode t).tasks
  tasks_is = g.task_count

  pub locations_is : locations t ≡ length (decode t).locations
  locations_is = g.location_count

  pub edges_is : edges t ≡ length (decode t).edges
  edges_is = g.edge_count

  pub work_is : (n : ℕ) → work_in t n ≡ (task_at (decode t) n).C
  work_is n = ap (λ (x : Task). x.C) (sym (g.task n))

  pub deadline_is : (n : ℕ) → deadline_in t n ≡ (task_at (decode t) n).D
  deadline_is n = ap (λ (x : Task). x.D) (sym (g.task n))

  pub priority_is : (n : ℕ) → priority_in t n ≡ (task_at (decode t) n).prio
  priority_is n = ap (λ (x : Task). x.prio) (sym (g.task n))

  pub released_is : (l : ℕ) → released_in t l ≡ (location_at (decode t) l).task
  released_is l = (g.location l).0

  pub limits_is : (l : ℕ) → limits_of t l ≡ (location_at (decode t) l).limits
  limits_is l = (g.location l).1

  -- an edge of the model
  pub edge_is : (n : ℕ) → 1 ≤ n → n ≤ edges t → nth1 (decode t).edges n ≡ some (edge_of t n)
  edge_is = g.edge

  -- and a number that names none
  pub edge_no : (n : ℕ) → (1 ≤ n → edges t < n) → nth1 (decode t).edges n ≡ none
  edge_no = g.no_edge

  pub bound_small : (e i j : ℕ) → bound_in t e i j ≤ 20001
  bound_small = g.bound

  task_small : (n : ℕ) → ((task_at (decode t) n).C ≤ (task_at (decode t) n).D) × ((task_at (decode t) n).D ≤ 10000)
  task_small zero = (omega arith, omega arith)
  task_small (suc k) =
      by_nth (decode t).tasks k
      (λ x e. let r = each_nth _ (decode t).tasks k x g.right.tasks e in rw (get_d_some (decode t).tasks k no_task x e) (r.enough, r.high))
      (λ e. rw (get_d_none (decode t).tasks k no_task e) (omega arith, omega arith))

  pub work_small : (n : ℕ) → work_in t n ≤ 10000
  work_small n = let a = work_is n in let b = task_small n in omega arith

  pub deadline_small : (n : ℕ) → deadline_in t n ≤ 10000
  deadline_small n = let a = deadline_is n in let b = task_small n in omega arith

  -- an edge leaves a location, and locations are numbered from 1
  from_there : (n : ℕ) → 1 ≤ n → n ≤ edges t → 0 < from_in t n
  from_there zero a b = absurd (omega arith)
  from_there (suc k) a b =
      let low : 1 ≤ from_in t (suc k) = (each_nth _ (decode t).edges k (edge_of t (suc k)) g.right.edges (g.edge (suc k) a b)).from_low in
      omega arith

  cell_there : (x : ℕ) → x < edges t → 0 < get_or t (100 + 31 * x) 0
  cell_there x h =
      let m = edges_le t in
      let c = first_cell t x (omega arith) in
      let f = from_there (suc x) (omega arith) (omega arith) in
      omega arith

  -- one more would be counted
  no_more : (k : ℕ) → k < 32 → edges t ≤ k → 0 < get_or t (100 + 31 * k) 0 → ⊥
  no_more k h l f =
      let a = count_full t 100 31 (edges t) cell_there in
      let b = count_more t 100 31 (edges t) k l in
      let c = count_there t 100 31 k f in
      let d = count_more t 100 31 (k + 1) 32 (omega arith) in
      let e = edges_count t in
      omega arith

  from_named : (n : ℕ) → 0 < from_in t n → (1 ≤ n) × (n ≤ edges t)
  from_named zero h = let z = edge_zero t 0 0 refl in absurd (omega arith)
  from_named (suc k) h =
      by_lt (edges t) (suc k)
      (λ l.
      by_lt k 32
      (λ s. let c = first_cell t k s in absurd (no_more k s (omega arith) (omega arith)))
      (λ s. let z = edge_out t (suc k) 0 (omega arith) in absurd (omega arith)))
      (λ l. (omega arith, l))

  -- a number names an edge exactly if it leaves a location
  pub edge_from : (n : ℕ) → 0 < from_in t n → nth1 (decode t).edges n ≡ some (edge_of t n)
  edge_from n h = let r = from_named n h in g.edge n r.0 r.1

  pub edge_from_no : (n : ℕ) → from_in t n ≤ 0 → nth1 (decode t).edges n ≡ none
  edge_from_no n h = g.no_edge n (λ a. by_lt (edges t) n (λ l. l) (λ l. let f = from_there n a l in absurd (omega arith)))
