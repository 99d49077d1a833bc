-- What inner functions ask of a model's table: serves their contracts and need not be believed.
-- Assumes nothing.
use Rattle.std.specs.Prelude.{ℕ, ◌≤◌, ◌<◌, ◌≡◌, List, length}
use Rattle.std.proofs.Math.Option.{none, some}
use Rattle.meaning.specs.Lists.{nth1}
use Rattle.meaning.specs.Model.{task_at, location_at}
use Rattle.meaning.specs.Text.RightModel.{RightModel}
use Rattle.meaning.specs.Text.ModelTable.{decode, tasks, locations, edges}
use Rattle.meaning.specs.Text.ModelText.{policy_number}
use Rattle.model_table.specs.Parts.{policy_in, released_in, bound_in, task_of, limits_of, edge_of}

-- the table holds a model that is right: its ranges, and its parts where they are read. That a text gives the table is not asked
pub record RightTable (t : List ℕ) : Type 0 where
  pub right : RightModel (decode t)
  pub policy : policy_in t ≡ policy_number (decode t).policy
  pub task_count : tasks t ≡ length (decode t).tasks
  pub location_count : locations t ≡ length (decode t).locations
  pub edge_count : edges t ≡ length (decode t).edges
  pub task : (n : ℕ) → task_at (decode t) n ≡ task_of t n
  pub location : (l : ℕ) → (released_in t l ≡ (location_at (decode t) l).task) × (limits_of t l ≡ (location_at (decode t) l).limits)
  pub edge : (n : ℕ) → 1 ≤ n → n ≤ edges t → nth1 (decode t).edges n ≡ some (edge_of t n)
  pub no_edge : (n : ℕ) → (1 ≤ n → edges t < n) → nth1 (decode t).edges n ≡ none
  pub bound : (e i j : ℕ) → bound_in t e i j ≤ 20001
