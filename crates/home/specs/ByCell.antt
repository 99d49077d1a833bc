-- What the inner functions say of single numbers: for their contracts, not for a reader to believe.
-- Assumes nothing.
use Rattle.std.specs.Prelude.{◌≡◌, Bool, true, false, ◌&&◌, List, ℕ, ◌≤◌, ltb, leb, eqb, length, get_or, take}
use Rattle.std.specs.List.{list_all}
use Rattle.std.proofs.Math.Option.{none, some}
use Rattle.meaning.specs.Lists.{nth1}
use Rattle.meaning.specs.Model.{Model}
use Rattle.meaning.specs.Zones.Proper.{fits}
use Rattle.meaning.specs.Text.ModelTable.{decode}
use Rattle.meaning.specs.Text.RightModel.{Each}
use Rattle.model_table.specs.Parts.{edge_of}

-- r tells whether number k names an edge of the table t
pub record Named (t : List ℕ) (k : ℕ) (r : Bool) : Type 0 where
  pub yes : r ≡ true → nth1 (decode t).edges k ≡ some (edge_of t k)
  pub no : r ≡ false → nth1 (decode t).edges k ≡ none

-- t is one of n tasks
abbrev pub is_of : ℕ → ℕ → Bool
is_of n t = ltb 0 t && leb t n

-- each is
abbrev pub all_of : ℕ → List ℕ → Bool
all_of n o = list_all (is_of n) o

-- nothing but 0
abbrev pub all_zero : List ℕ → Bool
all_zero l = list_all (λ (x : ℕ). eqb x 0) l

-- the first n cells are the tasks of a queue that may be lent, whatever the location
pub record RightCells (m : Model) (ts : List ℕ) (n : ℕ) : Type 0 where
  pub tasks : Each (λ (t : ℕ). (1 ≤ t) × (t ≤ length m.tasks)) (take n ts)
  pub fit : fits m (take n ts) ≡ true
  pub unused : (k : ℕ) → n ≤ k → get_or ts k 0 ≡ 0
