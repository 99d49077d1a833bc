-- What is said of the positions of new jobs, one after the other.
-- Assumes nothing.
use Rattle.std.specs.Prelude.{◌≡◌, Bool, true, false, List, ◌∷◌, map, ℕ, ◌-◌, ◌≤◌, ◌<◌, length, get_or}
use Rattle.std.proofs.Math.Option.{some}
use Rattle.std.proofs.Math.ListN.{get_elem?}
use Rattle.meaning.specs.Lists.{insert_at}
use Rattle.meaning.specs.Model.{Model}
use Rattle.meaning.specs.Machine.Place.{behind}
use Rattle.meaning.specs.Zones.Steps.{choices}
use Rattle.zone_list.specs.declared.choice.Ahead.{Ahead}
use Rattle.zone_list.specs.Steps.{aheads}

-- how many jobs are ahead at each of the positions: a position has one job fewer ahead of it
abbrev pub jobs_ahead : List ℕ → List ℕ
jobs_ahead ps = map (λ (p : ℕ). p - 1) ps

-- one position: of the choices of tasks t and ts in a queue of the tasks o, the one with n before it has so many jobs ahead of the first;
-- and it is the one with so few before it of those that begin so
pub record AheadIs (m : Model) (t : ℕ) (ts o : List ℕ) (n : ℕ) (r : Ahead) : Type 0 where
  pub low : behind m t o ≤ r.ahead
  pub high : r.ahead ≤ length o
  pub inside : r.rest < length (choices m ts (insert_at r.ahead t o))
  pub is : (ps : List ℕ) → get_elem? (choices m ts (insert_at r.ahead t o)) r.rest ≡ some ps → get_elem? (choices m (t ∷ ts) o) n ≡ some (r.ahead ∷ ps)

-- positions: the first k cells of r are numbered from 1, and unused cells are 0
pub record Numbered (k : ℕ) (r : List ℕ) : Type 0 where
  pub numbered : (i : ℕ) → i < k → 1 ≤ get_or r i 0
  pub unused : (i : ℕ) → k ≤ i → get_or r i 0 ≡ 0

-- of the choices of the tasks ts in a queue of the tasks o, r is the one with n before it
pub record ChoiceIs (m : Model) (ts o : List ℕ) (n : ℕ) (r : List ℕ) : Type 0 where
  pub form : Numbered (length ts) r
  pub is : get_elem? (choices m ts o) n ≡ some (aheads (length ts) r)

-- one cell of them, as it is used or not
abbrev pub CellIs : Bool → ℕ → Type 0
CellIs true p = 1 ≤ p
CellIs false p = p ≡ 0
