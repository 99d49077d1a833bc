-- The bounds of the states of a location and queue order that take a step.
-- Assumes nothing.
use Rattle.std.specs.Prelude.{List, [], ◌∷◌, ◌++◌, ℕ, suc, ◌≤◌, ◌<◌}
use Rattle.std.proofs.Math.Option.{Option, none, some}
use Rattle.std.proofs.Math.IntN.{sub_ℕ}
use Rattle.meaning.specs.Lists.{nth1}
use Rattle.meaning.specs.Model.{Limit, Bound, Edge, Model, task_at, location_at, leaves_at, released}
use Rattle.meaning.specs.Zones.Steps.{Step, go_on, finish, by_edge}
use Rattle.meaning.specs.Zones.Reached.{Home}
use Rattle.meaning.specs.Inner.Bounds.{bound, Ranged, impossible, only_if}
use Rattle.meaning.specs.Inner.Slots.{Slot, slots_of}
use Rattle.meaning.specs.Inner.Places.{release_bounds}

-- the clocks after the tick are within the limits
abbrev pub limit_bounds : List Limit → List Bound
limit_bounds [] = []
limit_bounds (l ∷ ls) = bound l.clock 0 (sub_ℕ l.most 1) ∷ limit_bounds ls

-- the head's running sum is its done: at most C − 2, or none at all
abbrev pub head_goes_on : Model → List Slot → List Bound
head_goes_on m [] = []
head_goes_on m (s ∷ ss) = bound s.sum 0 (sub_ℕ (task_at m s.task).C 2) ∷ []

-- at least C − 1
abbrev pub head_finishes : Model → List Slot → List Bound
head_finishes m [] = impossible ∷ []
head_finishes m (s ∷ ss) = bound 0 s.sum (sub_ℕ 1 (task_at m s.task).C) ∷ []

-- the edge is taken, and its release takes the positions ps
abbrev pub edge_bounds : Model → Home → List ℕ → Option Edge → List Bound
edge_bounds m h ps none = impossible ∷ []
edge_bounds m h ps (some e) = only_if (leaves_at e h.location) (e.guard ++ release_bounds m (released m e) ps h.order (slots_of m h.order))

-- the step is taken
abbrev pub step_bounds : Model → Home → Step → List Bound
step_bounds m h go_on = limit_bounds (location_at m h.location).limits ++ head_goes_on m (slots_of m h.order)
step_bounds m h finish = limit_bounds (location_at m h.location).limits ++ head_finishes m (slots_of m h.order)
step_bounds m h (by_edge k ps) = edge_bounds m h ps (nth1 m.edges k)

-- every limit speaks of one of n clocks
abbrev pub Clocked : ℕ → List Limit → Type 0
Clocked n [] = Unit {0}
Clocked n (l ∷ ls) = (0 < l.clock) × (l.clock ≤ n) × Clocked n ls

-- the edge's guard speaks of the first n variables
abbrev pub GuardRanged : ℕ → Option Edge → Type 0
GuardRanged n none = Unit {0}
GuardRanged n (some e) = Ranged n e.guard

-- limits and guards speak of the model's clocks: the reader of a model's text makes sure of it
pub record RangedModel (m : Model) : Type 0 where
  pub limits : (l : ℕ) → Clocked m.clocks (location_at m l).limits
  pub guards : (k : ℕ) → GuardRanged (suc m.clocks) (nth1 m.edges k)
