-- The valuations of the states of a zone that take a step, and where they lead.
-- Assumes nothing.
use Rattle.std.specs.Prelude.{◌≡◌, Bool, false, List, ◌++◌, ℕ, ◌<◌}
use Rattle.std.proofs.Math.Option.{Option, none, some}
use Rattle.meaning.specs.Lists.{nth1}
use Rattle.meaning.specs.Model.{Bound, Edge, Model, released}
use Rattle.meaning.specs.Machine.State.{State}
use Rattle.meaning.specs.Machine.Release.{overflows_any}
use Rattle.meaning.specs.Zones.Variables.{var, variables}
use Rattle.meaning.specs.Zones.Zone.{Zone}
use Rattle.meaning.specs.Zones.Steps.{Step, go_on, finish, by_edge}
use Rattle.meaning.specs.Zones.Reached.{Home, home_of_zone, home_after}
use Rattle.meaning.specs.Inner.Bounds.{Met}
use Rattle.meaning.specs.Inner.Slots.{state_of, zone_bounds}
use Rattle.meaning.specs.Inner.StepBounds.{step_bounds}
use Rattle.meaning.specs.Inner.Plans.{Plan, plan_of, from, off, Shifted, move}

-- the release of the edge overflows a queue of this order
abbrev pub edge_overflows : Model → Home → Option Edge → Bool
edge_overflows m h none = false
edge_overflows m h (some e) = overflows_any m (released m e) h.order

-- the step overflows it
abbrev pub step_overflows : Model → Home → Step → Bool
step_overflows m h go_on = false
step_overflows m h finish = false
step_overflows m h (by_edge k ps) = edge_overflows m h (nth1 m.edges k)

-- the bounds of the states of a zone that take a step
abbrev pub source_bounds : Model → Zone → Step → List Bound
source_bounds m z st = zone_bounds m z ++ step_bounds m (home_of_zone z) st

-- the valuations of these states
pub record Source (m : Model) (z : Zone) (st : Step) (x : ℕ → ℕ) : Type 0 where
  pub origin : x 0 ≡ 0
  pub met : Met x (source_bounds m z st)

-- the plan of a zone's step
abbrev pub plan_at : Model → Zone → Step → Plan
plan_at m z st = plan_of m (home_of_zone z) st

-- location and queue order after it
abbrev pub home_at : Model → Zone → Step → Home
home_at m z st = home_after m (home_of_zone z) st

-- v is the valuation x moved by the step's plan
abbrev pub Image : Model → Zone → Step → (ℕ → ℕ) → (ℕ → ℕ) → Type 0
Image m z st x v =
    (i : ℕ) → i < variables m (home_at m z st).order → Shifted (off m (plan_at m z st) i) (x (from m (plan_at m z st) i)) (v i)

-- the state of a valuation, moved by the step's plan
abbrev pub moved_state : Model → Zone → Step → (ℕ → ℕ) → State
moved_state m z st x = state_of m (home_at m z st) (move m (plan_at m z st) x)

-- x is the valuation of a state of the zone that takes the step, and the state t is x moved
pub record Leads (m : Model) (z : Zone) (st : Step) (x : ℕ → ℕ) (t : State) : Type 0 where
  pub source : Source m z st x
  pub is : t ≡ moved_state m z st x
  pub at : Image m z st x (var t)
