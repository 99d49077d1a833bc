-- A zone's step as a matrix and a plan, and what is found in them: the first late position, and the smallest states.
-- Assumes nothing.
use Rattle.std.specs.Prelude.{◌≡◌, List, ℕ, suc, ◌≤◌, ◌<◌, ℤ, length, Option, None, Some}
use Rattle.meaning.specs.Model.{Model}
use Rattle.meaning.specs.Zones.Variables.{variables}
use Rattle.meaning.specs.Zones.Zone.{Zone}
use Rattle.meaning.specs.Zones.Steps.{Step}
use Rattle.meaning.specs.Zones.Reached.{home_of_zone}
use Rattle.meaning.specs.Inner.Slots.{RangedZone}
use Rattle.meaning.specs.Inner.Sources.{source_bounds, Source, home_at, moved_state}
use Rattle.meaning.specs.Inner.Smallest.{Lowest, ApartBefore, LateBefore}
use Rattle.machine.specs.declared.State.{State}
use Rattle.machine.specs.Stands.{held}
use Rattle.zone_bounds.specs.Narrowed.{Narrowed}
use Rattle.step_reach.specs.declared.plan.Plan.{Plan}
use Rattle.step_reach.specs.Plans.{Planned}

-- t has exactly the valuations of the states of z that take st, there is one, and p is the plan of the step
pub record Drawn (m : Model) (z : Zone) (st : Step) (t : List ℤ) (p : Plan) : Type 0 where
  pub ranged : RangedZone m z
  pub few : variables m z.order ≤ 17
  pub narrowed : Narrowed (source_bounds m z st) (Some t)
  pub planned : Planned m (home_of_zone z) st p

-- they are those of some zone and step
pub record DrawnBy (m : Model) (t : List ℤ) (p : Plan) : Type 0 where
  pub zone : Zone
  pub step : Step
  pub drawn : Drawn m zone step t p

-- and of a state in which variable i is at least c above variable j after the step
pub record ApartBy (m : Model) (t : List ℤ) (p : Plan) (i j : ℕ) (c : ℤ) : Type 0 where
  pub zone : Zone
  pub step : Step
  pub drawn : Drawn m zone step t p
  pub at : ℕ → ℕ
  pub source : Source m zone step at
  pub apart : ApartBefore m zone step i j c at

-- r is the smallest state that the step shows
pub record SmallestIs (m : Model) (z : Zone) (st : Step) (r : State) : Type 0 where
  pub at : ℕ → ℕ
  pub lowest : Lowest (variables m z.order) (Source m z st) at
  pub is : r ≡ held (moved_state m z st at)

-- r is the smallest of those in which variable i is at least c above variable j
pub record SmallestApart (m : Model) (z : Zone) (st : Step) (i j : ℕ) (c : ℤ) (r : State) : Type 0 where
  pub at : ℕ → ℕ
  pub lowest : Lowest (variables m z.order) (λ (y : ℕ → ℕ). Source m z st y × ApartBefore m z st i j c y) at
  pub is : r ≡ held (moved_state m z st at)

-- some state that the step shows has a job behind k others that comes to its D
abbrev pub LateAt : Model → Zone → Step → ℕ → Type 0
LateAt m z st k = (x : ℕ → ℕ) × Source m z st x × LateBefore m z st k x

-- r is the first such position, and k jobs stand ahead of it
pub record FirstAt (m : Model) (z : Zone) (st : Step) (r : ℕ) : Type 0 where
  pub k : ℕ
  pub is : r ≡ suc k
  pub few : k < length (home_at m z st).order
  pub before : (i : ℕ) → i < k → LateAt m z st i → ⊥
  pub here : LateAt m z st k

-- r is the first position after the step at which some job comes to its D; none where none does
abbrev pub FirstLate : Model → Zone → Step → Option ℕ → Type 0
FirstLate m z st None = (k : ℕ) → k < length (home_at m z st).order → LateAt m z st k → ⊥
FirstLate m z st (Some r) = FirstAt m z st r
