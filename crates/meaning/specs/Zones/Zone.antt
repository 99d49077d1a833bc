-- Zones and the states that they hold.
-- Assumes nothing.
use Rattle.std.specs.Prelude.{◌≡◌, true, ℕ, suc, pos, neg_ℤ, length}
use mathlib.Core.List.{List, [], ◌∷◌, Memᴰ}
use Rattle.meaning.specs.Model.{Bound, Model}
use Rattle.meaning.specs.Machine.State.{Job, State, order}
use Rattle.meaning.specs.Machine.Edge.{bound_test}
use Rattle.meaning.specs.Zones.Variables.{vars}
use Rattle.meaning.specs.Zones.Proper.{Proper}

-- "A zone is a location, a queue order, and bounds"; GO: "the claims", one for each of its steps
pub record Zone : Type 0 where
  pub location : ℕ
  pub order : List ℕ
  pub bounds : List Bound
  pub claims : List ℕ

-- "Proposal: for each of 1 to 48 zones"
pub record Proposal : Type 0 where
  pub zones : List Zone

-- "A zone holds the proper states of its location and queue that meet its bounds."
pub record InZone (m : Model) (z : Zone) (s : State) : Type 0 where
  pub location : s.location ≡ z.location
  pub queue : order s.queue ≡ z.order
  pub proper : Proper m s
  pub bounds : (b : Bound) → Memᴰ b z.bounds → bound_test (vars s) b ≡ true

-- "the widest zone of a location and queue": "The first has no bounds."
abbrev pub widest : ℕ → List ℕ → Zone
widest l o = record { location = l; order = o; bounds = []; claims = [] }

-- "both bounds": variable i minus variable j is v
abbrev pub exactly : ℕ → ℕ → ℕ → List Bound → List Bound
exactly i j v bs = record { i = i; j = j; c = pos v } ∷ record { i = j; j = i; c = neg_ℤ (pos v) } ∷ bs

-- "of each clock .. against 0", from variable n on
abbrev pub clock_bounds : ℕ → List ℕ → List Bound → List Bound
clock_bounds n [] bs = bs
clock_bounds n (c ∷ cs) bs = exactly n 0 c (clock_bounds (suc n) cs bs)

-- "of each running sum against the one ahead (the head's against 0)", which is variable a, and of each age against 0, from variable n on
abbrev pub queue_bounds : ℕ → ℕ → List Job → List Bound
queue_bounds a n [] = []
queue_bounds a n (j ∷ js) = exactly n a j.done (exactly (suc n) 0 j.age (queue_bounds n (suc (suc n)) js))

-- "the zone that holds exactly one given state"
abbrev pub zone_of : State → Zone
zone_of s = record {
  location = s.location;
  order = order s.queue;
  bounds = clock_bounds 1 s.clocks (queue_bounds 0 (suc (length s.clocks)) s.queue);
  claims = [];
}
