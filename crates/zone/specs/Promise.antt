-- What the zone's functions promise, on every table, location with a queue order, and state.
-- Assumes nothing.
use Rattle.std.specs.Prelude.{◌≡◌, ◌↔◌, ℕ, Result, MatchResult}
use mathlib.Core.List.{List, Memᴰ}
use Rattle.meaning.specs.Model.{Bound, Model}
use Rattle.meaning.specs.Machine.State as M
use Rattle.meaning.specs.Zones.Proper.{Proper}
use Rattle.meaning.specs.Zones.Zone as Z
use Rattle.meaning.specs.Zones.Reached.{home_of}
use Rattle.meaning.specs.Text.ModelReader.{Given}
use Rattle.meaning.specs.Text.ModelTable.{decode}
use Rattle.refusals.specs.declared.Reason.{Reason}
use Rattle.refusals.specs.declared.Reason.TheVariants.{NotProper}
use Rattle.home.specs.Stands as H
use Rattle.home.specs.Stands.{RightHome}
use Rattle.home.specs.declared.Home.{Home}
use Rattle.machine.specs.Stands.{state_of}
use Rattle.machine.specs.Promise.{UsableState}
use Rattle.machine.specs.declared.State.{State}
use Rattle.zone.specs.declared.Zone.{Zone}
use Rattle.zone.specs.Stands.{order_of, bounds_of, zone_of, Lendable}

-- ---- what may be asked for

-- the table is one that a text gives, and the location and queue order may be lent with it: any other is 13
pub record UsableHome (t : List ℕ) (h : Home) : Type 0 where
  pub given : Given t
  pub home : RightHome (decode t) h

-- ---- what is made

-- "the widest zone of a location and queue": it "has no bounds", and it holds exactly the proper states of that location and queue
pub record WidestZone (m : Model) (h : Home) (z : Zone) : Type 0 where
  pub lendable : Lendable m z
  pub is : zone_of z ≡ Z.widest h.location (H.order_of h)
  pub holds : (x : M.State) → Z.InZone m (zone_of z) x ↔ ((home_of x ≡ H.home_of h) × Proper m x)

-- "the zone that holds exactly one given state": it "has just both bounds of each clock and age against 0, and of each running sum
-- against the one ahead (the head's against 0)"
pub record ExactZone (m : Model) (s : M.State) (z : Zone) : Type 0 where
  pub lendable : Lendable m z
  pub location : z.home.location ≡ s.location
  pub order : order_of z ≡ M.order s.queue
  pub bounds : (b : Bound) → Memᴰ b (bounds_of z) ↔ Memᴰ b (Z.zone_of s).bounds
  pub holds : (x : M.State) → Z.InZone m (zone_of z) x ↔ (x ≡ s)

-- ---- the promises

-- "What isn't proper or names what the model lacks is refused with 13"; else the widest zone
abbrev pub MadeWidest : List ℕ → Home → Result Zone Reason → Type 0
MadeWidest t h r = MatchResult r (λ z. UsableHome t h × WidestZone (decode t) h z) (λ e. (UsableHome t h → ⊥) × (e ≡ NotProper))

-- the same for the zone of one state
abbrev pub MadeExact : List ℕ → State → Result Zone Reason → Type 0
MadeExact t s r = MatchResult r (λ z. UsableState t s × ExactZone (decode t) (state_of (decode t) s) z) (λ e. (UsableState t s → ⊥) × (e ≡ NotProper))
