-- What the inner functions find of one obligation, and of the obligations of one zone.
-- Assumes nothing.
use Rattle.std.specs.Prelude.{◌≡◌, ℕ, ◌+◌, ◌≤◌, ◌<◌, List, ℤ, length, Option, None, Some, Result, Ok, Err}
use Rattle.std.proofs.Math.Option as math
use Rattle.meaning.specs.Lists.{nth1}
use Rattle.meaning.specs.Model.{Model}
use Rattle.meaning.specs.Machine.State as M
use Rattle.meaning.specs.Zones.Zone.{Zone, Proposal}
use Rattle.meaning.specs.Zones.Steps.{Step, steps}
use Rattle.meaning.specs.Zones.Reached.{home_of_zone}
use Rattle.meaning.specs.Check.Faults.{Fails}
use Rattle.meaning.specs.Check.Obligations.{Obligation, follows, claimed, Holds}
use Rattle.meaning.specs.Inner.Slots.{zone_bounds, RangedZone}
use Rattle.home.specs.declared.Home.{Home}
use Rattle.home.specs.Stands.{home_of, RightHome}
use Rattle.zone_bounds.specs.Narrowed.{Narrowed}
use Rattle.machine.specs.Stands.{held}
use Rattle.verdict.specs.declared.answer.Found.{Found}
use Rattle.verdict.specs.declared.answer.Failure.{Failure}
use Rattle.verdict.specs.Answers.{fault_of}

-- the obligation of a step with its claim
abbrev pub following : ℕ → ℕ → Zone → Step → ℕ → Obligation
following n x z st c = follows (record { number = n; place = x; zone = z; step = st; claim = c })

-- t is the matrix of zone z, if it has a state; z has this location and queue order
pub record ClosedOf (m : Model) (z : Zone) (h : Home) (t : Option (List ℤ)) : Type 0 where
  pub right : RightHome m h
  pub home : home_of h ≡ home_of_zone z
  pub ranged : RangedZone m z
  pub narrowed : Narrowed (zone_bounds m z) t

-- it is that of some zone
pub record ClosedBy (m : Model) (h : Home) (t : Option (List ℤ)) : Type 0 where
  pub zone : Zone
  pub closed : ClosedOf m zone h t

-- f says how the obligation o fails, with the smallest state at fault
pub record FailsSo (m : Model) (p : Proposal) (o : Obligation) (f : Found) : Type 0 where
  pub state : M.State
  pub fails : Fails m p o (fault_of f.fault) state
  pub says : f.state ≡ held state

-- r says of the obligation o that it holds, or how it fails
abbrev pub Judged : Model → Proposal → Obligation → Option Found → Type 0
Judged m p o None = Holds m p o
Judged m p o (Some f) = FailsSo m p o f

-- the obligation o stands at place x of those of zone number n, which is z
abbrev pub AtPlace : Model → ℕ → Zone → ℕ → Obligation → Type 0
AtPlace m n z x o = nth1 (claimed n z 1 (steps m z) z.claims) x ≡ math.some o

-- those before place x hold
abbrev pub HoldBefore : Model → Proposal → ℕ → Zone → ℕ → Type 0
HoldBefore m p n z x = (i : ℕ) → i < x → (o : Obligation) → AtPlace m n z i o → Holds m p o

-- the obligation at place x of zone n, `before` others before the zone's, is the first that fails
pub record FailsIn (m : Model) (p : Proposal) (n : ℕ) (z : Zone) (before : ℕ) (r : Failure) : Type 0 where
  pub obligation : Obligation
  pub here : AtPlace m n z r.place obligation
  pub hold : HoldBefore m p n z r.place
  pub number : r.number ≡ before + r.place
  pub zone : r.zone ≡ n
  pub fails : FailsSo m p obligation (record { fault = r.fault; state = r.state })

-- all obligations of zone n hold, and r are tried then, `before` others before them
pub record AllHold (m : Model) (p : Proposal) (n : ℕ) (z : Zone) (before r : ℕ) : Type 0 where
  pub hold : (x : ℕ) (o : Obligation) → AtPlace m n z x o → Holds m p o
  pub number : r ≡ before + length (steps m z)

-- all obligations of zone n hold, and they are r, no more than the claims that a proposal may have
pub record OwnHold (m : Model) (p : Proposal) (n : ℕ) (z : Zone) (r : ℕ) : Type 0 where
  pub hold : (x : ℕ) (o : Obligation) → AtPlace m n z x o → Holds m p o
  pub number : r ≡ length (steps m z)
  pub few : r ≤ 32767

-- r says of the obligations of zone n, `before` others before them, that all hold and how many they are; or the first that fails
abbrev pub ZoneTried : Model → Proposal → ℕ → Zone → ℕ → Result ℕ Failure → Type 0
ZoneTried m p n z before (Ok r) = OwnHold m p n z r
ZoneTried m p n z before (Err r) = FailsIn m p n z before r
