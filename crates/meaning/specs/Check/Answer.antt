-- The right answer of the check.
-- Assumes nothing.
use Rattle.std.specs.Prelude.{◌≡◌, ℕ, ◌<◌, length}
use Rattle.std.proofs.Math.Option.{some}
use Rattle.meaning.specs.Lists.{nth1}
use Rattle.meaning.specs.Model.{Model}
use Rattle.meaning.specs.Machine.State.{State}
use Rattle.meaning.specs.Zones.Zone.{Proposal}
use Rattle.meaning.specs.Check.Obligations.{Obligation, starts, follows, obligations, Holds, Accepts}
use Rattle.meaning.specs.Check.Faults.{Fault, Fails}

-- "the obligation's number, zone (1 for the start), place (0 for the start), kind", with the position or bound at fault, and the state
pub record Failure : Type 0 where
  pub number : ℕ
  pub zone : ℕ
  pub place : ℕ
  pub fault : Fault
  pub state : State

-- "`OK` and the number tried; or `NO`" and the failure
pub data Answer : Type 0 where
  accepted : ℕ → Answer
  failed : Failure → Answer

-- "zone (1 for the start)"
abbrev pub zone_number : Obligation → ℕ
zone_number starts = 1
zone_number (follows f) = f.number

-- "place (0 for the start)"
abbrev pub place_number : Obligation → ℕ
place_number starts = 0
place_number (follows f) = f.place

-- "the first is named, with the smallest breaking state": every obligation before it holds, and it fails so
pub record FailsAt (m : Model) (p : Proposal) (x : Failure) : Type 0 where
  pub obligation : Obligation
  pub listed : nth1 (obligations m p) x.number ≡ some obligation
  pub earlier : (i : ℕ) → i < x.number → (o : Obligation) → nth1 (obligations m p) i ≡ some o → Holds m p o
  pub fails : Fails m p obligation x.fault x.state
  pub zone : x.zone ≡ zone_number obligation
  pub place : x.place ≡ place_number obligation

-- "Acceptance returns the number of obligations tried, which is all of them."
abbrev pub Right : Model → Proposal → Answer → Type 0
Right m p (accepted n) = Accepts m p × (n ≡ length (obligations m p))
Right m p (failed x) = FailsAt m p x
