-- What an `Answer` of the check says, and which answer is right.
-- Assumes nothing.
use Rattle.std.specs.Prelude.{◌≡◌, List, ℕ, Result, Ok, Err}
use Rattle.meaning.specs.Check.Faults as F
use Rattle.meaning.specs.Check.Answer as A
use Rattle.meaning.specs.Text.ModelReader.{Given}
use Rattle.meaning.specs.Text.ModelTable.{decode}
use Rattle.meaning.specs.Text.ProposalReader as reader
use Rattle.meaning.specs.Text.ProposalTable as table
use Rattle.refusals.specs.declared.Reason.{Reason}
use Rattle.refusals.specs.declared.Reason.TheVariants.{NotProper}
use Rattle.machine.specs.Stands.{held}
use Rattle.verdict.specs.declared.answer.Fault.{Fault}
use Rattle.verdict.specs.declared.answer.Fault.TheVariants.{Late, Over, Unclaimed, Elsewhere, Breaks}
use Rattle.verdict.specs.declared.answer.Failure.{Failure}
use Rattle.verdict.specs.declared.answer.Verdict.{Verdict}
use Rattle.verdict.specs.declared.answer.Verdict.TheVariants.{Accepted, Failed}

-- each case of the enum, by document 01's kind and its values: "1 a miss (the first position ..); 2 an overflow; 3 the claim is 0; 4 the claimed
-- zone has another location or queue order; 5 the claimed zone's bounds are broken (the first broken bound ..)"
abbrev pub fault_of : Fault → F.Fault
fault_of (Late k) = F.late_at k
fault_of Over = F.over
fault_of Unclaimed = F.unclaimed
fault_of Elsewhere = F.elsewhere
fault_of (Breaks i j) = F.breaks i j

-- "the obligation's number, zone (1 for the start), place (0 for the start), kind", the position or bound at fault, and the state: r says so
pub record SaysFailed (x : A.Failure) (r : Failure) : Type 0 where
  pub number : r.number ≡ x.number
  pub zone : r.zone ≡ x.zone
  pub place : r.place ≡ x.place
  pub fault : fault_of r.fault ≡ x.fault
  pub state : r.state ≡ held x.state

-- r says the answer a: "Acceptance returns the number of obligations tried", or it names the failure
abbrev pub Says : A.Answer → Verdict → Type 0
Says (A.accepted n) (Accepted k) = k ≡ n
Says (A.accepted n) (Failed r) = ⊥
Says (A.failed x) (Accepted k) = ⊥
Says (A.failed x) (Failed r) = SaysFailed x r

-- "13 tables that no text within 1 gives"
abbrev pub refused : Result Verdict Reason
refused = Err NotProper

-- both tables are such that a text gives them
pub record BothGiven (t u : List ℕ) : Type 0 where
  pub model : Given t
  pub proposal : reader.Given (decode t) u

-- the answer of the check: 13, or what is right of the model and the proposal that the tables hold
pub data Answered (t u : List ℕ) (r : Result Verdict Reason) : Type 0 where
  unusable : (BothGiven t u → ⊥) → r ≡ refused → Answered t u r
  right : BothGiven t u → (a : A.Answer) → A.Right (decode t) (table.decode u) a → (v : Verdict) → Says a v → r ≡ Ok v → Answered t u r
