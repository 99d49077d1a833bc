-- The right answer of a model and a proposal, as the code says it: for an inner contract, not for a reader to believe.
-- Assumes nothing.
use Rattle.std.specs.Prelude.{ℕ, Result, Ok, Err}
use Rattle.meaning.specs.Model.{Model}
use Rattle.meaning.specs.Zones.Zone.{Proposal}
use Rattle.meaning.specs.Check.Answer as A
use Rattle.verdict.specs.declared.answer.Failure.{Failure}
use Rattle.verdict.specs.declared.answer.Verdict.{Verdict}
use Rattle.verdict.specs.declared.answer.Verdict.TheVariants.{Accepted, Failed}
use Rattle.verdict.specs.Answers.{Says}

-- r says an answer that is right of the model and the proposal
pub record AnsweredBy (m : Model) (p : Proposal) (r : Verdict) : Type 0 where
  pub answer : A.Answer
  pub right : A.Right m p answer
  pub says : Says answer r

-- how many obligations were tried, or the first that fails, as an answer
abbrev pub verdict_of : Result ℕ Failure → Verdict
verdict_of (Ok n) = Accepted n
verdict_of (Err x) = Failed x
