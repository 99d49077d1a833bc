-- What the console says of two texts. Document 01: "The program reads `model.txt`, judged first, and `zones.txt`"; "`OK` and the number tried; or `NO`,
-- .. ; or `RF`, 1 model or 2 proposal, refusal number, place".
-- Assumes nothing.
use Rattle.std.specs.Prelude.{ℕ, ◌≡◌, true, List}
use Rattle.meaning.specs.Check.Answer as A
use Rattle.meaning.specs.Text.Records.{Answer, done, refused}
use Rattle.meaning.specs.Text.ModelTable.{size, decode, clocks}
use Rattle.meaning.specs.Text.ModelReader.{read_model}
use Rattle.meaning.specs.Text.ProposalTable as proposal
use Rattle.meaning.specs.Text.ProposalReader.{read_proposal}
use Rattle.verdict.specs.declared.answer.Verdict.{Verdict}
use Rattle.verdict.specs.Answers.{Says}
use Rattle.console.specs.declared.told.Told.{Told}
use Rattle.console.specs.declared.told.Told.TheVariants.{Refused, Judged}

-- "`RF`, 1 model or 2 proposal, refusal number, place": the text's number, the refusal and its place
abbrev pub refused_text : ℕ → ℕ → ℕ → Told
refused_text text k p = Refused text k p

-- both texts are read, into the tables t and u: r says the right answer of the model and the proposal in them, and how many clocks there are
pub record TellsAnswer (t u : List ℕ) (r : Told) : Type 0 where
  pub verdict : Verdict
  pub is : r ≡ Judged (clocks t) verdict
  pub answer : A.Answer
  pub right : A.Right (decode t) (proposal.decode u) answer
  pub says : Says answer verdict

-- by the answer of the proposal's reader, over the model in the table t
abbrev pub TellsProposal : List ℕ → Answer (List ℕ) → Told → Type 0
TellsProposal t (refused k at) r = r ≡ refused_text 2 k at
TellsProposal t (done u) r = TellsAnswer t u r

-- by the answer of the model's reader, with the proposal's text p
abbrev pub TellsModel : List ℕ → Answer (List ℕ) → Told → Type 0
TellsModel p (refused k at) r = r ≡ refused_text 1 k at
TellsModel p (done t) r = TellsProposal t (read_proposal true (decode t) proposal.size p) r

-- r says what is right of the model's text m and the proposal's text p
abbrev pub Tells : List ℕ → List ℕ → Told → Type 0
Tells m p r = TellsModel p (read_model size m) r
