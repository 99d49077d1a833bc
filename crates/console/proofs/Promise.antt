-- Demand 3 over the printed line: if it is `OK n`, then both texts are read, and what acceptance promises holds of the model and the proposal in them.
-- Assumes nothing.
use Prim.Native.Nat.{ℕ}
use mathlib.Core.Path.{◌≡◌, refl, sym, ◌∙◌, ap}
use mathlib.Core.Bool.{true}
use mathlib.Core.List.{List, [], ◌∷◌}
use native.Mathlib.Omega.{arith}
use lib.ListN.{length}
use Rattle.meaning.specs.Check.Answer as A
use Rattle.meaning.specs.Check.Obligations.{obligations}
use Rattle.meaning.specs.Check.Promise.{Promise}
use Rattle.meaning.specs.Text.Records.{Answer, done, refused}
use Rattle.meaning.specs.Text.ModelTable.{size, decode, clocks}
use Rattle.meaning.specs.Text.ModelReader.{read_model}
use Rattle.meaning.specs.Text.ProposalTable as proposal
use Rattle.meaning.specs.Text.ProposalReader.{read_proposal}
use Rattle.meaning.proofs.Check.DemandThree.{demand_three}
use Rattle.verdict.specs.declared.answer.Verdict.{Verdict}
use Rattle.verdict.specs.declared.answer.Verdict.TheVariants.{Accepted, Failed}
use Rattle.verdict.specs.Answers.{Says}
use Rattle.console.specs.declared.told.Told.{Told}
use Rattle.console.specs.declared.told.Told.TheVariants.{Judged}
use Rattle.console.specs.Line.{ok_line, line_of}
use Rattle.console.specs.Texts.{refused_text, TellsAnswer, TellsProposal, TellsModel, Tells}

-- what an `OK` says of the two texts m and p: both are read, into the tables `model` and `zones`; the promise holds of what is in them; and the number is
-- that of all obligations
pub record Kept (m p : List ℕ) (r : Told) : Type 0 where
  pub model : List ℕ
  pub zones : List ℕ
  pub reads_model : read_model size m ≡ done model
  pub reads_zones : read_proposal true (decode model) proposal.size p ≡ done zones
  pub promise : Promise (decode model) (proposal.decode zones)
  pub number : r ≡ Judged (clocks model) (Accepted (length (obligations (decode model) (proposal.decode zones))))

-- the first byte of a line
abbrev first : List ℕ → ℕ
first [] = 0
first (b ∷ bs) = b

-- a refused text's line begins with R
refused_no : (text k at : ℕ) (r : Told) (n : ℕ) → r ≡ refused_text text k at → line_of r ≡ ok_line n → ⊥
refused_no text k at r n w e = let z : ◌≡◌ {A = ℕ} 82 79 = sym (ap (λ (x : Told). first (line_of x)) w) ∙ ap first e in omega (arith, z)

-- the answer of two texts that are read: a line that begins with O is that of acceptance
accepted : (t u : List ℕ) (r : Told) (n : ℕ) → TellsAnswer t u r → line_of r ≡ ok_line n
    → Promise (decode t) (proposal.decode u) × (r ≡ Judged (clocks t) (Accepted (length (obligations (decode t) (proposal.decode u)))))
accepted t u r n w e = go w.answer w.verdict w.is w.right w.says
  where
    go : (a : A.Answer) (v : Verdict) → r ≡ Judged (clocks t) v → A.Right (decode t) (proposal.decode u) a → Says a v
        → Promise (decode t) (proposal.decode u) × (r ≡ Judged (clocks t) (Accepted (length (obligations (decode t) (proposal.decode u)))))
    go (A.accepted k) (Accepted i) q h s = (demand_three (decode t) (proposal.decode u) h.0, q ∙ ap (λ (j : ℕ). Judged (clocks t) (Accepted j)) (s ∙ h.1))
    go (A.accepted k) (Failed f) q h s = absurd s
    go (A.failed x) (Accepted i) q h s = absurd s
    go (A.failed x) (Failed f) q h s = absurd (let z : ◌≡◌ {A = ℕ} 78 79 = sym (ap (λ (x : Told). first (line_of x)) q) ∙ ap first e in omega (arith, z))

-- `OK`: demand 3 holds of what the two texts hold
pub ok_keeps : (m p : List ℕ) (r : Told) → Tells m p r → (n : ℕ) → line_of r ≡ ok_line n → Kept m p r
ok_keeps m p r w n e = by_model (read_model size m) refl w
  where
    by_proposal : (t : List ℕ) → read_model size m ≡ done t → (a : Answer (List ℕ)) → read_proposal true (decode t) proposal.size p ≡ a → TellsProposal t a r → Kept m p r
    by_proposal t q (refused k at) h w = absurd (refused_no _ k at r n w e)
    by_proposal t q (done u) h w = let y = accepted t u r n w e in record { model = t; zones = u; reads_model = q; reads_zones = h; promise = y.0; number = y.1 }

    by_model : (a : Answer (List ℕ)) → read_model size m ≡ a → TellsModel p a r → Kept m p r
    by_model (refused k at) h w = absurd (refused_no _ k at r n w e)
    by_model (done t) h w = by_proposal t h (read_proposal true (decode t) proposal.size p) refl w
