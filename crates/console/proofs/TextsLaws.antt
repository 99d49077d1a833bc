-- Laws of the check of two texts: what the readers and the check answered, and what is told then.
-- Assumes nothing.
use Prim.Native.Nat.{ℕ}
use mathlib.Core.Path.{◌≡◌, sym, ap, subst}
use mathlib.Core.List.{List}
use mathlib.Core.Bool.{true}
use native.Mathlib.Omega.{arith}
use lib.ListN.{length}
use Rattle.std.specs.Prelude.{Result, Ok, Err}
use Rattle.meaning.specs.Text.Records as records
use Rattle.meaning.specs.Text.ModelTable.{size, decode, clocks}
use Rattle.meaning.specs.Text.ModelReader.{read_model, Given}
use Rattle.meaning.specs.Text.ProposalTable as proposal
use Rattle.meaning.specs.Text.ProposalReader.{read_proposal}
use Rattle.refusals.specs.declared.Reason.{Reason}
use Rattle.refusals.specs.declared.Refusal.{Refusal}
use Rattle.refusals.specs.Number.{number_of}
use Rattle.model_text.specs.Meant as model
use Rattle.zone_text.specs.Meant.{meant, ReadOver}
use Rattle.verdict.specs.declared.answer.Verdict.{Verdict}
use Rattle.verdict.specs.Answers.{BothGiven, Says, Answered, unusable, right}
use Rattle.console.specs.Texts.{refused_text, TellsAnswer, TellsProposal, TellsModel, Tells}
use Rattle.console.specs.declared.told.Told.{Told}
use Rattle.console.specs.declared.told.Told.TheVariants.{Judged}
use Rattle.console.proofs.ReadLaws.{proposal_answer, model_answer}

-- the check of tables that texts give answers what is right
tells_answer : (t u : List ℕ) (n : ℕ) (v : Verdict) → BothGiven t u → n ≡ clocks t → Answered t u (Ok v) → TellsAnswer t u (Judged n v)
tells_answer t u n v h e (unusable x y) = absurd (x h)
tells_answer t u n v h e (right x b y w s q) =
    let same : w ≡ v = cc in
    record { verdict = v; is = ap (λ (k : ℕ). Judged k v) e; answer = b; right = y; says = subst (Says b) same s }

-- and refuses none
none_refused : (t u : List ℕ) (k : Reason) → BothGiven t u → Answered t u (Err k) → ⊥
none_refused t u k h (unusable x y) = x h
none_refused t u k h (right x b y w s q) = let z : ◌≡◌ {A = ℕ} 0 1 = cc in omega arith

module _ (b s t t' : List ℕ) (r : Result Unit Refusal) (z : length t ≡ proposal.size) (g : Given b) (w : ReadOver b s t r t') where
  answer : (x : Result Unit Refusal) → r ≡ x → read_proposal true (decode b) proposal.size s ≡ meant x t'
  answer = proposal_answer b s t t' r z g w

  pub tells_refused : (f : Refusal) (x : Told) → r ≡ Err f → x ≡ refused_text 2 (number_of f.reason) f.place
      → TellsProposal b (read_proposal true (decode b) proposal.size s) x
  tells_refused f x e h = subst (λ (a : records.Answer (List ℕ)). TellsProposal b a x) (sym (answer (Err f) e)) h

  both_given : r ≡ Ok tt → BothGiven b t'
  both_given e = record { model = g; proposal = record { text = s; reads = answer (Ok tt) e } }

  pub tells_checked : (n : ℕ) (v : Verdict) → r ≡ Ok tt → n ≡ clocks b → Answered b t' (Ok v)
      → TellsProposal b (read_proposal true (decode b) proposal.size s) (Judged n v)
  tells_checked n v e c h =
      subst (λ (x : records.Answer (List ℕ)). TellsProposal b x (Judged n v)) (sym (answer (Ok tt) e)) (tells_answer b t' n v (both_given e) c h)

  pub not_refused : (k : Reason) → r ≡ Ok tt → Answered b t' (Err k) → ⊥
  not_refused k e h = none_refused b t' k (both_given e) h

module _ (m p t t' : List ℕ) (r : Result Unit Refusal) (z : length t ≡ size) (w : model.Answered (length t) (read_model (length t) m) r t') where
  reads : (x : Result Unit Refusal) → r ≡ x → read_model size m ≡ model.meant x t'
  reads = model_answer m t t' r z w

  pub tells_no_model : (f : Refusal) (x : Told) → r ≡ Err f → x ≡ refused_text 1 (number_of f.reason) f.place → Tells m p x
  tells_no_model f x e h = subst (λ (a : records.Answer (List ℕ)). TellsModel p a x) (sym (reads (Err f) e)) h

  pub tells_model : (x : Told) → r ≡ Ok tt → TellsProposal t' (read_proposal true (decode t') proposal.size p) x → Tells m p x
  tells_model x e h = subst (λ (a : records.Answer (List ℕ)). TellsModel p a x) (sym (reads (Ok tt) e)) h
