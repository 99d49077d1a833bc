-- Any two results that the contracts of this crate allow coincide.
-- Assumes nothing.
use Prim.Native.Nat.{ℕ}
use mathlib.Core.Path.{◌≡◌, sym, ap, subst, ◌∙◌}
use mathlib.Core.List.{List}
use mathlib.Core.Bool.{true}
use lib.ListN.{length}
use denote.Ref.{Bor}
use Rattle.std.specs.Prelude.{Result, Ok, Err}
use Rattle.meaning.specs.Check.Answer as A
use Rattle.meaning.specs.Text.Records as records
use Rattle.meaning.specs.Text.ModelTable.{size, decode, clocks}
use Rattle.meaning.specs.Text.ModelReader.{read_model}
use Rattle.meaning.specs.Text.ProposalTable as proposal
use Rattle.meaning.specs.Text.ProposalReader.{read_proposal}
use Rattle.meaning.proofs.Check.Answer.{one_right}
use Rattle.meaning.proofs.Text.Choices.{by_lt}
use Rattle.refusals.specs.declared.Refusal.{Refusal}
use Rattle.refusals.specs.Number.{number_of}
use Rattle.refusals.proofs.Once.{number_once}
use Rattle.verdict.specs.declared.answer.Verdict.{Verdict}
use Rattle.verdict.specs.Answers.{Says}
use Rattle.verdict.proofs.Unique.{says_once}
use Rattle.console.specs.Line.{line_of}
use Rattle.console.specs.Wrote.{WroteLine, written}
use Rattle.console.specs.Part.{Where, in_model, in_proposal, ShowsIn}
use Rattle.console.specs.Texts.{TellsAnswer, TellsProposal, TellsModel, Tells}
use Rattle.console.specs.declared.told.Told.{Told}
use Rattle.console.specs.declared.told.Told.TheVariants.{Judged}

same_refusal : (f g : Refusal) → number_of f.reason ≡ number_of g.reason → f.place ≡ g.place → f ≡ g
same_refusal f g p q = let e : f.reason ≡ g.reason = number_once f.reason g.reason p in λ i. record { reason = e i; place = q i }

same_written : (r s : Result ℕ Refusal) → written r ≡ written s → r ≡ s
same_written (Ok n) (Ok k) e = let same : n ≡ k = cc in ap Ok same
same_written (Ok n) (Err g) e = cc
same_written (Err f) (Ok k) e = cc
same_written (Err f) (Err g) e =
    let number : number_of f.reason ≡ number_of g.reason = cc in
    let place : f.place ≡ g.place = cc in
    ap Err (same_refusal f g number place)

-- the printed line: the answer, and what stands in the lent buffer
pub line_once : (x : Told) (b : List ℕ) (r₁ r₂ : Result ℕ Refusal) (b₁ b₂ : List ℕ) → WroteLine x b r₁ b₁ → WroteLine x b r₂ b₂ → (r₁ ≡ r₂) × (b₁ ≡ b₂)
line_once x b r₁ r₂ b₁ b₂ p q =
    by_lt (length b) (length (line_of x))
    (λ h. (same_written r₁ r₂ ((p.short h).0 ∙ sym (q.short h).0), (p.short h).1 ∙ sym (q.short h).1))
    (λ h. (same_written r₁ r₂ ((p.text h).0 ∙ sym (q.text h).0), (p.text h).1 ∙ sym (q.text h).1))

-- the fault's part: where it begins, and its bytes (so their number)
pub part_once : (w : Where) (m p r₁ r₂ : Bor (List ℕ)) → ShowsIn w m p r₁ → ShowsIn w m p r₂ → (r₁.ref_ptr ≡ r₂.ref_ptr) × (r₁.now ≡ r₂.now)
part_once (in_model x) m p r₁ r₂ a b = (a.begins ∙ sym b.begins, a.bytes ∙ sym b.bytes)
part_once (in_proposal x) m p r₁ r₂ a b = (a.begins ∙ sym b.begins, a.bytes ∙ sym b.bytes)

-- ---- the check of two texts

answer_once : (t u : List ℕ) (x y : Told) → TellsAnswer t u x → TellsAnswer t u y → x ≡ y
answer_once t u x y p q =
    let e : p.answer ≡ q.answer = one_right (decode t) (proposal.decode u) p.answer q.answer p.right q.right in
    p.is ∙ ap (λ (v : Verdict). Judged (clocks t) v) (says_once q.answer p.verdict q.verdict (subst (λ (a : A.Answer). Says a p.verdict) e p.says) q.says) ∙ sym q.is

proposal_once : (t : List ℕ) (a : records.Answer (List ℕ)) (x y : Told) → TellsProposal t a x → TellsProposal t a y → x ≡ y
proposal_once t (records.refused k p) x y h i = h ∙ sym i
proposal_once t (records.done u) x y h i = answer_once t u x y h i

model_once : (p : List ℕ) (a : records.Answer (List ℕ)) (x y : Told) → TellsModel p a x → TellsModel p a y → x ≡ y
model_once p (records.refused k q) x y h i = h ∙ sym i
model_once p (records.done t) x y h i = proposal_once t (read_proposal true (decode t) proposal.size p) x y h i

-- what is told of two texts
pub told_once : (m p : List ℕ) (r₁ r₂ : Told) → Tells m p r₁ → Tells m p r₂ → r₁ ≡ r₂
told_once m p r₁ r₂ h i = model_once p (read_model size m) r₁ r₂ h i
