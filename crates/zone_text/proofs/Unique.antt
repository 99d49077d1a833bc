-- Any two results that the reader's contract allows coincide.
-- Assumes nothing.
use Prim.Native.Nat.{ℕ}
use mathlib.Core.Path.{◌≡◌, refl, sym, ap₂, ◌∙◌}
use mathlib.Core.List.{List}
use lib.ListN.{length}
use Rattle.meaning.specs.Text.Records.{Answer, write}
use Rattle.meaning.specs.Text.ModelReader.{Given, format}
use Rattle.meaning.proofs.Text.ModelTheorems.{by_given}
use Rattle.std.specs.Prelude.{Result, Ok, Err}
use Rattle.meaning.proofs.Text.Choices.{nonsense}
use Rattle.refusals.specs.declared.Reason.{Reason}
use Rattle.refusals.specs.declared.Refusal.{Refusal}
use Rattle.refusals.specs.Number.{number_of}
use Rattle.refusals.proofs.Once.{number_once}
use Rattle.zone_text.specs.Meant.{meant, Answered, ReadOver}

same_read : (r s : Result (Unit {0}) Refusal) (t u : List ℕ) (a : Answer (List ℕ)) → meant r t ≡ a → meant s u ≡ a → r ≡ s
same_read (Ok v) (Ok w) t u a p q = refl
same_read (Ok v) (Err f) t u a p q = nonsense (cc)
same_read (Err e) (Ok v) t u a p q = nonsense (cc)
same_read (Err e) (Err f) t u a p q =
    let x : number_of e.reason ≡ number_of f.reason = cc in
    let y : e.place ≡ f.place = cc in
    ap₂ (λ (b : Reason) (k : ℕ). Err (record { reason = b; place = k })) (number_once e.reason f.reason x) y

answer_once : (n : ℕ) (a : Answer (List ℕ)) (r₁ r₂ : Result (Unit {0}) Refusal) (t₁ t₂ : List ℕ) → Answered n a r₁ t₁ → Answered n a r₂ t₂ → (r₁ ≡ r₂) × (t₁ ≡ t₂)
answer_once n a r₁ r₂ t₁ t₂ p q = (same_read r₁ r₂ t₁ t₂ a p.answer q.answer, p.table ∙ sym q.table)

-- the answer, and what is left in the lent table
pub read_once : (b s t : List ℕ) (r₁ r₂ : Result (Unit {0}) Refusal) (t₁ t₂ : List ℕ) → ReadOver b s t r₁ t₁ → ReadOver b s t r₂ t₂ → (r₁ ≡ r₂) × (t₁ ≡ t₂)
read_once b s t r₁ r₂ t₁ t₂ p q =
    by_given b
    (λ e. let g : Given b = record { text = write format b; reads = e } in answer_once (length t) _ r₁ r₂ t₁ t₂ (p.over g) (q.over g))
    (λ n. answer_once (length t) _ r₁ r₂ t₁ t₂ (p.none n) (q.none n))
