-- Any two results that the reader's contract allows coincide, and any two that the writer's allows.
-- Assumes nothing.
use mathlib.Core.Path.{◌≡◌, refl, sym, ap, ◌∙◌}
use mathlib.Core.Bool.{Bool, true, false}
use mathlib.Core.List.{List}
use Prim.Native.Nat.{ℕ}
use lib.ListN.{length}
use Rattle.std.proofs.Common.{Option, Some, None, Result, Ok, Err}
use Rattle.meaning.specs.Text.Records.{Answer, write}
use Rattle.meaning.specs.Text.ModelReader.{format}
use Rattle.meaning.proofs.Text.Choices.{by_lt}
use Rattle.meaning.proofs.Text.ModelTheorems.{by_given}
use Rattle.refusals.specs.declared.Reason.{Reason}
use Rattle.refusals.specs.declared.Refusal.{Refusal}
use Rattle.refusals.specs.Number.{number_of}
use Rattle.refusals.proofs.Once.{number_once}
use Rattle.model_text.specs.Meant.{meant, Answered, written, WroteModel, LengthOf, GivenTest}

-- a refusal, by its number and its place
abbrev refusal : Reason → ℕ → Refusal
refusal r p = record { reason = r; place = p }

same_fields : (r s : Reason) (p q : ℕ) → r ≡ s → p ≡ q → refusal r p ≡ refusal s q
same_fields r s p q e f = rw (e, f)

same_refusal : (x y : Refusal) → number_of x.reason ≡ number_of y.reason → x.place ≡ y.place → x ≡ y
same_refusal x y e f = same_fields x.reason y.reason x.place y.place (number_once x.reason y.reason e) f

same_read : (r s : Result (Unit {0}) Refusal) (t u : List ℕ) (a : Answer (List ℕ)) → meant r t ≡ a → meant s u ≡ a → r ≡ s
same_read (Ok x) (Ok y) t u a p q = refl
same_read (Ok x) (Err y) t u a p q = cc
same_read (Err x) (Ok y) t u a p q = cc
same_read (Err x) (Err y) t u a p q = ap Err (same_refusal x y (cc) (cc))

-- the answer, and what is left in the lent table
pub read_once : (n : ℕ) (a : Answer (List ℕ)) (r₁ r₂ : Result (Unit {0}) Refusal) (t₁ t₂ : List ℕ) → Answered n a r₁ t₁ → Answered n a r₂ t₂ → (r₁ ≡ r₂) × (t₁ ≡ t₂)
read_once n a r₁ r₂ t₁ t₂ p q = (same_read r₁ r₂ t₁ t₂ a p.answer q.answer, p.table ∙ sym q.table)

same_written : (r s : Result ℕ Refusal) (a : Answer ℕ) → written r ≡ a → written s ≡ a → r ≡ s
same_written (Ok m) (Ok n) a p q = cc
same_written (Ok m) (Err y) a p q = cc
same_written (Err x) (Ok n) a p q = cc
same_written (Err x) (Err y) a p q = ap Err (same_refusal x y (cc) (cc))

both : (r₁ r₂ : Result ℕ Refusal) (a : Answer ℕ) (b₁ b₂ c : List ℕ) → (written r₁ ≡ a) × (b₁ ≡ c) → (written r₂ ≡ a) × (b₂ ≡ c) → (r₁ ≡ r₂) × (b₁ ≡ b₂)
both r₁ r₂ a b₁ b₂ c p q = (same_written r₁ r₂ a p.0 q.0, p.1 ∙ sym q.1)

-- the answer, and what is left in the lent buffer
pub write_once : (t b : List ℕ) (r₁ r₂ : Result ℕ Refusal) (b₁ b₂ : List ℕ) → WroteModel t b r₁ b₁ → WroteModel t b r₂ b₂ → (r₁ ≡ r₂) × (b₁ ≡ b₂)
write_once t b r₁ r₂ b₁ b₂ p q =
    by_given t
    (λ e. by_lt (length b) (length (write format t))
    (λ h. both r₁ r₂ _ b₁ b₂ _ (p.short (write format t) e h) (q.short (write format t) e h))
    (λ h. both r₁ r₂ _ b₁ b₂ _ (p.text (write format t) e h) (q.text (write format t) e h)))
    (λ n. both r₁ r₂ _ b₁ b₂ _ (p.none n) (q.none n))

-- the length of the text that gives a table
pub length_once : (t : List ℕ) (r s : Option ℕ) → LengthOf t r → LengthOf t s → r ≡ s
length_once t None None p q = refl
length_once t None (Some n) p q = absurd (p.none refl (record { text = write format t; reads = (q.some n refl).0 }))
length_once t (Some m) None p q = absurd (q.none refl (record { text = write format t; reads = (p.some m refl).0 }))
length_once t (Some m) (Some n) p q = ap Some ((p.some m refl).1 ∙ sym (q.some n refl).1)

-- whether a text gives a table
pub given_once : (t : List ℕ) (r s : Bool) → GivenTest t r → GivenTest t s → r ≡ s
given_once t true true p q = refl
given_once t true false p q = absurd (q.no refl (p.yes refl))
given_once t false true p q = absurd (p.no refl (q.yes refl))
given_once t false false p q = refl
