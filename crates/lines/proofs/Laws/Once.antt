-- Any two results that a contract of this crate allows coincide.
-- Assumes nothing.
use mathlib.Core.Path.{◌≡◌, sym, ◌∙◌}
use mathlib.Core.List.{List}
use Prim.Native.Nat.{ℕ}
use Rattle.std.proofs.Common.{Result}
use Rattle.meaning.specs.Text.Numerals.{Numeral}
use Rattle.meaning.specs.Text.Lines.{Fields, ok, bad, out}
use Rattle.refusals.specs.declared.Refusal.{Refusal}
use Rattle.lines.specs.declared.numerals.Number.{Number}
use Rattle.lines.specs.declared.fields.Line.{Line}
use Rattle.lines.specs.Meant.{meant, Told}
use Rattle.lines.specs.Put.{Put}

-- a number
pub number_once : (x : Numeral) (r s : Result Number Refusal) → r ≡ meant x → s ≡ meant x → r ≡ s
number_once x r s p q = p ∙ sym q

-- a line
pub line_once : (x : Fields) (r s : Result Line Refusal) → Told x r → Told x s → r ≡ s
line_once (ok v n) r s p q = p ∙ sym q
line_once (bad n) r s p q = p ∙ sym q
line_once (out n) r s p q = p ∙ sym q

-- what is left in a buffer, and the place after it
pub put_once : (b : List ℕ) (at : ℕ) (xs b₁ b₂ : List ℕ) (r₁ r₂ : ℕ) → Put b at xs b₁ r₁ → Put b at xs b₂ r₂ → (b₁ ≡ b₂) × (r₁ ≡ r₂)
put_once b at xs b₁ b₂ r₁ r₂ p q = (p.text ∙ sym q.text, p.next ∙ sym q.next)
