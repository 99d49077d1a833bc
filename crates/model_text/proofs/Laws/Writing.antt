-- The text of a table, slot by slot.
-- Assumes nothing.
use Prim.Native.Nat.{ℕ, zero, suc, ◌+◌, ◌≤◌, ◌<◌}
use mathlib.Core.Path.{◌≡◌, refl, sym, ap, ◌∙◌, subst}
use mathlib.Core.List.{List, [], ◌∷◌, ◌++◌}
use native.Mathlib.Omega.{arith}
use native.Mathlib.Numerals.{add-one}
use lib.ListN.{length, length-append}
use Rattle.meaning.specs.Text.Records.{lines_to, write}
use Rattle.meaning.specs.Text.Lines.{fields_text}
use Rattle.meaning.specs.Text.ModelText.{en, form}
use Rattle.meaning.specs.Text.ModelTable.{size}
use Rattle.meaning.specs.Text.ModelReader.{line, line_of, get, keys_at, words, width, format}
use Rattle.meaning.proofs.Text.Choices.{by_lt}
use Rattle.lines.specs.Put.{Put}
use Rattle.lines.proofs.Laws.Putting.{put_then}

module _ (t : List ℕ) where
  pub lines_none : lines_to format t 0 ≡ []
  unfolding lines_to
  lines_none = refl

  lines_more : (j : ℕ) → lines_to format t (suc j) ≡ lines_to format t j ++ line j (get t j)
  unfolding lines_to
  lines_more j = refl

  write_is : write format t ≡ lines_to format t size ++ 69 ∷ 78 ∷ 10 ∷ []
  unfolding write
  write_is = refl

  lines_le : (j n : ℕ) → j ≤ n → length (lines_to format t j) ≤ length (lines_to format t n)
  lines_le j zero h = let z : j ≡ 0 = omega arith in rw z (omega arith)
  lines_le j (suc n) h =
      by_lt j (suc n)
      (λ l. omega (arith, lines_le j n (omega arith), ap length (lines_more n), length-append (lines_to format t n) (line n (get t n))))
      (λ l. let z : j ≡ suc n = omega arith in rw z (omega arith))

  pub end_room : (j : ℕ) → j ≡ size → length (lines_to format t j) + 3 ≡ length (write format t)
  end_room j e = ap (λ (k : ℕ). length (lines_to format t k) + 3) e ∙ (sym (ap length write_is ∙ length-append (lines_to format t size) (69 ∷ 78 ∷ 10 ∷ [])))

  -- there is room for the line of slot j
  pub slot_room : (j : ℕ) → j < size → length (lines_to format t j) + length (line j (get t j)) ≤ length (write format t)
  slot_room j h =
      omega (arith, end_room size refl, lines_le (suc j) size h, ap length (lines_more j), length-append (lines_to format t j) (line j (get t j)))

  pub put_slot : (b b₁ b₂ : List ℕ) (j at r : ℕ) → Put b 0 (lines_to format t j) b₁ at → Put b₁ at (line j (get t j)) b₂ r → Put b 0 (lines_to format t (j + 1)) b₂ r
  put_slot b b₁ b₂ j at r p q = rw (add-one, lines_more j) (put_then b 0 (lines_to format t j) (line j (get t j)) b₁ b₂ at r p q)

  -- the last line is that of EN
  pub last_is : 69 ∷ 78 ∷ 10 ∷ [] ≡ line_of en size (words t size (width en))
  unfolding line_of form keys_at width words fields_text
  last_is = refl

  pub put_last : (b b₁ b₂ : List ℕ) (j at r : ℕ) → j ≡ size → Put b 0 (lines_to format t j) b₁ at → Put b₁ at (line_of en size (words t size (width en))) b₂ r → Put b 0 (write format t) b₂ r
  put_last b b₁ b₂ j at r e p q =
      rw write_is
      (subst (λ (l : List ℕ). Put b 0 (lines_to format t size ++ l) b₂ r) (sym last_is)
      (put_then b 0 (lines_to format t size) (line_of en size (words t size (width en))) b₁ b₂ at r (rw e at p) q))

  pub last_room : (b b₁ : List ℕ) (j at : ℕ) → j ≡ size → length b₁ ≡ length b → length (write format t) ≤ length b → Put b 0 (lines_to format t j) b₁ at
      → at + length (line_of en size (words t size (width en))) ≤ length b₁
  last_room b b₁ j at e n h p = omega (arith, end_room j e, p.next, ap length last_is)

pub ruleset room_laws = (lines_none, slot_room, last_room)
