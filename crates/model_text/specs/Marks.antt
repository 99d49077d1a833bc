-- The marks as the code has them.
-- Assumes nothing.
use Rattle.std.specs.Prelude.{ℕ, ◌-◌, ◌%◌, ◌≤◌, ◌≡◌, Option, Some, None, List, ◌++◌, map}
use Rattle.meaning.specs.Text.Lines.{fields_text}
use Rattle.meaning.specs.Text.ModelText as meaning
use Rattle.meaning.specs.Text.ModelText.{form, po, ck, tk, lo, iv, ed, gu, rs, en, other}
use Rattle.meaning.specs.Text.ModelReader.{mark_at, keys_at, words, width}
use Rattle.model_text.specs.declared.marks.Mark.{Mark}
use Rattle.model_text.specs.declared.marks.Mark.TheVariants.{Policy, Clocks, Task, Location, Limit, Edge, Bound, Reset, End}

-- the column "Mark"
abbrev pub kind_of : Mark → meaning.Mark
kind_of Policy = po
kind_of Clocks = ck
kind_of Task = tk
kind_of Location = lo
kind_of Limit = iv
kind_of Edge = ed
kind_of Bound = gu
kind_of Reset = rs
kind_of End = en

-- none where two bytes are no mark
abbrev pub kind_in : Option Mark → meaning.Mark
kind_in (Some q) = kind_of q
kind_in None = other

-- q is the mark of slot j; only a limit and a bound need to know where they stand
pub record MarkAt (j : ℕ) (q : Option Mark) : Type 0 where
  pub is : kind_in q ≡ mark_at j
  pub few : q ≡ Some End → ⊥
  pub limit : q ≡ Some Limit → 20 ≤ j
  pub bound : q ≡ Some Bound → (100 ≤ j) × (2 ≤ (j - 100) % 31)

-- the numbers of the record with the mark q whose slot is j, as they are written, and the line feed
unfoldable pub numbers_text : meaning.Mark → List ℕ → ℕ → List ℕ
numbers_text q t j = fields_text (form q).below (keys_at q j ++ map (λ (x : ℕ). x - 1) (words t j (width q)))
