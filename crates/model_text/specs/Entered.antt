-- What becomes of a record: whether its mark may stand, and where its numbers go.
-- Assumes nothing.
use Rattle.std.specs.Prelude.{ℕ, ◌+◌, ◌-◌, ◌≤◌, ◌≡◌, true, Option, Some, None, Result, Ok, Err, List, ltb, length, get_or}
use Rattle.meaning.specs.Text.Choice.{pick}
use Rattle.meaning.specs.Text.Refusals.{not_rising}
use Rattle.meaning.specs.Text.Ranges.{prio_most}
use Rattle.meaning.specs.Text.Numerals.{too_large}
use Rattle.meaning.specs.Text.ModelTable.{size}
use Rattle.meaning.specs.Text.Records.{Seen, rec, fault}
use Rattle.meaning.specs.Text.ModelText as meaning
use Rattle.meaning.specs.Text.ModelText.{form}
use Rattle.meaning.specs.Text.ModelReader.{mark_of, rule, cells, look}
use Rattle.refusals.specs.declared.Reason.{Reason}
use Rattle.refusals.specs.declared.Refusal.{Refusal}
use Rattle.refusals.specs.Number.{number_of}
use Rattle.model_text.specs.declared.marks.Mark.{Mark}
use Rattle.model_text.specs.declared.marks.Mark.TheVariants.{Task}
use Rattle.model_text.specs.Marks.{kind_of}

-- the number of a refusal; 0 where there is none
abbrev pub number_in : Option Reason → ℕ
number_in (Some r) = number_of r
number_in None = 0

-- 3, then 10, of the text s at `at`, with the cursor at i after the table t: the mark that may stand there, or the refusal
abbrev pub MayStand : List ℕ → ℕ → ℕ → List ℕ → Result Mark Refusal → Type 0
MayStand s at i t (Ok q) =
    (mark_of (get_or s at 0) (get_or s (at + 1) 0) ≡ kind_of q) × ((rule (kind_of q) t).due ≡ true) × (i ≤ (rule (kind_of q) t).latest) × ((rule (kind_of q) t).room ≡ true)
MayStand s at i t (Err e) = look s at i t ≡ fault (number_of e.reason) e.place

-- 7, 8 and 6, of the numbers v of a record with the mark q at `at`, after the table t, with the cursor at i; the line ends before next
unfoldable pub entered : meaning.Mark → ℕ → ℕ → List ℕ → List ℕ → ℕ → Seen (List ℕ)
entered q at i t v next =
    pick (ltb 0 ((rule q t).wrong v)) (fault ((rule q t).wrong v) at)
    (pick (ltb ((rule q t).slot v) i) (fault not_rising at) (rec ((rule q t).slot v) (cells q v) next))

-- what `enter` is called with: a table of its full size, a number for each field, all within their ranges, and room for the cells
pub record Enters (q : Mark) (t v : List ℕ) : Type 0 where
  pub long : length t ≡ size
  pub many : length v ≡ length (form (kind_of q)).below
  pub small : (k : ℕ) → get_or v k 0 ≤ too_large
  pub prio : q ≡ Task → get_or v 2 0 ≤ prio_most
  pub inside : (rule (kind_of q) t).slot v + (length v - (form (kind_of q)).keys) ≤ size
