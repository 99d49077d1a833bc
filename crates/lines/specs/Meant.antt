-- What the answers of this crate stand for.
-- Assumes nothing.
use Rattle.std.specs.Prelude.{ℕ, ◌≡◌, Bool, Option, Some, None, Result, Ok, Err, List, [], ◌∷◌}
use Rattle.std.proofs.lemmas.List.Edits.{sets}
use Rattle.meaning.specs.Text.Choice.{pick}
use Rattle.meaning.specs.Text.Numerals.{Numeral, num, stuck}
use Rattle.meaning.specs.Text.Lines as meaning
use Rattle.meaning.specs.Text.Lines.{Fields, ok, bad, out}
use Rattle.refusals.specs.declared.Reason.TheVariants.{BrokenLine, OutOfRange}
use Rattle.refusals.specs.declared.Refusal.{Refusal}
use Rattle.lines.specs.declared.numerals.Number.{Number}
use Rattle.lines.specs.declared.ranges.Range.{Range}
use Rattle.lines.specs.declared.fields.Line.{Line}

-- the answer of a number's reader: the number, or the first byte that can't go on
abbrev pub meant : Numeral → Result Number Refusal
meant (num m v k) = Ok (record { minus = m; size = v; next = k })
meant (stuck p) = Err (record { reason = BrokenLine; place = p })

-- a range as it is lent
abbrev pub range_of : Range → meaning.Range
range_of r = record { below = r.below; low = r.low; high = r.high }

-- the place of the first number outside its range, where there is one: o; else p, where the test holds
unfoldable pub first_out : Option ℕ → Bool → ℕ → Option ℕ
first_out (Some o) t p = Some o
first_out None t p = pick t (Some p) None

-- the numbers of a line of which none was read
abbrev pub no_numbers : List ℕ
no_numbers = 0 ∷ 0 ∷ 0 ∷ []

-- the answer r says what the fields of a line came to; behind the numbers of the line the array is 0
abbrev pub Told : Fields → Result Line Refusal → Type 0
Told (ok vs next) r = r ≡ Ok (record { at = next; numbers = sets no_numbers 0 vs })
Told (bad p) r = r ≡ Err (record { reason = BrokenLine; place = p })
Told (out p) r = r ≡ Err (record { reason = OutOfRange; place = p })
