-- The marks of a proposal's records.
-- Assumes nothing.
use Rattle.std.specs.Prelude.{ℕ, ◌&&◌, eqb, Option, Some, None}
use Rattle.meaning.specs.Text.Choice.{pick}
use Rattle.zone_text.specs.declared.reading_marks.Mark as the_mark
use Rattle.zone_text.specs.declared.reading_marks.Mark.TheVariants.{Order, Bound, Claims, End}

-- the mark with these two bytes: ZN, BD, GO or EN, or none of them
unfoldable pub mark_of : ℕ → ℕ → Option the_mark.Mark
mark_of a b = pick (eqb a 90 && eqb b 78) (Some Order) (pick (eqb a 66 && eqb b 68) (Some Bound) (pick (eqb a 71 && eqb b 79) (Some Claims) (pick (eqb a 69 && eqb b 78) (Some End) None)))
