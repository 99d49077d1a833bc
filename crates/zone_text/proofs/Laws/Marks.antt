-- What stands at a place, by its mark.
-- Assumes nothing.
use Prim.Native.Nat.{ℕ, ◌+◌}
use mathlib.Core.Path.{◌≡◌, refl, sym, ap, ◌∙◌}
use mathlib.Core.Bool.{Bool, true, false}
use mathlib.Core.List.{List}
use lib.ListN.{get_or}
use Rattle.std.specs.Prelude.{Option, Some, None}
use Rattle.meaning.specs.Model.{Model}
use Rattle.meaning.specs.Text.Choice.{pick}
use Rattle.meaning.specs.Text.Refusals.{mark_not_here}
use Rattle.meaning.specs.Text.RecordRow.{wrong}
use Rattle.meaning.specs.Text.ProposalReader.{Sofar, is_mark, look, look_bound, look_claims, look_end, look_order}
use Rattle.zone_text.specs.declared.reading_marks.Mark as the_mark
use Rattle.zone_text.specs.declared.reading_marks.Mark.TheVariants.{Order, Bound, Claims, End}
use Rattle.zone_text.specs.Marked.{mark_of}

-- one of five, by a mark
abbrev pub by_mark : {A : Type 0} → Option the_mark.Mark → A → A → A → A → A → A
by_mark (Some Order) x y z w v = x
by_mark (Some Bound) x y z w v = y
by_mark (Some Claims) x y z w v = z
by_mark (Some End) x y z w v = w
by_mark None x y z w v = v

by_mark_lem : {A : Type 0} (a b c d : Bool) (x y z w v : A)
    → pick a x (pick b y (pick c z (pick d w v))) ≡ by_mark (pick a (Some Order) (pick b (Some Bound) (pick c (Some Claims) (pick d (Some End) None)))) x y z w v
by_mark_lem true b c d x y z w v = refl
by_mark_lem false true c d x y z w v = refl
by_mark_lem false false true d x y z w v = refl
by_mark_lem false false false true x y z w v = refl
by_mark_lem false false false false x y z w v = refl

module _ (m : Model) (s : List ℕ) (at : ℕ) (q : Option the_mark.Mark) (e : q ≡ mark_of (get_or s at 0) (get_or s (at + 1) 0)) (x : Sofar) where
  pub look_mark : look m s at x ≡ by_mark q (look_order m s at x) (look_bound m s at x) (look_claims m s at x) (look_end m s at x) (wrong mark_not_here at)
  unfolding look is_mark mark_of
  look_mark = by_mark_lem (is_mark s at 90 78) (is_mark s at 66 68) (is_mark s at 71 79) (is_mark s at 69 78) (look_order m s at x) (look_bound m s at x) (look_claims m s at x) (look_end m s at x) (wrong mark_not_here at)
      ∙ ap (λ (n : Option the_mark.Mark). by_mark n (look_order m s at x) (look_bound m s at x) (look_claims m s at x) (look_end m s at x) (wrong mark_not_here at)) (sym e)
