-- The line of a slot, mark by mark.
-- Assumes nothing.
use Prim.Native.Nat.{ℕ, suc, ◌+◌, ◌-◌, ◌/◌, ◌%◌, ◌≤◌, ◌<◌}
use mathlib.Core.Path.{◌≡◌, refl, sym, ap, ◌∙◌}
use mathlib.Core.List.{List, [], ◌∷◌}
use mathlib.Core.Bool.{Bool, true, false}
use native.Mathlib.Omega.{arith}
use lib.Dec.{eqb}
use borrow.Author.Tests.{eq-eqb, ne_eqb, lt-ltb, le-ltb}
use Rattle.std.proofs.Common.{Option, Some}
use Rattle.std.specs.Bool.{then_some}
use Rattle.meaning.proofs.Text.ModelCells.{at_edge}
use lib.ListN.{get_or, set}
use Rattle.meaning.specs.Text.Choice.{pick}
use Rattle.meaning.specs.Text.Lines.{fields_text}
use Rattle.meaning.specs.Text.ModelText as meaning
use Rattle.meaning.specs.Text.ModelText.{tk, iv, ed, gu, en, other, form}
use Rattle.meaning.specs.Text.ModelTable.{there}
use Rattle.meaning.specs.Text.ModelReader.{mark_in_edge, mark_at, keys_at, line_of, line, words, width, get}
use Rattle.lines.specs.Put.{Put}
use Rattle.lines.proofs.Laws.Putting.{put_cons}
use Rattle.model_text.specs.declared.marks.Mark.{Mark}
use Rattle.model_text.specs.declared.marks.Mark.TheVariants.{Policy, Clocks, Task, Location, Limit, Edge, Bound, Reset, End}
use Rattle.model_text.specs.Marks.{kind_of, kind_in, MarkAt, numbers_text}

-- ---- the numbers of a record, and the line feed

module _ (t : List ℕ) (j : ℕ) where
  pub text_task : numbers_text tk t j ≡ fields_text (0 ∷ 0 ∷ 0 ∷ []) ((get_or t j 0 - 1) ∷ (get_or t (j + 1) 0 - 1) ∷ (get_or t (j + 2) 0 - 1) ∷ [])
  unfolding numbers_text keys_at words width form
  text_task = let e₁ : suc j ≡ j + 1 = omega arith in let e₂ : suc (suc j) ≡ j + 2 = omega arith in rw (← e₁, ← e₂)

  pub text_limit : numbers_text iv t j ≡ fields_text (0 ∷ 0 ∷ []) (((j - 20) % 5) ∷ (get_or t j 0 - 1) ∷ [])
  unfolding numbers_text keys_at words width form
  text_limit = refl

  pub text_edge : numbers_text ed t j ≡ fields_text (0 ∷ 0 ∷ []) ((get_or t j 0 - 1) ∷ (get_or t (j + 1) 0 - 1) ∷ [])
  unfolding numbers_text keys_at words width form
  text_edge = let e₁ : suc j ≡ j + 1 = omega arith in rw (← e₁)

  pub text_bound : numbers_text gu t j ≡ fields_text (0 ∷ 0 ∷ 10000 ∷ []) ((((j - 100) % 31 - 2) / 5) ∷ (((j - 100) % 31 - 2) % 5) ∷ (get_or t j 0 - 1) ∷ [])
  unfolding numbers_text keys_at words width form
  text_bound = refl

  pub text_end : numbers_text en t j ≡ fields_text [] []
  unfolding numbers_text keys_at words width form
  text_end = refl

-- every other mark has one number
pub text_one : (q : Mark) (t : List ℕ) (j : ℕ) → (q ≡ Task → ⊥) → (q ≡ Limit → ⊥) → (q ≡ Edge → ⊥) → (q ≡ Bound → ⊥) → (q ≡ End → ⊥)
    → numbers_text (kind_of q) t j ≡ fields_text (0 ∷ []) ((get_or t j 0 - 1) ∷ [])
unfolding numbers_text keys_at words width form
text_one Policy t j a b d e f = refl
text_one Clocks t j a b d e f = refl
text_one Task t j a b d e f = absurd (a refl)
text_one Location t j a b d e f = refl
text_one Limit t j a b d e f = absurd (b refl)
text_one Edge t j a b d e f = absurd (d refl)
text_one Bound t j a b d e f = absurd (e refl)
text_one Reset t j a b d e f = refl
text_one End t j a b d e f = absurd (f refl)

pub line_is : (q : meaning.Mark) (t : List ℕ) (j : ℕ) → line_of q j (words t j (width q)) ≡ (form q).first ∷ (form q).second ∷ numbers_text q t j
unfolding numbers_text line_of
line_is q t j = refl

-- ---- a slot

-- no line where no record may stand, and where none does
pub line_other : (t : List ℕ) (j : ℕ) → other ≡ mark_at j → line j (get t j) ≡ []
unfolding get words width form line
line_other t j e = ap (line j) (go (there t j))
  where
    go : (b : Bool) → pick b (words t j (width (mark_at j))) [] ≡ []
    go true = rw (← e)
    go false = refl

pub line_none : (t : List ℕ) (j : ℕ) → there t j ≡ false → line j (get t j) ≡ []
unfolding get line
line_none t j e = rw e

width_some : (q : Mark) → (q ≡ End → ⊥) → (n : ℕ) × (width (kind_of q) ≡ suc n)
unfolding width form
width_some Policy n = (0, refl)
width_some Clocks n = (0, refl)
width_some Task n = (2, refl)
width_some Location n = (0, refl)
width_some Limit n = (0, refl)
width_some Edge n = (1, refl)
width_some Bound n = (0, refl)
width_some Reset n = (0, refl)
width_some End n = absurd (n refl)

pub line_some : (t : List ℕ) (j : ℕ) (q : Mark) → kind_of q ≡ mark_at j → (q ≡ End → ⊥) → there t j ≡ true → line j (get t j) ≡ line_of (kind_of q) j (words t j (width (kind_of q)))
unfolding get words line
line_some t j q e n b =
    let w = width_some q n in
    let f : width (mark_at j) ≡ suc w.0 = ap width (sym e) ∙ w.1 in
    rw (b, f, sym e, w.1)

-- two bytes, and then the rest
pub put_two : (b : List ℕ) (at x y : ℕ) (xs b' : List ℕ) (r : ℕ) → Put (set (set b at x) (at + 1) y) (at + 2) xs b' r → Put b at (x ∷ y ∷ xs) b' r
put_two b at x y xs b' r p =
    let z : at + 2 ≡ at + 1 + 1 = omega arith in
    put_cons b at x (y ∷ xs) b' r (put_cons (set b at x) (at + 1) y xs b' r (rw z at p))

-- ---- the mark of a slot

pub policy_at : MarkAt 0 (Some Policy)
unfolding mark_at
policy_at = record { is = refl; few = λ e. cc; limit = λ e. absurd (cc); bound = λ e. absurd (cc) }

pub clocks_at : MarkAt 1 (Some Clocks)
unfolding mark_at
clocks_at = record { is = refl; few = λ e. cc; limit = λ e. absurd (cc); bound = λ e. absurd (cc) }

pub task_at : (j : ℕ) → 2 ≤ j → j < 20 → MarkAt j (then_some (eqb ((j - 2) % 3) 0) Task)
unfolding mark_at
task_at j a b = go (eqb ((j - 2) % 3) 0) refl
  where
    go : (t : Bool) → eqb ((j - 2) % 3) 0 ≡ t → MarkAt j (then_some t Task)
    go true e = record { is = rw (le-ltb j 1 (omega arith), le-ltb j 2 a, lt-ltb j 20 b, e); few = λ e. cc; limit = λ e. absurd (cc); bound = λ e. absurd (cc) }
    go false e = record { is = rw (le-ltb j 1 (omega arith), le-ltb j 2 a, lt-ltb j 20 b, e); few = λ e. cc; limit = λ e. absurd (cc); bound = λ e. absurd (cc) }

pub location_at : (j : ℕ) → 20 ≤ j → j < 100 → (j - 20) % 5 ≡ 0 → MarkAt j (Some Location)
unfolding mark_at
location_at j a b e =
    record { is = rw (le-ltb j 1 (omega arith), le-ltb j 2 (omega arith), le-ltb j 20 a, lt-ltb j 100 b, eq-eqb _ 0 e); few = λ e. cc; limit = λ e. a; bound = λ e. absurd (cc) }

pub limit_at : (j : ℕ) → 20 ≤ j → j < 100 → ((j - 20) % 5 ≡ 0 → ⊥) → MarkAt j (Some Limit)
unfolding mark_at
limit_at j a b n =
    record { is = rw (le-ltb j 1 (omega arith), le-ltb j 2 (omega arith), le-ltb j 20 a, lt-ltb j 100 b, ne_eqb _ 0 n); few = λ e. cc; limit = λ e. a; bound = λ e. absurd (cc) }

pub edge_at : (j : ℕ) (q : Option Mark) → 100 ≤ j → kind_in q ≡ mark_in_edge ((j - 100) % 31) → (q ≡ Some End → ⊥) → (q ≡ Some Limit → ⊥) → (q ≡ Some Bound → 2 ≤ (j - 100) % 31) → MarkAt j q
edge_at j q h e n l b = record { is = e ∙ sym (at_edge j h); few = n; limit = λ z. absurd (l z); bound = λ z. (h, b z) }

pub ruleset mark_at_laws = (policy_at, clocks_at, task_at, location_at, limit_at)

pub ruleset text_laws = (text_task, text_limit, text_edge, text_bound, text_end, text_one)

pub ruleset line_laws = (line_other, line_none, line_some)
