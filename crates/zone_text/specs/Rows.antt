-- What a row of numbers comes to, and what it leaves in the table.
-- Assumes nothing.
use Rattle.std.specs.Prelude.{ℕ, suc, ◌≤◌, ◌≡◌, Option, Some, None, List, [], ◌∷◌, map, length, Result, Ok, Err}
use Rattle.std.proofs.lemmas.List.Edits.{sets}
use Rattle.meaning.specs.Text.Lines.{Fields, ok, bad, out}
use Rattle.refusals.specs.declared.Reason.TheVariants.{BrokenLine, OutOfRange}
use Rattle.refusals.specs.declared.Refusal.{Refusal}
use Rattle.zone_text.specs.declared.reading_rows.Row.{Row}
use Rattle.zone_text.specs.declared.reading_rows.Bound.{Bound}

-- what fields come to behind a number that is outside its range at the place o, if one is: "in a line, 4 for all fields before 5"
abbrev pub led : Option ℕ → Fields → Fields
led None x = x
led (Some o) (ok vs next) = out o
led (Some o) (bad p) = bad p
led (Some o) (out p) = out o

-- the answer r says what the row came to; the cells c became c', with the numbers in the first of them if there was room
abbrev pub RowTold : Fields → Result Row Refusal → List ℕ → List ℕ → Type 0
RowTold (ok vs next) r c c' = (r ≡ Ok (record { next = next; many = length vs })) × (length vs ≤ length c → c' ≡ sets c 0 (map suc vs))
RowTold (bad p) r c c' = r ≡ Err (record { reason = BrokenLine; place = p })
RowTold (out p) r c c' = r ≡ Err (record { reason = OutOfRange; place = p })

-- the same of a location and the tasks behind it, all stored
abbrev pub HeadTold : Fields → Result Row Refusal → List ℕ → List ℕ → Type 0
HeadTold (ok [] next) r c c' = ⊥
HeadTold (ok (l ∷ o) next) r c c' = (r ≡ Ok (record { next = next; many = length o })) × (c' ≡ sets c 0 (suc l ∷ map suc o))
HeadTold (bad p) r c c' = r ≡ Err (record { reason = BrokenLine; place = p })
HeadTold (out p) r c c' = r ≡ Err (record { reason = OutOfRange; place = p })

-- the answer r says what the line of a bound came to
abbrev pub BoundTold : Fields → Result Bound Refusal → Type 0
BoundTold (ok vs next) r = (i : ℕ) × (j : ℕ) × (c : ℕ) × (r ≡ Ok (record { next = next; i = i; j = j; c = c })) × (vs ≡ i ∷ j ∷ c ∷ [])
BoundTold (bad p) r = r ≡ Err (record { reason = BrokenLine; place = p })
BoundTold (out p) r = r ≡ Err (record { reason = OutOfRange; place = p })

-- its numbers are within the table
pub record BoundSmall (b : Bound) : Type 0 where
  pub i : b.i ≤ 16
  pub j : b.j ≤ 16
  pub c : b.c ≤ 64000
