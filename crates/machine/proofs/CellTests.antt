-- Laws of the tests of single cells: each way through such a test.
-- Assumes nothing.
use mathlib.Core.Path.{◌≡◌, refl, sym}
use mathlib.Core.Bool.{Bool, true, false, true≢false}
use Rattle.machine.specs.ByCell.{Tells}

-- what a test says of a fact, by its two cases
pub tells_by : {P : Type 0} (r : Bool) → (r ≡ true → P) → (r ≡ false → P → ⊥) → Tells r P
tells_by true f g = f refl
tells_by false f g = g refl

pub told_so : {P : Type 0} (r : Bool) → Tells r P → r ≡ true → P
told_so true h e = h
told_so false h e = absurd (true≢false (sym e))

pub told_not : {P : Type 0} (r : Bool) → Tells r P → r ≡ false → P → ⊥
told_not true h e = absurd (true≢false e)
told_not false h e = h

pub tells_no : {P : Type 0} (r : Bool) → r ≡ false → (P → ⊥) → Tells r P
tells_no true e h = absurd (true≢false e)
tells_no false e h = h
