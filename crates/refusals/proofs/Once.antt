-- No two reasons have one number.
-- Assumes nothing.
use Rattle.std.specs.Prelude.{ℕ, ◌≡◌, eqb, if◌then◌else◌}
use mathlib.Core.Path.{refl, sym, ap, ◌∙◌}
use Rattle.refusals.specs.declared.Reason.{Reason}
use Rattle.refusals.specs.declared.Reason.TheVariants.{TooLong, CommaOrStop, MarkNotHere, TooMany, BrokenLine, OutOfRange, WorkOverDeadline, WrongPriority, NotRising, WrongClaims, NotProper, WrongRoom, NotAllowed, ClockEnd}
use Rattle.refusals.specs.Number.{number_of}

-- the reason with a number; a number that no reason has is taken for the last
reason_of : ℕ → Reason
reason_of n =
    if eqb n 1 then TooLong else
    if eqb n 2 then CommaOrStop else
    if eqb n 3 then MarkNotHere else
    if eqb n 4 then BrokenLine else
    if eqb n 5 then OutOfRange else
    if eqb n 6 then NotRising else
    if eqb n 7 then WorkOverDeadline else
    if eqb n 8 then WrongPriority else
    if eqb n 9 then WrongClaims else
    if eqb n 10 then TooMany else
    if eqb n 11 then WrongRoom else
    if eqb n 12 then NotAllowed else
    if eqb n 13 then NotProper else
    ClockEnd

back : (r : Reason) → reason_of (number_of r) ≡ r
unfolding reason_of
back TooLong = refl
back CommaOrStop = refl
back MarkNotHere = refl
back TooMany = refl
back BrokenLine = refl
back OutOfRange = refl
back WorkOverDeadline = refl
back WrongPriority = refl
back NotRising = refl
back WrongClaims = refl
back NotProper = refl
back WrongRoom = refl
back NotAllowed = refl
back ClockEnd = refl

-- what has the same number is the same reason
pub number_once : (a b : Reason) → number_of a ≡ number_of b → a ≡ b
number_once a b e = sym (back a) ∙ ap reason_of e ∙ back b
