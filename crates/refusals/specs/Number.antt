-- The number of each reason, as the list of refusals has it.
-- Assumes nothing.
use Rattle.std.specs.Prelude.{ℕ}
use Rattle.meaning.specs.Text.Refusals as R
use Rattle.refusals.specs.declared.Reason.{Reason}
use Rattle.refusals.specs.declared.Reason.TheVariants.{TooLong, CommaOrStop, MarkNotHere, TooMany, BrokenLine, OutOfRange, WorkOverDeadline, WrongPriority, NotRising, WrongClaims, NotProper, WrongRoom, NotAllowed, ClockEnd}

-- the column "No." of the list of refusals: where an answer is an enum, "a definition sets out this paper's number and values for each of its cases"
abbrev pub number_of : Reason → ℕ
number_of TooLong = R.too_long
number_of CommaOrStop = R.comma_or_stop
number_of MarkNotHere = R.mark_not_here
number_of TooMany = R.too_many
number_of BrokenLine = R.broken_line
number_of OutOfRange = R.out_of_range
number_of WorkOverDeadline = R.work_over_deadline
number_of WrongPriority = R.wrong_priority
number_of NotRising = R.not_rising
number_of WrongClaims = R.wrong_claims
number_of NotProper = R.not_proper
number_of WrongRoom = R.wrong_room
number_of NotAllowed = R.not_allowed
number_of ClockEnd = R.clock_end
