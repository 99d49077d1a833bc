-- The refusal numbers of document 01, each by a name.
-- Assumes nothing.
use Rattle.std.specs.Prelude.{ℕ}

-- "over 65,535 bytes"
abbrev pub too_long : ℕ
too_long = 1

-- "a comma or full stop anywhere"
abbrev pub comma_or_stop : ℕ
comma_or_stop = 2

-- "a mark that may not stand here (a second PO or CK too), text ended where a mark is due, bytes after EN"
abbrev pub mark_not_here : ℕ
mark_not_here = 3

-- "a seventh TK, 17th LO, 33rd ED or 49th ZN where that mark may stand"
abbrev pub too_many : ℕ
too_many = 10

-- "spaces, digits, fields or line end wrong"
abbrev pub broken_line : ℕ
broken_line = 4

-- "number outside its range or naming nothing"
abbrev pub out_of_range : ℕ
out_of_range = 5

-- "C over D"
abbrev pub work_over_deadline : ℕ
work_over_deadline = 7

-- "FPS: priority 0 or used before. EDF: not 0"; M-100: "priority must then be 0, else 8"
abbrev pub wrong_priority : ℕ
wrong_priority = 8

-- "not rising, i = j, or a task twice in ZN"
abbrev pub not_rising : ℕ
not_rising = 6

-- "GO: wrong number of claims, or not 0 where 0 is due; at EN: a claim above the last zone"
abbrev pub wrong_claims : ℕ
wrong_claims = 9

-- "tables that no text within 1 gives; a state, queue or job that isn't proper, names what the model lacks, or has a clock above 32,000"
abbrev pub not_proper : ℕ
not_proper = 13

-- "lent text buffer too short to write into; a reader's lent table not of its full size"
abbrev pub wrong_room : ℕ
wrong_room = 11

-- "the tick breaks a limit; the edge isn't in the model, leaves another location, or its guard doesn't hold; a zone's step that isn't in its list"
abbrev pub not_allowed : ℕ
not_allowed = 12

-- "a tick would take a clock above 32,000 (plain machine only)"
abbrev pub clock_end : ℕ
clock_end = 14
