-- What the loop of `read_digits` keeps.
use Prim.Native.Nat.{◌≤◌}
use mathlib.Core.Path.{◌≡◌}
use lib.ListN.{drop}
use Rattle.meaning.specs.Text.Numerals.{too_large, digits}
use Rattle.lines.proofs.numerals.read_digits.Given as goal

abbrev pub invariant-loop-next : goal.invariant-loop-next
invariant-loop-next l = (l.size ≤ too_large) × (digits (drop l.next l.s) l.next l.size ≡ digits (drop l.at l.s) l.at 0)
