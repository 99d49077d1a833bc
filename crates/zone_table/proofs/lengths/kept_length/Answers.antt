-- `zone_table::lengths::kept_length` meets its contract.
use native.Mathlib.Omega.{arith}
use Rattle.zone_table.proofs.LengthLaws.{kept_minus_length, kept_plain_length}
use Rattle.zone_table.proofs.lengths.kept_length.Goals as goal

pub returns-then-v-below : goal.returns-then-v-below
returns-then-v-below c = let a = c.args in omega (arith, kept_minus_length a.below a.v (omega arith), c.digits.ensures)

pub returns-else-v-below : goal.returns-else-v-below
returns-else-v-below c = let a = c.args in omega (arith, kept_plain_length a.below a.v (omega arith), c.digits-else-v-below.ensures)
