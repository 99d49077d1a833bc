-- `zone_table::lengths::bound_length` meets its contract.
use native.Mathlib.Omega.{arith}
use Rattle.zone_table.proofs.LengthLaws.{bound_there}
use Rattle.zone_table.proofs.lengths.bound_length.Goals as goal

pub returns-then-v-gt0 : goal.returns-then-v-gt0
returns-then-v-gt0 c = let a = c.args in omega (arith, bound_there a.i a.j a.v (omega arith), c.kept_length.ensures, c.kept_length-then-v-gt0.ensures, c.kept_length-then-v-gt0-2.ensures)
