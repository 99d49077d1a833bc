-- `write_number` meets its contract.
use native.Mathlib.Omega.{arith}
use mathlib.Core.Path.{ap}
use lib.ListN.{length, length-set}
use Rattle.meaning.proofs.Text.WriteLaws.{num_text_minus}
use Rattle.lines.proofs.writing.write_number.Goals as goal

pub write_digits-requires : goal.write_digits-requires
write_digits-requires c = simp length-set (omega (arith, ap length (num_text_minus c.args.minus c.args.size c.if-minus.true)))
