-- `zone_table::lengths::digits` meets its contract.
use native.Mathlib.Omega.{arith}
use mathlib.Core.Path.{sym}
use Rattle.zone_table.proofs.LengthLaws.{dec_one, dec_two, dec_three, dec_four, dec_five, dec_six}
use Rattle.zone_table.proofs.lengths.digits.Goals as goal

pub returns-in-0-to-9 : goal.returns-in-0-to-9
returns-in-0-to-9 c = (sym (dec_one _ (omega arith)), omega arith)

pub returns-in-10-to-99 : goal.returns-in-10-to-99
returns-in-10-to-99 c = (sym (dec_two _ (omega arith) (omega arith)), omega arith)

pub returns-in-100-to-999 : goal.returns-in-100-to-999
returns-in-100-to-999 c = (sym (dec_three _ (omega arith) (omega arith)), omega arith)

pub returns-in-1000-to-9999 : goal.returns-in-1000-to-9999
returns-in-1000-to-9999 c = (sym (dec_four _ (omega arith) (omega arith)), omega arith)

pub returns-in-10000-to-99999 : goal.returns-in-10000-to-99999
returns-in-10000-to-99999 c = (sym (dec_five _ (omega arith) (omega arith)), omega arith)

pub returns-in_default : goal.returns-in_default
returns-in_default c = (sym (dec_six _ (omega arith)), omega arith)
