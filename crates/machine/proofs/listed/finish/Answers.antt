-- `finish` meets its contract.
use Rattle.model_table.proofs.GivenLaws.{given_table}
use Rattle.machine.proofs.CellTests.{told_so}
use Rattle.machine.proofs.listed.finish.Goals as goal

pub invariant_of-fits : goal.invariant_of-fits
invariant_of-fits c = record { right = given_table _ (told_so c.is_known.result c.is_known.ensures c.if-is_known.true).given }

pub invariant_of-position : goal.invariant_of-position
invariant_of-position c = record { right = given_table _ (told_so c.is_known.result c.is_known.ensures c.if-is_known.true).given }
