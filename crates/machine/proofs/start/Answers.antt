-- `start` meets its contract.
use Rattle.model_table.proofs.GivenLaws.{given_table}
use Rattle.machine.proofs.CellTests.{told_so}
use Rattle.machine.proofs.start.Goals as goal

pub invariant_of-start_given : goal.invariant_of-start_given
invariant_of-start_given c = record { right = given_table _ (told_so c.is_given.result c.is_given.ensures c.if-is_given.true) }
