-- `is_usable` meets its contract.
use Rattle.model_table.proofs.GivenLaws.{given_table}
use Rattle.machine.proofs.CellTests.{told_so}
use Rattle.machine.proofs.judge.is_usable.Goals as goal

pub invariant_of-is_lendable : goal.invariant_of-is_lendable
invariant_of-is_lendable c = record { right = given_table _ (told_so c.is_given.result c.is_given.ensures c.if-is_given.true) }
