-- `edge` meets its contract.
use Rattle.machine.proofs.CellTests.{told_so}
use Rattle.model_table.proofs.GivenLaws.{given_table}
use Rattle.machine.proofs.edge.Goals as goal

pub invariant_of-edge_given : goal.invariant_of-edge_given
invariant_of-edge_given c = record { right = given_table _ (told_so c.is_usable.result c.is_usable.ensures c.if-is_usable.true).given }
