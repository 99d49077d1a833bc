-- `zone::Zone::widest` meets its contract.
use Rattle.model_table.proofs.GivenLaws.{given_table}
use Rattle.zone.proofs.Zone.widest.Goals as goal

pub invariant_of-is_home : goal.invariant_of-is_home
invariant_of-is_home c = record { right = given_table _ (c.is_model.ensures.yes c.if-is_model.true) }
