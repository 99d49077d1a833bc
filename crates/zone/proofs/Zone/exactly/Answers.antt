-- `zone::Zone::exactly` meets its contract.
use Rattle.model_table.proofs.GivenLaws.{given_table}
use Rattle.zone.proofs.Zone.exactly.Goals as goal

pub invariant_of-is_lendable : goal.invariant_of-is_lendable
invariant_of-is_lendable c = record { right = given_table _ (c.is_model.ensures.yes c.if-is_model.true) }

pub invariant_of-exact_zone : goal.invariant_of-exact_zone
invariant_of-exact_zone c = record { right = given_table _ (c.is_model.ensures.yes c.if-is_model.true) }
