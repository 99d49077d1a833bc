-- `zone_text::writing::write_proposal` meets its contract.
use Rattle.model_table.proofs.GivenLaws.{given_table}
use Rattle.zone_text.proofs.writing.write_proposal.Goals as goal

pub invariant_of-write_over : goal.invariant_of-write_over
invariant_of-write_over c = record { right = given_table _ (c.is_model.ensures.yes c.if-not-is_model.false) }
