-- `step_reach::step` meets its contract.
use mathlib.Core.Path.{refl}
use Rattle.model_table.proofs.GivenLaws.{given_table}
use Rattle.step_reach.specs.Replies.{right}
use Rattle.step_reach.proofs.step.Goals as goal

pub invariant_of-model : goal.invariant_of-model
invariant_of-model c = record { right = given_table _ (c.is_model.ensures.yes c.if-not-is_model.false) }

pub returns : goal.returns
returns c =
    right (c.is_model.ensures.yes c.if-not-is_model.false) (c.is_zone.ensures.0 c.if-not-is_zone.false) (c.has.ensures.0 c.if-not-has.false) _ refl c.stepped.ensures
