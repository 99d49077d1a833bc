-- `verdict::check` meets its contract: where a table is not one that a text gives, the answer is 13.
use mathlib.Core.Path.{refl}
use Rattle.model_table.proofs.GivenLaws.{given_table}
use Rattle.verdict.specs.Answers.{right}
use Rattle.verdict.proofs.check.Goals as goal

pub invariant_of-table : goal.invariant_of-table
invariant_of-table c = record { right = given_table _ (c.is_model.ensures.yes c.if-not-is_model.false) }

pub check_given-requires : goal.check_given-requires
check_given-requires c = c.is_proposal.ensures.0 c.if-not-is_proposal.false

pub returns : goal.returns
returns c =
    let w = c.check_given.ensures in
    right (record { model = c.is_model.ensures.yes c.if-not-is_model.false; proposal = c.is_proposal.ensures.0 c.if-not-is_proposal.false })
    w.answer w.right c.check_given.result w.says refl
