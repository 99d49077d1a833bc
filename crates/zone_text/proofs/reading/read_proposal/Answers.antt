-- `read_proposal` meets its contract.
use Rattle.meaning.specs.Text.ModelTable.{decode}
use lib.ListN.{length}
use Rattle.model_table.proofs.GivenLaws.{given_table}
use Rattle.zone_text.proofs.Laws.Reading.{answered_refused, read_no_model}
use Rattle.zone_text.proofs.reading.read_proposal.Goals as goal

pub returns-then-not-is_model : goal.returns-then-not-is_model
returns-then-not-is_model c =
    let a = c.args in
    let n = c.is_model.ensures.no c.if-not-is_model.true in
    record {
      over = λ g. absurd (n g);
      none = λ _. answered_refused _ _ _ _ _ _ c.refused.ensures (read_no_model (decode a.model.now) (length a.zones.now) a.text.now) (c.fill.ensures.after (λ y h. h));
    }

pub invariant_of-read_given : goal.invariant_of-read_given
invariant_of-read_given c = record { right = given_table _ (c.is_model.ensures.yes c.if-not-is_model.false) }
