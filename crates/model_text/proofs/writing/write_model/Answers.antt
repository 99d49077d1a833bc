-- `write_model` meets its contract.
use Rattle.model_text.proofs.Laws.Giving.{wrote_short, wrote_text}
use Rattle.model_text.proofs.writing.write_model.Goals as goal

pub returns-then-buffer-n : goal.returns-then-buffer-n
returns-then-buffer-n c = wrote_short _ _ _ c.in-Some.ensures c.if-buffer-n.true

pub returns : goal.returns
returns c = wrote_text _ _ _ _ _ c.in-Some.ensures c.if-buffer-n.false c.write_table.ensures
