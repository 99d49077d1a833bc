-- What the loop of `read_mark` keeps: none of the marks before stands there.
use Rattle.model_text.proofs.Laws.Marks.{NoneOf}
use Rattle.model_text.proofs.marks.read_mark.Given as goal

abbrev pub invariant-loop-mark : goal.invariant-loop-mark
invariant-loop-mark l = NoneOf l.first l.second l.mark-index
