-- What the loop of `read_line` keeps.
use Rattle.lines.proofs.Laws.Reading.{Reading}
use Rattle.lines.proofs.fields.read_line.Given as goal

abbrev pub invariant-loop-k : goal.invariant-loop-k
invariant-loop-k l = Reading l.s l.at l.ranges l.numbers l.k l.p l.out
