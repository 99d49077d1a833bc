-- What the loop of `read_row` keeps, and how it ends.
use Prim.Native.Nat.{◌-◌}
use Rattle.zone_text.proofs.Laws.Rows.{Taking}
use Rattle.zone_text.proofs.reading_rows.read_row.Given as goal

abbrev pub invariant-loop-first_out : goal.invariant-loop-first_out
invariant-loop-first_out l = Taking l.s l.at l.fn.out l.most l.low l.high l.initial.cells l.cells l.many l.p l.first_out

abbrev pub decreases-loop-first_out : goal.decreases-loop-first_out
decreases-loop-first_out l = l.most - l.many
