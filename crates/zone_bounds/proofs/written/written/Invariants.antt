-- What the loop of `written` keeps.
use Rattle.zone_bounds.specs.Narrowed.{Narrows}
use Rattle.zone_bounds.proofs.WrittenLaws.{written_to}
use Rattle.zone_bounds.proofs.written.written.Given as goal

abbrev pub invariant-loop-k : goal.invariant-loop-k
invariant-loop-k l = Narrows (written_to l.c-items l.k) l.initial.r l.r
