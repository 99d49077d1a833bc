-- What the loop of `of_clocks` keeps.
use Rattle.zone.proofs.ExactLaws.{ClocksUpto}
use Rattle.zone.proofs.exact.of_clocks.Given as goal

abbrev pub invariant-loop-k : goal.invariant-loop-k
invariant-loop-k l = ClocksUpto l.clocks l.r l.k
