-- What the loop of `reset` keeps.
use Rattle.machine.proofs.ClockLaws.{Reset}
use Rattle.machine.proofs.clocks.reset.Given as goal

abbrev pub invariant-loop-k : goal.invariant-loop-k
invariant-loop-k l = Reset l.model l.edge l.fn.clocks l.after l.k
