-- `step_reach::variables::added_to` meets its contract.
use mathlib.Core.Path.{sym, subst}
use native.Mathlib.Omega.{arith}
use Rattle.bounds.proofs.Signed.{back}
use Rattle.step_reach.specs.Plans.{Adds}
use Rattle.step_reach.proofs.VariableLaws.{added_clock, added_sum, added_age}
use Rattle.step_reach.proofs.variables.added_to.Goals as goal

pub returns-then-i-clocks : goal.returns-then-i-clocks
returns-then-i-clocks c =
    subst (Adds c.args.clocks c.args.time c.args.sum c.args.i) (sym (back c.args.time c.ranges.time))
    (added_clock c.args.clocks c.args.time c.args.sum c.args.i (omega arith) (omega (arith, c.if-i-clocks.true)))

pub returns-then-i-clocks-eq0 : goal.returns-then-i-clocks-eq0
returns-then-i-clocks-eq0 c =
    subst (Adds c.args.clocks c.args.time c.args.sum c.args.i) (sym (back c.args.sum c.ranges.sum))
    (added_sum c.args.clocks c.args.time c.args.sum c.args.i (omega (arith, c.if-i-clocks.false)) c.if-i-clocks-eq0.true)

pub returns-else-i-clocks-eq0 : goal.returns-else-i-clocks-eq0
returns-else-i-clocks-eq0 c =
    subst (Adds c.args.clocks c.args.time c.args.sum c.args.i) (sym (back c.args.time c.ranges.time))
    (added_age c.args.clocks c.args.time c.args.sum c.args.i (omega (arith, c.if-i-clocks.false)) c.if-i-clocks-eq0.false)
