-- `reset` meets its contract.
use mathlib.Core.Path.{sym, ◌∙◌}
use Rattle.machine.proofs.ClockLaws.{reset_start, reset_taken, reset_passed}
use borrow.Author.Rules.{rules}
use native.Mathlib.Omega.{arith}
use Rattle.machine.proofs.clocks.reset.Goals as goal
use Rattle.machine.proofs.clocks.reset.Goals.{then-reset, else-reset}

pub loop-k-init : goal.loop-k-init
loop-k-init c = reset_start _ _ _ (search rules)

pub loop-k-preserved : goal.loop-k-preserved
loop-k-preserved c =
    let l = c.loop-k in
    elim c.if-reset.branch [
      | then-reset w ↦ rw w.after-is (reset_taken _ _ _ l.after l.k l.invariant (omega arith) (sym c.reset.ensures ∙ w.if-reset.true))
      | else-reset w ↦ rw w.after-is (reset_passed _ _ _ l.after l.k l.invariant (omega arith) (sym c.reset.ensures ∙ w.if-reset.false))
    ]
