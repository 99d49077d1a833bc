-- `try_bounds::zone` meets its contract.
use native.Mathlib.Omega.{arith}
use Rattle.bounds.proofs.Signed.{back}
use Rattle.try_bounds.proofs.Arrays.{limit_fits, made_first, made_more}
use Rattle.try_bounds.proofs.zone.Goals as goal

pub loop-bound-init : goal.loop-bound-init
loop-bound-init c = made_first c.args.n c.args.list.now c.top-m.result c.requires.some c.requires.few c.top-m.ensures

pub loop-bound-preserved : goal.loop-bound-preserved
loop-bound-preserved c =
    let l = c.loop-bound in
    let b = c.requires.each l.bound-index (omega arith) in
    made_more c.args.n l.bound-index c.args.list.now l.m c.in_ok-m.m c.requires.few b l.invariant (rw (back _ (limit_fits b.size)) at c.in_ok-m.ensures)
