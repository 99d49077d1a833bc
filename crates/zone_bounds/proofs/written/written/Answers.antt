-- `zone_bounds::written::written` meets its contract.
use mathlib.Core.Path.{◌≡◌}
use native.Mathlib.Omega.{arith}
use borrow.Author.Rules.{rules}
use lib.IntN.{pos}
use lib.ListN.{get_or}
use Rattle.bounds.proofs.Signed.{rd, signed, eq_read}
use Rattle.zone_bounds.proofs.WrittenLaws.{is_below, not_below, written_first, written_next, written_same, written_all}
use Rattle.zone_bounds.proofs.written.written.Goals as goal
use Rattle.zone_bounds.proofs.written.written.Goals.{then-c-lt-NONE, else-c-lt-NONE}

pub loop-k-init : goal.loop-k-init
loop-k-init c = written_first c.args.bounds c.args.m c.requires.workable

pub loop-k-preserved : goal.loop-k-preserved
loop-k-preserved c =
    let z = get_or c.args.bounds c.loop-k.k (pos 0) in
    let e : rd z ≡ z = search rules in
    let k = c.loop-k.k in
    elim c.if-c-lt-NONE.branch [
      | then-c-lt-NONE w ↦
          rw w.r-is (written_next c.args.bounds k c.args.m c.loop-k.r w.narrow-r.result (is_below z (omega (signed, eq_read e, w.if-c-lt-NONE.true))) c.loop-k.invariant (rw e at w.narrow-r.ensures))
      | else-c-lt-NONE w ↦
          rw w.r-is (written_same c.args.bounds k c.args.m c.loop-k.r (not_below z (c.requires.takable.each k (omega arith)) (omega (signed, eq_read e, w.if-c-lt-NONE.false))) c.loop-k.invariant)
    ]

pub returns : goal.returns
returns c =
    let e : c.loop-k.k ≡ 289 = omega arith in
    written_all c.args.bounds c.args.m c.loop-k.r (rw e at c.loop-k.invariant)
