-- `zone::exact::of_clocks` meets its contract.
use Rattle.std.proofs.Common.{◌+◌, List, sym, subst, arith}
use lib.IntN.{ℤ}
use Rattle.zone.proofs.ExactLaws.{ClocksUpto, empty_made, clocks_start, clocks_more, clocks_end}
use Rattle.zone.proofs.exact.of_clocks.Goals as goal

pub loop-k-init : goal.loop-k-init
loop-k-init c = clocks_start c.args.clocks.now c.requires.0 _ (empty_made _ c.alike-r.ensures)

pub loop-k-preserved : goal.loop-k-preserved
loop-k-preserved c =
    let cs = c.args.clocks.now in
    let l = c.loop-k in
    subst (λ (r : List ℤ). ClocksUpto cs r (l.k + 1)) (sym c.both.ensures)
    (clocks_more cs c.requires.0 l.r l.k l.invariant (omega arith) (c.requires.1.each l.k (omega arith)))

pub returns : goal.returns
returns c =
    let l = c.loop-k in
    clocks_end c.args.clocks.now c.requires.0 l.r l.k l.invariant (omega arith)
