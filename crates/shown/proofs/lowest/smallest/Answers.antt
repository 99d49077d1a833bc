-- `shown::lowest::smallest` meets its contract.
use Rattle.meaning.specs.Text.ModelTable.{decode}
use Rattle.shown.proofs.LowestLaws.{lowest, lowest_shown}
use Rattle.shown.proofs.lowest.smallest.Goals as goal

pub shown_state-requires : goal.shown_state-requires
shown_state-requires c =
    let d = c.requires in
    lowest_shown (decode c.args.model.now.cells.now) d.zone d.step c.args.m.now c.args.plan d.drawn c.least.result c.least.ensures

pub returns : goal.returns
returns c z st d =
    let l = lowest (decode c.args.model.now.cells.now) z st c.args.m.now c.args.plan d c.least.result c.least.ensures in
    record { at = _; lowest = l; is = c.shown_state.ensures z st d.ranged d.planned l.is }
