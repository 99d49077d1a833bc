-- `shown::state::shown_state` meets its contract.
use mathlib.Core.Path.{◌≡◌, ◌∙◌}
use native.Mathlib.Omega.{arith}
use borrow.Author.Rules.{rules}
use lib.ListN.{length-take}
use Rattle.meaning.specs.Text.ModelTable.{decode}
use Rattle.meaning.specs.Inner.StepBounds.{RangedModel}
use Rattle.model_table.proofs.PartLaws.{clocks_is}
use Rattle.step_bounds.proofs.RangeLaws.{right_ranged}
use Rattle.shown.proofs.StateLaws.{movable, rising, state_is}
use Rattle.shown.proofs.state.shown_state.Goals as goal
use Rattle.shown.proofs.state.shown_state.Goals.{After-clocks-n}

ranged : (c : After-clocks-n) → RangedModel (decode c.args.model.now.cells.now)
ranged c = right_ranged (decode c.args.model.now.cells.now) c.args.model.now.right.right

many : (c : After-clocks-n) → c.clocks-n.result ≡ (decode c.args.model.now.cells.now).clocks
many c = c.clocks-n.ensures ∙ clocks_is c.args.model.now.cells.now c.args.model.now.right

pub moved-v-requires : goal.moved-v-requires
moved-v-requires c =
    let w = c.requires in
    movable (decode c.args.model.now.cells.now) w.zone w.step (ranged (goal.at.moved-v-requires c).After-clocks-n) w.ranged c.args.plan w.planned c.args.x w.source c.args.model.now.right.right w.few w.low

pub jobs_of-jobs-requires-clause-n_bound : goal.jobs_of-jobs-requires-clause-n_bound
jobs_of-jobs-requires-clause-n_bound c = (
  omega (arith, many (goal.at.jobs_of-jobs-requires-clause-n_bound c).After-clocks-n, c.args.model.now.right.right.clocks),
  rw c.order.ensures (omega (arith, length-take c.args.plan.home.count c.args.plan.home.tasks, c.requires.planned.few)),
)

pub jobs_of-jobs-requires-clause-rising : goal.jobs_of-jobs-requires-clause-rising
jobs_of-jobs-requires-clause-rising c =
    let n = (goal.at.jobs_of-jobs-requires-clause-rising c).After-clocks-n in
    let w = c.requires in
    rising (decode c.args.model.now.cells.now) w.zone w.step (ranged n) w.ranged c.args.plan w.planned c.args.x w.source c.moved-v.result c.moved-v.ensures c.clocks-n.result c.order.result.now (many n) c.order.ensures

pub returns : goal.returns
returns c z st rz q b =
    let n = (goal.at.returns c).After-clocks-n in
    state_is (decode c.args.model.now.cells.now) z st (ranged n) rz c.args.plan q c.args.x b c.moved-v.result c.moved-v.ensures
    c.clocks-n.result c.clocks_of-values.result c.jobs_of-jobs.result c.order.result.now (many n) c.order.ensures (search rules) c.clocks_of-values.ensures c.jobs_of-jobs.ensures
