-- `tick_given` meets its contract.
use mathlib.Core.Path.{sym, ◌∙◌}
use native.Mathlib.Omega.{arith}
use Rattle.model_table.proofs.PartLaws.{clocks_is}
use Rattle.machine.proofs.LendLaws.{lent_small}
use Rattle.machine.proofs.StepLaws.{grown_is, tick_answered, tick_ended, tick_broken}
use Rattle.machine.proofs.stepping.tick_given.Goals as goal

pub grow-grown-requires : goal.grow-grown-requires
grow-grown-requires c =
    let t = c.args.model.now.cells.now in
    let g = c.args.model.now.right in
    let k = g.right.clocks in
    (omega (arith, c.clocks.ensures, clocks_is t g), lent_small t g c.args.state c.requires)

pub ticked-requires : goal.ticked-requires
ticked-requires c =
    (c.requires, grown_is c.args.model.now.cells.now c.args.model.now.right c.args.state c.requires _ _ c.clocks.ensures c.grow-grown.ensures)

pub returns-then-not-limits_met : goal.returns-then-not-limits_met
returns-then-not-limits_met c =
    let t = c.args.model.now.cells.now in
    let s = c.args.state in
    let g = c.args.model.now.right in
    let w = c.requires in
    c.refused.ensures
    ∙ tick_broken t g s w c.grow-grown.result (grown_is t g s w _ _ c.clocks.ensures c.grow-grown.ensures) (sym c.limits_met.ensures ∙ c.if-not-limits_met.true)

pub returns-then-not-within_end : goal.returns-then-not-within_end
returns-then-not-within_end c =
    let t = c.args.model.now.cells.now in
    let s = c.args.state in
    let g = c.args.model.now.right in
    let w = c.requires in
    c.refused-then-not-within_end.ensures
    ∙ tick_ended t g s w c.grow-grown.result (grown_is t g s w _ _ c.clocks.ensures c.grow-grown.ensures) (sym c.limits_met.ensures ∙ c.if-not-limits_met.false)
    (sym c.within_end.ensures ∙ c.if-not-within_end.true)

pub returns : goal.returns
returns c =
    let t = c.args.model.now.cells.now in
    let s = c.args.state in
    let g = c.args.model.now.right in
    let w = c.requires in
    c.ticked.ensures
    ∙ tick_answered t g s w c.grow-grown.result (grown_is t g s w _ _ c.clocks.ensures c.grow-grown.ensures) (sym c.limits_met.ensures ∙ c.if-not-limits_met.false)
    (sym c.within_end.ensures ∙ c.if-not-within_end.false)
