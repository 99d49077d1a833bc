-- `step_reach::plan::laid` meets its contract.
use mathlib.Core.Path.{◌≡◌, ◌∙◌}
use Prim.Native.Nat.{◌≤◌}
use native.Mathlib.Omega.{arith}
use Rattle.meaning.specs.Text.ModelTable.{decode}
use Rattle.model_table.proofs.PartLaws.{clocks_is}
use Rattle.bounds.proofs.Signed.{back}
use Rattle.step_reach.proofs.VariableLaws.{adds_same}
use Rattle.step_reach.proofs.PlanLaws.{planned}
use borrow.Author.Rules.{rules}
use Rattle.step_reach.proofs.plan.laid.Goals as goal

pub all_from-from-requires : goal.all_from-from-requires
all_from-from-requires c =
    let clocks : c.clocks-clocks.result ≡ (decode c.args.model.now.cells.now).clocks =
    (c.clocks-clocks.ensures ∙ clocks_is c.args.model.now.cells.now c.args.model.now.right) in
    let few : c.clocks-clocks.result ≤ 4 =
    (omega (arith, clocks, c.args.model.now.right.right.clocks)) in
    (clocks, few, omega (arith, clocks, c.variables-variables.ensures.0))

pub all_added-off-requires : goal.all_added-off-requires
all_added-off-requires c =
    let clocks : c.clocks-clocks.result ≡ (decode c.args.model.now.cells.now).clocks =
    (c.clocks-clocks.ensures ∙ clocks_is c.args.model.now.cells.now c.args.model.now.right) in
    let few : c.clocks-clocks.result ≤ 4 =
    (omega (arith, clocks, c.args.model.now.right.right.clocks)) in
    (few, c.variables-variables.ensures.1)

pub returns : goal.returns
returns c h st w =
    let clocks : c.clocks-clocks.result ≡ (decode c.args.model.now.cells.now).clocks =
    (c.clocks-clocks.ensures ∙ clocks_is c.args.model.now.cells.now c.args.model.now.right) in
    let t = c.args.model.now.cells.now in
    let v = c.variables-variables.ensures.0 in
    planned t h st c.args.location c.args.edge c.args.slots c.args.time c.args.sum w c.requires c.tasks-tasks.result (search rules) c.tasks-tasks.ensures
    c.variables-variables.result c.all_from-from.result c.all_added-off.result v
    c.all_from-from.ensures.0 c.all_from-from.ensures.1
    (λ i e. adds_same (clocks) (back c.args.time c.ranges.time) (back c.args.sum c.ranges.sum) (c.all_added-off.ensures.0 i e))
    c.all_added-off.ensures.1
