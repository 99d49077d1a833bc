-- `slots::order::slots_of` meets its contract.
use mathlib.Core.Path.{◌≡◌, ◌∙◌, ap}
use native.Mathlib.Omega.{arith}
use lib.ListN.{length}
use borrow.Author.Rules.{rules}
use Rattle.model_table.specs.Held.{model_of}
use Rattle.model_table.proofs.PartLaws.{clocks_is}
use Rattle.home.proofs.HomeLaws.{order_length}
use Rattle.slots.proofs.SlotLaws.{filled_start, stand_order}
use Rattle.slots.proofs.order.slots_of.Goals as goal

pub loop-k-init : goal.loop-k-init
loop-k-init c =
    let e = c.clocks-clocks.ensures ∙ clocks_is c.args.model.now.cells.now c.args.model.now.right in
    let w = c.args.model.now.right.right.clocks in
    (e, omega arith, filled_start _ _)

pub returns : goal.returns
returns c =
    let six : length c.args.home.tasks ≡ 6 = search rules in
    let n = order_length c.args.home.count c.args.home.tasks c.requires.count_bound six in
    let k : c.loop-k.k ≡ c.args.home.count = omega (arith, ap length c.order-task-items.ensures) in
    stand_order (model_of c.args.model.now) _ _ (omega arith) n c.requires.count_bound (rw (c.loop-k.invariant.0, c.order-task-items.ensures, k) at c.loop-k.invariant.2)
