-- `zone_table::lengths::order_length` meets its contract.
use Prim.Native.Nat.{ℕ, ◌+◌, ◌-◌}
use mathlib.Core.Path.{◌≡◌, ap, ◌∙◌}
use lib.ListN.{length, get_or}
use Rattle.meaning.specs.Text.Lines.{kept_text}
use Rattle.zone_table.proofs.RowLaws.{task_row}
use Rattle.zone_table.proofs.LengthLaws.{order_end, tasks_none, tasks_step}
use native.Mathlib.Omega.{arith}
use Rattle.zone_table.proofs.lengths.order_length.Goals as goal

pub loop-x-init : goal.loop-x-init
loop-x-init c =
    let a = c.args in
    let f = c.cell.ensures ∙ ap (λ (i : ℕ). get_or a.zones.now i 0) c.head_start-from.ensures in
    let e = c.kept_length-n.ensures.0 ∙ ap (λ (v : ℕ). length (kept_text 0 v)) (c.less_one.ensures ∙ ap (λ (v : ℕ). v - 1) f) in
    omega (arith, e, tasks_none a.zones.now (a.zone - 1), c.kept_length-n.ensures.1)

pub loop-x-preserved : goal.loop-x-preserved
loop-x-preserved c =
    let a = c.args in
    let l = c.loop-x in
    let f = c.cell-in-loop-x.ensures ∙ ap (λ (i : ℕ). get_or a.zones.now (i + 1 + l.x) 0) c.head_start-from.ensures in
    omega (arith, l.invariant, tasks_step a.zones.now (a.zone - 1) l.x c.cell-in-loop-x.result c.task_length-n.result f c.task_length-n.ensures.0, c.task_length-n.ensures.1)

pub returns : goal.returns
returns c =
    let a = c.args in
    let l = c.loop-x in
    let z : l.x ≡ 6 = omega arith in
    omega (arith, l.invariant, order_end a.zones.now (a.zone - 1), ap (λ (x : ℕ). length (task_row a.zones.now (a.zone - 1) x)) z)
