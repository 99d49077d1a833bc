-- `zone_table::values::tasks_of` meets its contract.
use Prim.Native.Nat.{ℕ, ◌+◌, ◌-◌}
use mathlib.Core.Path.{◌∙◌, ap}
use lib.ListN.{get_or, replicate}
use lib.Seq.{length-take-le}
use Rattle.zone_table.proofs.ReadLaws.{tasks_read}
use native.Mathlib.Omega.{arith}
use Rattle.zone_table.proofs.values.tasks_of.Goals as goal

pub returns : goal.returns
returns c =
    let a = c.args in
    let l = c.loop-x in
    let n = length-take-le {A = ℕ} a.len (replicate 6 0) (omega arith) in
    tasks_read a.zones.now (a.zone - 1) a.len l.task-items (omega arith) (l.auto.task-items ∙ n) (λ x h. l.invariant x (omega (arith, n)) ∙ ap (λ (y : ℕ). get_or a.zones.now (y + 1 + x) 0 - 1) c.head_start-from.ensures)
