-- `zone_text::writing::write_tasks` meets its contract.
use Rattle.lines.proofs.Laws.Putting.{put_length}
use Prim.Native.Nat.{ℕ, ◌+◌, ◌-◌}
use mathlib.Core.Path.{◌∙◌, ap, refl}
use lib.ListN.{get_or}
use Rattle.zone_text.proofs.PutRows.{tasks_put_all, tasks_put_none, tasks_put, tasks_room}
use native.Mathlib.Omega.{arith}
use Rattle.zone_text.proofs.writing.write_tasks.Goals as goal

pub loop-x-init : goal.loop-x-init
loop-x-init c = let a = c.args in (omega arith, refl, tasks_put_none a.zones.now (a.zone - 1) a.buf.now a.at)

pub write_task-p-requires : goal.write_task-p-requires
write_task-p-requires c =
    let a = c.args in
    let l = c.loop-x in
    let e = c.cell.ensures ∙ ap (λ (i : ℕ). get_or a.zones.now (i + 1 + l.x) 0) c.head_start-from.ensures in
    tasks_room a.zones.now (a.zone - 1) a.buf.now a.at l.buf l.p l.x _ e l.invariant.2 l.invariant.1 (omega arith) c.requires.2

pub loop-x-preserved : goal.loop-x-preserved
loop-x-preserved c =
    let a = c.args in
    let l = c.loop-x in
    let e = c.cell.ensures ∙ ap (λ (i : ℕ). get_or a.zones.now (i + 1 + l.x) 0) c.head_start-from.ensures in
    let w = c.write_task-p in
    (omega arith, put_length _ _ _ _ _ w.ensures ∙ l.invariant.1, tasks_put a.zones.now (a.zone - 1) a.buf.now a.at l.buf _ l.p w.result l.x _ e l.invariant.2 w.ensures)

pub returns : goal.returns
returns c = let a = c.args in let l = c.loop-x in tasks_put_all a.zones.now (a.zone - 1) a.buf.now a.at l.buf l.p l.x (omega arith) l.invariant.2
