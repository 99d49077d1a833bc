-- `zone_text::writing::write_bounds` meets its contract.
use Rattle.lines.proofs.Laws.Putting.{put_length}
use Prim.Native.Nat.{ℕ, ◌+◌, ◌-◌}
use mathlib.Core.Path.{◌∙◌, ap, refl}
use lib.ListN.{get_or}
use Rattle.zone_text.proofs.PutRows.{bounds_put_all, bounds_put_none, bounds_put, bounds_room}
use native.Mathlib.Omega.{arith}
use Rattle.zone_text.proofs.writing.write_bounds.Goals as goal

pub loop-x-init : goal.loop-x-init
loop-x-init c = let a = c.args in (omega arith, refl, bounds_put_none a.zones.now (a.zone - 1) a.buf.now a.at)

pub write_bound-p-requires : goal.write_bound-p-requires
write_bound-p-requires c =
    let a = c.args in
    let l = c.loop-x in
    let e = c.cell-v.ensures ∙ ap (λ (i : ℕ). get_or a.zones.now (i + l.x) 0) c.bounds_start-from.ensures in
    bounds_room a.zones.now (a.zone - 1) a.buf.now a.at l.buf l.p l.x _ e l.invariant.2 l.invariant.1 (omega arith) c.requires.2

pub loop-x-preserved : goal.loop-x-preserved
loop-x-preserved c =
    let a = c.args in
    let l = c.loop-x in
    let e = c.cell-v.ensures ∙ ap (λ (i : ℕ). get_or a.zones.now (i + l.x) 0) c.bounds_start-from.ensures in
    let w = c.write_bound-p in
    (omega arith, put_length _ _ _ _ _ w.ensures ∙ l.invariant.1, bounds_put a.zones.now (a.zone - 1) a.buf.now a.at l.buf _ l.p w.result l.x _ e l.invariant.2 w.ensures)

pub returns : goal.returns
returns c = let a = c.args in let l = c.loop-x in bounds_put_all a.zones.now (a.zone - 1) a.buf.now a.at l.buf l.p l.x (omega arith) l.invariant.2
