-- `zone_text::writing::write_numbers` meets its contract.
use Rattle.lines.proofs.Laws.Putting.{put_length}
use mathlib.Core.Path.{◌∙◌, refl}
use Rattle.zone_text.proofs.PutRows.{claims_put_all, claims_put_none, claims_put, claims_room}
use native.Mathlib.Omega.{arith}
use Rattle.zone_text.proofs.writing.write_numbers.Goals as goal

pub loop-x-init : goal.loop-x-init
loop-x-init c = let a = c.args in (omega arith, refl, claims_put_none a.zones.now a.from a.buf.now a.at)

pub write_field-p-requires : goal.write_field-p-requires
write_field-p-requires c =
    let a = c.args in
    let l = c.loop-x in
    claims_room a.zones.now a.from a.n a.buf.now a.at l.buf l.p l.x _ _ c.less_one-v.ensures c.cell.ensures l.invariant.2 l.invariant.1 (omega arith) c.requires

pub loop-x-preserved : goal.loop-x-preserved
loop-x-preserved c =
    let a = c.args in
    let l = c.loop-x in
    let w = c.write_field-p in
    (omega arith, put_length _ _ _ _ _ w.ensures ∙ l.invariant.1, claims_put a.zones.now a.from a.buf.now a.at l.buf _ l.p w.result l.x _ _ c.less_one-v.ensures c.cell.ensures l.invariant.2 w.ensures)

pub returns : goal.returns
returns c = let a = c.args in let l = c.loop-x in claims_put_all a.zones.now a.from a.n a.buf.now a.at l.buf l.p l.x (omega arith) l.invariant.2
