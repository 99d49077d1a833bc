-- `zone_text::writing::write_text` meets its contract.
use Rattle.lines.proofs.Laws.Putting.{put_length}
use Prim.Native.Nat.{◌+◌, ◌-◌}
use mathlib.Core.Path.{◌≡◌, ◌∙◌, refl}
use Rattle.zone_text.proofs.PutRows.{zones_put_none, zones_put, zones_room, end_room, end_put}
use native.Mathlib.Omega.{arith}
use Rattle.zone_text.proofs.writing.write_text.Goals as goal

pub loop-k-init : goal.loop-k-init
loop-k-init c = let a = c.args in (omega arith, refl, zones_put_none a.zones.now a.buf.now)

pub write_zone-p-requires : goal.write_zone-p-requires
write_zone-p-requires c =
    let a = c.args in
    let l = c.loop-k in
    let e : l.k + 1 - 1 ≡ l.k = omega arith in
    (omega arith, omega arith, rw e (zones_room a.zones.now a.buf.now l.buf l.p l.k l.invariant.2 l.invariant.1 (omega arith) c.requires))

pub loop-k-preserved : goal.loop-k-preserved
loop-k-preserved c =
    let a = c.args in
    let l = c.loop-k in
    let w = c.write_zone-p in
    let e : l.k + 1 - 1 ≡ l.k = omega arith in
    (omega arith, put_length _ _ _ _ _ w.ensures ∙ l.invariant.1, zones_put a.zones.now a.buf.now l.buf _ l.p w.result l.k l.invariant.2 (rw e at w.ensures))

pub write_bytes-requires : goal.write_bytes-requires
write_bytes-requires c =
    let a = c.args in
    let l = c.loop-k in
    end_room a.zones.now a.buf.now l.buf l.p l.k l.invariant.2 l.invariant.1 (omega arith) c.requires

pub returns : goal.returns
returns c =
    let a = c.args in
    let l = c.loop-k in
    end_put a.zones.now a.buf.now l.buf _ l.p _ l.k (omega arith) l.invariant.2 c.write_bytes.ensures
