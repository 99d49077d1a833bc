-- `bounds::broken::first_broken` meets its contract: no claim before the index that the loops have reached is broken.
use native.Mathlib.Omega.{arith}
use mir.Syntax.{w32}
use mir.Val.{SFits}
use Rattle.bounds.proofs.Signed as S
use Rattle.bounds.proofs.Signed.{signed}
use Rattle.bounds.proofs.Mapping.{maps_index}
use Rattle.bounds.proofs.Breaking.{claim_met, claim_broken, sound_step, sound_row, before_index}
use Rattle.bounds.proofs.broken.first_broken.Goals as goal

pub loop-b-init : goal.loop-b-init
loop-b-init c = let i = c.rows.invariant in record { none = i.none; sound = λ a b ha hb h. i.sound a b ha hb (omega arith) }

pub loop-b-preserved : goal.loop-b-preserved
loop-b-preserved c =
    let entry_fits : SFits w32 c.reached-entry.result = record { sfits = c.reached-entry.type_inv } in
    let bound_fits : SFits w32 c.claimed-bound.result = record { sfits = c.claimed-bound.type_inv } in
    let a = c.rows.a in
    let l = c.loop-b in
    record {
      none = l.invariant.none;
      sound = sound_step c.args.m.now c.args.n c.args.p c.args.off c.args.claims.now c.args.start a l.b (omega arith) (omega arith) l.invariant.sound
          (claim_met c.args.m.now c.args.n c.args.p c.args.off c.args.claims.now c.args.start a l.b (omega arith) (omega arith) (omega arith) c.requires.cells
          c.reached-entry.result c.claimed-bound.result c.reached-entry.ensures c.claimed-bound.ensures (omega (signed, S.at entry_fits, S.at bound_fits)));
    }

pub rows-preserved : goal.rows-preserved
rows-preserved c =
    let l = c.loop-b in
    record {
      none = l.invariant.none;
      sound = sound_row c.args.m.now c.args.n c.args.p c.args.off c.args.claims.now c.args.start c.rows.a l.b (omega arith) (omega arith) l.invariant.sound;
    }

pub returns-after-rows : goal.returns-after-rows
returns-after-rows c =
    let i = c.rows.invariant in
    λ n₀ K P. rw i.none (λ a b ha hb. i.sound a b ha hb (omega arith) n₀ P)

pub returns-then-bound-entry : goal.returns-then-bound-entry
returns-then-bound-entry c =
    let entry_fits : SFits w32 c.reached-entry.result = record { sfits = c.reached-entry.type_inv } in
    let bound_fits : SFits w32 c.claimed-bound.result = record { sfits = c.claimed-bound.type_inv } in
    let a = c.rows.a in
    let l = c.loop-b in
    λ n₀ K P. record {
      inside = (omega arith, omega arith);
      here = claim_broken c.args.m.now c.args.n c.args.p c.args.off c.args.claims.now c.args.start a l.b (omega arith) (omega arith) (omega arith) c.requires.cells
          c.reached-entry.result c.claimed-bound.result c.reached-entry.ensures c.claimed-bound.ensures (omega (signed, S.at entry_fits, S.at bound_fits)) c.requires.entries (maps_index c.args.m.now c.args.n c.args.p c.args.off c.requires.maps) n₀ K P;
      first = λ a' b' ha hb h. l.invariant.sound a' b' ha hb (before_index a' b' a l.b (omega arith) h) n₀ P;
    }
