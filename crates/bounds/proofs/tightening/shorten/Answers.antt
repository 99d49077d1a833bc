-- `bounds::tightening::shorten` meets its contract. Both loops have one invariant, over the index k = a * 17 + b that is reached.
use Prim.Native.Nat.{◌*◌}
use native.Mathlib.Omega.{arith}
use Rattle.bounds.specs.Matrix.{Entry}
use Rattle.bounds.proofs.Signed.{back, rd}
use Rattle.bounds.proofs.Store.{entry_fits}
use Rattle.bounds.proofs.Grid as G
use Rattle.bounds.proofs.Grid.{Upto}
use Rattle.bounds.proofs.tightening.shorten.Invariants.{Cell}
use Rattle.bounds.proofs.tightening.shorten.Goals as goal

pub loop-b-preserved : goal.loop-b-preserved
loop-b-preserved c =
    let l = c.loop-b in
    let a = c.loop-a.a in
    let x-entry : Entry c.get-x.result = c.get-x.ensures.entry c.requires.entries in
    let y-entry : Entry c.get-y.result = c.get-y.ensures.entry c.requires.entries in
    let z-entry : Entry c.get-z.result = c.get-z.ensures.entry c.requires.entries in
    let v = rw (back _ (entry_fits x-entry), back _ (entry_fits y-entry), back _ (entry_fits z-entry), c.get-x.ensures.is, c.get-y.ensures.is, c.get-z.ensures.is) at c.shorter.ensures in (
      omega arith,
      G.step (Cell c.args.m c.args.i c.args.j (rd c.args.c)) c.args.m c.args.n l.r a l.b (rd c.shorter.result) (omega arith) (omega arith) (omega arith) l.invariant.1
          (rw (back c.shorter.result (record { sfits = c.shorter.type_inv })) v),
    )

pub loop-a-preserved : goal.loop-a-preserved
loop-a-preserved c =
    (omega arith, G.row_end _ _ _ c.loop-b.r c.loop-a.a c.loop-b.b (omega arith) (omega arith) (omega arith) c.loop-b.invariant.1)

pub returns : goal.returns
returns c =
    let u = c.loop-a.invariant.1 in
    record {
      cells = λ a b ha hb. rw (back _ c.ranges.c) at (G.cells _ _ _ c.loop-a.r (c.loop-a.a * 17) (omega arith) (omega arith) u a b ha hb);
      outside = G.outside _ _ _ c.loop-a.r (c.loop-a.a * 17) (omega arith) u;
    }
