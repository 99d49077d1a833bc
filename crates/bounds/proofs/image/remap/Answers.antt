-- `bounds::image::remap` meets its contract. Both loops have one invariant, over the index a * 17 + b that is reached.
use mathlib.Core.Path.{◌∙◌}
use Prim.Native.Nat.{◌*◌}
use native.Mathlib.Omega.{arith}
use Rattle.bounds.proofs.Signed.{back, rd}
use Rattle.bounds.proofs.Store.{zeros_z}
use Rattle.bounds.proofs.Grid as G
use Rattle.bounds.proofs.Grid.{Upto}
use Rattle.bounds.proofs.Mapping.{remapped, maps_index}
use Rattle.bounds.proofs.image.remap.Invariants.{Cell, blank}
use Rattle.bounds.proofs.image.remap.Goals as goal

pub loop-b-preserved : goal.loop-b-preserved
loop-b-preserved c =
    let a = c.loop-a.a in
    let l = c.loop-b in (
      omega arith,
      G.step (Cell c.args.m c.args.p c.args.off) blank c.args.n l.r a l.b (rd c.reached.result) (omega arith) (omega arith) (omega arith) l.invariant.1
          (rw (back c.reached.result (record { sfits = c.reached.type_inv })) c.reached.ensures),
    )

pub returns : goal.returns
returns c =
    let l = c.loop-a in
    let u = l.invariant.1 in
    λ n₀. remapped c.args.m l.r n₀ c.args.n c.args.p c.args.off c.requires.entries (maps_index c.args.m c.args.n c.args.p c.args.off c.requires.maps)
    (G.cells _ _ _ l.r (l.a * 17) (omega arith) (omega arith) u)
    (λ k o. G.outside _ _ _ l.r (l.a * 17) (omega arith) u k o ∙ zeros_z 289 k)
