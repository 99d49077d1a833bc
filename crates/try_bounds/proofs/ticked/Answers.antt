-- `try_bounds::ticked` meets its contract.
use native.Mathlib.Omega.{arith}
use Rattle.try_bounds.proofs.Arrays.{moved, tick_moves, tick_sizes}
use Rattle.try_bounds.proofs.ticked.Goals as goal

pub returns : goal.returns
returns c =
    let p = c.tick_vars-p in
    let o = c.tick_offsets-off in
    moved c.args.m 6 6 p.result o.result c.requires (omega arith) (omega arith)
    (tick_moves p.result o.result p.ensures o.ensures.0 o.ensures.1 c.args.m c.requires) (tick_sizes p.result o.result p.ensures o.ensures.0 o.ensures.1) c.remap.result c.remap.ensures
