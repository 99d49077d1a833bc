-- `zone_bounds::narrowing::within` meets its contract.
use native.Mathlib.Omega.{arith}
use Rattle.bounds.proofs.Signed.{back}
use Rattle.zone_bounds.proofs.NarrowLaws.{narrows_one}
use Rattle.zone_bounds.proofs.narrowing.within.Goals as goal

pub returns : goal.returns
returns c =
    let u = rw (back _ c.ranges.c) at c.tighten.ensures in
    narrows_one c.args.m c.args.i c.args.j c.args.c c.tighten.result c.requires.workable (omega arith) (omega arith) c.requires.size u
