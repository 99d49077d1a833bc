-- `step_bounds::Stepping::beats_none` meets its contract.
use mathlib.Core.Path.{◌≡◌}
use Prim.Native.Nat.{◌+◌}
use native.Mathlib.Omega.{arith}
use Rattle.std.specs.Prelude.{None, Some}
use Rattle.step_bounds.specs.Stepping.{model_of}
use Rattle.meaning.specs.Inner.Tests.{test_at}
use Rattle.slots.specs.Stands.{no_slot}
use Rattle.step_bounds.proofs.PlaceLaws.{place_next, place_stop}
use Rattle.step_bounds.proofs.stepping.Stepping.beats_none.Goals as goal

pub loop-k-preserved : goal.loop-k-preserved
loop-k-preserved c ss w =
    place_next (test_at (model_of c.args.self) c.args.task) c.args.first ss c.loop-k.k no_slot c.args.m c.loop-k.r (Some c.in_ok-r.r) (omega (arith, c.requires.first_le_at))
    (omega (arith, w.many, c.requires.first_le_at)) (c.loop-k.invariant ss w) (rw (c.test_at.ensures ss w).is at c.in_ok-r.ensures)

pub returns-in_err-r : goal.returns-in_err-r
returns-in_err-r c ss w =
    let f = test_at (model_of c.args.self) c.args.task in
    let h = c.requires.first_le_at in
    rw c.from_residual.ensures
    (place_stop f c.args.first ss (c.loop-k.k + 1) c.args.at c.args.m (omega arith) (omega arith) (omega (arith, w.many))
    (place_next f c.args.first ss c.loop-k.k no_slot c.args.m c.loop-k.r None (omega arith) (omega (arith, w.many)) (c.loop-k.invariant ss w)
    (rw (c.test_at.ensures ss w).is at c.in_err-r.ensures)))

pub returns : goal.returns
returns c ss w =
    let e : c.loop-k.k ≡ c.args.at = omega (arith, c.requires.first_le_at) in
    rw e at (c.loop-k.invariant ss w)
