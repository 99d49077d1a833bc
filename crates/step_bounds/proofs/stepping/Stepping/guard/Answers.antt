-- `step_bounds::Stepping::guard` meets its contract.
use mathlib.Core.Path.{◌≡◌}
use mathlib.Core.Logic.{⊎_elim}
use Prim.Native.Nat.{◌/◌, ◌%◌}
use native.Mathlib.Omega.{arith}
use Rattle.bounds.proofs.Signed.{back}
use Rattle.zone_bounds.proofs.NumberLaws.{bound_fits}
use Rattle.step_bounds.proofs.RangeLaws.{bound_sized}
use Rattle.step_bounds.proofs.TableLaws.{guard_first, guard_next, guard_same}
use Rattle.step_bounds.proofs.stepping.Stepping.guard.Goals as goal
use Rattle.step_bounds.proofs.stepping.Stepping.guard.Goals.{in-Some, in_default}

pub loop-x-init : goal.loop-x-init
loop-x-init c = guard_first c.args.self.model.cells.now c.args.edge c.args.m c.requires.workable

pub narrow-r-requires : goal.narrow-r-requires
narrow-r-requires c =
    let k = c.in-Some in
    let z = bound_sized c.args.self.model.cells.now c.args.self.model.right c.args.edge c.loop-x.x k.c (omega arith) (omega arith) (omega arith) k.ensures.0 k.ensures.2 in
    rw (back k.c (bound_fits k.c z)) (record { i_bound = (omega arith, omega arith); size = z; workable = c.loop-x.invariant.usable })

pub loop-x-preserved : goal.loop-x-preserved
loop-x-preserved c =
    let t = c.args.self.model.cells.now in
    let x = c.loop-x.x in
    elim c.match-bound.branch [
      | in-Some w ↦
          let k = w.in-Some in
          let z = bound_sized t c.args.self.model.right c.args.edge x k.c (omega arith) (omega arith) (omega arith) k.ensures.0 k.ensures.2 in
          rw w.r-is
          (guard_next t c.args.edge x k.c c.args.m c.loop-x.r w.narrow-r.result k.ensures.0 k.ensures.2 c.loop-x.invariant
          (rw (back k.c (bound_fits k.c z)) at w.narrow-r.ensures))
      | in_default w ↦
          let none = ⊎_elim (λ e. e) (λ h. absurd (omega (arith, c.args.self.model.right.bound c.args.edge (x / 5) (x % 5)))) w.in_default.ensures in
          rw w.r-is (guard_same t c.args.edge x c.args.m c.loop-x.r none c.loop-x.invariant)
    ]

pub returns : goal.returns
returns c =
    let e : c.loop-x.x ≡ 25 = omega arith in
    rw e at c.loop-x.invariant
