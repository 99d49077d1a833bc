-- `step_bounds::Stepping::limits` meets its contract.
use mathlib.Core.Path.{◌≡◌}
use Prim.Native.Nat.{◌+◌, ◌-◌}
use native.Mathlib.Omega.{arith}
use Rattle.zone_bounds.proofs.NumberLaws.{read, sub_small}
use Rattle.step_bounds.proofs.RangeLaws.{limit_most}
use Rattle.step_bounds.proofs.TableLaws.{limits_first, limits_next, limits_same, limits_all}
use Rattle.step_bounds.proofs.stepping.Stepping.limits.Goals as goal
use Rattle.step_bounds.proofs.stepping.Stepping.limits.Goals.{in-Some, in_default}

pub loop-clock-init : goal.loop-clock-init
loop-clock-init c = limits_first c.args.self.model.cells.now c.args.self.home.location c.args.m c.requires.workable

pub less-requires : goal.less-requires
less-requires c =
    let h = limit_most c.args.self.model.cells.now c.args.self.model.right c.args.self.home.location c.loop-clock.clock c.in-Some.most (omega arith) (omega arith) c.in-Some.ensures in
    (omega arith, omega arith)

pub narrow-r-requires : goal.narrow-r-requires
narrow-r-requires c =
    let h = limit_most c.args.self.model.cells.now c.args.self.model.right c.args.self.home.location c.loop-clock.clock c.in-Some.most (omega arith) (omega arith) c.in-Some.ensures in
    rw (read c.less.result _ (record { sfits = c.less.type_inv }) c.less.ensures)
    (record { i_bound = (omega arith, omega arith); size = sub_small c.in-Some.most 1 (omega arith) (omega arith); workable = c.loop-clock.invariant.usable })

pub loop-clock-preserved : goal.loop-clock-preserved
loop-clock-preserved c =
    let t = c.args.self.model.cells.now in
    let k = c.loop-clock.clock in
    let x = k - 1 in
    let e : k ≡ 1 + x = omega arith in
    let n : k + 1 - 1 ≡ x + 1 = omega arith in
    rw n
    (elim c.match-limit.branch [
      | in-Some w ↦
          rw w.r-is
          (limits_next t c.args.self.home.location x k w.in-Some.most c.args.m c.loop-clock.r w.narrow-r.result e w.in-Some.ensures c.loop-clock.invariant
          (rw (read w.less.result _ (record { sfits = w.less.type_inv }) w.less.ensures) at w.narrow-r.ensures))
      | in_default w ↦
          rw w.r-is (limits_same t c.args.self.home.location x k c.args.m c.loop-clock.r e w.in_default.ensures c.loop-clock.invariant)
    ])

pub returns : goal.returns
returns c =
    let e : c.loop-clock.clock - 1 ≡ 4 = omega arith in
    limits_all c.args.self.model.cells.now c.args.self.home.location c.args.self.model.right c.args.m c.loop-clock.r (rw e at c.loop-clock.invariant)
