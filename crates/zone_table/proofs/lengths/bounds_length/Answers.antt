-- `zone_table::lengths::bounds_length` meets its contract.
use Prim.Native.Nat.{ℕ, ◌+◌, ◌-◌}
use mathlib.Core.Path.{◌≡◌, ap, ◌∙◌}
use lib.ListN.{length, get_or}
use Rattle.zone_table.proofs.RowLaws.{bound_row}
use Rattle.zone_table.proofs.LengthLaws.{bounds_end, bounds_none, bounds_step}
use native.Mathlib.Omega.{arith}
use Rattle.zone_table.proofs.lengths.bounds_length.Goals as goal

pub loop-x-init : goal.loop-x-init
loop-x-init c = let a = c.args in omega (arith, bounds_none a.zones.now (a.zone - 1))

pub loop-x-preserved : goal.loop-x-preserved
loop-x-preserved c =
    let a = c.args in
    let l = c.loop-x in
    let e = c.cell-v.ensures ∙ ap (λ (i : ℕ). get_or a.zones.now (i + l.x) 0) c.bounds_start-from.ensures in
    omega (arith, l.invariant, bounds_step a.zones.now (a.zone - 1) l.x c.cell-v.result c.bound_length-n.result e c.bound_length-n.ensures.0, c.bound_length-n.ensures.1)

pub returns : goal.returns
returns c =
    let a = c.args in
    let l = c.loop-x in
    let z : l.x ≡ 289 = omega arith in
    omega (arith, l.invariant, bounds_end a.zones.now (a.zone - 1), ap (λ (x : ℕ). length (bound_row a.zones.now (a.zone - 1) x)) z)
