-- `zone_table::lengths::text_length` meets its contract.
use Prim.Native.Nat.{ℕ, ◌+◌, ◌-◌}
use mathlib.Core.Path.{◌≡◌, ap}
use lib.ListN.{length}
use Rattle.zone_table.proofs.RowLaws.{zone_row}
use Rattle.zone_table.proofs.LengthLaws.{zones_end, zones_none, zones_step}
use native.Mathlib.Omega.{arith}
use Rattle.zone_table.proofs.lengths.text_length.Goals as goal

pub loop-k-init : goal.loop-k-init
loop-k-init c = let a = c.args in omega (arith, zones_none a.zones.now)

pub loop-k-preserved : goal.loop-k-preserved
loop-k-preserved c =
    let a = c.args in
    let l = c.loop-k in
    let e : l.k + 1 - 1 ≡ l.k = omega arith in
    let z = zones_step a.zones.now l.k c.zone_length-n.result (rw e at c.zone_length-n.ensures.0) in
    omega (arith, l.invariant, z, c.zone_length-n.ensures.1)

pub returns : goal.returns
returns c =
    let a = c.args in
    let l = c.loop-k in
    let z : l.k ≡ 48 = omega arith in
    omega (arith, l.invariant, zones_end a.zones.now, ap (λ (x : ℕ). length (zone_row a.zones.now x)) z)
