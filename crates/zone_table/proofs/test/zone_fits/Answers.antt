-- `zone_table::test::zone_fits` meets its contract.
use Prim.Native.Nat.{◌-◌}
use Rattle.zone_table.proofs.Deciding.{failed}
use Rattle.zone_table.proofs.ZoneTests.{zone_bounds, zone_test}
use Rattle.zone_table.proofs.test.zone_fits.Goals as goal

pub returns-then-bounds_fit : goal.returns-then-bounds_fit
returns-then-bounds_fit c =
    let a = c.args in
    zone_test a.model.now c.requires.0 a.zones.now (a.zone - 1) _ _ c.variables-n.ensures.0 c.queued.ensures.0 _ c.bounds_fit.ensures _ _ c.order_fits.ensures c.if-not-order_fits.false c.if-bounds_fit.true c.claims_due.ensures

pub returns-else-bounds_fit : goal.returns-else-bounds_fit
returns-else-bounds_fit c =
    let a = c.args in
    failed _ c.if-bounds_fit.false (zone_bounds a.model.now c.requires.0 a.zones.now (a.zone - 1) _ _ c.variables-n.ensures.0 c.queued.ensures.0 _ c.bounds_fit.ensures c.if-bounds_fit.false)
