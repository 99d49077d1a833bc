-- `zone_table::test::bounds_fit` meets its contract.
use Rattle.std.proofs.Common.{rules, tests}
use Prim.Native.Nat.{◌+◌, ◌-◌, ◌*◌}
use lib.ListN.{get_or}
use Rattle.zone_table.specs.Sound.{BoundFits}
use Rattle.zone_table.proofs.Ranges.{all_below}
use Rattle.zone_table.proofs.test.bounds_fit.Goals as goal

pub returns : goal.returns
returns c =
    let a = c.args in
    all_below _ _ _ _ (λ x. BoundFits a.last x (get_or a.zones.now (384 + 289 * (a.zone - 1) + x) 0)) c.all.ensures.ran (λ x q k. search (rules, tests)) (λ x q k. search (rules, tests))
