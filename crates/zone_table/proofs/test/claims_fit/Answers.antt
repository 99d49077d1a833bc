-- `zone_table::test::claims_fit` meets its contract.
use Rattle.std.proofs.Common.{rules, tests}
use Prim.Native.Nat.{◌+◌}
use lib.ListN.{get_or}
use Rattle.zone_table.specs.Sound.{ClaimFits}
use Rattle.zone_table.proofs.Ranges.{all_below}
use Rattle.zone_table.proofs.test.claims_fit.Goals as goal

pub returns : goal.returns
returns c =
    let a = c.args in
    all_below _ _ _ _ (λ x. ClaimFits a.n (get_or a.zones.now (14256 + x) 0)) c.all.ensures.ran (λ x q k. search (rules, tests)) (λ x q k. search (rules, tests))
