-- `zone_table::pool::up_to_last` meets its contract.
use Rattle.std.proofs.Common.{rules, tests}
use Prim.Native.Nat.{◌+◌, ◌-◌, ◌≤◌}
use lib.ListN.{get_or}
use Rattle.zone_table.proofs.ClaimLaws.{up_to_last}
use Rattle.zone_table.proofs.Ranges.{all_below}
use Rattle.zone_table.proofs.pool.up_to_last.Goals as goal

pub returns : goal.returns
returns c =
    let a = c.args in
    up_to_last a.zones.now a.last a.from a.n _
    (all_below _ _ _ _ (λ x. get_or a.zones.now (a.from + x) 0 - 1 ≤ a.last) c.all.ensures.ran (λ x q k. search (rules, tests)) (λ x q k. search (rules, tests)))
