-- `zone_table::test::is_empty` meets its contract.
use Rattle.std.proofs.Common.{rules, tests}
use Prim.Native.Nat.{◌+◌}
use mathlib.Core.Path.{◌≡◌}
use lib.ListN.{get_or}
use Rattle.zone_table.proofs.Ranges.{all_below}
use Rattle.zone_table.proofs.test.is_empty.Goals as goal

pub returns : goal.returns
returns c = all_below _ _ _ _ (λ x. get_or c.args.zones.now (c.args.from + x) 0 ≡ 0) c.all.ensures.ran (λ x q k. search (rules, tests)) (λ x q k. search (rules, tests))
