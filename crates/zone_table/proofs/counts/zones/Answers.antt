-- `zone_table::counts::zones` meets its contract.
use mathlib.Core.Path.{◌∙◌}
use Rattle.zone_table.proofs.TestLaws.{zones_count}
use Rattle.zone_table.proofs.counts.zones.Goals as goal

pub returns : goal.returns
returns c = (c.count_from.ensures.counted ∙ zones_count c.args.zones.now, c.count_from.ensures.few)
