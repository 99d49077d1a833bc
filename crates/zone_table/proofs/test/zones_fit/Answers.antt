-- `zone_table::test::zones_fit` meets its contract.
use Rattle.std.proofs.Common.{rules, tests}
use Rattle.meaning.specs.Text.ModelTable.{decode}
use Rattle.zone_table.specs.Sound.{SoundZone}
use Rattle.zone_table.proofs.Ranges.{all_below}
use Rattle.zone_table.proofs.test.zones_fit.Goals as goal

pub returns : goal.returns
returns c =
    let a = c.args in
    all_below _ _ _ _ (SoundZone (decode a.model.now) a.zones.now) c.all.ensures.ran (λ x q k. search (rules, tests)) (λ x q k. search (rules, tests))
