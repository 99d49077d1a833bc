-- `write_clocks` meets its contract.
use Rattle.console.proofs.LineLaws.{put_number}
use Rattle.console.proofs.fields.write_clocks.Goals as goal

pub loop-clock-preserved : goal.loop-clock-preserved
loop-clock-preserved c = put_number _ _ _ _ _ _ c.loop-clock.invariant.put _ _ c.loop-clock-test.true c.write_fields-p.ensures.written
