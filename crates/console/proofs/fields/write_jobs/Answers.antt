-- `write_jobs` meets its contract.
use Rattle.console.proofs.LineLaws.{put_job}
use Rattle.console.proofs.fields.write_jobs.Goals as goal

pub loop-job-preserved : goal.loop-job-preserved
loop-job-preserved c = put_job _ _ _ _ _ _ c.loop-job.invariant.put _ _ _ c.loop-job-test.true c.write_fields-p.ensures.written
