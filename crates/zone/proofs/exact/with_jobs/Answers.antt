-- `zone::exact::with_jobs` meets its contract.
use Rattle.std.proofs.Common.{get_or, refl, arith}
use Rattle.machine.specs.Stands.{no_job}
use Rattle.zone.proofs.ExactLaws.{jobs_more, jobs_end}
use Rattle.zone.proofs.exact.with_jobs.Goals as goal

pub loop-job-preserved : goal.loop-job-preserved
loop-job-preserved c =
    let l = c.loop-job in
    let a = c.args in
    let js = a.jobs.now in
    let j = c.requires.2.each l.job-index (omega arith) in
    jobs_more a.bounds a.n js c.requires.1 l.r c.both.new.bounds c.both-in-loop-job.new.bounds l.ahead l.sum l.job-index (get_or js l.job-index no_job) c.requires.0 l.invariant (omega arith) refl
    j.0 j.1 c.both.ensures c.both-in-loop-job.ensures

pub returns : goal.returns
returns c =
    let l = c.loop-job in
    jobs_end c.args.bounds c.args.n c.args.jobs.now c.requires.1 l.r l.ahead l.sum l.job-index l.invariant (omega arith)
