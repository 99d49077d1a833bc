-- `write_state` meets its contract.
use mathlib.Core.List.{[], ◌∷◌, ◌++◌}
use lib.ListN.{take}
use Rattle.console.specs.Line.{job_numbers}
use Rattle.console.proofs.LineLaws.{put_fields}
use Rattle.console.proofs.room.write_state.Goals as goal

pub returns-clause-written : goal.returns-clause-written
returns-clause-written c =
    let s = c.args.state in
    let clocks = take c.args.n s.clocks in
    let jobs = job_numbers (take s.count s.jobs) in
    put_fields _ _ (s.location ∷ []) (clocks ++ jobs) _ _ _ _ c.write_fields-p.ensures.written
    (put_fields _ _ clocks jobs _ _ _ _ c.write_clocks-q.ensures.written c.write_jobs.ensures.written)
