-- `machine::place` meets its contract.
use native.Mathlib.Omega.{arith}
use Rattle.std.proofs.lemmas.Result.{err_from_is_err_and}
use Rattle.machine.proofs.SeenLaws.{wrong_next}
use Rattle.machine.proofs.PlaceLaws.{placing_whole, placing_wrong}
use Rattle.machine.proofs.place.Goals as goal

pub returns-in_err-seen : goal.returns-in_err-seen
returns-in_err-seen c =
    let l = c.loop-job in
    let e = c.in_err-seen.ensures.err in
    let p = err_from_is_err_and c.from_residual.result c.from_residual.ensures.1 in
    rw (p.1, p.2) (placing_wrong _ _ c.args.jobs.now _ e.reason (wrong_next _ c.args.task c.args.jobs.now l.job-index l.seen _ l.invariant (omega arith) e))

pub returns : goal.returns
returns c =
    let l = c.loop-job in
    placing_whole _ _ c.args.jobs.now l.job-index l.seen c.finish.result l.invariant (omega arith) c.finish.ensures
