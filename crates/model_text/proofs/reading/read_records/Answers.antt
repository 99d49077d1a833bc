-- `read_records` meets its contract.
use native.Mathlib.Omega.{arith}
use mathlib.Core.Path.{refl}
use Rattle.std.proofs.lemmas.Result.{err_from_is_err_and}
use Rattle.model_text.proofs.Laws.Answering.{reading_start, stepped_next, stepped_end, stepped_fault}
use Rattle.model_text.proofs.reading.read_records.Goals as goal

pub loop-next-init : goal.loop-next-init
loop-next-init c = reading_start _ _ c.requires.1

pub returns-in_err-next : goal.returns-in_err-next
returns-in_err-next c =
    let l = c.loop-next in
    let p = err_from_is_err_and c.from_residual.result c.from_residual.ensures.1 in
    rw (p.1, p.2) (stepped_fault c.args.s.now l.place l.t c.take.new.t l.invariant _ _ refl c.in_err-next.ensures)

pub loop-next-smaller : goal.loop-next-smaller
loop-next-smaller c =
    let l = c.loop-next in
    let w = stepped_next c.args.s.now l.place l.t c.take.new.t l.invariant _ _ refl (rw c.in-Some.is at c.in_ok-next.ensures) in
    omega arith

pub loop-next-preserved : goal.loop-next-preserved
loop-next-preserved c =
    let l = c.loop-next in
    (stepped_next c.args.s.now l.place l.t c.take.new.t l.invariant _ _ refl (rw c.in-Some.is at c.in_ok-next.ensures)).2

pub returns : goal.returns
returns c =
    let l = c.loop-next in
    stepped_end c.args.s.now l.place l.t c.take.new.t l.invariant _ refl (rw c.in_default.is at c.in_ok-next.ensures)
