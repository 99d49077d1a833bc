-- `read_records` meets its contract.
use mathlib.Core.Path.{ap, ◌∙◌}
use Rattle.std.specs.Prelude.{Ok}
use Rattle.std.proofs.lemmas.Result.{err_from_is_err_and}
use Rattle.zone_text.proofs.Laws.Reading.{reading_start, holds, ready, begun_ready, turn_next, turn_end, turn_fault}
use native.Mathlib.Omega.{arith}
use Rattle.zone_text.proofs.reading.read_records.Goals as goal

pub loop-next-init : goal.loop-next-init
loop-next-init c =
    let a = c.args in
    let p = c.requires in
    reading_start a.model.now.cells.now a.s.now a.t.now a.model.now.right p.2 p.0 p.1

pub take-requires : goal.take-requires
take-requires c =
    let a = c.args in
    let l = c.loop-next in (
      ready a.model.now.cells.now a.s.now l.at l.sofar l.t l.invariant,
      begun_ready a.model.now.cells.now a.s.now l.at l.sofar l.t l.invariant,
    )

pub returns-in_err-next : goal.returns-in_err-next
returns-in_err-next c =
    let a = c.args in
    let l = c.loop-next in
    let w = c.take in
    let p = err_from_is_err_and c.from_residual.result c.from_residual.ensures.1 in
    rw (p.1, p.2) (turn_fault a.model.now.cells.now a.s.now l.at l.sofar l.t l.invariant w.result w.new.t (w.ensures l.invariant.sofar (holds a.model.now.cells.now a.s.now l.at l.sofar l.t l.invariant)) _ c.in_err-next.was)

pub loop-next-smaller : goal.loop-next-smaller
loop-next-smaller c =
    let a = c.args in
    let l = c.loop-next in
    let w = c.take in
    let n = turn_next a.model.now.cells.now a.s.now l.at l.sofar l.t l.invariant w.result w.new.t (w.ensures l.invariant.sofar (holds a.model.now.cells.now a.s.now l.at l.sofar l.t l.invariant)) _ (c.in_ok-next.was ∙ ap Ok c.in-Some.is) in
    omega (arith, n.0, n.1)

pub loop-next-preserved : goal.loop-next-preserved
loop-next-preserved c =
    let a = c.args in
    let l = c.loop-next in
    let w = c.take in
    (turn_next a.model.now.cells.now a.s.now l.at l.sofar l.t l.invariant w.result w.new.t (w.ensures l.invariant.sofar (holds a.model.now.cells.now a.s.now l.at l.sofar l.t l.invariant)) _ (c.in_ok-next.was ∙ ap Ok c.in-Some.is)).2

pub returns : goal.returns
returns c =
    let a = c.args in
    let l = c.loop-next in
    let w = c.take in
    turn_end a.model.now.cells.now a.s.now l.at l.sofar l.t l.invariant w.result w.new.t (w.ensures l.invariant.sofar (holds a.model.now.cells.now a.s.now l.at l.sofar l.t l.invariant)) (c.in_ok-next.was ∙ ap Ok c.in_default.is)
