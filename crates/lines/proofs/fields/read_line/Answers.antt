-- `read_line` meets its contract.
use native.Mathlib.Omega.{arith}
use mathlib.Core.Path.{sym, ap, ◌∙◌}
use Rattle.std.proofs.Common.{Err}
use Rattle.std.proofs.lemmas.Result.{err_from_is_err_and}
use Rattle.meaning.proofs.Text.Places.{field_next}
use Rattle.meaning.proofs.Text.NumeralSmall.{field_small}
use Rattle.meaning.specs.Text.Lines.{outside}
use Rattle.lines.proofs.Laws.Numbers.{meant_ok, meant_err, broken_is}
use Rattle.lines.proofs.Laws.Reading.{reading_first, reading_more, reading_bad, line_ends, line_out, line_open}
use Rattle.lines.proofs.fields.read_line.Goals as goal

pub loop-k-init : goal.loop-k-init
loop-k-init c = let a = c.args in reading_first a.s.now a.at a.ranges.now

pub returns-in_err-number : goal.returns-in_err-number
returns-in_err-number c =
    let a = c.args in
    let l = c.loop-k in
    let p = err_from_is_err_and c.from_residual.result c.from_residual.ensures.1 in
    let e = c.in_err-number.ensures in
    let f = meant_err _ _ e in
    let d = broken_is _ _ e in
    rw (p.1, p.2, reading_bad a.s.now a.at a.ranges.now l.numbers l.k l.p l.out l.invariant (omega arith) _ c.index-ranges-k.is _ f) (ap Err d)

pub kept_of-v-requires : goal.kept_of-v-requires
kept_of-v-requires c = (c.index-ranges-k.result.small, field_small _ c.args.s.now c.loop-k.p _ _ _ (meant_ok _ _ c.in_ok-number.ensures))

pub overflow_add-p : goal.overflow_add-p
overflow_add-p c =
    let g = field_next _ c.args.s.now c.loop-k.p _ _ _ (meant_ok _ _ c.in_ok-number.ensures) in
    record { fits = omega arith }

pub loop-k-preserved : goal.loop-k-preserved
unfolding outside
loop-k-preserved c =
    let a = c.args in
    let l = c.loop-k in
    rw (c.first_out-out.ensures, c.kept_of-v.ensures)
    (reading_more a.s.now a.at a.ranges.now l.numbers l.k l.p l.out l.invariant (omega arith) _ c.index-ranges-k.is _ _ _ (meant_ok _ _ c.in_ok-number.ensures))

pub returns-then-not-byte_is : goal.returns-then-not-byte_is
returns-then-not-byte_is c =
    let a = c.args in
    let l = c.loop-k in
    rw (line_open a.s.now a.at a.ranges.now l.numbers l.k l.p l.out l.invariant (omega arith) (sym c.byte_is.ensures ∙ c.if-not-byte_is.true)) (ap Err c.broken.ensures)

pub returns-in-Some : goal.returns-in-Some
returns-in-Some c =
    let a = c.args in
    let l = c.loop-k in
    rw (line_out a.s.now a.at a.ranges.now l.numbers l.k l.p l.out l.invariant (omega arith) _ (sym c.byte_is.ensures ∙ c.if-not-byte_is.false) c.in-Some.is)

pub returns-in-None : goal.returns-in-None
returns-in-None c =
    let a = c.args in
    let l = c.loop-k in
    rw (line_ends a.s.now a.at a.ranges.now l.numbers l.k l.p l.out l.invariant (omega arith) (sym c.byte_is.ensures ∙ c.if-not-byte_is.false) c.in-None.is, ← l.invariant.here)
