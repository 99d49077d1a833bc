-- `take` meets its contract.
use Prim.Native.Nat.{◌+◌}
use mathlib.Core.Path.{refl, ap, ◌∙◌}
use Rattle.std.proofs.lemmas.Result.{err_from_is_err_and}
use Rattle.meaning.specs.Text.ModelReader.{judge}
use Rattle.model_text.specs.Marks.{kind_of}
use Rattle.model_text.proofs.Laws.Taking.{told_err, told_ok, judged, judge_more, judge_end, Line-read, numbers_are, enters, judge_as}
use Rattle.model_text.proofs.records.take.Goals as goal

pub returns-in_err-mark : goal.returns-in_err-mark
returns-in_err-mark c =
    let p = err_from_is_err_and c.from_residual.result c.from_residual.ensures.1 in
    rw (p.1, p.2, c.in_err-mark.ensures) ((refl, refl), refl)

pub returns-in_err-line : goal.returns-in_err-line
returns-in_err-line c =
    let a = c.args in
    let p = err_from_is_err_and c.from_residual-in_err-line.result c.from_residual-in_err-line.ensures.1 in
    rw (p.1, p.2, judged a.s.now a.place.at a.place.cursor a.t.now _ c.in_ok-mark.ensures ∙ told_err _ _ (kind_of c.in_ok-mark.mark) a.s.now a.place.at a.place.cursor a.t.now c.in_err-line.ensures) ((refl, refl), refl)

pub returns-in-End : goal.returns-in-End
returns-in-End c =
    let a = c.args in
    let j = judged a.s.now a.place.at a.place.cursor a.t.now _ c.in_ok-mark.ensures in
    let o = told_ok _ _ c.in_ok-line.ensures in
    rw (j ∙ ap (judge (kind_of c.in_ok-mark.mark) a.s.now a.place.at a.place.cursor a.t.now) o.1 ∙ judge_more _ c.in-End.is a.s.now a.place.at a.place.cursor a.t.now o.0 _ c.if-line-s.true) ((refl, refl), refl)

pub returns-in-End-2 : goal.returns-in-End-2
returns-in-End-2 c =
    let a = c.args in
    let j = judged a.s.now a.place.at a.place.cursor a.t.now _ c.in_ok-mark.ensures in
    let o = told_ok _ _ c.in_ok-line.ensures in
    rw (j ∙ ap (judge (kind_of c.in_ok-mark.mark) a.s.now a.place.at a.place.cursor a.t.now) o.1 ∙ judge_end _ c.in-End.is a.s.now a.place.at a.place.cursor a.t.now o.0 _ c.if-line-s.false) (refl, refl)

pub enter-requires : goal.enter-requires
enter-requires c =
    let a = c.args in
    let o = told_ok _ _ c.in_ok-line.ensures in
    let n : Line-read c.in_ok-mark.mark a.t.now a.s.now (a.place.at + 2) o.0 c.in_ok-line.line.at =
    record { long = c.requires.0; few = c.requires.1; room = c.in_ok-mark.ensures.3; goes = c.in_default.not-End; line = o.1 } in
    rw (numbers_are _ _ _ _ _ _ n _ _ o.2 c.many.ensures.many c.many.ensures.few) (enters _ _ _ _ _ _ n)

pub returns-in_default : goal.returns-in_default
returns-in_default c =
    let a = c.args in
    let o = told_ok _ _ c.in_ok-line.ensures in
    let n : Line-read c.in_ok-mark.mark a.t.now a.s.now (a.place.at + 2) o.0 c.in_ok-line.line.at =
    record { long = c.requires.0; few = c.requires.1; room = c.in_ok-mark.ensures.3; goes = c.in_default.not-End; line = o.1 } in
    let j = judged a.s.now a.place.at a.place.cursor a.t.now _ c.in_ok-mark.ensures in
    let e = numbers_are _ _ _ _ _ _ n _ _ o.2 c.many.ensures.many c.many.ensures.few in
    rw (j ∙ ap (judge (kind_of c.in_ok-mark.mark) a.s.now a.place.at a.place.cursor a.t.now) o.1 ∙ judge_as _ _ _ _ _ _ n a.place.cursor a.place.at) (rw e at c.enter.ensures)
