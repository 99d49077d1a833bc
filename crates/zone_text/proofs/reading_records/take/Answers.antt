-- `zone_text::reading_records::take` meets its contract.
use mathlib.Core.Path.{refl}
use Rattle.meaning.specs.Text.ModelTable.{decode}
use Rattle.zone_text.proofs.Laws.Orders.{took_wrong}
use Rattle.zone_text.proofs.Laws.Marks.{look_mark}
use Rattle.zone_text.proofs.reading_records.take.Goals as goal

pub returns-in-Some-Order : goal.returns-in-Some-Order
returns-in-Some-Order c =
    let a = c.args in
    λ y h. rw (look_mark (decode a.model.now.cells.now) a.s.now a.at _ c.mark_at.ensures y, c.in-Some-Order.is, c.in-Some-Order.field-0-is) (c.take_order.ensures y h)

pub returns-in-Some-Bound : goal.returns-in-Some-Bound
returns-in-Some-Bound c =
    let a = c.args in
    λ y h. rw (look_mark (decode a.model.now.cells.now) a.s.now a.at _ c.mark_at.ensures y, c.in-Some-Bound.is, c.in-Some-Bound.field-0-is) (c.take_bound.ensures y h)

pub returns-in-Some-Claims : goal.returns-in-Some-Claims
returns-in-Some-Claims c =
    let a = c.args in
    λ y h. rw (look_mark (decode a.model.now.cells.now) a.s.now a.at _ c.mark_at.ensures y, c.in-Some-Claims.is, c.in-Some-Claims.field-0-is) (c.take_claims.ensures y h)

pub returns-in-Some-End : goal.returns-in-Some-End
returns-in-Some-End c =
    let a = c.args in
    λ y h. rw (look_mark (decode a.model.now.cells.now) a.s.now a.at _ c.mark_at.ensures y, c.in-Some-End.is, c.in-Some-End.field-0-is) (c.take_end.ensures (decode a.model.now.cells.now) y h)

pub returns-in-None : goal.returns-in-None
returns-in-None c =
    let a = c.args in
    λ y h. rw (look_mark (decode a.model.now.cells.now) a.s.now a.at _ c.mark_at.ensures y, c.in-None.is) (took_wrong _ y _ _ _ a.t.now a.t.now c.refused.ensures refl)
