-- `read_order` meets its contract.
use mathlib.Core.Path.{ap}
use Rattle.std.specs.Prelude.{Err}
use Rattle.std.proofs.lemmas.Result.{err_from_is_err_and}
use native.Mathlib.Omega.{arith}
use Rattle.meaning.proofs.Text.Places.{field_next}
use Rattle.meaning.proofs.Text.NumeralSmall.{field_small}
use Rattle.lines.proofs.Laws.Numbers.{meant_ok, meant_err, broken_is}
use Rattle.zone_text.proofs.Laws.Rows.{head_stuck, head_then, head_lent}
use Rattle.zone_text.proofs.reading_rows.read_order.Goals as goal

pub returns-in_err-location-clause-told : goal.returns-in_err-location-clause-told
returns-in_err-location-clause-told c =
    let a = c.args in
    let p = err_from_is_err_and c.from_residual.result c.from_residual.ensures.1 in
    let e = c.in_err-location.ensures in
    rw (p.1, p.2, head_stuck a.s.now a.at a.locations a.tasks _ (meant_err _ _ e)) (ap Err (broken_is _ _ e))

pub overflow_add-cells : goal.overflow_add-cells
overflow_add-cells c =
    let g = field_small _ c.args.s.now c.args.at _ _ _ (meant_ok _ _ c.in_ok-location.ensures) in
    record { fits = omega arith }

pub overflow_add-at : goal.overflow_add-at
overflow_add-at c =
    let g = field_next _ c.args.s.now c.args.at _ _ _ (meant_ok _ _ c.in_ok-location.ensures) in
    record { fits = omega arith }

pub returns-clause-told : goal.returns-clause-told
returns-clause-told c =
    let a = c.args in
    rw (head_then a.s.now a.at a.locations a.tasks _ _ _ (meant_ok _ _ c.in_ok-location.ensures))
    (head_lent _ _ _ _ _ a.cells.now _ c.requires c.read_row.ensures.few (rw c.first_out-out.ensures at c.read_row.ensures.told))
