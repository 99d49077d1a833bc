-- `zone_text::reading_records::take_order` meets its contract.
use mathlib.Core.Path.{sym, ap, ◌∙◌}
use Rattle.meaning.specs.Zones.Proper.{fits}
use Rattle.std.proofs.lemmas.Result.{err_from_is_err_and}
use Rattle.meaning.specs.Text.ModelTable.{decode}
use Rattle.model_table.proofs.PartLaws.{locations_is, tasks_is}
use Rattle.zone_text.proofs.Laws.Rows.{head_stored}
use Rattle.zone_text.proofs.Laws.Orders.{took_wrong, took_line, order_due, order_full, order_refused, order_twice, order_taken}
use native.Mathlib.Omega.{arith}
use Rattle.zone_text.proofs.reading_records.take_order.Goals as goal

pub returns-then-is_some : goal.returns-then-is_some
returns-then-is_some c =
    let a = c.args in
    λ y h. took_wrong _ y _ _ _ _ _ c.refused.ensures (order_due (decode a.model.now.cells.now) a.s.now a.at y a.x a.t.now h (sym c.is_some.ensures ∙ c.if-is_some.true))

pub returns-then-x-ge-ZONES_MOST : goal.returns-then-x-ge-ZONES_MOST
returns-then-x-ge-ZONES_MOST c =
    let a = c.args in
    λ y h. took_wrong _ y _ _ _ _ _ c.refused-then-x-ge-ZONES_MOST.ensures (order_full (decode a.model.now.cells.now) a.s.now a.at y a.x a.t.now h (sym c.is_some.ensures ∙ c.if-is_some.false) c.if-x-ge-ZONES_MOST.true)

pub returns-in_err-row : goal.returns-in_err-row
returns-in_err-row c =
    let a = c.args in
    let p = err_from_is_err_and c.from_residual.result c.from_residual.ensures.1 in
    let q = c.head_start-head.ensures in
    let w = head_stored _ _ a.t.now c.read_order.new.cells (omega (arith, c.requires.long, q)) (omega arith) _ _ c.in_err-row.ensures.told in
    λ y h. rw (p.1, p.2) (took_line _ y _ _ _ (order_refused (decode a.model.now.cells.now) a.s.now a.at y a.x a.t.now h (sym c.is_some.ensures ∙ c.if-is_some.false) c.if-x-ge-ZONES_MOST.false _ _ (c.locations-locations.ensures ∙ locations_is a.model.now.cells.now a.model.now.right) (c.tasks-tasks.ensures ∙ tasks_is a.model.now.cells.now a.model.now.right) _ _ q _ w))

pub returns-then-not-fits : goal.returns-then-not-fits
returns-then-not-fits c =
    let a = c.args in
    let q = c.head_start-head.ensures in
    let w = head_stored _ _ a.t.now c.read_order.new.cells (omega (arith, c.requires.long, q)) (omega arith) _ _ c.in_ok-row.ensures.told in
    λ y h. took_wrong _ y _ _ _ _ _ c.refused-then-not-fits.ensures (order_twice (decode a.model.now.cells.now) a.s.now a.at y a.x a.t.now h (sym c.is_some.ensures ∙ c.if-is_some.false) c.if-x-ge-ZONES_MOST.false _ _ (c.locations-locations.ensures ∙ locations_is a.model.now.cells.now a.model.now.right) (c.tasks-tasks.ensures ∙ tasks_is a.model.now.cells.now a.model.now.right) _ _ q _ c.in_ok-row.ensures.few w
    c.home_with-home.result c.home_with-home.ensures (ap (fits (decode a.model.now.cells.now)) (sym c.order.ensures) ∙ sym c.fits.ensures ∙ c.if-not-fits.true))

pub returns : goal.returns
returns c =
    let a = c.args in
    let q = c.head_start-head.ensures in
    let w = head_stored _ _ a.t.now c.read_order.new.cells (omega (arith, c.requires.long, q)) (omega arith) _ _ c.in_ok-row.ensures.told in
    λ y h. order_taken (decode a.model.now.cells.now) a.s.now a.at y a.x a.t.now h (sym c.is_some.ensures ∙ c.if-is_some.false) c.if-x-ge-ZONES_MOST.false _ _ (c.locations-locations.ensures ∙ locations_is a.model.now.cells.now a.model.now.right) (c.tasks-tasks.ensures ∙ tasks_is a.model.now.cells.now a.model.now.right) _ _ q _ c.in_ok-row.ensures.few w
    c.home_with-home.result c.home_with-home.ensures (ap (fits (decode a.model.now.cells.now)) (sym c.order.ensures) ∙ sym c.fits.ensures ∙ c.if-not-fits.false)
