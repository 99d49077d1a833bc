-- `zone_text::reading_records::take_claims` meets its contract.
use Rattle.std.proofs.lemmas.Result.{err_from_is_err_and}
use borrow.Author.Tests.{not-true, not-false}
use Rattle.meaning.specs.Text.ModelTable.{decode}
use Rattle.zone_text.proofs.Laws.Rows.{row_stored}
use Rattle.zone_text.proofs.Laws.Orders.{took_wrong, took_line}
use Rattle.zone_text.proofs.Laws.Claims.{claims_due, claims_refused, claims_count, claims_zeros, claims_taken}
use native.Mathlib.Omega.{arith}
use Rattle.zone_text.proofs.reading_records.take_claims.Goals.{then-row-steps-via-then-row-steps, then-row-steps-via-else-row-steps+then-not-steps}
use Rattle.zone_text.proofs.reading_records.take_claims.Goals as goal

pub returns-in_default : goal.returns-in_default
returns-in_default c =
    let a = c.args in
    λ y h. took_wrong _ y _ _ _ _ _ c.refused.ensures (claims_due (decode a.model.now.cells.now) a.model.now.right.right a.s.now a.at y a.x a.t.now h c.in_default.is)

pub returns-in_err-row : goal.returns-in_err-row
returns-in_err-row c =
    let a = c.args in
    let b = c.requires.0 in
    let p = err_from_is_err_and c.from_residual.result c.from_residual.ensures.1 in
    let w = row_stored _ _ a.t.now c.read_row.new.cells (omega (arith, b.long, b.pool, b.within, b.short)) _ _ c.in_err-row.ensures.told in
    λ y h. rw (p.1, p.2) (took_line _ y _ _ _ (claims_refused (decode a.model.now.cells.now) a.model.now.right.right a.s.now a.at y a.x a.t.now h b.pool b.short _ c.in-Some.is _ (omega (arith, b.long)) _ _ w))

pub returns-then-row-steps : goal.returns-then-row-steps
returns-then-row-steps c =
    let a = c.args in
    let b = c.requires.0 in
    let w = row_stored _ _ a.t.now c.read_row.new.cells (omega (arith, b.long, b.pool, b.within, b.short)) _ _ c.in_ok-row.ensures.told in
    λ y h. took_wrong _ y _ _ _ _ _ c.refused-then-row-steps.ensures (elim c.then-row-steps.branch [
      | then-row-steps-via-then-row-steps u ↦ claims_count (decode a.model.now.cells.now) a.model.now.right.right a.s.now a.at y a.x a.t.now h b.pool b.short _ c.in-Some.is _ (omega (arith, b.long)) _ _ w
          c.home_with-home.result c.home_with-home.ensures c.steps-steps.result c.steps-steps.ensures u.if-row-steps.true
      | then-row-steps-via-else-row-steps+then-not-steps u ↦ claims_zeros (decode a.model.now.cells.now) a.model.now.right.right a.s.now a.at y a.x a.t.now h b.pool b.short _ c.in-Some.is _ (omega (arith, b.long)) _ _ w
          c.home_with-home.result c.home_with-home.ensures c.steps-steps.result c.steps-steps.ensures u.if-row-steps.false (not-true _ u.if-not-steps.true)
    ])

pub returns : goal.returns
returns c =
    let a = c.args in
    let b = c.requires.0 in
    let w = row_stored _ _ a.t.now c.read_row.new.cells (omega (arith, b.long, b.pool, b.within, b.short)) _ _ c.in_ok-row.ensures.told in
    λ y h. claims_taken (decode a.model.now.cells.now) a.model.now.right.right a.s.now a.at y a.x a.t.now h b.pool b.short _ c.in-Some.is _ (omega (arith, b.long)) _ _ w
    c.home_with-home.result c.home_with-home.ensures c.steps-steps.result c.steps-steps.ensures _ c.head_start.ensures c.if-row-steps.false (not-false _ c.if-not-steps.false)
