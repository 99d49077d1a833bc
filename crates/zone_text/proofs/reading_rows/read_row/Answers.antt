-- `read_row` meets its contract.
use Prim.Native.Nat.{ℕ, ◌+◌}
use mathlib.Core.Path.{sym, ap, ◌∙◌}
use Rattle.std.specs.Prelude.{Ok, Err}
use Rattle.std.proofs.lemmas.Result.{err_from_is_err_and}
use lib.ListN.{length, length-set}
use Rattle.meaning.specs.Text.Lines.{outside}
use Rattle.meaning.proofs.Text.Places.{field_next}
use Rattle.meaning.proofs.Text.NumeralSmall.{field_small}
use Rattle.lines.proofs.Laws.Numbers.{meant_ok, meant_err, broken_is}
use Rattle.zone_text.proofs.Laws.Rows.{taking_first, taking_ends, taking_out, taking_open, taking_bad, taking_more}
use native.Mathlib.Omega.{arith}
use Rattle.zone_text.proofs.reading_rows.read_row.Goals as goal
use Rattle.zone_text.proofs.reading_rows.read_row.Goals.{then-many-cells, else-many-cells}

pub loop-first_out-init : goal.loop-first_out-init
loop-first_out-init c = let a = c.args in taking_first a.s.now a.at a.out a.most a.low a.high a.cells.now

pub returns-then-most-many-clause-told : goal.returns-then-most-many-clause-told
returns-then-most-many-clause-told c =
    let a = c.args in
    let l = c.loop-first_out in
    rw (taking_open a.s.now a.at a.out a.most a.low a.high a.cells.now l.cells l.many l.p l.first_out l.invariant (sym c.byte_is.ensures ∙ c.loop-first_out-test.true) c.if-most-many.true)
    (ap Err c.refused.ensures)

pub returns-in_err-number-clause-told : goal.returns-in_err-number-clause-told
returns-in_err-number-clause-told c =
    let a = c.args in
    let l = c.loop-first_out in
    let p = err_from_is_err_and c.from_residual.result c.from_residual.ensures.1 in
    let e = c.in_err-number.ensures in
    rw (
      p.1,
      p.2,
      taking_bad a.s.now a.at a.out a.most a.low a.high a.cells.now l.cells l.many l.p l.first_out l.invariant (sym c.byte_is.ensures ∙ c.loop-first_out-test.true) c.if-most-many.false _ (meant_err _ _ e),
    )
    (ap Err (broken_is _ _ e))

pub overflow_add-p : goal.overflow_add-p
overflow_add-p c =
    let g = field_next _ c.args.s.now c.loop-first_out.p _ _ _ (meant_ok _ _ c.in_ok-number.ensures) in
    record { fits = omega arith }

pub overflow_add-cells : goal.overflow_add-cells
overflow_add-cells c =
    let g = field_small _ c.args.s.now c.loop-first_out.p _ _ _ (meant_ok _ _ c.in_ok-number.ensures) in
    record { fits = omega arith }

pub loop-first_out-preserved : goal.loop-first_out-preserved
unfolding outside
loop-first_out-preserved c =
    let a = c.args in
    let l = c.loop-first_out in
    taking_more a.s.now a.at a.out a.most a.low a.high a.cells.now l.cells l.many l.p l.first_out l.invariant (sym c.byte_is.ensures ∙ c.loop-first_out-test.true) c.if-most-many.false _ _ _
    (meant_ok _ _ c.in_ok-number.ensures) _ _
    (elim c.if-many-cells.branch [ then-many-cells w ↦ ap length w.cells-is ∙ simp length-set l.invariant.long | else-many-cells w ↦ ap length w.cells-is ∙ l.invariant.long ])
    (λ h. elim c.if-many-cells.branch [ then-many-cells w ↦ w.cells-is | else-many-cells w ↦ absurd (let n = w.if-many-cells.false in omega (arith, l.invariant.long)) ])
    c.first_out-first_out.ensures

pub returns-in-Some-clause-told : goal.returns-in-Some-clause-told
returns-in-Some-clause-told c =
    let a = c.args in
    let l = c.loop-first_out in
    rw (taking_out a.s.now a.at a.out a.most a.low a.high a.cells.now l.cells l.many l.p l.first_out l.invariant _ (sym c.byte_is.ensures ∙ c.loop-first_out-test.false) c.in-Some.is)
    (ap Err c.refused-in-Some.ensures)

pub returns-in-None-clause-told : goal.returns-in-None-clause-told
returns-in-None-clause-told c =
    let a = c.args in
    let l = c.loop-first_out in
    rw (taking_ends a.s.now a.at a.out a.most a.low a.high a.cells.now l.cells l.many l.p l.first_out l.invariant (sym c.byte_is.ensures ∙ c.loop-first_out-test.false) c.in-None.is)
    (ap (λ (n : ℕ). Ok (record { next = l.p + 1; many = n })) (sym l.invariant.many), λ h. l.invariant.cells (omega (arith, l.invariant.many)))
