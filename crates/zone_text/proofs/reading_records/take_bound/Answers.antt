-- `zone_text::reading_records::take_bound` meets its contract.
use Prim.Native.Nat.{ℕ, ◌-◌}
use mathlib.Core.Path.{ap}
use Rattle.std.proofs.lemmas.Result.{err_from_is_err_and}
use Rattle.meaning.specs.Text.ModelTable.{decode}
use Rattle.zone_text.proofs.Laws.Orders.{took_wrong, took_line}
use Rattle.zone_text.proofs.Laws.Bounds.{bound_due, bound_refused, bound_same, bound_low, bound_taken}
use native.Mathlib.Omega.{arith}
use Rattle.zone_text.proofs.reading_records.take_bound.Goals as goal

pub returns-in_default : goal.returns-in_default
returns-in_default c =
    let a = c.args in
    λ y h. took_wrong _ y _ _ _ _ _ c.refused.ensures (bound_due (decode a.model.now.cells.now) a.model.now.right.right a.s.now a.at y a.x a.t.now h c.in_default.is)

pub returns-in_err-bound : goal.returns-in_err-bound
returns-in_err-bound c =
    let a = c.args in
    let p = err_from_is_err_and c.from_residual.result c.from_residual.ensures.1 in
    λ y h. rw (p.1, p.2) (took_line _ y _ _ _ (bound_refused (decode a.model.now.cells.now) a.model.now.right.right a.s.now a.at y a.x a.t.now h _ c.in-Some.is _ (ap (λ (k : ℕ). k - 1) c.variables-last.ensures.0) (omega (arith, c.variables-last.ensures.1)) _ c.in_err-bound.ensures.told))

pub returns-then-bound : goal.returns-then-bound
returns-then-bound c =
    let a = c.args in
    λ y h. took_wrong _ y _ _ _ _ _ c.refused-then-bound.ensures (bound_same (decode a.model.now.cells.now) a.model.now.right.right a.s.now a.at y a.x a.t.now h _ c.in-Some.is _ (ap (λ (k : ℕ). k - 1) c.variables-last.ensures.0) (omega (arith, c.variables-last.ensures.1)) _ c.in_ok-bound.ensures.told c.if-bound.true)

pub returns-then-k-due : goal.returns-then-k-due
returns-then-k-due c =
    let a = c.args in
    λ y h. took_wrong _ y _ _ _ _ _ c.refused-then-k-due.ensures (bound_low (decode a.model.now.cells.now) a.model.now.right.right a.s.now a.at y a.x a.t.now h _ c.in-Some.is _ (ap (λ (k : ℕ). k - 1) c.variables-last.ensures.0) (omega (arith, c.variables-last.ensures.1)) _ c.in_ok-bound.ensures.told c.if-bound.false c.if-k-due.true)

pub returns : goal.returns
returns c =
    let a = c.args in
    λ y h. bound_taken (decode a.model.now.cells.now) a.model.now.right.right a.s.now a.at y a.x a.t.now h _ c.in-Some.is _ (ap (λ (k : ℕ). k - 1) c.variables-last.ensures.0) (omega (arith, c.variables-last.ensures.1)) _ c.in_ok-bound.ensures.told _ c.bounds_start-from.ensures c.if-bound.false c.if-k-due.false
