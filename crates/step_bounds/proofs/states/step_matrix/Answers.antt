-- `step_bounds::states::step_matrix` meets its contract.
use mathlib.Core.Path.{◌≡◌}
use Rattle.zone_list.specs.declared.form.Kind.TheVariants.{GoOn, Finish}
use Rattle.std.specs.Prelude.{None, Some}
use Rattle.zone_bounds.proofs.NarrowLaws.{narrows_then, narrows_stop, narrows_none}
use Rattle.step_bounds.proofs.states.step_matrix.Goals as goal

pub returns-in_err-m : goal.returns-in_err-m
returns-in_err-m c = let e : c.args.t ≡ None = c.in_err-m.was in rw (e, c.from_residual.ensures) (narrows_none _)

pub returns-in_err-limits-in-GoOn : goal.returns-in_err-limits-in-GoOn
returns-in_err-limits-in-GoOn c = let e : c.args.step.kind ≡ GoOn = c.in-GoOn.is in
    let s : c.args.t ≡ Some c.in_ok-m.m = c.in_ok-m.was in
    rw (s, e, c.from_residual-in_err-limits-in-GoOn.ensures) (narrows_stop _ _ (Some c.in_ok-m.m) c.in_err-limits-in-GoOn.ensures)

pub returns-in_ok-limits-in-GoOn : goal.returns-in_ok-limits-in-GoOn
returns-in_ok-limits-in-GoOn c = let e : c.args.step.kind ≡ GoOn = c.in-GoOn.is in
    let s : c.args.t ≡ Some c.in_ok-m.m = c.in_ok-m.was in
    let l = c.in_ok-limits-in-GoOn in
    rw (s, e) (narrows_then _ _ (Some c.in_ok-m.m) (Some l.field-0) c.head_goes_on.result l.ensures c.head_goes_on.ensures)

pub returns-in_err-limits-in-Finish : goal.returns-in_err-limits-in-Finish
returns-in_err-limits-in-Finish c = let e : c.args.step.kind ≡ Finish = c.in-Finish.is in
    let s : c.args.t ≡ Some c.in_ok-m.m = c.in_ok-m.was in
    rw (s, e, c.from_residual-in_err-limits-in-Finish.ensures) (narrows_stop _ _ (Some c.in_ok-m.m) c.in_err-limits-in-Finish.ensures)

pub returns-in_ok-limits-in-Finish : goal.returns-in_ok-limits-in-Finish
returns-in_ok-limits-in-Finish c = let e : c.args.step.kind ≡ Finish = c.in-Finish.is in
    let s : c.args.t ≡ Some c.in_ok-m.m = c.in_ok-m.was in
    let l = c.in_ok-limits-in-Finish in
    rw (s, e) (narrows_then _ _ (Some c.in_ok-m.m) (Some l.field-0) c.head_finishes.result l.ensures c.head_finishes.ensures)
