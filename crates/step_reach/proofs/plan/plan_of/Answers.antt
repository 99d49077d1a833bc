-- `step_reach::plan::plan_of` meets its contract.
use mathlib.Core.Path.{◌≡◌, sym, ◌∙◌, ap, subst}
use lib.IntN.{pos}
use Rattle.meaning.specs.Zones.Steps as S
use Rattle.meaning.specs.Text.ModelTable.{decode}
use Rattle.home.specs.Stands.{home_of}
use Rattle.zone_list.specs.declared.form.Kind.{Kind}
use Rattle.zone_list.specs.declared.form.Kind.TheVariants.{GoOn}
use Rattle.zone_list.specs.Steps.{ahead_of, step_by, step_of}
use Rattle.step_reach.specs.Plans.{Keeps}
use Rattle.step_reach.proofs.PlanLaws.{on_keeps, over_keeps}
use Rattle.step_reach.proofs.plan.plan_of.Goals as goal

pub returns-then-overflows : goal.returns-then-overflows
returns-then-overflows c =
    let m = decode c.args.model.now.cells.now in
    let h = home_of c.args.home in
    c.kept.ensures (step_of c.args.step) (over_keeps m h (step_of c.args.step) (sym c.overflows.ensures ∙ c.if-overflows.true))

pub returns-in-GoOn : goal.returns-in-GoOn
returns-in-GoOn c =
    let m = decode c.args.model.now.cells.now in
    let h = home_of c.args.home in
    let e : c.args.step.kind ≡ GoOn = c.in-GoOn.is in
    let k : step_of c.args.step ≡ S.go_on = ap (λ (x : Kind). step_by x (ahead_of c.args.step)) e in
    c.kept-in-GoOn.ensures (step_of c.args.step) (subst (λ (st : S.Step). Keeps m h st (pos 1)) (sym k) (on_keeps m h))
