-- `verdict::kinds::by_kind` meets its contract.
use mathlib.Core.Path.{◌≡◌, sym, ◌∙◌, ap}
use mathlib.Core.Bool.{Bool}
use native.Mathlib.Omega.{arith}
use Rattle.model_table.specs.Held.{model_of}
use Rattle.meaning.specs.Text.ProposalTable as table
use Rattle.meaning.specs.Zones.Reached as Z
use Rattle.meaning.specs.Inner.Sources.{step_overflows}
use Rattle.zone_list.specs.Steps.{step_of}
use Rattle.verdict.proofs.JudgeLaws.{judged_over, judged_unclaimed}
use Rattle.verdict.proofs.kinds.by_kind.Goals as goal

pub returns-then-overflows : goal.returns-then-overflows
returns-then-overflows c =
    let o = c.overflows in
    let over : Z.Home → Bool = λ h. step_overflows (model_of c.args.model.now) h (step_of c.args.step) in
    λ n x z l d.
    judged_over (model_of c.args.model.now) c.args.model.now.right.right (table.decode c.args.zones.now) (record { number = n; place = x; zone = z; step = step_of c.args.step; claim = c.args.claim })
    c.args.m.now c.args.plan d (sym (o.ensures ∙ ap over l) ∙ c.if-overflows.true) c.smallest.result (c.smallest.ensures z (step_of c.args.step) d)

pub late_at-requires : goal.late_at-requires
late_at-requires c =
    let y = c.requires.drawn_by in record {
      late_by = record { zone = y.zone; step = y.step; drawn = y.drawn; first = c.in-Some.ensures y.zone y.step y.drawn };
    }

pub returns-in-Some : goal.returns-in-Some
returns-in-Some c =
    let o = c.overflows in
    let over : Z.Home → Bool = λ h. step_overflows (model_of c.args.model.now) h (step_of c.args.step) in
    λ n x z l d.
    c.late_at.ensures (table.decode c.args.zones.now) n x c.args.claim z (step_of c.args.step) d (sym (o.ensures ∙ ap over l) ∙ c.if-overflows.false)
    (c.in-Some.ensures z (step_of c.args.step) d)

pub returns-then-claim-eq0 : goal.returns-then-claim-eq0
returns-then-claim-eq0 c =
    let o = c.overflows in
    let over : Z.Home → Bool = λ h. step_overflows (model_of c.args.model.now) h (step_of c.args.step) in
    let none : c.args.claim ≡ 0 = (let k = c.if-claim-eq0.true in omega arith) in
    λ n x z l d.
    judged_unclaimed (model_of c.args.model.now) c.args.model.now.right.right (table.decode c.args.zones.now) (record { number = n; place = x; zone = z; step = step_of c.args.step; claim = c.args.claim })
    c.args.m.now c.args.plan d (sym (o.ensures ∙ ap over l) ∙ c.if-overflows.false) (c.in_default.ensures z (step_of c.args.step) d) none
    c.smallest-then-claim-eq0.result (c.smallest-then-claim-eq0.ensures z (step_of c.args.step) d)

pub by_claim-requires : goal.by_claim-requires
by_claim-requires c =
    let p = c.requires.given in
    record { given = (p.0, let k = c.if-claim-eq0.false in omega arith, p.1); drawn_by = c.requires.drawn_by }

pub returns : goal.returns
returns c =
    let o = c.overflows in
    let over : Z.Home → Bool = λ h. step_overflows (model_of c.args.model.now) h (step_of c.args.step) in
    λ n x z l d.
    c.by_claim.ensures n x z (step_of c.args.step) d (sym (o.ensures ∙ ap over l) ∙ c.if-overflows.false) (c.in_default.ensures z (step_of c.args.step) d)
