-- `verdict::answering::try_all` meets its contract: before each zone all obligations so far are tried, and hold.
use mathlib.Core.Path.{sym, subst}
use Prim.Native.Nat.{◌+◌, ◌-◌}
use native.Mathlib.Omega.{arith}
use Rattle.std.proofs.lemmas.Result.{err_from_is_err_and}
use Rattle.model_table.specs.Held.{model_of}
use Rattle.meaning.specs.Text.ProposalTable as table
use Rattle.verdict.specs.declared.answer.Failure.{Failure}
use Rattle.verdict.specs.declared.answer.Verdict.TheVariants.{Failed}
use Rattle.verdict.specs.AnsweredBy.{AnsweredBy}
use Rattle.verdict.proofs.TriedLaws.{tried_first, answered_start, answered_zone, zone_own, answered_all}
use Rattle.verdict.proofs.answering.try_all.Goals as goal

pub returns-in-Some : goal.returns-in-Some
returns-in-Some c =
    let m = model_of c.args.model.now in
    let u = c.args.zones.now in
    subst (λ (r : Failure). AnsweredBy m (table.decode u) (Failed r)) (sym c.of.ensures)
    (answered_start m c.args.model.now.right.right u c.requires c.in-Some.found c.in-Some.ensures)

pub loop-n-init : goal.loop-n-init
loop-n-init c = record { few = omega arith; tried = tried_first (model_of c.args.model.now) (table.decode c.args.zones.now) c.in_default.ensures }

pub returns-in_err-own : goal.returns-in_err-own
returns-in_err-own c =
    let p = err_from_is_err_and c.from_residual.result c.from_residual.ensures.1 in
    rw (p.1, p.2)
    (answered_zone (model_of c.args.model.now) c.args.model.now.right.right c.args.zones.now c.requires c.loop-n.n (omega arith) (omega (arith, c.zones-many.ensures.0)) c.loop-n.tried
    c.loop-n.invariant.tried _ c.in_err-own.ensures)

pub loop-n-preserved : goal.loop-n-preserved
loop-n-preserved c =
    zone_own (model_of c.args.model.now) c.args.model.now.right.right c.args.zones.now c.requires c.loop-n.n (omega arith) (omega (arith, c.zones-many.ensures.0)) c.loop-n.tried
    c.loop-n.invariant.tried c.in_ok-own.own _ c.in_ok-own.ensures (omega arith) c.loop-n.invariant.few

pub returns-in_ok-own : goal.returns-in_ok-own
returns-in_ok-own c =
    answered_all (model_of c.args.model.now) c.args.model.now.right.right c.args.zones.now c.requires (c.loop-n.n + 1 - 1) _ (omega (arith, c.zones-many.ensures.0))
    (zone_own (model_of c.args.model.now) c.args.model.now.right.right c.args.zones.now c.requires c.loop-n.n (omega arith) (omega (arith, c.zones-many.ensures.0)) c.loop-n.tried
    c.loop-n.invariant.tried c.in_ok-own.own _ c.in_ok-own.ensures (omega arith) c.loop-n.invariant.few).tried
