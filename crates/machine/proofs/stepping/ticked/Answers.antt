-- `ticked` meets its contract.
use Prim.Native.Nat.{ℕ}
use mathlib.Core.Path.{sym, ◌∙◌, ap, ap₂}
use native.Mathlib.Omega.{arith}
use lib.ListN.{take}
use Rattle.meaning.specs.Text.ModelTable.{decode}
use Rattle.model_table.proofs.PartLaws.{work_small, deadline_small}
use Rattle.machine.specs.Promise.{went, missed, said_by}
use Rattle.machine.specs.declared.Outcome.{Outcome}
use Rattle.machine.specs.declared.State.{State}
use Rattle.machine.proofs.JobLaws.{late_none, late_some}
use Rattle.machine.proofs.LendLaws.{lent_young}
use Rattle.machine.proofs.StepLaws.{ticked_late, ticked_state, told_went, told_missed}
use Rattle.machine.proofs.stepping.ticked.Goals as goal
use Rattle.machine.proofs.stepping.ticked.Goals.{in-None, in-Some}

pub finishes-last-requires : goal.finishes-last-requires
finishes-last-requires c =
    let t = c.args.model.now.cells.now in
    let g = c.args.model.now.right in
    lent_young t g c.args.state c.requires.0 (work_small t g) (deadline_small t g)

pub served-next-requires : goal.served-next-requires
served-next-requires c =
    let t = c.args.model.now.cells.now in
    let g = c.args.model.now.right in
    lent_young t g c.args.state c.requires.0 (work_small t g) (deadline_small t g)

pub returns : goal.returns
returns c =
    let t = c.args.model.now.cells.now in
    let s = c.args.state in
    let g = c.args.model.now.right in
    let w = c.requires.0 in
    let n = c.served-next.result in
    let f = c.finishes-last.ensures in
    let z = c.state_with.ensures ∙ ticked_state t g s w _ n c.served-next.ensures c.args.grown c.requires.1 f in
    let k = sym (ticked_late t g s w _ n c.served-next.ensures f) in
    elim c.match-first_late.branch [
      | in-None v ↦ ap (λ (o : Outcome). said_by o c.state_with.result) v.outcome-is ∙ ap went z
          ∙ sym (told_went s _ _ (k ∙ late_none (decode t) (take n.count n.jobs) _ v.in-None.is c.first_late.ensures))
      | in-Some v ↦ ap (λ (o : Outcome). said_by o c.state_with.result) v.outcome-is
          ∙ (let l = k ∙ late_some (decode t) (take n.count n.jobs) _ _ v.in-Some.is c.first_late.ensures in
          ap₂ (λ (y : State) (i : ℕ). missed y i) z (sym l) ∙ sym (told_missed s _ _ (omega (arith, l))))
    ]
