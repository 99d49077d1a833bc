-- `edge_given` meets its contract.
use mathlib.Core.Path.{sym, ◌∙◌}
use Rattle.machine.proofs.StepLaws.{edge_elsewhere, edge_guarded, edge_moved}
use Rattle.machine.proofs.stepping.edge_given.Goals as goal
use Rattle.machine.proofs.stepping.edge_given.Goals.{else-leaves-via-then-leaves+else-guard_holds, else-leaves-via-else-leaves}

pub returns-then-guard_holds : goal.returns-then-guard_holds
returns-then-guard_holds c =
    let a = c.args in
    c.moved.ensures
    ∙ edge_moved a.model.now.cells.now c.args.model.now.right a.state c.requires a.number (sym c.leaves.ensures ∙ c.if-leaves.true) (sym c.guard_holds.ensures ∙ c.if-guard_holds.true) _ c.reset.ensures

pub returns : goal.returns
returns c =
    let a = c.args in
    let g = c.args.model.now.right in
    let w = c.requires in
    c.refused.ensures
    ∙ elim c.else-leaves.branch [
      | else-leaves-via-then-leaves+else-guard_holds v ↦ edge_guarded a.model.now.cells.now g a.state w a.number (sym c.leaves.ensures ∙ v.if-leaves.true) (sym v.guard_holds.ensures ∙ v.if-guard_holds.false)
      | else-leaves-via-else-leaves v ↦ edge_elsewhere a.model.now.cells.now g a.state w a.number (sym c.leaves.ensures ∙ v.if-leaves.false)
    ]
