-- `step_bounds::Stepping::deadline_test` meets its contract.
use mathlib.Core.Path.{◌∙◌, ap, ap₂}
use Prim.Native.Nat.{ℕ, ◌+◌}
use native.Mathlib.Omega.{arith}
use lib.IntN.{sub_ℕ}
use Rattle.meaning.specs.Text.ModelTable.{decode}
use Rattle.model_table.proofs.PartLaws.{deadline_is, deadline_small}
use Rattle.zone_bounds.proofs.NumberLaws.{read}
use Rattle.step_bounds.proofs.RangeLaws.{task_times}
use Rattle.step_bounds.proofs.TestLaws.{deadline_tie, deadline_less}
use Rattle.step_bounds.proofs.stepping.Stepping.deadline_test.Goals as goal
use Rattle.step_bounds.proofs.stepping.Stepping.deadline_test.Goals.{then-queued-new, else-queued-new}

pub less-c-requires : goal.less-c-requires
less-c-requires c =
    let t = c.args.self.model.cells.now in
    let own = deadline_small t c.args.self.model.right c.args.new in
    let o = c.deadline-own.ensures in (
      omega (arith, c.deadline.ensures, deadline_small t c.args.self.model.right c.args.queued.task),
      elim c.if-queued-new.branch [
        | then-queued-new w ↦ omega (arith, o, own, w.least-is)
        | else-queued-new w ↦ omega (arith, o, own, w.least-is)
      ],
    )

pub returns : goal.returns
returns c a =
    let t = c.args.self.model.cells.now in
    let q = c.args.queued in
    let l = c.less-c in
    let few = task_times (decode t) c.args.self.model.right.right in
    let own = c.deadline-own.ensures ∙ deadline_is t c.args.self.model.right c.args.new in
    let other = c.deadline.ensures ∙ deadline_is t c.args.self.model.right q.task in
    elim c.if-queued-new.branch [
      | then-queued-new w ↦
          deadline_tie (decode t) c.args.new q.task a q.sum q.age few w.if-queued-new.true c.requires _
          (read l.result _ (record { sfits = l.type_inv }) (l.ensures ∙ ap₂ sub_ℕ other (w.least-is ∙ own)))
      | else-queued-new w ↦
          deadline_less (decode t) c.args.new q.task a q.sum q.age few w.if-queued-new.false c.requires _
          (read l.result _ (record { sfits = l.type_inv }) (l.ensures ∙ ap₂ sub_ℕ other (w.least-is ∙ ap (λ (x : ℕ). x + 1) own)))
    ]
