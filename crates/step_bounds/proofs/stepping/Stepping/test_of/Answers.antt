-- `step_bounds::Stepping::test_of` meets its contract.
use mathlib.Core.Path.{sym, ◌∙◌}
use mathlib.Core.Logic.{⊎_elim}
use native.Mathlib.Omega.{arith}
use Rattle.meaning.specs.Text.ModelTable.{decode}
use Rattle.meaning.proofs.Text.Policies.{policy_fps, policy_edf}
use Rattle.model_table.proofs.PartLaws.{policy_is}
use Rattle.step_bounds.proofs.TestLaws.{policy_range, policy_third, test_under}
use Rattle.step_bounds.proofs.stepping.Stepping.test_of.Goals as goal

pub unreachable-requires : goal.unreachable-requires
unreachable-requires c =
    let t = c.args.self.model.cells.now in
    let r = policy_range (decode t).policy in
    let p = policy_is t c.args.self.model.right in
    ⊎_elim (λ e. omega arith) (λ h. omega arith) c.in-None.ensures

pub returns-in-Some-FixedPriority : goal.returns-in-Some-FixedPriority
returns-in-Some-FixedPriority c =
    let t = c.args.self.model.cells.now in
    let q = c.args.queued in
    let p = sym (policy_is t c.args.self.model.right) ∙ (rw c.in-Some-FixedPriority.field-0-is at c.in-Some-FixedPriority.ensures) in
    test_under (decode t) c.args.new q.task c.args.ahead q.sum q.age (policy_fps (decode t).policy p) _ (c.rank_test.ensures c.args.ahead)

pub returns-in-Some-EarliestDeadline : goal.returns-in-Some-EarliestDeadline
returns-in-Some-EarliestDeadline c =
    let t = c.args.self.model.cells.now in
    let q = c.args.queued in
    let p = sym (policy_is t c.args.self.model.right) ∙ (rw c.in-Some-EarliestDeadline.field-0-is at c.in-Some-EarliestDeadline.ensures) in
    test_under (decode t) c.args.new q.task c.args.ahead q.sum q.age (policy_edf (decode t).policy p) _ (c.deadline_test.ensures c.args.ahead)

pub returns-in-Some-ShortestJob : goal.returns-in-Some-ShortestJob
returns-in-Some-ShortestJob c =
    let t = c.args.self.model.cells.now in
    let q = c.args.queued in
    let p = sym (policy_is t c.args.self.model.right) ∙ (rw c.in-Some-ShortestJob.field-0-is at c.in-Some-ShortestJob.ensures) in
    test_under (decode t) c.args.new q.task c.args.ahead q.sum q.age (policy_third (decode t).policy p) _ c.work_test.ensures
