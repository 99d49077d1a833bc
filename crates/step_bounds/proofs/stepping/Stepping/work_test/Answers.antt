-- `step_bounds::Stepping::work_test` meets its contract.
use mathlib.Core.Path.{◌∙◌, ap₂}
use Prim.Native.Nat.{ℕ, ◌+◌}
use native.Mathlib.Omega.{arith}
use lib.IntN.{sub_ℕ}
use Rattle.meaning.specs.Text.ModelTable.{decode}
use Rattle.model_table.proofs.PartLaws.{work_is, work_small}
use Rattle.zone_bounds.proofs.NumberLaws.{read}
use Rattle.step_bounds.proofs.RangeLaws.{task_times}
use Rattle.step_bounds.proofs.TestLaws.{work_less}
use Rattle.step_bounds.proofs.stepping.Stepping.work_test.Goals as goal

pub less-c-requires : goal.less-c-requires
less-c-requires c = let t = c.args.self.model.cells.now in
    (omega (arith, c.work.ensures, work_small t c.args.self.model.right c.args.queued.task), omega (arith, c.work-2.ensures, work_small t c.args.self.model.right c.args.new))

pub returns : goal.returns
returns c =
    let t = c.args.self.model.cells.now in
    let q = c.args.queued in
    let l = c.less-c in
    work_less (decode t) c.args.new q.task c.args.ahead q.sum q.age (task_times (decode t) c.args.self.model.right.right) c.requires.0 c.requires.1 _
    (read l.result _ (record { sfits = l.type_inv }) (l.ensures
    ∙ ap₂ (λ (x y : ℕ). sub_ℕ x (y + 1)) (c.work.ensures ∙ work_is t c.args.self.model.right q.task) (c.work-2.ensures ∙ work_is t c.args.self.model.right c.args.new)))
