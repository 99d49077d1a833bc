-- `step_reach::leaving::Leaving::head_time` meets its contract.
use mathlib.Core.Path.{◌≡◌, ◌∙◌}
use native.Mathlib.Omega.{arith}
use lib.ListN.{length, get_or}
use Rattle.meaning.specs.Text.ModelTable.{decode}
use Rattle.model_table.proofs.PartLaws.{work_is, work_small}
use Rattle.step_reach.proofs.PlanLaws.{head_some}
use borrow.Author.Rules.{rules}
use Rattle.step_reach.proofs.leaving.Leaving.head_time.Goals as goal

pub returns : goal.returns
returns c =
    let t = c.args.self.model.cells.now in
    let h = c.args.self.home in
    let six : length h.tasks ≡ 6 = search rules in (
      c.work.ensures ∙ work_is t c.args.self.model.right (get_or h.tasks 0 0) ∙ head_some (decode t) h.count h.tasks (omega arith) (omega arith),
      omega (arith, c.work.ensures, work_small t c.args.self.model.right (get_or h.tasks 0 0)),
    )
