-- `step_reach::leaving::Leaving::kept` meets its contract.
use mathlib.Core.Path.{sym, subst}
use Rattle.bounds.proofs.Signed.{rd, back}
use Rattle.step_reach.specs.Plans.{Keeps}
use Rattle.meaning.specs.Text.ModelTable.{decode}
use Rattle.home.specs.Stands.{home_of}
use Rattle.step_reach.proofs.PlanLaws.{stand_own, keeps_leads}
use Rattle.step_reach.proofs.leaving.Leaving.kept.Goals as goal

pub laid-requires : goal.laid-requires
laid-requires c = stand_own _ _ c.slots_of-slots.ensures

pub returns : goal.returns
returns c st w =
    let z = c.slots_of-slots in
    let h = home_of c.args.self.home in
    let m = decode c.args.self.model.cells.now in
    c.laid.ensures h st
    (keeps_leads c.args.self.model.cells.now h z.result st (rd c.args.more) z.ensures (subst (Keeps m h st) (sym (back c.args.more c.ranges.more)) w))
