-- `step_reach::leaving::Leaving::finished` meets its contract.
use mathlib.Core.Path.{◌∙◌, ap}
use Prim.Native.Nat.{ℕ}
use lib.IntN.{sub_ℕ}
use Rattle.meaning.specs.Inner.Slots.{slots_of}
use Rattle.meaning.specs.Text.ModelTable.{decode}
use Rattle.meaning.specs.Zones.Steps as S
use Rattle.home.specs.Stands.{order_of, home_of}
use Rattle.zone_bounds.proofs.NumberLaws.{read}
use Rattle.step_reach.proofs.PlanLaws.{stand_own, finish_leads}
use Rattle.step_reach.proofs.leaving.Leaving.finished.Goals as goal

pub laid-requires : goal.laid-requires
laid-requires c = stand_own _ _ (c.without_head-left.ensures _ c.slots_of.ensures)

pub returns : goal.returns
returns c =
    let h = home_of c.args.self.home in
    let o = slots_of (decode c.args.self.model.cells.now) (order_of c.args.self.home) in
    let l = c.less-sum in
    c.laid.ensures h S.finish
    (finish_leads c.args.self.model.cells.now h c.without_head-left.result _
    (c.without_head-left.ensures o c.slots_of.ensures)
    (read l.result _ (record { sfits = l.type_inv }) (l.ensures ∙ ap (λ (x : ℕ). sub_ℕ 1 x) c.head_time.ensures.0)))
