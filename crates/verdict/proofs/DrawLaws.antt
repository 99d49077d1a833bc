-- The matrix and the plan of a step are those of each zone of this location and queue order that has the matrix the step was narrowed from.
-- Assumes nothing.
use mathlib.Core.Path.{ap, subst}
use mathlib.Core.List.{List}
use Prim.Native.Nat.{ℕ, ◌≤◌}
use lib.IntN.{ℤ}
use Rattle.meaning.specs.Model.{Model}
use Rattle.meaning.specs.Zones.Variables.{variables}
use Rattle.meaning.specs.Zones.Zone.{Zone, Proposal}
use Rattle.meaning.specs.Zones.Steps.{Step}
use Rattle.meaning.specs.Zones.Reached as Z
use Rattle.meaning.specs.Zones.Reached.{home_of_zone}
use Rattle.meaning.specs.Text.RightModel.{RightModel}
use Rattle.meaning.specs.Inner.Slots.{zone_bounds}
use Rattle.meaning.specs.Inner.StepBounds.{step_bounds}
use Rattle.meaning.specs.Inner.Sources.{source_bounds}
use Rattle.std.specs.Prelude.{Option, Some, None, IfSome}
use Rattle.home.specs.declared.Home.{Home}
use Rattle.home.specs.Stands.{home_of}
use Rattle.zone_bounds.specs.Narrowed.{Workable, Narrowed, Narrows}
use Rattle.zone_bounds.proofs.NarrowLaws.{narrowed_then}
use Rattle.step_reach.specs.declared.plan.Plan.{Plan}
use Rattle.step_reach.specs.Plans.{Planned}
use Rattle.step_reach.proofs.ReplyLaws.{variables_few}
use Rattle.shown.specs.Drawn.{Drawn}
use Rattle.verdict.specs.Judged.{following, ClosedOf, Judged}
use Rattle.verdict.proofs.JudgeLaws.{judged_none}

-- a zone's matrix is in range, if it has one
pub closed_ready : (m : Model) (h : Home) (t : Option (List ℤ)) (z : Zone) → ClosedOf m z h t → IfSome t Workable
closed_ready m h None z c = tt
closed_ready m h (Some t) z c = c.narrowed.ready

module _ (m : Model) (w : RightModel m) (h : Home) (st : Step) where
  module _ (closed t : Option (List ℤ)) (s : Narrows (step_bounds m (home_of h) st) closed t) (z : Zone) (c : ClosedOf m z h closed) where
    pub narrowed : Narrowed (source_bounds m z st) t
    narrowed =
        narrowed_then (zone_bounds m z) (step_bounds m (home_of_zone z) st) closed t c.narrowed
        (subst (λ (k : Z.Home). Narrows (step_bounds m k st) closed t) c.home s)

  -- none of its states does
  pub none_judged : (closed : Option (List ℤ)) → Narrows (step_bounds m (home_of h) st) closed None → (z : Zone) → ClosedOf m z h closed
      → (p : Proposal) (n x k : ℕ) → Judged m p (following n x z st k) None
  none_judged closed s z c p n x k =
      judged_none m w p (record { number = n; place = x; zone = z; step = st; claim = k }) (narrowed closed None s z c)

  -- some state does
  pub drawn_of : (closed : Option (List ℤ)) (t : List ℤ) → Narrows (step_bounds m (home_of h) st) closed (Some t) → (z : Zone) → ClosedOf m z h closed
      → (p : Plan) → Planned m (home_of h) st p → Drawn m z st t p
  drawn_of closed t s z c p d = record {
    ranged = c.ranged;
    few = subst (λ (o : List ℕ). variables m o ≤ 17) (ap (λ (k : Z.Home). k.order) c.home) (variables_few m w h.count h.tasks c.right.few);
    narrowed = narrowed closed (Some t) s z c;
    planned = subst (λ (k : Z.Home). Planned m k st p) c.home d;
  }
