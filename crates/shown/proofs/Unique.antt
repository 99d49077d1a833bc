-- The contracts of the smallest states determine their replies.
-- Assumes nothing.
use mathlib.Core.Path.{◌≡◌, refl, sym, ◌∙◌, ap}
use mathlib.Core.List.{List}
use Rattle.std.specs.Prelude.{Option, None, Some}
use Prim.Native.Nat.{ℕ, suc, ◌<◌}
use native.Mathlib.Omega.{arith}
use native.Mathlib.Decide.{dec_lt}
use lib.IntN.{ℤ}
use Rattle.meaning.specs.Model.{Model}
use Rattle.meaning.specs.Zones.Variables.{variables}
use Rattle.meaning.specs.Zones.Zone.{Zone}
use Rattle.meaning.specs.Zones.Steps.{Step}
use Rattle.meaning.specs.Inner.Slots.{RangedZone}
use Rattle.meaning.specs.Inner.StepBounds.{RangedModel}
use Rattle.meaning.specs.Inner.Sources.{home_at, moved_state}
use Rattle.meaning.proofs.Zones.Home.{below_same}
use Rattle.meaning.proofs.Exact.Reached.{shown_lies}
use Rattle.meaning.proofs.Exact.Smallest.{shown_least, apart_least}
use Rattle.machine.specs.declared.State.{State}
use Rattle.machine.specs.Stands.{held}
use Rattle.step_reach.specs.declared.plan.Plan.{Plan}
use Rattle.shown.specs.Drawn.{Drawn, DrawnBy, ApartBy, SmallestIs, SmallestApart, FirstLate}
use Rattle.shown.proofs.StateLaws.{plan_many}

module _ (m : Model) (z : Zone) (st : Step) (rm : RangedModel m) (rz : RangedZone m z) (r s : State) where
  -- the smallest state is one
  pub smallest_once : SmallestIs m z st r → SmallestIs m z st s → r ≡ s
  smallest_once a b =
      let t = moved_state m z st a.at in
      let u = moved_state m z st b.at in
      let v = shown_least m z st rm rz a.at a.lowest in
      let w = shown_least m z st rm rz b.at b.lowest in
      a.is
      ∙ ap held (below_same m (home_at m z st) t u (shown_lies m z st t v.is) (shown_lies m z st u w.is) (v.least u w.is) (w.least t v.is))
      ∙ sym b.is

  -- and so is the smallest of those in which variable i is at least c above variable j
  pub apart_once : (i j : ℕ) (c : ℤ) → i < variables m (home_at m z st).order → j < variables m (home_at m z st).order
      → SmallestApart m z st i j c r → SmallestApart m z st i j c s → r ≡ s
  apart_once i j c hi hj a b =
      let t = moved_state m z st a.at in
      let u = moved_state m z st b.at in
      let v = apart_least m z st rm i j c hi hj rz a.at a.lowest in
      let w = apart_least m z st rm i j c hi hj rz b.at b.lowest in
      a.is
      ∙ ap held (below_same m (home_at m z st) t u (shown_lies m z st t v.is.0) (shown_lies m z st u w.is.0) (v.least u w.is) (w.least t v.is))
      ∙ sym b.is

-- any two states that the contract allows are one
module _ (m : Model) (rm : RangedModel m) (t : List ℤ) (p : Plan) (r s : State) where
  pub smallest_determined : DrawnBy m t p → ((z : Zone) (st : Step) → Drawn m z st t p → SmallestIs m z st r) → ((z : Zone) (st : Step) → Drawn m z st t p → SmallestIs m z st s) → r ≡ s
  smallest_determined d a b = smallest_once m d.zone d.step rm d.drawn.ranged r s (a d.zone d.step d.drawn) (b d.zone d.step d.drawn)

  pub apart_determined : (i j : ℕ) (c : ℤ) → i < p.variables → j < p.variables → ApartBy m t p i j c → ((z : Zone) (st : Step) → Drawn m z st t p → SmallestApart m z st i j c r)
      → ((z : Zone) (st : Step) → Drawn m z st t p → SmallestApart m z st i j c s) → r ≡ s
  apart_determined i j c hi hj d a b =
      let n = plan_many m d.zone d.step p d.drawn.planned in
      apart_once m d.zone d.step rm d.drawn.ranged r s i j c (omega arith) (omega arith) (a d.zone d.step d.drawn) (b d.zone d.step d.drawn)

-- and so is the first late position
pub first_late_once : (m : Model) (z : Zone) (st : Step) (r s : Option ℕ) → FirstLate m z st r → FirstLate m z st s → r ≡ s
first_late_once m z st None None a b = refl
first_late_once m z st None (Some s) a b = absurd (a b.k b.few b.here)
first_late_once m z st (Some r) None a b = absurd (b a.k a.few a.here)
first_late_once m z st (Some r) (Some s) a b = ap Some (a.is ∙ ap suc (go (dec_lt a.k b.k) (dec_lt b.k a.k)) ∙ sym b.is)
  where
    go : Dec (a.k < b.k) → Dec (b.k < a.k) → a.k ≡ b.k
    go (yes l) w = absurd (b.before a.k l a.here)
    go (no l) (yes w) = absurd (a.before b.k w b.here)
    go (no l) (no w) = omega arith
