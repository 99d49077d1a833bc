-- The smallest state that a step shows is the smallest valuation before it, moved; and likewise the smallest in which variable i is at
-- least c above variable j.
-- Assumes nothing.
use mathlib.Core.Path.{◌≡◌, refl}
use mathlib.Core.Logic.{◌↔◌, inl, inr}
use mathlib.Core.Bool.{true, false}
use Prim.Native.Nat.{ℕ, ◌+◌, ◌≤◌, ◌<◌}
use native.Mathlib.Omega.{arith}
use lib.IntN.{ℤ}
use Rattle.meaning.specs.Numbers.{over, under}
use Rattle.meaning.specs.Model.{Model}
use Rattle.meaning.specs.Machine.State.{State}
use Rattle.meaning.specs.Zones.Variables.{var, variables}
use Rattle.meaning.specs.Zones.Zone.{Zone}
use Rattle.meaning.specs.Zones.Steps.{Step}
use Rattle.meaning.specs.Zones.Reached.{home_of_zone, ReachedBy, OverBy, Shown}
use Rattle.meaning.specs.Check.Faults.{Below}
use Rattle.meaning.specs.Inner.Bounds.{Apart}
use Rattle.meaning.specs.Inner.Slots.{state_of, RangedZone}
use Rattle.meaning.specs.Inner.StepBounds.{RangedModel}
use Rattle.meaning.specs.Inner.Plans.{from}
use Rattle.meaning.specs.Inner.Sources.{step_overflows, Source, plan_at, home_at, Leads, moved_state}
use Rattle.meaning.specs.Inner.Smallest.{Least, Lowest, ApartBefore}
use Rattle.meaning.proofs.Exact.Valuations.{lies_agrees, agrees_below, zone_agrees}
use Rattle.meaning.proofs.Exact.Ranges.{from_in}
use Rattle.meaning.proofs.Exact.Reached.{own_source, shown_leads, moved_shown, moved_leads, source_agrees, shown_lies, shown_reached, shown_over, over_iff}
use Rattle.meaning.proofs.Exact.Entries.{Best, leads_apart}

-- the smallest of two sets with the same states
pub least_same : (S R : State → Type 0) (t : State) → ((u : State) → S u ↔ R u) → Least S t → Least R t
least_same S R t e l = record { is = (e t).0 l.is; least = λ u h. l.least u ((e u).1 h) }

pub lowest_same : (n : ℕ) (S R : (ℕ → ℕ) → Type 0) (x : ℕ → ℕ) → ((y : ℕ → ℕ) → S y ↔ R y) → Lowest n S x → Lowest n R x
lowest_same n S R x e l = record { is = (e x).0 l.is; least = λ y h. l.least y ((e y).1 h) }

-- where the best bound is below c, nothing is c apart
pub best_apart : (S : (ℕ → ℕ) → Type 0) (a b : ℕ) (e c : ℤ) → Best S a b e → over e + under c < over c + under e → (y : ℕ → ℕ) → S y → Apart y a b c → ⊥
best_apart S a b e c h l y s w = omega (arith, h.bounds y s)

module _ (m : Model) (z : Zone) (st : Step) (rm : RangedModel m) where
  -- a smaller valuation leads to a smaller state
  pub leads_below : (t u : State) (x y : ℕ → ℕ) → Shown m z st t → Shown m z st u → Leads m z st x t → Leads m z st y u
      → ((i : ℕ) → i < variables m z.order → x i ≤ y i) → Below t u
  leads_below t u x y a b k l h =
      let o = home_at m z st in
      agrees_below (lies_agrees m o t (shown_lies m z st t a)) (lies_agrees m o u (shown_lies m z st u b))
      (λ i q. omega (arith, k.at i q, l.at i q, h (from m (plan_at m z st) i) (from_in m (home_of_zone z) st i)))

  -- ── the smallest ─────────────────────────────────────────────────────────────────────────────
  module _ (rz : RangedZone m z) (x : ℕ → ℕ) (l : Lowest (variables m z.order) (Source m z st) x) where
    -- of all states shown
    pub shown_least : Least (Shown m z st) (moved_state m z st x)
    shown_least = record {
      is = moved_shown m z st rm rz x l.is;
      least = λ u h.
          let w = shown_leads m z st rm u h in
          leads_below (moved_state m z st x) u x w.0 (moved_shown m z st rm rz x l.is) h (moved_leads m z st rm rz x l.is) w.1
          (l.least w.0 w.1.source);
    }

    -- of the reached states
    pub reached_least : step_overflows m (home_of_zone z) st ≡ false → Least (ReachedBy m z st) (moved_state m z st x)
    reached_least n = least_same (Shown m z st) (ReachedBy m z st) (moved_state m z st x) (λ u. (shown_reached m z st n u, λ r. inl r)) shown_least

    -- of the states of an overflow, moved, which is as they stand
    pub over_least : step_overflows m (home_of_zone z) st ≡ true → Least (OverBy m z st) (moved_state m z st x)
    over_least n = least_same (Shown m z st) (OverBy m z st) (moved_state m z st x) (λ u. (shown_over m z st n u, λ r. inr r)) shown_least

    pub over_least_as_is : step_overflows m (home_of_zone z) st ≡ true → Least (OverBy m z st) (state_of m (home_of_zone z) x)
    over_least_as_is n = record {
      is = (over_iff m z st rm rz (state_of m (home_of_zone z) x)).1 (n, (x, l.is, refl));
      least = λ u h.
          agrees_below (source_agrees m z st rm rz x l.is) (zone_agrees m z u h.inside)
          (l.least (var u) (own_source m z st rm u h.inside h.takes));
    }

  -- ── the smallest in which variable i is at least c above variable j ──────────────────────────
  module _ (i j : ℕ) (c : ℤ) (hi : i < variables m (home_at m z st).order) (hj : j < variables m (home_at m z st).order) where
    -- of all states shown
    pub apart_least : RangedZone m z → (x : ℕ → ℕ) → Lowest (variables m z.order) (λ (y : ℕ → ℕ). Source m z st y × ApartBefore m z st i j c y) x
        → Least (λ (t : State). Shown m z st t × Apart (var t) i j c) (moved_state m z st x)
    apart_least rz x l =
        let a = moved_shown m z st rm rz x l.is.0 in
        let k = moved_leads m z st rm rz x l.is.0 in
        record {
          is = (a, (leads_apart m z st x (moved_state m z st x) i j c k hi hj).1 l.is.1);
          least = λ u h.
              let w = shown_leads m z st rm u h.0 in
              leads_below (moved_state m z st x) u x w.0 a h.0 k w.1
              (l.least w.0 (w.1.source, (leads_apart m z st w.0 u i j c w.1 hi hj).0 h.1));
        }

    -- of the reached states
    pub reached_apart_least : RangedZone m z → step_overflows m (home_of_zone z) st ≡ false → (x : ℕ → ℕ)
        → Lowest (variables m z.order) (λ (y : ℕ → ℕ). Source m z st y × ApartBefore m z st i j c y) x
        → Least (λ (t : State). ReachedBy m z st t × Apart (var t) i j c) (moved_state m z st x)
    reached_apart_least rz n x l =
        least_same (λ (t : State). Shown m z st t × Apart (var t) i j c) (λ (t : State). ReachedBy m z st t × Apart (var t) i j c) (moved_state m z st x)
        (λ u. (λ h. (shown_reached m z st n u h.0, h.1), λ h. (inl h.0, h.1))) (apart_least rz x l)

    -- where no valuation has it, no state has it
    pub none_apart : ((y : ℕ → ℕ) → Source m z st y → ApartBefore m z st i j c y → ⊥) → (u : State) → Shown m z st u → Apart (var u) i j c → ⊥
    none_apart h u r w = let l = shown_leads m z st rm u r in h l.0 l.1.source ((leads_apart m z st l.0 u i j c l.1 hi hj).0 w)
