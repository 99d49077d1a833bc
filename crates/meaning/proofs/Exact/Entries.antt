-- The tightest bound (i, j) of the states that a step shows is the best bound before the step between the variables from i and from j,
-- moved: so every entry of a right reply comes from one entry from before. At an overflow the plan leaves all where it stands.
-- Assumes nothing.
use mathlib.Core.Path.{◌≡◌, refl, sym, ap, subst}
use mathlib.Core.Logic.{◌↔◌, ◌⊎◌, inl}
use mathlib.Core.Bool.{true, false}
use mathlib.Core.Option.{Option, none, some}
use Prim.Native.Nat.{ℕ, ◌+◌, ◌≤◌, ◌<◌}
use native.Mathlib.Omega.{arith}
use lib.IntN.{ℤ, pos, neg_ℤ}
use Rattle.meaning.specs.Numbers.{over, under}
use Rattle.meaning.specs.Model.{Bound, Model}
use Rattle.meaning.specs.Machine.State.{State}
use Rattle.meaning.specs.Machine.Edge.{bound_test}
use Rattle.meaning.specs.Zones.Variables.{vars, var, variables}
use Rattle.meaning.specs.Zones.Zone.{Zone, InZone}
use Rattle.meaning.specs.Zones.Steps.{Step}
use Rattle.meaning.specs.Zones.Reached.{Home, home_of_zone, ReachedBy, OverBy, Shown}
use Rattle.meaning.specs.Zones.Tightest.{Entry, Reply, RightReply}
use Rattle.meaning.specs.Inner.Words.{shift}
use Rattle.meaning.specs.Inner.Bounds.{bound, Meets, Met, Apart}
use Rattle.meaning.specs.Inner.Slots.{state_of, zone_bounds, RangedZone}
use Rattle.meaning.specs.Inner.StepBounds.{RangedModel}
use Rattle.meaning.specs.Inner.Plans.{Plan, from, off, Shifted}
use Rattle.meaning.specs.Inner.Sources.{step_overflows, Source, plan_at, home_at, Leads}
use Rattle.meaning.proofs.Tests.{never}
use Rattle.meaning.proofs.Numbers.{over_neg, under_neg, within_true, within_make, shift_parts, shift_none}
use Rattle.meaning.proofs.Exact.Valuations.{agrees_at, zone_met, met_agrees, met_zone}
use Rattle.meaning.proofs.Exact.Reached.{own_source, shown_leads, leads_shown, source_agrees, none_shown, over_iff, shown_reached}

-- ── the best bounds of a set of valuations ─────────────────────────────────────────────────────

-- c is the largest value of x a − x b over S
pub record Best (S : (ℕ → ℕ) → Type 0) (a b : ℕ) (c : ℤ) : Type 0 where
  pub bounds : (x : ℕ → ℕ) → S x → x a + under c ≤ x b + over c
  pub at : ℕ → ℕ
  pub is : S at
  pub reaches : at b + over c ≤ at a + under c

-- there is none: above every number lies some x a − x b
pub record Boundless (S : (ℕ → ℕ) → Type 0) (a b : ℕ) : Type 0 where
  pub at : (k : ℕ) → (x : ℕ → ℕ) × S x × (x b + k < x a)

-- what the entry (a, b) of a closed matrix is, whose solutions are S
abbrev pub BestE : ((ℕ → ℕ) → Type 0) → ℕ → ℕ → Option ℤ → Type 0
BestE S a b none = Boundless S a b
BestE S a b (some c) = Best S a b c

-- the same of another set with the same valuations
pub best_same : (S R : (ℕ → ℕ) → Type 0) (a b : ℕ) (e : Option ℤ) → ((x : ℕ → ℕ) → S x → R x) → ((x : ℕ → ℕ) → R x → S x) → BestE S a b e → BestE R a b e
best_same S R a b none f g h = record { at = λ k. let w = h.at k in (w.0, f w.0 w.1, w.2) }
best_same S R a b (some c) f g h = record { bounds = λ x r. h.bounds x (g x r); at = h.at; is = f h.at h.is; reaches = h.reaches }

-- ── from valuations to states ──────────────────────────────────────────────────────────────────

-- an entry, moved
abbrev pub shift_e : Option ℤ → ℤ → ℤ → Option ℤ
shift_e none u v = none
shift_e (some c) u v = some (shift c u v)

pub shift_e_none : (e : Option ℤ) → shift_e e (pos 0) (pos 0) ≡ e
shift_e_none none = refl
shift_e_none (some c) = ap some (shift_none c)

-- the states of S are the valuations of R, with variable i what a is, and u more, and variable j what b is, and v more
pub entry_moved : (S : State → Type 0) (R : (ℕ → ℕ) → Type 0) (i j a b : ℕ) (u v : ℤ)
    → ((s : State) → S s → (x : ℕ → ℕ) × R x × Shifted u (x a) (var s i) × Shifted v (x b) (var s j))
    → ((x : ℕ → ℕ) → R x → (s : State) × S s × Shifted u (x a) (var s i) × Shifted v (x b) (var s j))
    → (e : Option ℤ) → BestE R a b e → Entry S i j (shift_e e u v)
entry_moved S R i j a b u v to of none h = record {
  at = λ k.
      let w = h.at (k + over v + under u) in
      let r = of w.0 w.1 in
      (r.0, r.1, omega (arith, w.2, r.2, r.3));
}
entry_moved S R i j a b u v to of (some c) h =
    let r = of h.at h.is in
    let e = shift_parts c u v in
    record {
      bounds = λ s q. let l = to s q in within_make (var s i) (var s j) (shift c u v) (omega (arith, h.bounds l.0 l.1, l.2, l.3));
      at = r.0;
      is = r.1;
      reaches =
          within_make (var r.0 j) (var r.0 i) (neg_ℤ (shift c u v))
          (omega (arith, h.reaches, r.2, r.3, over_neg (shift c u v), under_neg (shift c u v)));
    }

-- the same of states that have the variables of the valuations, as they stand
pub entry_as_is : (S : State → Type 0) (R : (ℕ → ℕ) → Type 0) (n : ℕ) → ((s : State) → S s → R (var s))
    → ((x : ℕ → ℕ) → R x → (s : State) × S s × ((i : ℕ) → i < n → x i ≡ var s i))
    → (i j : ℕ) → i < n → j < n → (e : Option ℤ) → BestE R i j e → Entry S i j e
entry_as_is S R n to of i j hi hj e h =
    subst (Entry S i j) (shift_e_none e)
    (entry_moved S R i j i j (pos 0) (pos 0) (λ s q. (var s, to s q, omega arith, omega arith))
    (λ x q. let r = of x q in (r.0, r.1, omega (arith, r.2 i hi), omega (arith, r.2 j hj))) e h)

-- the entries of two sets with the same states
pub entry_same : (S R : State → Type 0) (i j : ℕ) (e : Option ℤ) → ((s : State) → S s ↔ R s) → Entry S i j e → Entry R i j e
entry_same S R i j none f h = record { at = λ k. let w = h.at k in (w.0, (f w.0).0 w.1, w.2) }
entry_same S R i j (some c) f h = record { bounds = λ s r. h.bounds s ((f s).1 r); at = h.at; is = (f h.at).0 h.is; reaches = h.reaches }

-- ── of a zone ──────────────────────────────────────────────────────────────────────────────────

-- the valuations of a zone's states
pub record Inside (m : Model) (z : Zone) (x : ℕ → ℕ) : Type 0 where
  pub origin : x 0 ≡ 0
  pub met : Met x (zone_bounds m z)

-- what follows from its bounds together and from properness
pub entry_zone : (m : Model) (z : Zone) → RangedZone m z → (i j : ℕ) → i < variables m z.order → j < variables m z.order → (e : Option ℤ)
    → BestE (Inside m z) i j e → Entry (InZone m z) i j e
entry_zone m z rz i j hi hj e h =
    entry_as_is (InZone m z) (Inside m z) (variables m z.order) (λ s q. record { origin = refl; met = zone_met m z s q })
    (λ x q. (state_of m (home_of_zone z) x, met_zone m z x rz q.origin q.met, agrees_at (met_agrees m z x q.origin q.met))) i j hi hj e h

-- ── of a zone's step ───────────────────────────────────────────────────────────────────────────

module _ (m : Model) (z : Zone) (st : Step) (rm : RangedModel m) (rz : RangedZone m z) where
  -- an entry of the states shown is one from before, moved
  pub entry_shown : (i j : ℕ) → i < variables m (home_at m z st).order → j < variables m (home_at m z st).order → (e : Option ℤ)
      → BestE (Source m z st) (from m (plan_at m z st) i) (from m (plan_at m z st) j) e
      → Entry (Shown m z st) i j (shift_e e (off m (plan_at m z st) i) (off m (plan_at m z st) j))
  entry_shown i j hi hj e h =
      let p = plan_at m z st in
      entry_moved (Shown m z st) (Source m z st) i j (from m p i) (from m p j) (off m p i) (off m p j)
      (λ s q. let l = shown_leads m z st rm s q in (l.0, l.1.source, l.1.at i hi, l.1.at j hj))
      (λ x q. let r = leads_shown m z st rm rz x q in (r.0, r.1, r.2.at i hi, r.2.at j hj)) e h

  -- the same of the reached states, where the step does not overflow
  pub entry_reached : step_overflows m (home_of_zone z) st ≡ false → (i j : ℕ) → i < variables m (home_at m z st).order
      → j < variables m (home_at m z st).order → (e : Option ℤ) → BestE (Source m z st) (from m (plan_at m z st) i) (from m (plan_at m z st) j) e
      → Entry (ReachedBy m z st) i j (shift_e e (off m (plan_at m z st) i) (off m (plan_at m z st) j))
  entry_reached n i j hi hj e h =
      entry_same (Shown m z st) (ReachedBy m z st) i j (shift_e e (off m (plan_at m z st) i) (off m (plan_at m z st) j))
      (λ s. (shown_reached m z st n s, λ r. inl r)) (entry_shown i j hi hj e h)

  -- and of the states of an overflow, as they stand
  pub entry_over : step_overflows m (home_of_zone z) st ≡ true → (i j : ℕ) → i < variables m z.order → j < variables m z.order → (e : Option ℤ)
      → BestE (Source m z st) i j e → Entry (OverBy m z st) i j e
  entry_over n i j hi hj e h =
      entry_as_is (OverBy m z st) (Source m z st) (variables m z.order) (λ s q. own_source m z st rm s q.inside q.takes)
      (λ x q. (state_of m (home_of_zone z) x, (over_iff m z st rm rz (state_of m (home_of_zone z) x)).1 (n, (x, q, refl)), agrees_at (source_agrees m z st rm rz x q)))
      i j hi hj e h

  -- ── the reply of a zone's step ───────────────────────────────────────────────────────────────

  -- the entries from before, moved, are a right reply
  pub reply_shown : (r : Reply) → r.home ≡ home_at m z st → r.empty ≡ false
      → ((i j : ℕ) → i < variables m (home_at m z st).order → j < variables m (home_at m z st).order
      → (e : Option ℤ) × BestE (Source m z st) (from m (plan_at m z st) i) (from m (plan_at m z st) j) e
      × (r.entry i j ≡ shift_e e (off m (plan_at m z st) i) (off m (plan_at m z st) j)))
      → ((i j : ℕ) → (variables m (home_at m z st).order ≤ i) ⊎ (variables m (home_at m z st).order ≤ j) → r.entry i j ≡ some (pos 0))
      → RightReply m z st r
  reply_shown r h n f g =
      let len : variables m r.home.order ≡ variables m (home_at m z st).order = ap (λ (x : Home). variables m x.order) h in
      record {
        home = h;
        none_shown = λ e. absurd (never e n);
        zeros = λ e. absurd (never e n);
        tightest = λ e i j hi hj.
            let hi' = subst (λ (k : ℕ). i < k) len hi in
            let hj' = subst (λ (k : ℕ). j < k) len hj in
            let w = f i j hi' hj' in
            subst (Entry (Shown m z st) i j) (sym w.2) (entry_shown i j hi' hj' w.0 w.1);
        beyond = λ e i j b. g i j (subst (λ (k : ℕ). (k ≤ i) ⊎ (k ≤ j)) len b);
      }

  -- "if there are none, it says so with all bounds 0"
  pub reply_none : (r : Reply) → r.home ≡ home_at m z st → r.empty ≡ true → ((x : ℕ → ℕ) → Source m z st x → ⊥)
      → ((i j : ℕ) → r.entry i j ≡ some (pos 0)) → RightReply m z st r
  reply_none r h n f g = record {
    home = h;
    none_shown = λ e. none_shown m z st rm f;
    zeros = λ e. g;
    tightest = λ e. absurd (never n e);
    beyond = λ e. absurd (never n e);
  }

-- ── a bound after the step as one before it ────────────────────────────────────────────────────

abbrev pub pull : Model → Plan → Bound → Bound
pull m p b = bound (from m p b.i) (from m p b.j) (shift b.c (off m p b.j) (off m p b.i))

-- a bound is met after the step exactly if it is met before, pulled back
pub leads_bound : (m : Model) (z : Zone) (st : Step) (x : ℕ → ℕ) (t : State) (b : Bound) → Leads m z st x t
    → b.i < variables m (home_at m z st).order → b.j < variables m (home_at m z st).order
    → (bound_test (vars t) b ≡ true) ↔ Meets x (pull m (plan_at m z st) b)
leads_bound m z st x t b l hi hj =
    let p = plan_at m z st in
    let e = shift_parts b.c (off m p b.j) (off m p b.i) in
    let u = l.at b.i hi in
    let v = l.at b.j hj in (
      λ w. omega (arith, within_true (var t b.i) (var t b.j) b.c w),
      λ w. within_make (var t b.i) (var t b.j) b.c (omega arith),
    )

-- and two variables are c apart after it exactly if those from before are, by as much more
pub leads_apart : (m : Model) (z : Zone) (st : Step) (x : ℕ → ℕ) (t : State) (i j : ℕ) (c : ℤ) → Leads m z st x t
    → i < variables m (home_at m z st).order → j < variables m (home_at m z st).order
    → Apart (var t) i j c ↔ Apart x (from m (plan_at m z st) i) (from m (plan_at m z st) j) (shift c (off m (plan_at m z st) j) (off m (plan_at m z st) i))
leads_apart m z st x t i j c l hi hj =
    let p = plan_at m z st in
    let e = shift_parts c (off m p j) (off m p i) in
    let u = l.at i hi in
    let v = l.at j hj in
    (λ w. omega arith, λ w. omega arith)
