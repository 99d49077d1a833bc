-- The states that one step shows of a zone are exactly those of the valuations that meet the zone's bounds and the step's, moved: the
-- reached ones, or at an overflow the states that meet the guard, as they stand.
-- Assumes nothing.
use mathlib.Core.Path.{◌≡◌, refl, sym, ◌∙◌, ap, subst}
use mathlib.Core.Logic.{◌↔◌, inl, inr}
use mathlib.Core.Bool.{Bool, true, false, cond}
use mathlib.Core.Option.{Option, none, some}
use Prim.Native.Nat.{ℕ, zero, suc, ◌+◌, ◌≤◌, ◌<◌}
use native.Mathlib.Omega.{arith}
use Rattle.meaning.specs.Numbers.{over, under}
use Rattle.meaning.specs.Lists.{nth1}
use Rattle.meaning.specs.Model.{Edge, Model, target, released}
use Rattle.meaning.specs.Machine.State.{State, order}
use Rattle.meaning.specs.Machine.Release.{overflows_any}
use Rattle.meaning.specs.Machine.Tick.{tick_to, late}
use Rattle.meaning.specs.Machine.Edge.{entered}
use Rattle.meaning.specs.Machine.Step.{Outcome, went, missed, overflow, refused, judged, moved_by, act, after}
use Rattle.meaning.specs.Zones.Variables.{var, variables}
use Rattle.meaning.specs.Zones.Zone.{Zone, InZone}
use Rattle.meaning.specs.Zones.Steps.{Step, go_on, finish, by_edge, event_of, Takes}
use Rattle.meaning.specs.Zones.Reached.{Home, home_of_zone, insert_all, home_by, home_after, Lands, ReachedBy, OverBy, Shown}
use Rattle.meaning.specs.Inner.Bounds.{Met}
use Rattle.meaning.specs.Inner.Slots.{state_of, Agrees, zone_bounds, RangedZone}
use Rattle.meaning.specs.Inner.StepBounds.{step_bounds, RangedModel}
use Rattle.meaning.specs.Inner.Plans.{from, off, move}
use Rattle.meaning.specs.Inner.Sources.{edge_overflows, step_overflows, Source, plan_at, home_at, moved_state, Leads}
use Rattle.meaning.proofs.Tests.{never}
use Rattle.meaning.proofs.Zones.Home.{mk_home, home_in, Lies, reached_lies}
use Rattle.meaning.proofs.Check.Faults.{not_refused}
use Rattle.meaning.proofs.Exact.Bounds.{met_append}
use Rattle.meaning.proofs.Exact.Valuations.{lies_agrees, agrees_cong, agrees_state, zone_agrees, zone_met, met_agrees, met_zone}
use Rattle.meaning.proofs.Exact.StepBounds.{takes_iff}
use Rattle.meaning.proofs.Exact.Moves.{step_moves, moves_at}

-- ── an overflow, or not ────────────────────────────────────────────────────────────────────────

judged_not : (s : State) (k : ℕ) → judged s k ≡ overflow → ⊥
judged_not s zero e = let w : ◌≡◌ {A = ℕ} 0 1 = cc in omega arith
judged_not s (suc k) e = let w : ◌≡◌ {A = ℕ} 0 1 = cc in omega arith

module _ (m : Model) (h : Home) (s : State) (o : order s.queue ≡ h.order) where
  over_edge : (d : Option Edge) → moved_by m s d ≡ overflow → edge_overflows m h d ≡ true
  over_edge none e = absurd (let w : ◌≡◌ {A = ℕ} 0 1 = cc in omega arith)
  over_edge (some d) e = ap (overflows_any m (released m d)) (sym o) ∙ test (overflows_any m (released m d) (order s.queue)) e
    where
      test : (b : Bool) → cond b overflow (went (entered m s d)) ≡ overflow → b ≡ true
      test true q = refl
      test false q = absurd (let w : ◌≡◌ {A = ℕ} 0 1 = cc in omega arith)

  edge_over : (d : Option Edge) → edge_overflows m h d ≡ true → moved_by m s d ≡ overflow
  edge_over none e = absurd (never e refl)
  edge_over (some d) e = ap (λ (b : Bool). cond b overflow (went (entered m s d))) (ap (overflows_any m (released m d)) o ∙ e)

  -- a step of a state with this queue order overflows exactly if the step does
  pub over_step : (st : Step) → act m s (event_of st) ≡ overflow → step_overflows m h st ≡ true
  over_step go_on e = absurd (judged_not (tick_to m s) (late m (tick_to m s).queue) e)
  over_step finish e = absurd (judged_not (tick_to m s) (late m (tick_to m s).queue) e)
  over_step (by_edge k ps) e = over_edge (nth1 m.edges k) e

  pub step_over : (st : Step) → step_overflows m h st ≡ true → act m s (event_of st) ≡ overflow
  step_over go_on e = absurd (never e refl)
  step_over finish e = absurd (never e refl)
  step_over (by_edge k ps) e = edge_over (nth1 m.edges k) e

  -- and one that lands does not overflow
  pub lands_step : (st : Step) (t : State) → Lands (act m s (event_of st)) t → step_overflows m h st ≡ false
  lands_step st t l = go (step_overflows m h st) refl
    where
      go : (b : Bool) → step_overflows m h st ≡ b → b ≡ false
      go true e = absurd (subst (λ (x : Outcome). Lands x t) (step_over st e) l)
      go false e = refl

-- "at an overflow, location and queue from before"
pub over_home : (m : Model) (h : Home) (st : Step) → step_overflows m h st ≡ true → home_after m h st ≡ h
over_home m h go_on e = refl
over_home m h finish e = absurd (never e refl)
over_home m h (by_edge k ps) e = go (nth1 m.edges k) e
  where
    go : (d : Option Edge) → edge_overflows m h d ≡ true → home_by m h ps d ≡ h
    go none e = refl
    go (some d) e = ap (λ (b : Bool). cond b h (mk_home (target d h.location) (insert_all (released m d) ps h.order))) e

-- ── the states shown are those after the step ──────────────────────────────────────────────────

lands_after : (s : State) (o : Outcome) (t : State) → Lands o t → t ≡ after s o
lands_after s (went u) t l = sym l
lands_after s (missed u k) t l = sym l
lands_after s overflow t l = absurd l
lands_after s refused t l = absurd l

module _ (m : Model) (z : Zone) (st : Step) where
  after_shown : (s : State) → InZone m z s → Takes m s st → Shown m z st (after s (act m s (event_of st)))
  after_shown s i w = go (act m s (event_of st)) refl
    where
      go : (o : Outcome) → act m s (event_of st) ≡ o → Shown m z st (after s o)
      go (went t) e = inl (record { from = s; inside = i; takes = w; lands = rw e refl })
      go (missed t k) e = inl (record { from = s; inside = i; takes = w; lands = rw e refl })
      go overflow e = inr (record { inside = i; takes = w; over = e })
      go refused e = absurd (not_refused m s (event_of st) w.allows e)

  shown_after : (t : State) → Shown m z st t → (s : State) × InZone m z s × Takes m s st × (t ≡ after s (act m s (event_of st)))
  shown_after t (inl r) = (r.from, r.inside, r.takes, lands_after r.from (act m r.from (event_of st)) t r.lands)
  shown_after t (inr r) = (t, r.inside, r.takes, sym (ap (after t) r.over))

  pub reached_no_overflow : (t : State) → ReachedBy m z st t → step_overflows m (home_of_zone z) st ≡ false
  reached_no_overflow t r = lands_step m (home_of_zone z) r.from r.inside.queue st t r.lands

  pub over_overflow : (t : State) → OverBy m z st t → step_overflows m (home_of_zone z) st ≡ true
  over_overflow t r = over_step m (home_of_zone z) t r.inside.queue st r.over

  -- of what a step shows: the reached states, or those of an overflow
  pub shown_reached : step_overflows m (home_of_zone z) st ≡ false → (t : State) → Shown m z st t → ReachedBy m z st t
  shown_reached n t (inl r) = r
  shown_reached n t (inr r) = absurd (never (over_overflow t r) n)

  pub shown_over : step_overflows m (home_of_zone z) st ≡ true → (t : State) → Shown m z st t → OverBy m z st t
  shown_over n t (inl r) = absurd (never n (reached_no_overflow t r))
  shown_over n t (inr r) = r

  -- every state shown lies at the step's home
  pub shown_lies : (t : State) → Shown m z st t → Lies m (home_after m (home_of_zone z) st) t
  shown_lies t (inl r) = reached_lies m z st t r
  shown_lies t (inr r) =
      record { home = home_in m z t r.inside ∙ sym (over_home m (home_of_zone z) st (over_overflow t r)); clocks = r.inside.proper.clocks }

-- ── valuations that lead to them ───────────────────────────────────────────────────────────────

module _ (m : Model) (z : Zone) (st : Step) (rm : RangedModel m) where
  -- one state of the zone with its valuation, and where it leads
  pub leads : (s : State) (x : ℕ → ℕ) → InZone m z s → Agrees m z.order x s → Takes m s st → Met x (zone_bounds m z)
      → Leads m z st x (after s (act m s (event_of st)))
  leads s x i g w b =
      let h = home_at m z st in
      let p = plan_at m z st in
      let t = after s (act m s (event_of st)) in
      let l = shown_lies m z st t (after_shown m z st s i w) in
      let k = lies_agrees m h t l in
      let u = moves_at m p h.order x (var t) (step_moves m (home_of_zone z) x (var t) s g st i.proper w k) in
      record {
        source = record {
          origin = g.origin;
          met = (met_append x (zone_bounds m z) (step_bounds m (home_of_zone z) st)).1 (b, (takes_iff m (home_of_zone z) x s rm g i.location st).0 w);
        };
        is = agrees_state (agrees_cong (move m p x) (λ j q. omega (arith, u j q)) k) h.location (ap (λ (y : Home). y.location) l.home);
        at = u;
      }

  -- a state of the zone that takes the step has such a valuation
  pub own_source : (s : State) → InZone m z s → Takes m s st → Source m z st (var s)
  own_source s i w = (leads s (var s) i (zone_agrees m z s i) w (zone_met m z s i)).source

  -- every state shown is that of such a valuation
  pub shown_leads : (t : State) → Shown m z st t → (x : ℕ → ℕ) × Leads m z st x t
  shown_leads t r =
      let a = shown_after m z st t r in
      let s = a.0 in
      (var s, subst (Leads m z st (var s)) (sym a.3) (leads s (var s) a.1 (zone_agrees m z s a.1) a.2 (zone_met m z s a.1)))

  module _ (rz : RangedZone m z) (x : ℕ → ℕ) (b : Source m z st x) where
    both : Met x (zone_bounds m z) × Met x (step_bounds m (home_of_zone z) st)
    both = (met_append x (zone_bounds m z) (step_bounds m (home_of_zone z) st)).0 b.met

    -- the state of such a valuation, before the step
    pub source_in : InZone m z (state_of m (home_of_zone z) x)
    source_in = met_zone m z x rz b.origin both.0

    pub source_agrees : Agrees m z.order x (state_of m (home_of_zone z) x)
    source_agrees = met_agrees m z x b.origin both.0

    pub source_takes : Takes m (state_of m (home_of_zone z) x) st
    source_takes = (takes_iff m (home_of_zone z) x (state_of m (home_of_zone z) x) rm source_agrees refl st).1 both.1

    -- each such valuation leads to a state shown
    pub leads_shown : (t : State) × Shown m z st t × Leads m z st x t
    leads_shown =
        let s = state_of m (home_of_zone z) x in
        (after s (act m s (event_of st)), after_shown m z st s source_in source_takes, leads s x source_in source_agrees source_takes both.0)

    -- its state, moved
    pub moved_shown : Shown m z st (moved_state m z st x)
    moved_shown = let r = leads_shown in subst (Shown m z st) r.2.is r.1

    pub moved_leads : Leads m z st x (moved_state m z st x)
    moved_leads = let r = leads_shown in subst (Leads m z st x) r.2.is r.2

    -- its variables, and that none falls below 0
    pub moved_var : (i : ℕ) → i < variables m (home_at m z st).order
        → var (moved_state m z st x) i ≡ move m (plan_at m z st) x i
    moved_var i h = omega (arith, moved_leads.at i h)

    pub source_room : (i : ℕ) → i < variables m (home_at m z st).order → under (off m (plan_at m z st) i) ≤ x (from m (plan_at m z st) i) + over (off m (plan_at m z st) i)
    source_room i h = omega (arith, moved_leads.at i h)

  -- ── exactly ──────────────────────────────────────────────────────────────────────────────────

  -- the states shown are exactly those of the moved valuations
  pub shown_iff : RangedZone m z → (t : State) → Shown m z st t ↔ ((x : ℕ → ℕ) × Leads m z st x t)
  shown_iff rz t = (shown_leads t, λ p. subst (Shown m z st) (sym p.1.is) (moved_shown rz p.0 p.1.source))

  -- the reached states are, where the step does not overflow
  pub reached_iff : RangedZone m z → (t : State) → ReachedBy m z st t ↔ ((step_overflows m (home_of_zone z) st ≡ false) × ((x : ℕ → ℕ) × Leads m z st x t))
  reached_iff rz t = (λ r. (reached_no_overflow m z st t r, shown_leads t (inl r)), λ p. shown_reached m z st p.0 t ((shown_iff rz t).1 p.1))

  -- at an overflow they are the states of these valuations, as they stand
  pub over_iff : RangedZone m z → (t : State)
      → OverBy m z st t ↔ ((step_overflows m (home_of_zone z) st ≡ true) × ((x : ℕ → ℕ) × Source m z st x × (t ≡ state_of m (home_of_zone z) x)))
  over_iff rz t = (
    λ r. (over_overflow m z st t r, (var t, own_source t r.inside r.takes, agrees_state (zone_agrees m z t r.inside) z.location r.inside.location)),
    λ p.
        let x = p.1.0 in
        let b = p.1.1 in
        let i = source_in rz x b in
        subst (OverBy m z st) (sym p.1.2)
        (record { inside = i; takes = source_takes rz x b; over = step_over m (home_of_zone z) (state_of m (home_of_zone z) x) i.queue st p.0 }),
  )

  -- no valuation, no state
  pub none_shown : ((x : ℕ → ℕ) → Source m z st x → ⊥) → (t : State) → Shown m z st t → ⊥
  none_shown h t r = let l = shown_leads t r in h l.0 l.1.source
