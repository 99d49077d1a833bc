-- Demand 3: what an accepted proposal promises of every run.
-- Assumes nothing.
use mathlib.Core.Path.{◌≡◌, refl, sym, ◌∙◌, subst}
use mathlib.Core.Bool.{true}
use mathlib.Core.List.Memᴰ
use mathlib.Core.List.{List, [], ◌∷◌, tail, Memᴰ}
use Prim.Native.Nat.{ℕ, zero, suc}
use lib.ListN.{get_elem?}
use Rattle.meaning.specs.Lists.{nth1}
use Rattle.meaning.specs.Model.{Model}
use Rattle.meaning.specs.Machine.State.{State}
use Rattle.meaning.specs.Machine.Step.{Event, Outcome, went, missed, overflow, refused, allowed, act, step, after}
use Rattle.meaning.specs.Machine.Run.{start, Run, begin, more}
use Rattle.meaning.specs.Zones.Zone.{Zone, Proposal, InZone}
use Rattle.meaning.specs.Zones.Steps.{Step, steps, event_of, Takes}
use Rattle.meaning.specs.Check.Obligations.{Follow, Obligation, starts, follows, claimed, of_zones, InNumber, Good, Accepts}
use Rattle.meaning.specs.Check.Promise.{Somewhere, Promise}
use Rattle.meaning.proofs.Zones.Listed.{step_of}

-- ── a claimed zone is a proposed zone ──────────────────────────────────────────────────────────

-- no miss, no overflow, and a state of a proposed zone
abbrev Safe : Model → Proposal → Outcome → Type 0
Safe m p (went s) = Somewhere m p s
Safe m p (missed s k) = ⊥
Safe m p overflow = ⊥
Safe m p refused = ⊥

somewhere_in : (m : Model) (zs : List Zone) (k : ℕ) (s : State) → InNumber m (get_elem? zs k) s → (z : Zone) × Memᴰ z zs × InZone m z s
somewhere_in m [] k s h = absurd h
somewhere_in m (z ∷ zs) zero s h = (z, Memᴰ.head refl, h)
somewhere_in m (z ∷ zs) (suc k) s h =
    let r = somewhere_in m zs k s h in
    (r.0, Memᴰ.tail r.1, r.2)

somewhere : (m : Model) (p : Proposal) (c : ℕ) (s : State) → InNumber m (nth1 p.zones c) s → Somewhere m p s
somewhere m p zero s h = absurd h
somewhere m p (suc k) s h =
    let r = somewhere_in m p.zones k s h in
    record { zone = r.0; proposed = r.1; inside = r.2 }

good_safe : (m : Model) (p : Proposal) (c : ℕ) (o : Outcome) → Good m p c o → Safe m p o
good_safe m p c (went s) h = somewhere m p c s h
good_safe m p c (missed s k) h = h
good_safe m p c overflow h = h
good_safe m p c refused h = h

-- ── every step of a proposed zone has its obligation ───────────────────────────────────────────

record Owed (z : Zone) (st : Step) (os : List Obligation) : Type 0 where
  follow : Follow
  zone_is : follow.zone ≡ z
  step_is : follow.step ≡ st
  mem : Memᴰ (follows follow) os

owed_tail : {z : Zone} {st : Step} {o : Obligation} {os : List Obligation} → Owed z st os → Owed z st (o ∷ os)
owed_tail r = record { follow = r.follow; zone_is = r.zone_is; step_is = r.step_is; mem = Memᴰ.tail r.mem }

step_owed : (n : ℕ) (z : Zone) (k : ℕ) (st : Step) (ss : List Step) (cs : List ℕ) → Memᴰ st ss → Owed z st (claimed n z k ss cs)
step_owed n z k st [] cs x' = elim x' [ ]
step_owed n z k st (x ∷ ss) cs (Memᴰ.head e) = record { follow = _; zone_is = refl; step_is = sym e; mem = Memᴰ.head refl }
step_owed n z k st (x ∷ ss) cs (Memᴰ.tail h) = owed_tail (step_owed n z (suc k) st ss (tail cs) h)

zone_owed : (m : Model) (n : ℕ) (z : Zone) (st : Step) (zs : List Zone) → Memᴰ z zs → Memᴰ st (steps m z) → Owed z st (of_zones m n zs)
zone_owed m n z st [] x'' h = elim x'' [ ]
zone_owed m n z st (y ∷ zs) (Memᴰ.head e) h =
    let r = step_owed n y 1 st (steps m y) y.claims (subst (λ (x : Zone). Memᴰ st (steps m x)) e h) in
    record { follow = r.follow; zone_is = r.zone_is ∙ sym e; step_is = r.step_is; mem = Memᴰ.append_left (of_zones m (suc n) zs) r.mem }
zone_owed m n z st (y ∷ zs) (Memᴰ.tail g) h =
    let r = zone_owed m (suc n) z st zs g h in
    record { follow = r.follow; zone_is = r.zone_is; step_is = r.step_is; mem = Memᴰ.append_right (claimed n y 1 (steps m y) y.claims) r.mem }

-- ── runs ───────────────────────────────────────────────────────────────────────────────────────

module _ (m : Model) (p : Proposal) (a : Accepts m p) where
  -- a step of a proposed zone that a state of it takes
  taken : (z : Zone) → Memᴰ z p.zones → (s : State) → InZone m z s → (st : Step) → Memᴰ st (steps m z) → Takes m s st
      → Safe m p (act m s (event_of st))
  taken z hz s hs st hst t =
      let r = zone_owed m 1 z st p.zones hz hst in
      let h : Good m p r.follow.claim (act m s (event_of r.follow.step)) =
      a.all (follows r.follow) (Memᴰ.tail r.mem) s (rw r.zone_is hs) (rw r.step_is t) in
      good_safe m p r.follow.claim (act m s (event_of st)) (rw r.step_is at h)

  safe : (s : State) → Somewhere m p s → (ev : Event) → allowed m s ev ≡ true → Safe m p (act m s ev)
  safe s w ev t =
      let r = step_of m w.zone s w.inside.location w.inside.queue ev t in
      subst (λ (e : Event). Safe m p (act m s e)) r.event (taken w.zone w.proposed s w.inside r.step r.listed r.takes)

  safe_after : (s : State) (o : Outcome) → Safe m p o → Somewhere m p (after s o)
  safe_after s (went t) h = h
  safe_after s (missed t k) h = absurd h
  safe_after s overflow h = absurd h
  safe_after s refused h = absurd h

  safe_step : (s : State) → Somewhere m p s → (ev : Event) → allowed m s ev ≡ true → Safe m p (step m s ev)
  safe_step s w ev t = rw t (safe s w ev t)

  lies_somewhere : {s : State} → Run m s → Somewhere m p s
  lies_somewhere begin = somewhere m p 1 (start m) (a.all starts (Memᴰ.head refl))
  lies_somewhere (more {s = s} r ev t) = safe_after s (step m s ev) (safe_step s (lies_somewhere r) ev t)

  -- demand 3: acceptance keeps its promise
  pub demand_three : Promise m p
  demand_three = record {
    lies = lies_somewhere;
    no_miss = λ {s} r ev t u k e. rw e at (safe_step s (lies_somewhere r) ev t);
    no_overflow = λ {s} r ev t e. rw e at (safe_step s (lies_somewhere r) ev t);
    in_time = λ r j h. ((lies_somewhere r).inside.proper.jobs j h).age;
  }
