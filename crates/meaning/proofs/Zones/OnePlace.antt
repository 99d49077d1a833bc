-- Every state that an event is allowed at falls in exactly one place of the zone's list.
-- Assumes nothing.
use mathlib.Core.Path.{◌≡◌, refl, sym, ◌∙◌, ap}
use mathlib.Core.Bool.{Bool, true, false, cond}
use mathlib.Core.List.Memᴰ
use mathlib.Core.List.{List, [], ◌∷◌, map, Memᴰ}
use mathlib.Core.Logic.{◌⊎◌, inl, inr}
use mathlib.Core.Option.{Option, none, some}
use Prim.Native.Nat.{ℕ, zero, suc, ◌-◌, ◌≤◌}
use native.Mathlib.Omega.{arith}
use lib.ListN.{length}
use Rattle.meaning.specs.Lists.{nth1, insert_at, up_to}
use Rattle.meaning.specs.Model.{Edge, Model, leaves_at, released}
use Rattle.meaning.specs.Machine.State.{State, order}
use Rattle.meaning.specs.Machine.Place.{behind}
use Rattle.meaning.specs.Machine.Release.{overflows_any}
use Rattle.meaning.specs.Machine.Tick.{finishes}
use Rattle.meaning.specs.Machine.Step.{Event, allowed}
use Rattle.meaning.specs.Zones.Zone.{Zone}
use Rattle.meaning.specs.Zones.Steps.{Step, go_on, finish, by_edge, choices, places, leaving_by, leaving, steps, event_of, place_taken, taken_by, Takes}
use Rattle.meaning.proofs.Tests.{false_of_not, never}
use Rattle.meaning.proofs.Lists.{mem_at, mem_map_inv, same_list_eq}
use Rattle.meaning.proofs.Distinct.{Distinct, distinct_one, distinct_append, distinct_at, distinct_map, distinct_flat, distinct_up_to}
use Rattle.meaning.proofs.Zones.Choices.{choices_at}
use Rattle.meaning.proofs.Zones.Listed.{step_of}

-- ── no step stands twice in the list ───────────────────────────────────────────────────────────

cons_one : (p : ℕ) (ps qs : List ℕ) → ◌≡◌ {A = List ℕ} (p ∷ ps) (p ∷ qs) → ps ≡ qs
cons_one p ps qs e = cc

first_one : (m : Model) (t : ℕ) (ts o : List ℕ) (p p' : ℕ) (ps : List ℕ) → Memᴰ ps (choices_at m t ts o p)
    → Memᴰ ps (choices_at m t ts o p') → p ≡ p'
first_one m t ts o p p' ps h g =
    let r = mem_map_inv (λ (qs : List ℕ). p ∷ qs) (choices m ts (insert_at p t o)) h in
    let r' = mem_map_inv (λ (qs : List ℕ). p' ∷ qs) (choices m ts (insert_at p' t o)) g in
    let e : ◌≡◌ {A = List ℕ} (p ∷ r.0) (p' ∷ r'.0) = sym r.2 ∙ r'.2 in
    cc

choices_distinct : (m : Model) (ts o : List ℕ) → Distinct (choices m ts o)
choices_distinct m [] o = distinct_one []
choices_distinct m (t ∷ ts) o =
    distinct_flat (choices_at m t ts o)
    (λ p. distinct_map (λ (ps : List ℕ). p ∷ ps) (cons_one p) (choices m ts (insert_at p t o)) (choices_distinct m ts (insert_at p t o)))
    (first_one m t ts o) (up_to (behind m t o) (length o - behind m t o)) (distinct_up_to (length o - behind m t o) (behind m t o))

places_distinct : (m : Model) (ts o : List ℕ) → Distinct (places m ts o)
places_distinct m ts o = go (overflows_any m ts o)
  where
    go : (b : Bool) → Distinct (cond b ([] ∷ []) (choices m ts o))
    go true = distinct_one []
    go false = choices_distinct m ts o

by_edge_one : (k : ℕ) (ps qs : List ℕ) → by_edge k ps ≡ by_edge k qs → ps ≡ qs
by_edge_one k ps qs e = cc

leaving_by_distinct : (m : Model) (l : ℕ) (o : List ℕ) (k : ℕ) (e : Edge) → Distinct (leaving_by m l o k e)
leaving_by_distinct m l o k e = go (leaves_at e l)
  where
    go : (b : Bool) → Distinct (cond b (map (by_edge k) (places m (released m e) o)) [])
    go true = distinct_map (by_edge k) (by_edge_one k) (places m (released m e) o) (places_distinct m (released m e) o)
    go false = tt

-- the number of the edge that a step takes; 0 at a tick
abbrev number_of : Step → ℕ
number_of go_on = 0
number_of finish = 0
number_of (by_edge k ps) = k

leaving_by_number : (m : Model) (l : ℕ) (o : List ℕ) (k : ℕ) (e : Edge) (st : Step) → Memᴰ st (leaving_by m l o k e)
    → number_of st ≡ k
leaving_by_number m l o k e st h = go (leaves_at e l) h
  where
    go : (b : Bool) → Memᴰ st (cond b (map (by_edge k) (places m (released m e) o)) []) → number_of st ≡ k
    go true g = ap number_of (mem_map_inv (by_edge k) (places m (released m e) o) g).2
    go false g = absurd (Memᴰ.not-nil g)

leaving_number : (m : Model) (l : ℕ) (o : List ℕ) (k : ℕ) (es : List Edge) (st : Step) → Memᴰ st (leaving m l o k es)
    → k ≤ number_of st
leaving_number m l o k [] st h = absurd (Memᴰ.not-nil h)
leaving_number m l o k (e ∷ es) st h = go (Memᴰ.append_cases (leaving_by m l o k e) h) (leaving_number m l o (suc k) es st)
  where
    go : Memᴰ st (leaving_by m l o k e) ⊎ Memᴰ st (leaving m l o (suc k) es)
        → (Memᴰ st (leaving m l o (suc k) es) → suc k ≤ number_of st) → k ≤ number_of st
    go (inl g) ih = omega (arith, leaving_by_number m l o k e st g)
    go (inr g) ih = omega (arith, ih g)

leaving_distinct : (m : Model) (l : ℕ) (o : List ℕ) (k : ℕ) (es : List Edge) → Distinct (leaving m l o k es)
leaving_distinct m l o k [] = tt
leaving_distinct m l o k (e ∷ es) =
    distinct_append (leaving_by m l o k e) (leaving m l o (suc k) es) (leaving_by_distinct m l o k e) (leaving_distinct m l o (suc k) es)
    (λ st h g. omega (arith, leaving_by_number m l o k e st h, leaving_number m l o (suc k) es st g))

-- no step stands twice in the list
pub steps_distinct : (m : Model) (z : Zone) → Distinct (steps m z)
steps_distinct m z = (ticks_once, (leaves, leaving_distinct m z.location z.order 1 m.edges))
  where
    edges_from : (st : Step) → Memᴰ st (leaving m z.location z.order 1 m.edges) → 1 ≤ number_of st
    edges_from st h = leaving_number m z.location z.order 1 m.edges st h

    ticks_once : Memᴰ go_on (finish ∷ leaving m z.location z.order 1 m.edges) → ⊥
    ticks_once h = go (Memᴰ.cases_cons h)
      where
        go : (go_on ≡ finish) ⊎ Memᴰ go_on (leaving m z.location z.order 1 m.edges) → ⊥
        go (inl e) = let c : ◌≡◌ {A = ℕ} 0 1 = cc in omega arith
        go (inr g) = omega (arith, edges_from go_on g)

    leaves : Memᴰ finish (leaving m z.location z.order 1 m.edges) → ⊥
    leaves h = omega (arith, edges_from finish h)

-- ── the place ──────────────────────────────────────────────────────────────────────────────────

-- the state takes the step at place k of the zone's list, and that step asks for the event
pub record TakesAt (m : Model) (z : Zone) (s : State) (ev : Event) (k : ℕ) : Type 0 where
  pub step : Step
  pub listed : nth1 (steps m z) k ≡ some step
  pub event : event_of step ≡ ev
  pub takes : Takes m s step

-- an allowed event has a place
pub some_place : (m : Model) (z : Zone) (s : State) (ev : Event) → s.location ≡ z.location → order s.queue ≡ z.order
    → allowed m s ev ≡ true → (k : ℕ) × TakesAt m z s ev k
some_place m z s ev here same t =
    let r = step_of m z s here same ev t in
    let at = mem_at r.listed in
    (suc at.0, record { step = r.step; listed = at.1; event = r.event; takes = r.takes })

-- the place that a state takes at an edge is that of its queue
taken_place : (m : Model) (s : State) (ps qs : List ℕ) (x : Option Edge) → taken_by m s ps x ≡ true → taken_by m s qs x ≡ true
    → ps ≡ qs
taken_place m s ps qs none h g = absurd (never h refl)
taken_place m s ps qs (some e) h g =
    sym (same_list_eq (place_taken m (released m e) s.queue) ps h) ∙ same_list_eq (place_taken m (released m e) s.queue) qs g

-- of the steps that ask for one event, a state takes one
pub one_step : (m : Model) (s : State) (st st' : Step) → event_of st ≡ event_of st' → Takes m s st → Takes m s st' → st ≡ st'
one_step m s go_on go_on e h g = refl
one_step m s go_on finish e h g = absurd (never g.choice (false_of_not (finishes m s.queue) h.choice))
one_step m s go_on (by_edge k ps) e h g = absurd (let c : ◌≡◌ {A = ℕ} 0 1 = cc in omega arith)
one_step m s finish go_on e h g = absurd (never h.choice (false_of_not (finishes m s.queue) g.choice))
one_step m s finish finish e h g = refl
one_step m s finish (by_edge k ps) e h g = absurd (let c : ◌≡◌ {A = ℕ} 0 1 = cc in omega arith)
one_step m s (by_edge k ps) go_on e h g = absurd (let c : ◌≡◌ {A = ℕ} 0 1 = cc in omega arith)
one_step m s (by_edge k ps) finish e h g = absurd (let c : ◌≡◌ {A = ℕ} 0 1 = cc in omega arith)
one_step m s (by_edge k ps) (by_edge j qs) e h g =
    let same : k ≡ j = cc in
    let there : taken_by m s qs (nth1 m.edges k) ≡ true = rw same g.choice in
    let places : ps ≡ qs = taken_place m s ps qs (nth1 m.edges k) h.choice there in
    cc

-- and no second one
pub one_place : (m : Model) (z : Zone) (s : State) (ev : Event) (k k' : ℕ) → TakesAt m z s ev k → TakesAt m z s ev k' → k ≡ k'
one_place m z s ev zero k' r r' = absurd (let c : ◌≡◌ {A = ℕ} 0 1 = cc in omega arith)
one_place m z s ev (suc i) zero r r' = absurd (let c : ◌≡◌ {A = ℕ} 0 1 = cc in omega arith)
one_place m z s ev (suc i) (suc j) r r' =
    let same : r.step ≡ r'.step = one_step m s r.step r'.step (r.event ∙ sym r'.event) r.takes r'.takes in
    ap suc (distinct_at (steps m z) (steps_distinct m z) r.step i j r.listed (r'.listed ∙ ap some (sym same)))
