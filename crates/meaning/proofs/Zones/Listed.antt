-- Every allowed event has its step in the list of the zone's steps.
-- Assumes nothing.
use mathlib.Core.Path.{◌≡◌, refl, subst}
use mathlib.Core.Bool.{Bool, true, false}
use mathlib.Core.List.{List, [], ◌∷◌, Memᴰ}
use mathlib.Core.Option.{Option, none, some}
use Prim.Native.Nat.{ℕ, zero, suc, ◌+◌}
use native.Mathlib.Omega.{arith}
use lib.ListN.{get_elem?}
use Rattle.meaning.specs.Model.{Edge, Model, leaves_at, released}
use Rattle.meaning.specs.Machine.State.{State, order}
use Rattle.meaning.specs.Machine.Tick.{finishes}
use Rattle.meaning.specs.Machine.Edge.{guard_test}
use Rattle.meaning.specs.Machine.Step.{Event, tick, edge, allowed, edge_allowed}
use Rattle.meaning.specs.Zones.Zone.{Zone}
use Rattle.meaning.specs.Zones.Steps.{Step, go_on, finish, by_edge, places, leaving_by, leaving, steps, event_of, place_taken, Takes}
use Rattle.meaning.proofs.Tests.{and_left, not_of_false, never}
use Rattle.meaning.proofs.Lists.{mem_map, same_list_refl}
use Rattle.meaning.proofs.Machine.Place.{place_listed}

pub leaving_by_listed : (m : Model) (l : ℕ) (o : List ℕ) (k : ℕ) (e : Edge) (ps : List ℕ) → leaves_at e l ≡ true
    → Memᴰ ps (places m (released m e) o) → Memᴰ (by_edge k ps) (leaving_by m l o k e)
leaving_by_listed m l o k e ps f h = rw f (mem_map (by_edge k) h)

-- an edge that leaves the location is in the list with each of its places; the edges are numbered from k
pub leaving_listed : (m : Model) (l : ℕ) (o ps : List ℕ) (e : Edge) (es : List Edge) (k i n : ℕ) → n ≡ k + i → get_elem? es i ≡ some e
    → leaves_at e l ≡ true → Memᴰ ps (places m (released m e) o) → Memᴰ (by_edge n ps) (leaving m l o k es)
leaving_listed m l o ps e [] k i n q g f h = absurd (let z : ◌≡◌ {A = ℕ} 0 1 = cc in omega arith)
leaving_listed m l o ps e (x ∷ es) k zero n q g f h =
    let same : e ≡ x = cc in
    let num : n ≡ k = omega arith in
    mathlib.Core.List.Memᴰ.append_left {s = leaving_by m l o k x} _ (rw (num, ← same) (leaving_by_listed m l o k e ps f h))
leaving_listed m l o ps e (x ∷ es) k (suc i) n q g f h =
    mathlib.Core.List.Memᴰ.append_right (leaving_by m l o k x) (leaving_listed m l o ps e es (suc k) i n (omega arith) g f h)

-- a step of the zone's list that asks for the event and that the state takes
pub record StepOf (m : Model) (z : Zone) (s : State) (ev : Event) : Type 0 where
  pub step : Step
  pub listed : Memᴰ step (steps m z)
  pub event : event_of step ≡ ev
  pub takes : Takes m s step

module _ (m : Model) (z : Zone) (s : State) (here : s.location ≡ z.location) (same : order s.queue ≡ z.order) where
  tick_of : allowed m s tick ≡ true → StepOf m z s tick
  tick_of t = go (finishes m s.queue) refl
    where
      go : (b : Bool) → finishes m s.queue ≡ b → StepOf m z s tick
      go true e =
          record { step = finish; listed = mathlib.Core.List.Memᴰ.tail (mathlib.Core.List.Memᴰ.head refl); event = refl; takes = record { allows = t; choice = e } }
      go false e =
          record { step = go_on; listed = mathlib.Core.List.Memᴰ.head refl; event = refl; takes = record { allows = t; choice = not_of_false e } }

  edge_of : (k : ℕ) → allowed m s (edge k) ≡ true → StepOf m z s (edge k)
  edge_of zero t = absurd (never t refl)
  edge_of (suc i) t = go (get_elem? m.edges i) refl t
    where
      go : (x : Option Edge) → get_elem? m.edges i ≡ x → edge_allowed m s x ≡ true → StepOf m z s (edge (suc i))
      go none e h = absurd (never h refl)
      go (some d) e h =
          let ps = place_taken m (released m d) s.queue in
          let out : leaves_at d z.location ≡ true = rw here at (and_left (leaves_at d s.location) (guard_test m s d) h) in
          let place : Memᴰ ps (places m (released m d) z.order) =
          subst (λ (o : List ℕ). Memᴰ ps (places m (released m d) o)) same (place_listed m (released m d) s.queue) in
          record {
            step = by_edge (suc i) ps;
            listed =
                mathlib.Core.List.Memᴰ.tail
                (mathlib.Core.List.Memᴰ.tail (leaving_listed m z.location z.order ps d m.edges 1 i (suc i) (omega arith) e out place));
            event = refl;
            takes = record { allows = t; choice = rw e (same_list_refl ps) };
          }

  -- every allowed event at a state of the zone's location and order has its step in the list
  pub step_of : (ev : Event) → allowed m s ev ≡ true → StepOf m z s ev
  step_of tick t = tick_of t
  step_of (edge k) t = edge_of k t
