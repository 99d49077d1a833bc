-- The steps of a zone, in the order of document 01's list, and the states that take each.
-- Assumes nothing.
use Rattle.std.specs.Prelude.{◌≡◌, Bool, true, false, not, cond, List, [], ◌∷◌, ◌++◌, map, ℕ, suc, ◌-◌, length}
use Rattle.std.proofs.Math.Option.{Option, none, some}
use Rattle.meaning.specs.Lists.{nth1, same_list, insert_at, up_to, flat}
use Rattle.meaning.specs.Model.{Edge, Model, leaves_at, released}
use Rattle.meaning.specs.Machine.State.{Job, State, order}
use Rattle.meaning.specs.Machine.Place.{behind}
use Rattle.meaning.specs.Machine.Release.{overflows_any, positions}
use Rattle.meaning.specs.Machine.Tick.{finishes}
use Rattle.meaning.specs.Machine.Step.{Event, tick, edge, allowed}
use Rattle.meaning.specs.Zones.Zone.{Zone}

-- "1. tick and the head goes on (or the queue is empty); 2. tick and the head finishes; 3. each edge leaving the location", by its number,
-- with how many jobs are ahead of each new job: "one place for each queue position"
pub data Step : Type 0 where
  go_on : Step
  finish : Step
  by_edge : ℕ → List ℕ → Step

-- "otherwise one place for each queue position 1 to length + 1 of the new job": of tasks released one after the other into a queue
-- of the tasks o, every choice of how many are ahead of each
abbrev pub choices : Model → List ℕ → List ℕ → List (List ℕ)
choices m [] o = [] ∷ []
choices m (t ∷ ts) o =
    flat (λ (p : ℕ). map (λ (ps : List ℕ). p ∷ ps) (choices m ts (insert_at p t o))) (up_to (behind m t o) (length o - behind m t o))

-- "without a release one place; releasing a queued task one place, claim 0": these have no position
abbrev pub places : Model → List ℕ → List ℕ → List (List ℕ)
places m ts o = cond (overflows_any m ts o) ([] ∷ []) (choices m ts o)

-- edge number k, with each of its places, if it leaves location l
abbrev pub leaving_by : Model → ℕ → List ℕ → ℕ → Edge → List Step
leaving_by m l o k e = cond (leaves_at e l) (map (by_edge k) (places m (released m e) o)) []

-- "each edge leaving the location, in file order", the edges numbered from k
abbrev pub leaving : Model → ℕ → List ℕ → ℕ → List Edge → List Step
leaving m l o k [] = []
leaving m l o k (e ∷ es) = leaving_by m l o k e ++ leaving m l o (suc k) es

-- the list of a zone's steps, "place by place"
abbrev pub steps : Model → Zone → List Step
steps m z = go_on ∷ finish ∷ leaving m z.location z.order 1 m.edges

-- ── which states take a step ───────────────────────────────────────────────────────────────────

-- what is asked of the machine
abbrev pub event_of : Step → Event
event_of go_on = tick
event_of finish = tick
event_of (by_edge k ps) = edge k

-- the place that releasing these tasks takes in the list
abbrev pub place_taken : Model → List ℕ → List Job → List ℕ
place_taken m ts q = cond (overflows_any m ts (order q)) [] (positions m ts q)

-- the release takes this place, at an edge "in the model"
abbrev pub taken_by : Model → State → List ℕ → Option Edge → Bool
taken_by m s ps none = false
taken_by m s ps (some e) = same_list (place_taken m (released m e) s.queue) ps

-- of the states at which the event is allowed, those that take this step
abbrev pub chosen : Model → State → Step → Bool
chosen m s go_on = not (finishes m s.queue)
chosen m s finish = finishes m s.queue
chosen m s (by_edge k ps) = taken_by m s ps (nth1 m.edges k)

-- "no state of the zone takes the step": the state takes it
pub record Takes (m : Model) (s : State) (st : Step) : Type 0 where
  pub allows : allowed m s (event_of st) ≡ true
  pub choice : chosen m s st ≡ true
