-- The queue in a valuation: where each job stands, the state of a valuation, and properness and a zone as bounds.
-- Assumes nothing.
use Rattle.std.specs.Prelude.{◌≡◌, true, List, [], ◌∷◌, ◌++◌, ℕ, zero, suc, ◌+◌, ◌-◌, ◌<◌, pos, length, get_or}
use Rattle.std.proofs.Math.IntN.{sub_ℕ}
use Rattle.meaning.specs.Model.{Bound, Model, task_at}
use Rattle.meaning.specs.Machine.State.{Job, State}
use Rattle.meaning.specs.Zones.Variables.{variables}
use Rattle.meaning.specs.Zones.Proper.{fits}
use Rattle.meaning.specs.Zones.Zone.{Zone}
use Rattle.meaning.specs.Zones.Reached.{Home}
use Rattle.meaning.specs.Inner.Words.{tab_from}
use Rattle.meaning.specs.Inner.Bounds.{bound, Ranged}

-- ── slots ──────────────────────────────────────────────────────────────────────────────────────

-- where a job stands: its task, the variable of its running sum, and that of its age
pub record Slot : Type 0 where
  pub task : ℕ
  pub sum : ℕ
  pub age : ℕ

-- the slot of a job of task t
abbrev pub slot : ℕ → ℕ → ℕ → Slot
slot t s a = record { task = t; sum = s; age = a }

-- the slots of a queue of these tasks, from variable v on
abbrev pub slots : ℕ → List ℕ → List Slot
slots v [] = []
slots v (t ∷ o) = slot t v (suc v) ∷ slots (suc (suc v)) o

-- behind the model's clocks
abbrev pub slots_of : Model → List ℕ → List Slot
slots_of m o = slots (suc m.clocks) o

-- slot k of them
abbrev pub slot_at : ℕ → List ℕ → ℕ → Slot
slot_at v o k = slot (get_or o k 0) (v + (k + k)) (suc (v + (k + k)))

-- the variable of the running sum just ahead of slot k, which is a at the head
abbrev pub sum_ahead : ℕ → ℕ → ℕ → ℕ
sum_ahead a v zero = a
sum_ahead a v (suc k) = v + (k + k)

-- the variable of the age at position k + 1
abbrev pub age_at : Model → ℕ → ℕ
age_at m k = suc (suc m.clocks + (k + k))

-- the tasks of the slots
abbrev pub tasks_in : List Slot → List ℕ
tasks_in [] = []
tasks_in (s ∷ ss) = s.task ∷ tasks_in ss

-- the variable of the last running sum, or a
abbrev pub last_sum : ℕ → List Slot → ℕ
last_sum a [] = a
last_sum a (s ∷ ss) = last_sum s.sum ss

-- the bounds g of each slot, behind the variable of the running sum just ahead of it
abbrev pub slots_flat : (ℕ → Slot → List Bound) → ℕ → List Slot → List Bound
slots_flat g a [] = []
slots_flat g a (s ∷ ss) = g a s ++ slots_flat g s.sum ss

-- ── the state of a valuation ───────────────────────────────────────────────────────────────────

-- the valuation x has the queue q in the slots; a is the variable of the running sum just ahead, or 0
abbrev pub Reads : (ℕ → ℕ) → ℕ → List Slot → List Job → Type 0
Reads x a [] [] = Unit {0}
Reads x a [] (j ∷ q) = ⊥
Reads x a (s ∷ ss) [] = ⊥
Reads x a (s ∷ ss) (j ∷ q) = (j.task ≡ s.task) × (x s.sum ≡ x a + j.done) × (x s.age ≡ j.age) × Reads x s.sum ss q

-- the jobs that a valuation has in the slots
abbrev pub jobs_at : (ℕ → ℕ) → ℕ → List Slot → List Job
jobs_at x a [] = []
jobs_at x a (s ∷ ss) = record { task = s.task; done = x s.sum - x a; age = x s.age } ∷ jobs_at x s.sum ss

-- the state of a valuation, at a location with a queue order
abbrev pub state_of : Model → Home → (ℕ → ℕ) → State
state_of m h x = record { location = h.location; clocks = tab_from 1 x m.clocks; queue = jobs_at x 0 (slots_of m h.order) }

-- the valuation x is that of the state s, whose queue is of the tasks o, as far as its variables go
pub record Agrees (m : Model) (o : List ℕ) (x : ℕ → ℕ) (s : State) : Type 0 where
  pub origin : x 0 ≡ 0
  pub size : length s.clocks ≡ m.clocks
  pub clock : (i : ℕ) → i < m.clocks → x (suc i) ≡ get_or s.clocks i 0
  pub queue : Reads x 0 (slots_of m o) s.queue

-- ── properness and a zone ──────────────────────────────────────────────────────────────────────

-- "0 ≤ done ≤ C − 1 and 0 ≤ age ≤ D − 1", of the job in one slot
abbrev pub proper_at : Model → ℕ → Slot → List Bound
proper_at m a s = bound a s.sum (pos 0) ∷ bound s.sum a (sub_ℕ (task_at m s.task).C 1) ∷ bound s.age 0 (sub_ℕ (task_at m s.task).D 1) ∷ []

-- slot by slot
abbrev pub proper_from : Model → ℕ → List Slot → List Bound
proper_from m a [] = []
proper_from m a (s ∷ ss) = proper_at m a s ++ proper_from m s.sum ss

-- of a queue of these tasks
abbrev pub proper_bounds : Model → List ℕ → List Bound
proper_bounds m o = proper_from m 0 (slots_of m o)

-- and the bounds that the zone's author wrote
abbrev pub zone_bounds : Model → Zone → List Bound
zone_bounds m z = proper_bounds m z.order ++ z.bounds

-- these speak of its variables, and the order is one that a queue can have
pub record RangedZone (m : Model) (z : Zone) : Type 0 where
  pub bounds : Ranged (variables m z.order) z.bounds
  pub fit : fits m z.order ≡ true
