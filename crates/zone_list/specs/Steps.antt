-- Which step of a zone's list a `Step` is.
-- Assumes nothing.
use Rattle.std.specs.Prelude.{◌≡◌, ℕ, ◌-◌, ◌≤◌, ◌<◌, get_or, take}
use mathlib.Core.List.{List, map, Memᴰ}
use Rattle.std.proofs.Math.Option.{some}
use Rattle.meaning.specs.Lists.{nth1}
use Rattle.meaning.specs.Model.{Model}
use Rattle.meaning.specs.Zones.Zone.{widest}
use Rattle.meaning.specs.Zones.Steps as S
use Rattle.meaning.specs.Zones.Reached.{Home}
use Rattle.zone_list.specs.declared.form.Kind.{Kind}
use Rattle.zone_list.specs.declared.form.Kind.TheVariants.{GoOn, Finish, Edge}
use Rattle.zone_list.specs.declared.form.Step.{Step}

-- how many jobs are ahead at each of the first n positions: a position has one job fewer ahead of it
abbrev pub aheads : ℕ → List ℕ → List ℕ
aheads n ps = map (λ (p : ℕ). p - 1) (take n ps)

-- how many jobs are ahead of each new job
abbrev pub ahead_of : Step → List ℕ
ahead_of s = aheads s.count s.positions

-- "1. tick and the head goes on (or the queue is empty); 2. tick and the head finishes; 3. each edge leaving the location"
abbrev pub step_by : Kind → List ℕ → S.Step
step_by GoOn ps = S.go_on
step_by Finish ps = S.finish
step_by (Edge k) ps = S.by_edge k ps

abbrev pub step_of : Step → S.Step
step_of s = step_by s.kind (ahead_of s)

-- a tick has no position
abbrev pub PlainTick : Kind → ℕ → Type 0
PlainTick GoOn n = n ≡ 0
PlainTick Finish n = n ≡ 0
PlainTick (Edge k) n = Unit {0}

-- one step, one form: positions are numbered from 1, and unused cells are 0
pub record Formed (s : Step) : Type 0 where
  pub few : s.count ≤ 4
  pub tick : PlainTick s.kind s.count
  pub numbered : (i : ℕ) → i < s.count → 1 ≤ get_or s.positions i 0
  pub unused : (i : ℕ) → s.count ≤ i → get_or s.positions i 0 ≡ 0

-- the list of steps of every zone of a location and queue order
abbrev pub list_at : Model → Home → List S.Step
list_at m h = S.steps m (widest h.location h.order)

-- the step is in that list
pub record Listed (m : Model) (h : Home) (s : Step) : Type 0 where
  pub formed : Formed s
  pub here : Memᴰ (step_of s) (list_at m h)

-- the step is the one at place x of that list
pub record StepAt (m : Model) (h : Home) (x : ℕ) (s : Step) : Type 0 where
  pub formed : Formed s
  pub is : nth1 (list_at m h) x ≡ some (step_of s)
