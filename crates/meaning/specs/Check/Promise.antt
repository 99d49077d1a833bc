-- Demand 3: what acceptance promises of every run, however long.
-- Assumes nothing.
use Rattle.std.specs.Prelude.{◌≡◌, true, ℕ, ◌<◌}
use mathlib.Core.List.{Memᴰ}
use Rattle.meaning.specs.Model.{Model, task_at}
use Rattle.meaning.specs.Machine.State.{Job, State}
use Rattle.meaning.specs.Machine.Step.{Event, allowed, missed, overflow, step}
use Rattle.meaning.specs.Machine.Run.{Run}
use Rattle.meaning.specs.Zones.Zone.{Zone, Proposal, InZone}

-- the state lies in one of the proposed zones
pub record Somewhere (m : Model) (p : Proposal) (s : State) : Type 0 where
  pub zone : Zone
  pub proposed : Memᴰ zone p.zones
  pub inside : InZone m zone s

-- "in any run from the start, however long, no job reaches its deadline with work owed, no task is released while it is queued, and every
-- state lies in one of the proposed zones"
pub record Promise (m : Model) (p : Proposal) : Type 0 where
  pub lies : {s : State} → Run m s → Somewhere m p s
  pub no_miss : {s : State} → Run m s → (ev : Event) → allowed m s ev ≡ true → (t : State) (k : ℕ) → step m s ev ≡ missed t k → ⊥
  pub no_overflow : {s : State} → Run m s → (ev : Event) → allowed m s ev ≡ true → step m s ev ≡ overflow → ⊥
  pub in_time : {s : State} → Run m s → (j : Job) → Memᴰ j s.queue → j.age < (task_at m j.task).D
