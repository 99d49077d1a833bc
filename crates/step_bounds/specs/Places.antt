-- Which places new jobs may take, and which edges a step may take: serves contracts of inner functions and need not be believed.
-- Assumes nothing.
use mathlib.Core.List.{List, Memᴰ}
use Rattle.std.specs.Prelude.{ℕ, ◌+◌, ◌≤◌, take, drop}
use Rattle.meaning.specs.Model.{Bound, Model}
use Rattle.meaning.specs.Machine.Place.{behind}
use Rattle.meaning.specs.Zones.Steps.{by_edge, choices}
use Rattle.meaning.specs.Zones.Reached as Z
use Rattle.meaning.specs.Text.Ranges.{queue_most, releases_most}
use Rattle.meaning.specs.Inner.Slots.{Slot, tasks_in, last_sum, slots_flat}
use Rattle.meaning.specs.Inner.Tests.{Test}
use Rattle.meaning.specs.Inner.Places.{no_at}
use Rattle.home.specs.declared.Home.{Home}
use Rattle.home.specs.declared.Releases.{Releases}
use Rattle.home.specs.Stands.{order_of, tasks_of}
use Rattle.slots.specs.declared.standing.Slots.{Slots}
use Rattle.slots.specs.Stands.{Stands}
use Rattle.zone_list.specs.Steps.{ahead_of, Formed, list_at}
use Rattle.zone_list.specs.declared.form.Step.{Step}

-- the slots from the first allowed place up to p stay ahead
abbrev pub staying : (ℕ → Slot → Test) → ℕ → ℕ → List Slot → List Bound
staying f first p ss = slots_flat (no_at f) (last_sum 0 (take first ss)) (drop first (take p ss))

-- a new job of task t may have p of the slots ahead of it
pub record PlaceIn (m : Model) (t p : ℕ) (s : Slots) : Type 0 where
  pub stands : Stands s
  pub low : behind m t (tasks_in stands.slots) ≤ p
  pub high : p ≤ s.count

-- the releases may have so many jobs ahead of them, each as it comes in
pub record PlacesIn (m : Model) (h : Home) (r : Releases) (ahead : List ℕ) : Type 0 where
  pub few : r.count ≤ releases_most
  pub room : h.count + r.count ≤ queue_most
  pub here : Memᴰ (take r.count ahead) (choices m (tasks_of r) (order_of h))

-- edge k with the step's positions is in the list of steps
pub record EdgeIn (m : Model) (h : Z.Home) (k : ℕ) (s : Step) : Type 0 where
  pub formed : Formed s
  pub here : Memᴰ (by_edge k (ahead_of s)) (list_at m h)
