-- When a valuation can be moved by a plan in whole numbers, and what it is then; and of which valuation a state can be shown.
-- Assumes nothing.
use Rattle.std.specs.Prelude.{List, ℕ, suc, ◌+◌, ◌-◌, ◌≤◌, ◌<◌, ℤ}
use Rattle.meaning.specs.Numbers.{over, under}
use Rattle.meaning.specs.Model.{Model}
use Rattle.meaning.specs.Zones.Variables.{variables}
use Rattle.meaning.specs.Zones.Zone.{Zone}
use Rattle.meaning.specs.Zones.Steps.{Step}
use Rattle.meaning.specs.Zones.Reached.{home_of_zone}
use Rattle.meaning.specs.Inner.Slots.{sum_ahead, RangedZone}
use Rattle.meaning.specs.Inner.Sources.{Source}
use Rattle.bounds.specs.Matrix.{ent, Size}
use Rattle.bounds.specs.Images.{var, Image}
use Rattle.machine.specs.declared.Job.{Job}
use Rattle.step_reach.specs.declared.plan.Plan.{Plan}
use Rattle.step_reach.specs.Plans.{Planned}

-- each of the first n new variables comes from one that is there, all numbers are small, and none falls below 0
pub record Movable (n : ℕ) (from : List ℕ) (off : List ℤ) (x : List ℕ) : Type 0 where
  pub few : n ≤ 17
  pub into : (i : ℕ) → i < n → var from i < 17
  pub size : (i : ℕ) → i < n → Size (ent off i) 100000
  pub low : (k : ℕ) → var x k ≤ 300000000
  pub room : (i : ℕ) → i < n → under (ent off i) ≤ var x (var from i) + over (ent off i)

-- v has the values of x, moved
pub record Moved (n : ℕ) (from : List ℕ) (off : List ℤ) (x v : List ℕ) : Type 0 where
  pub is : Image n (var from) (ent off) (var x) (var v)

-- with n clocks, no running sum of the first c jobs is below the one just ahead of it
pub record Rising (n c : ℕ) (v : List ℕ) : Type 0 where
  pub each : (k : ℕ) → k < c → var v (sum_ahead 0 (suc n) k) ≤ var v (suc n + (k + k))

-- the job of a task behind k others: what is done is its running sum less the one just ahead
abbrev pub cell_at : List ℕ → ℕ → ℕ → ℕ → Job
cell_at v n task k = record { task = task; done = var v (suc n + (k + k)) - var v (sum_ahead 0 (suc n) k); age = var v (suc (suc n + (k + k))) }

-- x is the valuation of a state of some zone that takes a step, p is the plan of the step, and all values are small
pub record ShownBy (m : Model) (p : Plan) (x : List ℕ) : Type 0 where
  pub zone : Zone
  pub step : Step
  pub ranged : RangedZone m zone
  pub few : variables m zone.order ≤ 17
  pub planned : Planned m (home_of_zone zone) step p
  pub source : Source m zone step (var x)
  pub low : (k : ℕ) → var x k ≤ 300000000
