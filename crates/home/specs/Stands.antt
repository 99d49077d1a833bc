-- What a `Home` and `Releases` stand for, and which homes may be lent.
-- Assumes nothing.
use Rattle.std.specs.Prelude.{◌≡◌, List, ℕ, ◌≤◌, get_or, take}
use Rattle.meaning.specs.Model.{Model}
use Rattle.meaning.specs.Zones.Reached as Z
use Rattle.meaning.specs.Text.Ranges.{queue_most}
use Rattle.meaning.specs.Text.RightProposal.{RightOrder}
use Rattle.home.specs.declared.Home.{Home}
use Rattle.home.specs.declared.Releases.{Releases}

-- "a queue order", head first
abbrev pub order_of : Home → List ℕ
order_of h = take h.count h.tasks

-- "the location and queue order"
abbrev pub home_of : Home → Z.Home
home_of h = record { location = h.location; order = order_of h }

-- the tasks that are released, one after the other
abbrev pub tasks_of : Releases → List ℕ
tasks_of r = take r.count r.tasks

-- these tasks are released and no other, and unused cells are 0
pub record Lists (ts : List ℕ) (r : Releases) : Type 0 where
  pub few : r.count ≤ 4
  pub is : tasks_of r ≡ ts
  pub unused : (k : ℕ) → r.count ≤ k → get_or r.tasks k 0 ≡ 0

-- a location and a queue order that may be lent; any other is 13
pub record RightHome (m : Model) (h : Home) : Type 0 where
  pub few : h.count ≤ queue_most
  pub order : RightOrder m h.location (order_of h)
  pub unused : (k : ℕ) → h.count ≤ k → get_or h.tasks k 0 ≡ 0
