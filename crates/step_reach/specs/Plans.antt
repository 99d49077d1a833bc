-- What a `Plan` stands for, and how a step's plan is handed on by value.
-- Assumes nothing.
use Rattle.std.specs.Prelude.{◌≡◌, List, [], ℕ, suc, ◌+◌, ◌≤◌, ◌<◌, ℤ, pos, length, get_or}
use Rattle.meaning.specs.Model.{Model}
use Rattle.meaning.specs.Zones.Variables.{variables}
use Rattle.meaning.specs.Zones.Steps.{Step}
use Rattle.meaning.specs.Zones.Reached.{Home, home_after}
use Rattle.meaning.specs.Text.Ranges.{queue_most}
use Rattle.meaning.specs.Text.ModelTable.{decode}
use Rattle.meaning.specs.Inner.Words.{tab_from}
use Rattle.meaning.specs.Inner.Slots.{Slot, slots_of}
use Rattle.meaning.specs.Inner.Plans.{plan_of}
use Rattle.meaning.specs.Inner.Plans as M
use Rattle.model_table.specs.Parts.{resets_of}
use Rattle.home.specs.Stands.{order_of, home_of}
use Rattle.slots.specs.declared.standing.Slots.{Slots}
use Rattle.slots.specs.Stands.{slot_in}
use Rattle.step_reach.specs.declared.plan.Plan.{Plan}

-- the plan of a step: location and queue order after it, how many variables there are then, and where each comes from
pub record Planned (m : Model) (h : Home) (st : Step) (r : Plan) : Type 0 where
  pub home : home_of r.home ≡ home_after m h st
  pub few : r.home.count ≤ queue_most
  pub unused : (k : ℕ) → r.home.count ≤ k → get_or r.home.tasks k 0 ≡ 0
  pub many : r.variables ≡ variables m (order_of r.home)
  pub from : (i : ℕ) → i < r.variables → get_or r.from i 0 ≡ M.from m (plan_of m h st) i
  pub off : (i : ℕ) → i < r.variables → get_or r.off i (pos 0) ≡ M.off m (plan_of m h st) i
  pub beyond : (i : ℕ) → r.variables ≤ i → (get_or r.from i 0 ≡ 0) × (get_or r.off i (pos 0) ≡ pos 0)

-- ---- by value: serves contracts of inner functions and need not be believed

-- the slots, head first
abbrev pub slots_in : Slots → List Slot
slots_in s = tab_from 0 (slot_in s) s.count

-- the edge that resets clocks, or 0; the slots; what is added to clocks and ages, and to running sums
abbrev pub plan_in : List ℕ → ℕ → Slots → ℤ → ℤ → M.Plan
plan_in t edge s time sum = record { resets = resets_of t edge; slots = slots_in s; clock = time; sum = sum; age = time }

-- z is what is added to variable i by any plan that adds so much to clocks and ages, and to running sums
pub record Adds (clocks : ℕ) (time sum : ℤ) (i : ℕ) (z : ℤ) : Type 0 where
  pub is : (m : Model) (p : M.Plan) → m.clocks ≡ clocks → p.clock ≡ time → p.sum ≡ sum → p.age ≡ time
      → i < suc (m.clocks + (length p.slots + length p.slots)) → z ≡ M.off m p i

-- the step leads to location l, and has this plan
pub record LeadsTo (t : List ℕ) (h : Home) (st : Step) (l edge : ℕ) (s : Slots) (time sum : ℤ) : Type 0 where
  pub location : l ≡ (home_after (decode t) h st).location
  pub plan : plan_in t edge s time sum ≡ plan_of (decode t) h st

-- location and queue stay, and every variable but 0 grows by c
pub record Keeps (m : Model) (h : Home) (st : Step) (c : ℤ) : Type 0 where
  pub location : h.location ≡ (home_after m h st).location
  pub plan : record { resets = []; slots = slots_of m h.order; clock = c; sum = c; age = c } ≡ plan_of m h st
