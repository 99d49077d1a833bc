-- Which slots a `Slots` is: serves contracts of inner functions and need not be believed.
-- Assumes nothing.
use Rattle.std.specs.Prelude.{◌≡◌, List, ℕ, zero, suc, ◌≤◌, ◌<◌, length, get_or}
use Rattle.meaning.specs.Text.Ranges.{queue_most, variables_most}
use Rattle.meaning.specs.Inner.Slots.{Slot, slot}
use Rattle.slots.specs.declared.standing.Slot as Cell
use Rattle.slots.specs.declared.standing.Slots.{Slots}

-- no slot
abbrev pub no_slot : Slot
no_slot = slot 0 0 0

-- a cell with nothing in it
abbrev pub no_cell : Cell.Slot
no_cell = record { task = 0; sum = 0; age = 0 }

-- the slot that a cell keeps
abbrev pub slot_of : Cell.Slot → Slot
slot_of c = slot c.task c.sum c.age

-- slot k
abbrev pub slot_in : Slots → ℕ → Slot
slot_in s k = slot_of (get_or s.slots k no_cell)

-- the variable of the running sum just ahead of slot k: 0 at the head
abbrev pub sum_before : Slots → ℕ → ℕ
sum_before s zero = 0
sum_before s (suc k) = (slot_in s k).sum

-- these are the slots ss, each of variables that there are, and nothing behind them
pub record Stand (ss : List Slot) (s : Slots) : Type 0 where
  pub many : length ss ≡ s.count
  pub few : s.count ≤ queue_most
  pub each : (k : ℕ) → k < s.count → get_or ss k no_slot ≡ slot_in s k
  pub known : (k : ℕ) → ((slot_in s k).sum < variables_most) × ((slot_in s k).age < variables_most)
  pub unused : (k : ℕ) → s.count ≤ k → slot_in s k ≡ no_slot

-- they are the slots of some queue
pub record Stands (s : Slots) : Type 0 where
  pub slots : List Slot
  pub stand : Stand slots s
