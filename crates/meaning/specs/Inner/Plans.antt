-- Where a step takes the variables: each variable after it is one from before, moved by a fixed amount. At an overflow all stay.
-- Assumes nothing.
use Rattle.std.specs.Prelude.{◌≡◌, cond, ℕ, ◌+◌, ◌-◌, ℤ, pos}
use mathlib.Core.List.{List, [], ◌∷◌, ◌++◌, tail}
use Rattle.std.proofs.Math.Option.{Option, none, some}
use Rattle.std.proofs.Math.IntN.{sub_ℕ}
use Rattle.meaning.specs.Numbers.{over, under}
use Rattle.meaning.specs.Lists.{nth1, nth1D, elem}
use Rattle.meaning.specs.Model.{Edge, Model, task_at, released}
use Rattle.meaning.specs.Machine.Release.{overflows_any}
use Rattle.meaning.specs.Zones.Steps.{Step, go_on, finish, by_edge}
use Rattle.meaning.specs.Zones.Reached.{Home}
use Rattle.meaning.specs.Inner.Words.{tab_from}
use Rattle.meaning.specs.Inner.Slots.{Slot, slots_of}
use Rattle.meaning.specs.Inner.Places.{insert_slots}

-- ── the plan of a step ─────────────────────────────────────────────────────────────────────────

-- which clocks become variable 0; where each job of the new queue stands in the old valuation; what is added to clocks, sums and ages
pub record Plan : Type 0 where
  pub resets : List ℕ
  pub slots : List Slot
  pub clock : ℤ
  pub sum : ℤ
  pub age : ℤ

-- C of the head
abbrev pub head_time : Model → List ℕ → ℕ
head_time m [] = 1
head_time m (t ∷ o) = (task_at m t).C

-- everything stays
abbrev pub stays : Model → Home → Plan
stays m h = record { resets = []; slots = slots_of m h.order; clock = pos 0; sum = pos 0; age = pos 0 }

-- an edge without an overflow
abbrev pub enters : Model → Home → List ℕ → Edge → Plan
enters m h ps e = record { resets = e.resets; slots = insert_slots (released m e) ps (slots_of m h.order); clock = pos 0; sum = pos 0; age = pos 0 }

-- an edge, whose release takes the positions ps
abbrev pub plan_by : Model → Home → List ℕ → Option Edge → Plan
plan_by m h ps none = stays m h
plan_by m h ps (some e) = cond (overflows_any m (released m e) h.order) (stays m h) (enters m h ps e)

-- any step
abbrev pub plan_of : Model → Home → Step → Plan
plan_of m h go_on = record { resets = []; slots = slots_of m h.order; clock = pos 1; sum = pos 1; age = pos 1 }
plan_of m h finish = record { resets = []; slots = tail (slots_of m h.order); clock = pos 1; sum = sub_ℕ 1 (head_time m h.order); age = pos 1 }
plan_of m h (by_edge k ps) = plan_by m h ps (nth1 m.edges k)

-- ── variable by variable ───────────────────────────────────────────────────────────────────────

-- a clock that is reset is variable 0
abbrev pub unreset : List ℕ → ℕ → ℕ
unreset rs i = cond (elem i rs) 0 i

-- the variables of the slots
abbrev pub slot_vars : List Slot → List ℕ
slot_vars [] = []
slot_vars (s ∷ ss) = s.sum ∷ s.age ∷ slot_vars ss

-- what is added to them: c to a running sum, d to an age
abbrev pub slot_offs : ℤ → ℤ → List Slot → List ℤ
slot_offs c d [] = []
slot_offs c d (s ∷ ss) = c ∷ d ∷ slot_offs c d ss

-- variable i after the step is variable from i before it,
abbrev pub from : Model → Plan → ℕ → ℕ
from m p i = nth1D (tab_from 1 (unreset p.resets) m.clocks ++ slot_vars p.slots) i 0

-- and off i more
abbrev pub off : Model → Plan → ℕ → ℤ
off m p i = nth1D (tab_from 1 (λ (k : ℕ). p.clock) m.clocks ++ slot_offs p.sum p.age p.slots) i (pos 0)

-- v is u, and c more
abbrev pub Shifted : ℤ → ℕ → ℕ → Type 0
Shifted c u v = v + under c ≡ u + over c

-- the valuation after the step
abbrev pub move : Model → Plan → (ℕ → ℕ) → ℕ → ℕ
move m p x i = x (from m p i) + over (off m p i) - under (off m p i)
