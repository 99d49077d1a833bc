-- What the loop of `slots_of` keeps: the cells that it has passed are filled.
use Prim.Native.Nat.{suc, ◌≤◌}
use mathlib.Core.Path.{◌≡◌}
use Rattle.model_table.specs.Held.{model_of}
use Rattle.slots.proofs.SlotLaws.{Filled}
use Rattle.slots.proofs.order.slots_of.Given as goal

abbrev pub invariant-loop-k : goal.invariant-loop-k
invariant-loop-k l = (l.clocks ≡ (model_of l.model).clocks) × (l.clocks ≤ 4) × Filled (suc l.clocks) l.task-items l.slots l.k
