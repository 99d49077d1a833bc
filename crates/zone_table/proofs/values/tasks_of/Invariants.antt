-- What the loop of `tasks_of` keeps.
use Prim.Native.Nat.{ℕ, ◌+◌, ◌-◌, ◌<◌}
use mathlib.Core.Path.{◌≡◌}
use lib.ListN.{get_or}
use Rattle.zone_table.proofs.values.tasks_of.Given as goal

abbrev pub invariant-loop-x : goal.invariant-loop-x
invariant-loop-x l = (q : ℕ) → q < l.x → get_or l.task-items q 0 ≡ get_or l.zones (l.from + q) 0 - 1
