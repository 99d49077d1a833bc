-- What the loops of `bounds_of` keep, and how they end.
use mathlib.Core.Path.{◌≡◌}
use Prim.Native.Nat.{ℕ, ◌+◌, ◌≤◌, ◌<◌}
use lib.IntN.{pos}
use lib.ListN.{length, get_or}
use Rattle.zone_table.specs.Read.{entry_of_kept}
use Rattle.zone_table.proofs.values.bounds_of.Given as goal

abbrev pub invariant-loop-x : goal.invariant-loop-x
invariant-loop-x l = (l.x ≤ 289) × (length l.bound-items ≡ 289) × ((q : ℕ) → q < l.x → get_or l.bound-items q (pos 0) ≡ entry_of_kept (get_or l.zones (l.from + q) 0))
