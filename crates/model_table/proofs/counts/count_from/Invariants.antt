-- What the loop of `count_from` keeps: the cells that it has passed are counted.
use Prim.Native.Nat.{◌≤◌}
use mathlib.Core.Path.{◌≡◌}
use Rattle.meaning.specs.Text.ModelTable.{count}
use Rattle.model_table.proofs.counts.count_from.Given as goal

abbrev pub invariant-loop-k : goal.invariant-loop-k
invariant-loop-k l = (l.found ≤ l.k) × (l.found ≡ count l.table l.from l.step l.k)
