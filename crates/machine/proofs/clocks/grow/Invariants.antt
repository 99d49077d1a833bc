-- What the loop of `grow` keeps.
use Prim.Native.Nat.{suc}
use mathlib.Core.Path.{◌≡◌}
use mathlib.Core.List.{map}
use lib.ListN.{take}
use Rattle.machine.specs.Stands.{padded}
use Rattle.machine.proofs.clocks.grow.Given as goal

abbrev pub invariant-loop-k : goal.invariant-loop-k
invariant-loop-k l = l.grown ≡ padded 0 4 (map suc (take l.k l.clocks))
