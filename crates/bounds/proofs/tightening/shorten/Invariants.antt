-- What the loops of `shorten` keep.
use mathlib.Core.List.{List}
use lib.IntN.{ℤ}
use Prim.Native.Nat.{ℕ, ◌+◌, ◌*◌, ◌≤◌}
use Rattle.bounds.specs.Matrix.{at}
use Rattle.bounds.specs.Inner.{Via}
use Rattle.bounds.proofs.Grid.{Upto}
use Rattle.bounds.proofs.tightening.shorten.Given as goal

-- what stands at an index that was passed
abbrev pub Cell : List ℤ → ℕ → ℕ → ℤ → ℕ → ℕ → ℤ → Type 0
Cell m i j c a b z = Via (at m a b) (at m a i) c (at m j b) z

abbrev pub invariant-loop-b : goal.invariant-loop-b
invariant-loop-b l = (l.b ≤ l.n) × Upto (Cell l.m l.i l.j l.c) l.m l.n l.r (l.a * 17 + l.b)

abbrev pub invariant-loop-a : goal.invariant-loop-a
invariant-loop-a l = (l.a ≤ l.n) × Upto (Cell l.m l.i l.j l.c) l.m l.n l.r (l.a * 17)
