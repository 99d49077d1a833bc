-- What the loops of `remap` keep.
use mathlib.Core.List.{List}
use Prim.Native.Nat.{ℕ, ◌+◌, ◌*◌, ◌≤◌}
use lib.IntN.{ℤ, pos}
use lib.ListN.{replicate}
use Rattle.bounds.specs.Matrix.{ent, at}
use Rattle.bounds.specs.Images.{var}
use Rattle.bounds.specs.Inner.{Shift}
use Rattle.bounds.proofs.Grid.{Upto}
use Rattle.bounds.proofs.image.remap.Given as goal

-- what stands at an index that was passed
abbrev pub Cell : List ℤ → List ℕ → List ℤ → ℕ → ℕ → ℤ → Type 0
Cell m p off a b z = Shift (at m (var p a) (var p b)) (ent off a) (ent off b) z

-- the matrix that the loops start from
abbrev pub blank : List ℤ
blank = replicate 289 (pos 0)

abbrev pub invariant-loop-b : goal.invariant-loop-b
invariant-loop-b l = (l.b ≤ l.n) × Upto (Cell l.m l.p l.off) blank l.n l.r (l.a * 17 + l.b)

abbrev pub invariant-loop-a : goal.invariant-loop-a
invariant-loop-a l = (l.a ≤ l.n) × Upto (Cell l.m l.p l.off) blank l.n l.r (l.a * 17)
