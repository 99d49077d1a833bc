-- What the loops of `first_broken` keep.
use mathlib.Core.Path.{◌≡◌}
use Prim.Native.Nat.{◌+◌, ◌*◌}
use Rattle.std.specs.Prelude.{None}
use Rattle.bounds.proofs.Breaking.{Sound}
use Rattle.bounds.proofs.broken.first_broken.Given as goal

abbrev pub invariant-loop-b : goal.invariant-loop-b
invariant-loop-b l = record { none : l.first ≡ None; sound : Sound l.m l.n l.p l.off l.claims l.start (l.a * 17 + l.b) }

abbrev pub invariant-rows : goal.invariant-rows
invariant-rows l = record { none : l.first ≡ None; sound : Sound l.m l.n l.p l.off l.claims l.start (l.a * 17) }
