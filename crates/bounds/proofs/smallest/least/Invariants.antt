-- What the loop of `least` keeps.
use mathlib.Core.Path.{◌≡◌}
use Prim.Native.Nat.{ℕ, ◌+◌, ◌<◌, ◌≤◌}
use lib.ListN.{length}
use Rattle.bounds.specs.Matrix.{at}
use Rattle.bounds.specs.Images.{var}
use Rattle.meaning.specs.Numbers.{over, under}
use Rattle.bounds.proofs.smallest.least.Given as goal

abbrev pub invariant-loop-k : goal.invariant-loop-k
invariant-loop-k l = record {
  long : length l.r ≡ 17;
  passed : (q : ℕ) → q < l.k → var l.r q + over (at l.m 0 q) ≡ under (at l.m 0 q);
  rest : (q : ℕ) → l.k ≤ q → var l.r q ≡ 0;
}
