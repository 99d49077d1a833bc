-- What the loop of `top` keeps.
use mathlib.Core.Path.{◌≡◌}
use Prim.Native.Nat.{ℕ, ◌/◌, ◌%◌, ◌<◌}
use lib.ListN.{length}
use Rattle.bounds.specs.Matrix.{ent}
use Rattle.bounds.specs.Inner.{Unknown}
use Rattle.bounds.proofs.matrix.top.Given as goal

abbrev pub invariant-loop-k : goal.invariant-loop-k
invariant-loop-k l = record {
  long : length l.entry-items ≡ 289;
  known : (q : ℕ) → q < l.k → Unknown (q / 17) (q % 17) (ent l.entry-items q);
}
