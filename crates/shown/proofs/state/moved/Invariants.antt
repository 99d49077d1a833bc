-- What the loop of `moved` keeps.
use mathlib.Core.Path.{◌≡◌}
use Prim.Native.Nat.{ℕ, ◌+◌, ◌<◌}
use lib.ListN.{length}
use Rattle.meaning.specs.Numbers.{over, under}
use Rattle.bounds.specs.Matrix.{ent}
use Rattle.bounds.specs.Images.{var}
use Rattle.shown.proofs.state.moved.Given as goal

abbrev pub invariant-loop-i : goal.invariant-loop-i
invariant-loop-i l = record {
  long : length l.r ≡ 17;
  moved : (q : ℕ) → q < l.i → var l.r q + under (ent l.off q) ≡ var l.x (var l.from q) + over (ent l.off q);
}
