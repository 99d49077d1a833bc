-- What the loop of `all_added` keeps.
use mathlib.Core.Path.{◌≡◌}
use Prim.Native.Nat.{ℕ, ◌<◌, ◌≤◌}
use lib.IntN.{pos}
use lib.ListN.{length, get_or, replicate}
use Rattle.step_reach.specs.Plans.{Adds}
use Rattle.step_reach.proofs.variables.all_added.Given as goal

abbrev pub invariant-loop-i : goal.invariant-loop-i
invariant-loop-i l = record {
  long : length l.r ≡ 17;
  added : (q : ℕ) → q < l.i → Adds l.clocks l.time l.sum q (get_or l.r q (pos 0));
  rest : (q : ℕ) → l.i ≤ q → get_or l.r q (pos 0) ≡ get_or (replicate 17 (pos 0)) q (pos 0);
}
