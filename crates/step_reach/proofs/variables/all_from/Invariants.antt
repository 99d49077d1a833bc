-- What the loop of `all_from` keeps.
use mathlib.Core.Path.{◌≡◌}
use Prim.Native.Nat.{ℕ, ◌<◌, ◌≤◌}
use lib.IntN.{pos}
use lib.ListN.{length, get_or}
use Rattle.meaning.specs.Text.ModelTable.{decode}
use Rattle.meaning.specs.Inner.Plans.{from}
use Rattle.step_reach.specs.Plans.{plan_in}
use Rattle.step_reach.proofs.variables.all_from.Given as goal

abbrev pub invariant-loop-i : goal.invariant-loop-i
invariant-loop-i l = record {
  long : length l.r ≡ 17;
  sources : (q : ℕ) → q < l.i → get_or l.r q 0 ≡ from (decode l.model) (plan_in l.model l.edge l.slots (pos 0) (pos 0)) q;
  rest : (q : ℕ) → l.i ≤ q → get_or l.r q 0 ≡ 0;
}
