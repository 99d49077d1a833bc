-- What the loop of `try_zone` keeps.
use mathlib.Core.Path.{◌≡◌}
use Prim.Native.Nat.{◌+◌, ◌-◌}
use Rattle.model_table.specs.Held.{model_of}
use Rattle.meaning.specs.Text.ProposalTable as table
use Rattle.verdict.specs.Judged.{HoldBefore}
use Rattle.verdict.proofs.trying.try_zone.Given as goal

abbrev pub invariant-loop-x : goal.invariant-loop-x
invariant-loop-x l = record {
  number : l.number + 1 ≡ l.x;
  hold : HoldBefore (model_of l.model) (table.decode l.zones) l.n (table.zone_in l.zones (l.n - 1)) l.x;
}
