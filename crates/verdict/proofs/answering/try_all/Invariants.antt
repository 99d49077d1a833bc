-- What the loop of `try_all` keeps.
use Prim.Native.Nat.{◌+◌, ◌-◌, ◌*◌, ◌≤◌}
use Rattle.model_table.specs.Held.{model_of}
use Rattle.meaning.specs.Text.ProposalTable as table
use Rattle.verdict.proofs.TriedLaws.{TriedTo}
use Rattle.verdict.proofs.answering.try_all.Given as goal

abbrev pub invariant-loop-n : goal.invariant-loop-n
invariant-loop-n l = record {
  few : l.tried ≤ 1 + 32767 * (l.n - 1);
  tried : TriedTo (model_of l.model) (table.decode l.zones) (l.n - 1) l.tried;
}
