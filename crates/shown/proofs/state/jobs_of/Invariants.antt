-- What the loop of `jobs_of` keeps.
use mathlib.Core.Path.{◌≡◌}
use Prim.Native.Nat.{ℕ, ◌≤◌, ◌<◌}
use lib.ListN.{length, get_or}
use Rattle.machine.specs.Stands.{no_job}
use Rattle.shown.specs.Moving.{cell_at}
use Rattle.shown.proofs.state.jobs_of.Given as goal

abbrev pub invariant-loop-k : goal.invariant-loop-k
invariant-loop-k l = record {
  long : length l.r ≡ 6;
  cells : (i : ℕ) → i < l.k → get_or l.r i no_job ≡ cell_at l.v l.n (get_or l.order i 0) i;
  rest : (i : ℕ) → l.k ≤ i → get_or l.r i no_job ≡ no_job;
}
