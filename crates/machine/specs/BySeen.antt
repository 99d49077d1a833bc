-- What a walk over a lent list of jobs finds at each job: for the inner functions' contracts, not for a reader to believe.
-- Assumes nothing.
use Rattle.std.specs.Prelude.{ℕ, suc, ◌<◌, ◌≡◌, true, false, List, set, replicate}
use Rattle.meaning.specs.Text.Ranges.{queue_most}
use Rattle.refusals.specs.declared.Reason.{Reason}
use Rattle.refusals.specs.declared.Reason.TheVariants.{NotProper}
use Rattle.machine.specs.ByCell.{timely, beats_in}
use Rattle.machine.specs.declared.Job.{Job}
use Rattle.machine.specs.declared.seen.Seen.{Seen}

-- nothing is seen yet
pub record Start (s : Seen) : Type 0 where
  pub count : s.count ≡ 0
  pub tasks : s.tasks ≡ replicate 6 0
  pub beaten : s.beaten ≡ replicate 6 false

-- r is what is seen with one more job that is right: its task, and whether it is beaten
pub record Taken (t : List ℕ) (n : ℕ) (s : Seen) (j : Job) (r : Seen) : Type 0 where
  pub count : r.count ≡ suc s.count
  pub tasks : r.tasks ≡ set s.tasks s.count j.task
  pub beaten : r.beaten ≡ set s.beaten s.count (beats_in t n j)

-- one more job is right, and r is what is seen then
pub record Next (t : List ℕ) (n : ℕ) (s : Seen) (j : Job) (r : Seen) : Type 0 where
  pub room : s.count < queue_most
  pub timely : timely t j ≡ true
  pub taken : Taken t n s j r

-- one more job is not right
pub record NotNext (t : List ℕ) (s : Seen) (j : Job) (e : Reason) : Type 0 where
  pub reason : e ≡ NotProper
  pub wrong : s.count < queue_most → timely t j ≡ true → ⊥
