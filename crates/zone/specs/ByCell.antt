-- What the inner functions say of single entries: for their contracts and proofs, not for a reader to believe.
-- Assumes nothing.
use Rattle.std.specs.Prelude.{ℕ, ◌+◌, ◌*◌, ◌≤◌, ◌<◌, ◌/◌, ◌%◌, ◌≡◌, true, ◌⊎◌, ℤ, length, get_or}
use mathlib.Core.List.{List, [], map, Memᴰ}
use Rattle.meaning.specs.Numbers.{over, under}
use Rattle.meaning.specs.Model.{Bound}
use Rattle.meaning.specs.Zones.Zone.{clock_bounds, queue_bounds}
use Rattle.machine.specs.Stands.{job_of, no_job}
use Rattle.machine.specs.declared.Job.{Job}
use Rattle.zone_bounds.specs.Entries.{no_bound, is_bound, entry_in, bounds_in}

-- "from −32,000 to 32,000"
pub record InRange (c : ℤ) : Type 0 where
  pub least : under c ≤ 32000
  pub most : over c ≤ 32000

-- a bound c that stands at place k is of the first n variables
pub record RightAt (n k : ℕ) (c : ℤ) : Type 0 where
  pub two : k / 17 ≡ k % 17 → ⊥
  pub i : k / 17 < n
  pub j : k % 17 < n
  pub range : InRange c

-- what stands at place k is "no bound" or such a bound
pub record RightEntry (n k : ℕ) (c : ℤ) : Type 0 where
  pub bound : is_bound c ≡ true → RightAt n k c

-- each entry is
pub record RightEntries (n : ℕ) (b : List ℤ) : Type 0 where
  pub each : (k : ℕ) → k < 289 → RightEntry n k (entry_in b k)

-- ---- the bounds of one state

-- no bound is written
pub record Empty (b : List ℤ) : Type 0 where
  pub long : length b ≡ 289
  pub none : (k : ℕ) → k < 289 → entry_in b k ≡ no_bound

-- of all the bounds, those in the rest are still to be written, and nothing is written of variables from v on
pub record Written (all : List Bound) (b : List ℤ) (v : ℕ) (rest : List Bound) : Type 0 where
  pub long : length b ≡ 289
  pub free : (k : ℕ) → k < 289 → (v ≤ k / 17) ⊎ (v ≤ k % 17) → entry_in b k ≡ no_bound
  pub to : (x : Bound) → Memᴰ x all → Memᴰ x (bounds_in b) ⊎ Memᴰ x rest
  pub from : (x : Bound) → Memᴰ x (bounds_in b) ⊎ Memᴰ x rest → Memᴰ x all

-- those of the clocks are written, and the rest is to come
pub record ClocksWritten (cs : List ℕ) (b : List ℤ) : Type 0 where
  pub all : (rest : List Bound) → Written (clock_bounds 1 cs rest) b (length cs + 1) rest

-- those of the jobs are written too, behind n clocks, where they were to come
pub record JobsWritten (b : List ℤ) (n : ℕ) (js : List Job) (r : List ℤ) : Type 0 where
  pub all : (all : List Bound) → Written all b (n + 1) (queue_bounds 0 (n + 1) (map job_of js)) → Written all r (n + 1 + 2 * length js) []

-- no clock is above 32,000
pub record SmallClocks (cs : List ℕ) : Type 0 where
  pub each : (k : ℕ) → k < length cs → get_or cs k 0 ≤ 32000

-- no job has more work done, or is older
pub record SmallJobs (js : List Job) : Type 0 where
  pub each : (k : ℕ) → k < length js → ((get_or js k no_job).done ≤ 32000) × ((get_or js k no_job).age ≤ 32000)
