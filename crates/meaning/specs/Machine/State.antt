-- The states of the plain machine.
-- Assumes nothing.
use Rattle.std.specs.Prelude.{List, map, ℕ}

-- "A job has its task, the ticks of work done, and its age in ticks since release."
pub record Job : Type 0 where
  pub task : ℕ
  pub done : ℕ
  pub age : ℕ

-- "A state is a location, the clock values, and a queue, head first."
pub record State : Type 0 where
  pub location : ℕ
  pub clocks : List ℕ
  pub queue : List Job

-- the queue order: the tasks of a queue, head first
abbrev pub order : List Job → List ℕ
order q = map (λ (j : Job). j.task) q
