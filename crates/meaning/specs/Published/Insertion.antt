-- 004's scheduling strategies: where a new instance of a task comes into the queue. Its Example 3.
-- Assumes nothing.
use Rattle.std.specs.Prelude.{◌≡◌, true, false, ℕ}
use mathlib.Core.List.{List, [], ◌∷◌, ◌++◌, Memᴰ}
use Rattle.meaning.specs.Model.{Policy, edf, sjf, Model}
use Rattle.meaning.specs.Machine.State.{Job}
use Rattle.meaning.specs.Machine.Release.{put}
use Rattle.meaning.specs.Published.Left.{Ready, higher, fresh, release_into}
use Rattle.meaning.specs.ConsoleChecks.{job}

-- 004, section 2.5: "given a task and a current task queue, inserts a new instance of this task into the task queue, while preserving the order of the
-- other task instances in the queue": r is q with the new instance in it
pub record Inserted (m : Model) (t : ℕ) (q r : List Ready) : Type 0 where
  pub front : List Ready
  pub back : List Ready
  pub was : q ≡ front ++ back
  pub is : r ≡ front ++ (fresh m t ∷ back)

-- 004, section 4: "has a shorter job … and should be executed first" (EDF: "has an earlier deadline"; FPS: "has a higher priority"): the new instance is
-- in front of just those that it is to be executed before
pub record Chosen (m : Model) (t : ℕ) (q r : List Ready) : Type 0 where
  pub inserted : Inserted m t q r
  pub stay : (x : Ready) → Memᴰ x inserted.front → higher m (fresh m t) x ≡ false
  pub wait : (x : Ready) → Memᴰ x inserted.back → higher m (fresh m t) x ≡ true

-- 004: "An instance of task t is written (t, b, w, d)"; here b is w
abbrev pub instance : ℕ → ℕ → ℕ → Ready
instance t w d = record { task = t; work = w; time = d }

-- three tasks such that jobs of the first two can owe what Example 3 says, times ten; "a task t_3 where B = 1, W = 1 and D = 10"
abbrev pub three_tasks : Policy → Model
three_tasks p = record {
  policy = p;
  clocks = 0;
  tasks = record { C = 30; D = 40; prio = 0 } ∷ record { C = 40; D = 50; prio = 0 } ∷ record { C = 10; D = 100; prio = 0 } ∷ [];
  locations = record { task = 1; limits = [] } ∷ record { task = 2; limits = [] } ∷ record { task = 3; limits = [] } ∷ [];
  edges = [];
}

-- "q = ((t_1, 1.4, 2.4, 3), (t_2, 2.5, 3.5, 4.2))", times ten
abbrev pub two_ready : List Ready
two_ready = instance 1 24 30 ∷ instance 2 35 42 ∷ []

-- jobs with that much left of C and D
abbrev pub two_jobs : List Job
two_jobs = job 1 6 10 ∷ job 2 5 8 ∷ []

-- 004, Example 3, times ten
pub record ExampleThree : Type 0 where
  -- "EDF(t_3, q) = ((t_1, 1.4, 2.4, 3), (t_2, 2.5, 3.5, 4.2), (t_3, 1, 1, 10))"
  pub edf_last : release_into (three_tasks edf) 3 two_ready ≡ instance 1 24 30 ∷ instance 2 35 42 ∷ instance 3 10 100 ∷ []
  -- "whereas preemptive SJF(t_3, q) = ((t_3, 1, 1, 10), (t_1, 1.4, 2.4, 3), (t_2, 2.5, 3.5, 4.2))"
  pub sjf_first : release_into (three_tasks sjf) 3 two_ready ≡ instance 3 10 100 ∷ instance 1 24 30 ∷ instance 2 35 42 ∷ []
  -- the same of the machine's queue
  pub edf_put : put (three_tasks edf) 3 two_jobs ≡ job 1 6 10 ∷ job 2 5 8 ∷ job 3 0 0 ∷ []
  pub sjf_put : put (three_tasks sjf) 3 two_jobs ≡ job 3 0 0 ∷ job 1 6 10 ∷ job 2 5 8 ∷ []
  -- M-100: "at equality the queued job stays ahead": one that owes just 10
  pub sjf_tie : put (three_tasks sjf) 3 (job 1 20 20 ∷ job 2 5 8 ∷ []) ≡ job 1 20 20 ∷ job 3 0 0 ∷ job 2 5 8 ∷ []
