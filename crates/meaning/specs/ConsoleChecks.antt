-- Document 01, "Console checks": Model A, Proposal A, and the checks marked (P), as one table under one statement.
-- Assumes nothing.
use Rattle.std.specs.Prelude.{◌≡◌, List, [], ◌∷◌, ℕ, ℤ, pos, negsuc}
use Rattle.meaning.specs.Model.{Policy, fps, edf, Bound, Model}
use Rattle.meaning.specs.Machine.State.{Job, State}
use Rattle.meaning.specs.Machine.Release.{put}
use Rattle.meaning.specs.Machine.Step.{Event, tick, edge, Outcome, went, missed, refused, step, after}
use Rattle.meaning.specs.Machine.Run.{start}
use Rattle.meaning.specs.Zones.Variables.{vars}
use Rattle.meaning.specs.Zones.Zone.{Zone, Proposal}

-- "`PO 2/CK 1/TK 2 4 0/LO 1/IV 1 5/ED 1 1/GU 0 1 -5/RS 1/EN`"
abbrev pub model_a : Model
model_a = record {
  policy = edf;
  clocks = 1;
  tasks = record { C = 2; D = 4; prio = 0 } ∷ [];
  locations = record { task = 1; limits = record { clock = 1; most = 5 } ∷ [] } ∷ [];
  edges = record { from = 1; to = 1; guard = record { i = 0; j = 1; c = negsuc 4 } ∷ []; resets = 1 ∷ [] } ∷ [];
}

-- "BD (i, j, c)"
abbrev pub bound : ℕ → ℕ → ℤ → Bound
bound i j c = record { i = i; j = j; c = c }

-- "`ZN 1 1/BD 1 2 0/BD 1 3 0/BD 2 1 0/BD 3 1 0/GO 1 2 0`"
abbrev pub zone1 : Zone
zone1 = record {
  location = 1;
  order = 1 ∷ [];
  bounds = bound 1 2 (pos 0) ∷ bound 1 3 (pos 0) ∷ bound 2 1 (pos 0) ∷ bound 3 1 (pos 0) ∷ [];
  claims = 1 ∷ 2 ∷ 0 ∷ [];
}

-- "`ZN 1/BD 0 1 -2/BD 1 0 5/GO 2 0 1`", with c for 5
abbrev pub zone2 : ℤ → Zone
zone2 c = record { location = 1; order = []; bounds = bound 0 1 (negsuc 1) ∷ bound 1 0 c ∷ []; claims = 2 ∷ 0 ∷ 1 ∷ [] }

-- Proposal A is this at 5
abbrev pub proposal_a : ℤ → Proposal
proposal_a c = record { zones = zone1 ∷ zone2 c ∷ [] }

-- one task, released at the start
abbrev pub one_task : ℕ → ℕ → Model
one_task c d = record {
  policy = edf;
  clocks = 0;
  tasks = record { C = c; D = d; prio = 0 } ∷ [];
  locations = record { task = 1; limits = [] } ∷ [];
  edges = [];
}

-- two tasks, with C, D and priority of each: the first is released at the start, the second by edge 1
abbrev pub two_tasks : Policy → ℕ → ℕ → ℕ → ℕ → ℕ → ℕ → Model
two_tasks p c d r c' d' r' = record {
  policy = p;
  clocks = 0;
  tasks = record { C = c; D = d; prio = r } ∷ record { C = c'; D = d'; prio = r' } ∷ [];
  locations = record { task = 1; limits = [] } ∷ record { task = 2; limits = [] } ∷ [];
  edges = record { from = 1; to = 2; guard = []; resets = [] } ∷ [];
}

-- a job: "task, done, age"
abbrev pub job : ℕ → ℕ → ℕ → Job
job t d a = record { task = t; done = d; age = a }

-- a state: "location, clocks", queue
abbrev pub at : ℕ → List ℕ → List Job → State
at l c q = record { location = l; clocks = c; queue = q }

-- what the last of some events comes to, one after the other
abbrev pub run : Model → State → List Event → Outcome
run m s [] = went s
run m s (e ∷ []) = step m s e
run m s (e ∷ f ∷ es) = run m (after s (step m s e)) (f ∷ es)

-- "Marked (P): proved together as a single table under one statement."
pub record ConsoleChecks : Type 0 where
  -- "C 2, D 2: two ticks from the start finish the job, no miss."
  pub finish_in_time : run (one_task 2 2) (start (one_task 2 2)) (tick ∷ tick ∷ []) ≡ went (at 1 [] [])
  -- "Model A at clock 5, empty queue: tick refused 12."
  pub limit : step model_a (at 1 (5 ∷ []) []) tick ≡ refused
  -- "At clock 4: tick allowed, edge refused 12."
  pub below : step model_a (at 1 (4 ∷ []) []) tick ≡ went (at 1 (5 ∷ []) [])
  pub early : step model_a (at 1 (4 ∷ []) []) (edge 1) ≡ refused
  -- "At clock 5: edge allowed, clock 0 and one job."
  pub due : step model_a (at 1 (5 ∷ []) []) (edge 1) ≡ went (at 1 (0 ∷ []) (job 1 0 0 ∷ []))
  -- "Queue task 2 (done 1, C 2) then task 1 (done 3): running sums 1 and 4."
  pub sums : vars (at 1 [] (job 2 1 7 ∷ job 1 3 9 ∷ [])) ≡ 1 ∷ 7 ∷ 4 ∷ 9 ∷ []
  -- "After a tick: task 1 alone, running sum 3."
  pub alone : step (two_tasks edf 5 99 0 2 98 0) (at 1 [] (job 2 1 7 ∷ job 1 3 9 ∷ [])) tick ≡ went (at 1 [] (job 1 3 10 ∷ []))
  pub sum_after : vars (at 1 [] (job 1 3 10 ∷ [])) ≡ 3 ∷ 10 ∷ []
  -- "EDF: task 1 with 3 ticks left, task 2 with D 3 released: task 2 goes ahead."
  pub edf_ahead : put (two_tasks edf 2 5 0 2 3 0) 2 (job 1 0 2 ∷ []) ≡ job 2 0 0 ∷ job 1 0 2 ∷ []
  -- "Numbers exchanged: it goes behind."
  pub edf_behind : put (two_tasks edf 2 3 0 2 5 0) 1 (job 2 0 2 ∷ []) ≡ job 2 0 2 ∷ job 1 0 0 ∷ []
  -- "FPS, task 1 C 2 D 3, task 2 C 2 D 2 with larger priority, both released at 0: the third tick is a miss."
  pub third_late : run (two_tasks fps 2 3 1 2 2 2) (start (two_tasks fps 2 3 1 2 2 2)) (edge 1 ∷ tick ∷ tick ∷ tick ∷ []) ≡ missed (at 2 [] (job 1 1 3 ∷ [])) 1
  -- "With D 4 for task 1 the fourth tick finishes it."
  pub fourth_done : run (two_tasks fps 2 4 1 2 2 2) (start (two_tasks fps 2 4 1 2 2 2)) (edge 1 ∷ tick ∷ tick ∷ tick ∷ tick ∷ []) ≡ went (at 2 [] [])
