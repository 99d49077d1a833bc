-- The model: what stands in a model text. Document 01, "The two texts".
-- Assumes nothing.
use Rattle.std.specs.Prelude.{Bool, cond, List, [], ◌∷◌, ℕ, eqb, ℤ}
use Rattle.meaning.specs.Lists.{nth1D}

-- PO: "1 FPS, 2 EDF"; document 02, M-100: "PO may be 3", shortest job first
pub data Policy : Type 0 where
  fps edf sjf : Policy

-- TK: "C and D, 1 to 10,000; priority 0 to 6"
pub record Task : Type 0 where
  pub C : ℕ
  pub D : ℕ
  pub prio : ℕ

-- IV: "clock, limit 0 to 10,000: clock ≤ limit"
pub record Limit : Type 0 where
  pub clock : ℕ
  pub most : ℕ

-- GU and BD: "i, j, c: i minus j ≤ c"
pub record Bound : Type 0 where
  pub i : ℕ
  pub j : ℕ
  pub c : ℤ

-- LO: "task released or 0", with the limits under it
pub record Location : Type 0 where
  pub task : ℕ
  pub limits : List Limit

-- ED: "from, to", with the guard and the resets under it
pub record Edge : Type 0 where
  pub from : ℕ
  pub to : ℕ
  pub guard : List Bound
  pub resets : List ℕ

-- "Records stand in this order": PO, CK, TK, LO, ED
pub record Model : Type 0 where
  pub policy : Policy
  pub clocks : ℕ
  pub tasks : List Task
  pub locations : List Location
  pub edges : List Edge

-- a task that the model lacks has no time at all, so no proper state has a job of it
abbrev pub no_task : Task
no_task = record { C = 0; D = 0; prio = 0 }

-- a location that the model lacks releases nothing and has no limits
abbrev pub no_location : Location
no_location = record { task = 0; limits = [] }

-- "Task t has computing time C and deadline D."
abbrev pub task_at : Model → ℕ → Task
task_at m t = nth1D m.tasks t no_task

-- location l, "1 to 16"
abbrev pub location_at : Model → ℕ → Location
location_at m l = nth1D m.locations l no_location

-- "the release of the target's task, if any": the tasks that entering a location releases, one after the other
abbrev pub releases : Location → List ℕ
releases l = cond (eqb l.task 0) [] (l.task ∷ [])

-- "each edge leaving the location": the edge leaves location l
unfoldable pub leaves_at : Edge → ℕ → Bool
leaves_at e l = eqb e.from l

-- the target of the edge from location l
unfoldable pub target : Edge → ℕ → ℕ
target e l = e.to

-- the tasks that the edge releases
unfoldable pub released : Model → Edge → List ℕ
released m e = releases (location_at m e.to)

-- "the job of location 1's task, if it has one": the tasks released at the start
unfoldable pub released_at_start : Model → List ℕ
released_at_start m = releases (location_at m 1)
