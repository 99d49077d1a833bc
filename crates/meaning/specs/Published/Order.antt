-- 000's order of the ready queue, and 004's for the shortest job: who is ahead of whom, and the sorted queue.
-- Assumes nothing.
use Rattle.std.specs.Prelude.{◌≡◌, Bool, true, not, ◌&&◌, ◌||◌, ℕ, ◌+◌, ◌≤◌, leb, ltb, eqb, length}
use mathlib.Core.List.{List, [], ◌∷◌, Memᴰ}
use Rattle.std.proofs.Math.Option.{some}
use Rattle.meaning.specs.Lists.{nth1, count}
use Rattle.meaning.specs.Model.{Policy, fps, edf, sjf, Task, Edge, Model, task_at, released, released_at_start}
use Rattle.meaning.specs.Machine.State.{Job}

-- 000, Definition 6: "P_i > P_j ⟺ d_i < d_j ∨ (d_i = d_j ∧ i > j)", the time left d being D minus age; FPS: the larger priority
-- 004, "SJF scheduler": "W_i − x_i < W_i' − x_i'", with C for W and done for x
unfoldable pub ahead_by : Policy → Task → Task → Job → Job → Bool
ahead_by fps t u i j = ltb u.prio t.prio
ahead_by edf t u i j =
    ltb (t.D + j.age) (u.D + i.age) || (eqb (t.D + j.age) (u.D + i.age) && ltb j.task i.task)
ahead_by sjf t u i j = ltb (t.C + j.done) (u.C + i.done)

-- 000, Definition 6: "the priority P_i of task t_i is greater than the priority P_j of task t_j", by the model's policy
abbrev pub ahead : Model → Job → Job → Bool
ahead m i j = ahead_by m.policy (task_at m i.task) (task_at m j.task) i j

-- 000: "sorted": each element is ahead of all those behind it
module _ {A : Type 0} where
  abbrev pub InOrder : (A → A → Bool) → List A → Type 0
  InOrder b [] = Unit
  InOrder b (x ∷ l) = ((y : A) → Memᴰ y l → b x y ≡ true) × InOrder b l

-- of one task the older job, and of one age the one that has done more: M-110: "the older job first within a task"
abbrev pub elder : Job → Job → Bool
elder i j = eqb i.task j.task && (leb j.age i.age && leb j.done i.done)

-- the job i goes before j: it is ahead, or the elder of one task
abbrev pub leads : Model → Job → Job → Bool
leads m i j = ahead m i j || elder i j

-- 000: "sorted according to the scheduling policy": the queue stands in order
abbrev pub Stands : Model → List Job → Type 0
Stands m q = InOrder (leads m) q

-- the job i may stay in front of j: j isn't ahead of it
abbrev pub stays : Model → Job → Job → Bool
stays m i j = not (ahead m j i)

-- 004, "should be executed first": no job is ahead of one in front of it, so none is ahead of the head, which runs; equals may stand either way
abbrev pub Settled : Model → List Job → Type 0
Settled m q = InOrder (stays m) q

-- the two jobs are one in task, done and age
abbrev pub same_job : Job → Job → Bool
same_job i j = eqb i.task j.task && (eqb i.done j.done && eqb i.age j.age)

-- 000: "Sch(q) is a function that returns the ready queue sorted according to the scheduling policy": r is Sch(q)
-- it has every job as often as q
pub record IsSch (m : Model) (q r : List Job) : Type 0 where
  pub often : (j : Job) → count (same_job j) r ≡ count (same_job j) q
  pub sorted : Stands m r

-- 000, Definition 6: "strictly ordered task indices": t is the number of a task of the model
pub record TaskOf (m : Model) (t : ℕ) : Type 0 where
  pub from : 1 ≤ t
  pub upto : t ≤ length m.tasks

-- 000: "q = [t_0(c_0, d_0), …, t_n(c_n, d_n)]": every job of the queue is of a task of the model
abbrev pub TasksOf : Model → List Job → Type 0
TasksOf m q = (j : Job) → Memᴰ j q → TaskOf m j.task

-- 000, Definition 1: "M : L ↪ T is a function annotating locations with tasks": what an edge of the model and the start release is of the model
pub record Annotated (m : Model) : Type 0 where
  pub by_edge : (k : ℕ) (e : Edge) → nth1 m.edges k ≡ some e → (t : ℕ) → Memᴰ t (released m e) → TaskOf m t
  pub at_start : (t : ℕ) → Memᴰ t (released_at_start m) → TaskOf m t

-- 000: "sorted according to the scheduling policy": the policy tells any two tasks apart; FPS: no two of the model have one priority; SJF does not, since
-- two jobs may owe the same
abbrev pub RankedBy : Policy → Model → Type 0
RankedBy fps m = (t u : ℕ) → TaskOf m t → TaskOf m u → (task_at m t).prio ≡ (task_at m u).prio → t ≡ u
RankedBy edf m = Unit
RankedBy sjf m = ⊥

-- 000: "a scheduling strategy Sch": the same of the model's own policy
abbrev pub Ranked : Model → Type 0
Ranked m = RankedBy m.policy m
