-- Who beats whom, and the place that a new job takes.
-- Assumes nothing.
use Rattle.std.specs.Prelude.{Bool, cond, ◌&&◌, ◌||◌, List, [], ◌∷◌, ℕ, zero, suc, ◌+◌, ltb, eqb}
use Rattle.meaning.specs.Model.{Policy, fps, edf, sjf, Task, Model, task_at}
use Rattle.meaning.specs.Machine.State.{Job, order}

-- Does a new job of task number n, whose data are t, beat the queued job j, whose task's data are u?
-- "FPS: larger priority beats. EDF: fewer ticks left to the deadline (D minus age) beats; at equality the larger task number beats."
-- M-100: "A new job beats a queued one when its computing time is less than what the queued job still owes, which is C minus done; at equality the queued job stays ahead."
unfoldable pub beats_by : Policy → ℕ → Task → Task → Job → Bool
beats_by fps n t u j = ltb u.prio t.prio
beats_by edf n t u j = ltb (t.D + j.age) u.D || (eqb (t.D + j.age) u.D && ltb j.task n)
beats_by sjf n t u j = ltb (t.C + j.done) u.C

-- the same by the model's policy
unfoldable pub beats : Model → ℕ → Job → Bool
beats m n j = beats_by m.policy n (task_at m n) (task_at m j.task) j

-- "A new job goes in front of the first job that it beats, else last": how many stay ahead of one that beats where b holds
abbrev pub place : {A : Type 0} → (A → Bool) → List A → ℕ
place b [] = zero
place b (j ∷ js) = cond (b j) zero (suc (place b js))

-- the same, with the first k passed over
abbrev pub place_from : {A : Type 0} → ℕ → (A → Bool) → List A → ℕ
place_from zero b q = place b q
place_from (suc k) b [] = zero
place_from (suc k) b (j ∷ js) = suc (place_from k b js)

-- "one place for each queue position 1 to length + 1": how many jobs of a queue of the tasks o a new job of task t always stays behind
unfoldable pub behind : Model → ℕ → List ℕ → ℕ
behind m t o = 0

-- how many jobs of the queue stay ahead of a new job of task t
abbrev pub place_of : Model → ℕ → List Job → ℕ
place_of m t q = place_from (behind m t (order q)) (beats m t) q
