-- Laws of releases: the queue with a new job of each task, and the room for them.
-- Assumes nothing.
use Prim.Native.Nat.{ℕ, zero, suc, ◌+◌, ◌≤◌, ◌<◌}
use mathlib.Core.Path.{◌≡◌, refl, sym, ◌∙◌, ap, subst}
use mathlib.Core.List.{List, [], ◌∷◌, ◌++◌, Memᴰ}
use native.Mathlib.Omega.{arith}
use native.Mathlib.Numerals.{add-one}
use lib.ListN.{length, get_or, take, get_or-eq_default}
use lib.Seq.{take-suc, take_all}
use Rattle.meaning.specs.Model.{Task, Model, no_task, task_at}
use Rattle.meaning.specs.Machine.State as M
use Rattle.meaning.specs.Machine.State.{order}
use Rattle.meaning.specs.Machine.Place.{place_of}
use Rattle.meaning.specs.Machine.Release.{new_job, put, put_all}
use Rattle.meaning.specs.Zones.Proper.{ProperJob}
use Rattle.meaning.proofs.Hooks.{OfModel}
use Rattle.meaning.proofs.Lists.{length_insert_at}
use Rattle.meaning.proofs.Text.Choices.{by_lt}
use Rattle.machine.specs.Queues.{standing, Holds}
use Rattle.machine.specs.declared.queue.Queue.{Queue}
use Rattle.machine.proofs.QueueLaws.{holds_back}

-- ---- new jobs in a queue

module _ (m : Model) where
  pub put_all_length : (ts : List ℕ) (q : List M.Job) → length (put_all m ts q) ≡ length q + length ts
  put_all_length [] q = omega arith
  put_all_length (t ∷ ts) q =
      let a = put_all_length ts (put m t q) in
      let b = length_insert_at (place_of m t q) (new_job t) q in
      a ∙ omega (arith, b)

  pub put_all_snoc : (ts : List ℕ) (t : ℕ) (q : List M.Job) → put_all m (ts ++ t ∷ []) q ≡ put m t (put_all m ts q)
  put_all_snoc [] t q = refl
  put_all_snoc (u ∷ ts) t q = put_all_snoc ts t (put m u q)

-- the first k of the tasks ts have come to the queue q, which c holds; one more
pub put_more : (m : Model) (ts : List ℕ) (q : List M.Job) (c d : Queue) (k : ℕ) → Holds c (put_all m (take k ts) q) → k < length ts → Holds d (put m (get_or ts k 0) (standing c))
    → Holds d (put_all m (take (k + 1) ts) q)
put_more m ts q c d k h l e =
    let b : put m (get_or ts k 0) (standing c) ≡ put_all m (take (k + 1) ts) q =
    ap (put m (get_or ts k 0)) (holds_back c _ h)
    ∙ sym (ap (λ (i : ℕ). put_all m (take i ts) q) (add-one k) ∙ ap (λ (o : List ℕ). put_all m o q) (take-suc ts k 0 l) ∙ put_all_snoc m (take k ts) (get_or ts k 0) q) in
    subst (Holds d) b e

pub put_end : (m : Model) (ts : List ℕ) (q : List M.Job) (c : Queue) (k : ℕ) → Holds c (put_all m (take k ts) q) → length ts ≤ k → Holds c (put_all m ts q)
put_end m ts q c k h l = subst (λ (o : List ℕ). Holds c (put_all m o q)) (take_all k ts l) h

-- ---- room for them

-- a task with work to do is of the model
task_in : (m : Model) (t : ℕ) → 0 < (task_at m t).C → (1 ≤ t) × (t ≤ length m.tasks)
task_in m zero h = absurd (omega arith)
task_in m (suc k) h =
    by_lt k (length m.tasks) (λ l. (omega arith, l))
    (λ l. absurd (let e = ap (λ (x : Task). x.C) (get_or-eq_default m.tasks no_task {n = k} l) in omega arith))

-- so the tasks of proper jobs are
pub proper_tasks : (m : Model) (q : List M.Job) → ((j : M.Job) → Memᴰ j q → ProperJob m j) → OfModel m (order q)
proper_tasks m [] h = tt
proper_tasks m (j ∷ q) h =
    let p = (h j (Memᴰ.head refl)).done in
    (task_in m j.task (omega arith), proper_tasks m q (λ i k. h i (Memᴰ.tail k)))
