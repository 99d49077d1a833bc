-- Laws of the queue: its cells, the queue after a tick, and the queue with a new job.
-- Assumes nothing.
use Prim.Native.Nat.{ℕ, zero, suc, ◌-◌, ◌≤◌, ◌<◌}
use mathlib.Core.Path.{◌≡◌, refl, sym, ◌∙◌, ap, ap₂}
use mathlib.Core.Bool.{true, false}
use mathlib.Core.List.{List, [], ◌∷◌, ◌++◌, map}
use native.Mathlib.Omega.{arith}
use lib.ListN.{length, get_or, take, drop, set, replicate, length-map, get_or-map}
use lib.Seq.{ext_get_or, get_or-take, length-take-le}
use Rattle.meaning.specs.Lists.{insert_at}
use Rattle.meaning.specs.Machine.State as M
use Rattle.meaning.specs.Machine.State.{order}
use Rattle.meaning.specs.Machine.Tick.{older, served}
use Rattle.meaning.proofs.Lists.{length_insert_at}
use Rattle.machine.specs.Stands.{job_of, cell_of, task_of, queue_of, no_job, padded, cells_of}
use Rattle.machine.specs.ByCell.{older_cell, worked_cell}
use Rattle.machine.specs.Queues.{standing, Holds}
use Rattle.machine.specs.declared.Job.{Job}
use Rattle.machine.specs.declared.queue.Queue.{Queue}
use Rattle.machine.proofs.Arrays.{take_out, padded_length, padded_at, padded_snoc, padded_rep}

-- what an unused cell stands for
abbrev pub none_there : M.Job
none_there = job_of no_job

-- ---- the queue in its cells

-- the cells of what cells stand for
pub cells_back : (js : List Job) → js ≡ map cell_of (map job_of js)
cells_back [] = refl
cells_back (j ∷ js) = ap (λ (l : List Job). j ∷ l) (cells_back js)

pub queue_length : (js : List Job) (n : ℕ) → n ≤ length js → length (queue_of js n) ≡ n
queue_length js n l = length-map (take n js) job_of ∙ length-take-le n js l

pub queue_at : (js : List Job) (n k : ℕ) → k < n → get_or (queue_of js n) k none_there ≡ job_of (get_or js k no_job)
queue_at js n k h = get_or-map job_of (take n js) k no_job ∙ ap job_of (get_or-take n js k no_job h)

pub queue_out : (js : List Job) (n k : ℕ) → n ≤ k → get_or (queue_of js n) k none_there ≡ none_there
queue_out js n k h = get_or-map job_of (take n js) k no_job ∙ ap job_of (take_out n js k no_job h)

pub cells_at : (q : List M.Job) (k : ℕ) → get_or (map cell_of q) k no_job ≡ cell_of (get_or q k none_there)
cells_at q k = get_or-map cell_of q k none_there

-- the tasks of the queue
pub order_is : (js : List Job) (n : ℕ) → take n (map task_of js) ≡ order (queue_of js n)
order_is js zero = refl
order_is [] (suc n) = refl
order_is (j ∷ js) (suc n) = ap (λ (l : List ℕ). j.task ∷ l) (order_is js n)

-- ---- a queue back from its cells

pub queue_cells : (q : List M.Job) → length q ≤ 6 → queue_of (cells_of q) (length q) ≡ q
queue_cells q h =
    let l = padded_length no_job 6 (map cell_of q) in
    let e = queue_length (cells_of q) (length q) (omega arith) in
    ext_get_or none_there (queue_of (cells_of q) (length q)) q e
    (λ k b.
    let c : k < length q = omega arith in
    queue_at (cells_of q) (length q) k c ∙ ap job_of (padded_at no_job 6 (map cell_of q) k (omega arith) ∙ cells_at q k))

pub holds_back : (c : Queue) (q : List M.Job) → Holds c q → standing c ≡ q
holds_back c q h = ap₂ queue_of h.jobs h.count ∙ queue_cells q (let a = h.count in let b = c.few in omega arith)

-- ---- the queue after a tick

pub length_left : (q : List M.Job) → length q - 1 ≡ length (served true q)
length_left [] = omega arith
length_left (j ∷ q) = let e = length-map q older in omega arith

pub length_on : (q : List M.Job) → length q ≡ length (served false q)
length_on [] = refl
length_on (j ∷ q) = ap suc (sym (length-map q older))

-- its cells: all jobs are one older, and the head leaves, or has worked

cells_older : (js : List Job) → map older_cell js ≡ map cell_of (map older (map job_of js))
cells_older [] = refl
cells_older (j ∷ js) = ap (λ (l : List Job). older_cell j ∷ l) (cells_older js)

older_length : (js : List Job) (n : ℕ) → n ≤ length js → length (map older_cell (take n js)) ≡ n
older_length js n h = length-map (take n js) older_cell ∙ length-take-le n js h

pub served_left : (js : List Job) (n : ℕ) → n ≤ length js → n ≤ 6 → drop 1 (padded no_job 6 (map older_cell (take n js))) ++ no_job ∷ [] ≡ cells_of (served true (queue_of js n))
served_left js zero h b = refl
served_left [] (suc n) h b = absurd (omega arith)
served_left (j ∷ js) (suc n) h b =
    padded_snoc no_job 5 (map older_cell (take n js)) (let l = older_length js n (omega arith) in omega arith) ∙ ap (padded no_job 6) (cells_older (take n js))

pub served_none : (js r : List Job) (n : ℕ) → n ≤ 0 → r ≡ padded no_job 6 (map older_cell (take n js)) → r ≡ cells_of (served false (queue_of js n))
served_none js r zero h e = e
served_none js r (suc n) h e = absurd (omega arith)

pub served_on : (js r : List Job) (n : ℕ) → n ≤ length js → 0 < n → r ≡ padded no_job 6 (map older_cell (take n js))
    → set r 0 (worked_cell (get_or js 0 no_job)) ≡ cells_of (served false (queue_of js n))
served_on js r zero h b e = absurd (omega arith)
served_on [] r (suc n) h b e = absurd (omega arith)
served_on (j ∷ js) r (suc n) h b e = rw e (ap (λ (l : List Job). worked_cell j ∷ padded no_job 5 l) (cells_older (take n js)))

-- ---- the queue with a new job

map_insert : (js : List Job) (p : ℕ) (j : Job) → insert_at p j js ≡ map cell_of (insert_at p (job_of j) (map job_of js))
map_insert js zero j = ap (λ (l : List Job). j ∷ l) (cells_back js)
map_insert [] (suc p) j = refl
map_insert (x ∷ js) (suc p) j = ap (λ (l : List Job). x ∷ l) (map_insert js p j)

pub inserted_cells : (js r : List Job) (n p : ℕ) (j : Job) → n ≤ length js → n < 6 → r ≡ insert_at p j (take n js) ++ replicate (6 - suc n) no_job
    → r ≡ cells_of (insert_at p (job_of j) (queue_of js n))
inserted_cells js r n p j h b e =
    let l : length (insert_at p j (take n js)) ≡ suc n = length_insert_at p j (take n js) ∙ ap suc (length-take-le n js h) in
    e ∙ ap (λ (k : ℕ). insert_at p j (take n js) ++ replicate (6 - k) no_job) (sym l) ∙ sym (padded_rep no_job 6 (insert_at p j (take n js)) (omega arith))
    ∙ ap (padded no_job 6) (map_insert (take n js) p j)
