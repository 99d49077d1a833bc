-- What a state that may be lent says of its zone: the order of its queue, and the size of its bounds.
-- Assumes nothing.
use Prim.Native.Nat.{ℕ, zero, suc, ◌+◌, ◌≤◌, ◌<◌}
use mathlib.Core.Path.{◌≡◌, refl, sym, ◌∙◌, ap, subst}
use mathlib.Core.List.{List, [], ◌∷◌, map, Memᴰ}
use native.Mathlib.Omega.{arith}
use lib.IntN.{pos}
use lib.ListN.{length, get_or, take, length-map, get_or-map, get_or-eq_default}
use Rattle.std.proofs.lemmas.List.{length-take}
use Rattle.meaning.specs.Model.{Bound, Model, Task, task_at, no_task}
use Rattle.meaning.specs.Machine.State as M
use Rattle.meaning.specs.Zones.Zone.{exactly, clock_bounds, queue_bounds}
use Rattle.meaning.specs.Text.RightModel.{Each, RightTask, RightBound, RightModel}
use Rattle.meaning.proofs.Numbers.{over_neg, under_neg}
use Rattle.meaning.proofs.Lists.{mem_map_inv}
use Rattle.meaning.proofs.Text.Choices.{by_lt}
use Rattle.meaning.proofs.Text.Collects.{each_mem}
use Rattle.meaning.specs.Text.ModelTable.{clocks}
use Rattle.model_table.specs.Right.{RightTable}
use Rattle.model_table.proofs.PartLaws.{clocks_is}
use Rattle.home.specs.Stands.{RightHome}
use Rattle.machine.specs.Stands.{job_of, task_of, cell_of, queue_of, no_job, Lendable}
use Rattle.machine.specs.declared.State.{State}
use Rattle.machine.proofs.Arrays.{padded_length, padded_read}
use Rattle.machine.proofs.QueueLaws.{order_is}
use Rattle.zone.specs.ByCell.{SmallClocks, SmallJobs}

-- a right table has at most so many clocks
pub table_clocks : (t : List ℕ) → RightTable t → clocks t ≤ 4
table_clocks t g = omega (arith, clocks_is t g, g.right.clocks)

-- ---- lists

each_make : {A : Type 0} (P : A → Type 0) (l : List A) → ((a : A) → Memᴰ a l → P a) → Each P l
each_make P [] h = tt
each_make P (x ∷ l) h = (h x (Memᴰ.head refl), each_make P l (λ a m. h a (Memᴰ.tail m)))

each_take : (P : ℕ → Type 0) (n : ℕ) (l : List ℕ) → ((k : ℕ) → P (get_or l k 0)) → Each P (take n l)
each_take P zero l h = tt
each_take P (suc n) [] h = tt
each_take P (suc n) (x ∷ l) h = (h 0, each_take P n l (λ k. h (suc k)))

mem_get_d : {A : Type 0} (l : List A) (k : ℕ) (d : A) → k < length l → Memᴰ (get_or l k d) l
mem_get_d [] k d h = absurd (omega arith)
mem_get_d (x ∷ l) zero d h = Memᴰ.head refl
mem_get_d (x ∷ l) (suc k) d h = Memᴰ.tail (mem_get_d l k d (omega arith))

each_at : {A : Type 0} (P : A → Type 0) (l : List A) (k : ℕ) (d : A) → Each P l → k < length l → P (get_or l k d)
each_at P l k d e h = each_mem P l e (get_or l k d) (mem_get_d l k d h)

-- ---- tasks

task_small : (m : Model) → RightModel m → (t : ℕ) → ((task_at m t).C ≤ 10000) × ((task_at m t).D ≤ 10000)
task_small m r zero = (omega arith, omega arith)
task_small m r (suc k) =
    by_lt k (length m.tasks)
    (λ l. let w = each_at RightTask m.tasks k no_task r.tasks l in let a = w.enough in let b = w.high in (omega arith, omega arith))
    (λ l. rw (get_or-eq_default m.tasks no_task l) (omega arith, omega arith))

-- a job of a task that the model lacks is not proper
task_there : (m : Model) (t v : ℕ) → v < (task_at m t).C → (1 ≤ t) × (t ≤ length m.tasks)
task_there m zero v h = absurd (omega arith)
task_there m (suc k) v h =
    by_lt k (length m.tasks)
    (λ l. (omega arith, omega arith))
    (λ l. absurd (let z = ap (λ (x : Task). x.C) (get_or-eq_default m.tasks no_task l) in omega arith))

-- ---- the bounds of a state, each within its range

module _ (last : ℕ) where
  right_both : (i j v : ℕ) (bs : List Bound) → i ≤ last → j < i → v ≤ 32000 → Each (RightBound last 32000) bs → Each (RightBound last 32000) (exactly i j v bs)
  right_both i j v bs a b s r =
      let o = over_neg (pos v) in
      let u = under_neg (pos v) in (
        record { i = a; j = omega arith; two = λ e. omega arith; least = omega arith; most = s },
        (record { i = omega arith; j = a; two = λ e. omega arith; least = omega arith; most = omega arith }, r),
      )

  pub right_clocks : (n : ℕ) (cs : List ℕ) (bs : List Bound) → 1 ≤ n → n + length cs ≤ suc last → Each (λ (c : ℕ). c ≤ 32000) cs → Each (RightBound last 32000) bs
      → Each (RightBound last 32000) (clock_bounds n cs bs)
  right_clocks n [] bs a h s r = r
  right_clocks n (c ∷ cs) bs a h s r = right_both n 0 c (clock_bounds (suc n) cs bs) (omega arith) (omega arith) s.0 (right_clocks (suc n) cs bs (omega arith) (omega arith) s.1 r)

  pub right_queue : (a n : ℕ) (q : List M.Job) → a < n → n + (length q + length q) ≤ suc last → Each (λ (j : M.Job). (j.done ≤ 32000) × (j.age ≤ 32000)) q
      → Each (RightBound last 32000) (queue_bounds a n q)
  right_queue a n [] b h s = tt
  right_queue a n (j ∷ q) b h s =
      let r = right_queue n (suc (suc n)) q (omega arith) (omega arith) s.1 in
      right_both n a j.done (exactly (suc n) 0 j.age (queue_bounds n (suc (suc n)) q)) (omega arith) b s.0.0
      (right_both (suc n) 0 j.age (queue_bounds n (suc (suc n)) q) (omega arith) (omega arith) s.0.1 r)

-- ---- the queue

module _ (m : Model) (s : State) (l : Lendable m s) where
  pub jobs_cells : length s.jobs ≡ 6
  jobs_cells = ap (λ (x : State). length x.jobs) l.unused ∙ padded_length no_job 6 (map cell_of (queue_of s.jobs s.count))

  pub jobs_count : s.count ≡ length (queue_of s.jobs s.count)
  jobs_count = ap (λ (x : State). x.count) l.unused

  pub jobs_few : s.count ≤ 6
  jobs_few = omega (arith, jobs_cells, jobs_count, length-map (take s.count s.jobs) job_of, length-take s.count s.jobs)

  unused_job : (k : ℕ) → s.count ≤ k → get_or s.jobs k no_job ≡ no_job
  unused_job k h =
      let q = queue_of s.jobs s.count in
      let c = jobs_count in
      let f = jobs_few in
      let e = length-map q cell_of in
      ap (λ (x : State). get_or x.jobs k no_job) l.unused ∙ padded_read no_job 6 (map cell_of q) k (omega arith)
      ∙ get_or-eq_default (map cell_of q) no_job (omega arith)

  pub order_right : RightHome m (record { location = s.location; tasks = map task_of s.jobs; count = s.count })
  order_right =
      let q = queue_of s.jobs s.count in
      let e = order_is s.jobs s.count in
      let c = jobs_count in
      let f = jobs_few in
      let n = length-map q (λ (j : M.Job). j.task) in
      record {
        few = f;
        order = rw e (record {
          low = l.location_low;
          high = l.location_high;
          few = omega arith;
          tasks = each_make (λ (t : ℕ). (1 ≤ t) × (t ≤ length m.tasks)) (M.order q) (λ t w.
              let r = mem_map_inv (λ (j : M.Job). j.task) q w in
              subst (λ (u : ℕ). (1 ≤ u) × (u ≤ length m.tasks)) (sym r.2) (task_there m r.0.task r.0.done (l.proper.jobs r.0 r.1).done));
          fit = l.proper.fit;
        });
        unused = λ k h. get_or-map task_of s.jobs k no_job ∙ ap task_of (unused_job k h);
      }

  pub clocks_few : RightModel m → length (take m.clocks s.clocks) ≤ 4
  clocks_few r = omega (arith, l.proper.clocks, r.clocks)

  pub clocks_small : SmallClocks (take m.clocks s.clocks)
  clocks_small = record { each = λ k h. each_at (λ (c : ℕ). c ≤ 32000) (take m.clocks s.clocks) k 0 (each_take (λ (c : ℕ). c ≤ 32000) m.clocks s.clocks l.clocks) h }

  module _ (r : RightModel m) where
    job_small : (j : M.Job) → Memᴰ j (queue_of s.jobs s.count) → (j.done ≤ 32000) × (j.age ≤ 32000)
    job_small j w =
        let p = l.proper.jobs j w in
        let a = p.done in
        let b = p.age in
        let t = task_small m r j.task in
        (omega arith, omega arith)

    pub jobs_small : SmallJobs (take s.count s.jobs)
    jobs_small = record {
      each = λ k h.
          let js = take s.count s.jobs in
          let w = job_small (get_or (map job_of js) k (job_of no_job)) (mem_get_d (map job_of js) k (job_of no_job) (omega (arith, length-map js job_of))) in
          subst (λ (j : M.Job). (j.done ≤ 32000) × (j.age ≤ 32000)) (get_or-map job_of js k no_job) w;
    }

    pub bounds_right : (last : ℕ) → length (take m.clocks s.clocks) + (length (queue_of s.jobs s.count) + length (queue_of s.jobs s.count)) ≤ last
        → Each (RightBound last 32000) (clock_bounds 1 (take m.clocks s.clocks) (queue_bounds 0 (suc (length (take m.clocks s.clocks))) (queue_of s.jobs s.count)))
    bounds_right last h =
        let q = queue_of s.jobs s.count in
        right_clocks last 1 (take m.clocks s.clocks) (queue_bounds 0 (suc (length (take m.clocks s.clocks))) q) (omega arith) (omega arith)
        (each_take (λ (c : ℕ). c ≤ 32000) m.clocks s.clocks l.clocks)
        (right_queue last 0 (suc (length (take m.clocks s.clocks))) q (omega arith) (omega arith) (each_make (λ (j : M.Job). (j.done ≤ 32000) × (j.age ≤ 32000)) q job_small))
