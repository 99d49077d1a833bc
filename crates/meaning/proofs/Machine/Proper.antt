-- A step without a miss and without an overflow takes a proper state to a proper state.
-- Assumes nothing.
use mathlib.Core.Path.{◌≡◌, refl, sym, ◌∙◌, ap, ap₂, subst}
use mathlib.Core.Logic.{⊎_elim}
use mathlib.Core.Bool.{Bool, true, false, not, cond, ◌||◌, true≢false}
use mathlib.Core.List.Memᴰ
use mathlib.Core.List.{List, [], ◌∷◌, map, Memᴰ}
use mathlib.Core.Option.{Option, none, some}
use Prim.Native.Nat.{ℕ, zero, suc, ◌≤◌, ◌<◌}
use native.Mathlib.Omega.{arith}
use lib.ListN.{length, get_or, length-map, length-set, length-replicate}
use borrow.Author.Tests.{eqb-false}
use Rattle.meaning.specs.Lists.{nth1, set1, insert_at}
use Rattle.meaning.specs.Model.{Task, Edge, Model, no_task, task_at, released, released_at_start}
use Rattle.meaning.specs.Machine.State.{Job, State, order}
use Rattle.meaning.specs.Machine.Place.{place_of}
use Rattle.meaning.specs.Machine.Release.{overflows, overflows_any, new_job, put, put_all}
use Rattle.meaning.specs.Machine.Tick.{older, worked, finishes, served, tick_to, is_late, late}
use Rattle.meaning.specs.Machine.Edge.{reset_all, entered}
use Rattle.meaning.specs.Machine.Step.{Event, tick, edge, went, overflow, judged, moved_by, act}
use Rattle.meaning.specs.Machine.Run.{start}
use Rattle.meaning.specs.Zones.Proper.{ProperJob, fits, Proper}
use Rattle.meaning.specs.Text.RightModel.{Each, RightTask, RightModel}
use Rattle.meaning.proofs.Tests.{and_left, and_right, and_both, or_left, or_right, not_of_false, false_of_not}
use Rattle.meaning.proofs.Lists.{mem_map_inv, mem_insert_at, first_none}
use Rattle.meaning.proofs.Hooks.{overflows_tail, overflows_insert_at, overflows_swap, start_fits, OfModel, released_tasks, start_tasks, goes_on}
use Rattle.meaning.proofs.Text.Collects.{each_mem}
use Rattle.meaning.proofs.Machine.Place.{order_put}

-- ── a tick ─────────────────────────────────────────────────────────────────────────────────────

pub order_older : (q : List Job) → order (map older q) ≡ order q
order_older [] = refl
order_older (j ∷ js) = ap (λ (o : List ℕ). j.task ∷ o) (order_older js)

fit_served : (m : Model) (b : Bool) (q : List Job) → fits m (order q) ≡ true → fits m (order (served b q)) ≡ true
fit_served m b [] h = h
fit_served m true (j ∷ js) h = rw (order_older js) (and_right (not (overflows m j.task (order js))) (fits m (order js)) h)
fit_served m false (j ∷ js) h = rw (order_older js) h

older_proper : (m : Model) (j : Job) → ProperJob m j → is_late m (older j) ≡ false → ProperJob m (older j)
older_proper m j p h = record { done = p.done; age = omega (arith, p.age, eqb-false (suc j.age) (task_at m j.task).D h) }

worked_proper : (m : Model) (j : Job) (js : List Job) → ProperJob m j → finishes m (j ∷ js) ≡ false → is_late m (worked j) ≡ false → ProperJob m (worked j)
worked_proper m j js p f h = record {
  done = goes_on m j js f;
  age = omega (arith, p.age, eqb-false (suc j.age) (task_at m j.task).D h);
}

-- the job moved along an equation
cast_proper : (m : Model) {i j : Job} → i ≡ j → ProperJob m j → ProperJob m i
cast_proper m e p = subst (λ (x : Job). ProperJob m x) (sym e) p

jobs_older : (m : Model) (q : List Job) → ((j : Job) → Memᴰ j q → ProperJob m j)
    → ((j : Job) → Memᴰ j (map older q) → is_late m j ≡ false) → (j : Job) → Memᴰ j (map older q) → ProperJob m j
jobs_older m q ok h j w =
    let r = mem_map_inv older q w in
    cast_proper m r.2 (older_proper m r.0 (ok r.0 r.1) (rw r.2 at (h j w)))

jobs_served : (m : Model) (b : Bool) (q : List Job) → finishes m q ≡ b → ((j : Job) → Memᴰ j q → ProperJob m j)
    → ((j : Job) → Memᴰ j (served b q) → is_late m j ≡ false) → (j : Job) → Memᴰ j (served b q) → ProperJob m j
jobs_served m b [] e ok h j w = ok j w
jobs_served m true (x ∷ q) e ok h j w = jobs_older m q (λ i v. ok i (Memᴰ.tail v)) h j w
jobs_served m false (x ∷ q) e ok h j w =
    ⊎_elim
    (λ (r : j ≡ worked x). cast_proper m r (worked_proper m x q (ok x (Memᴰ.head refl)) e (h (worked x) (Memᴰ.head refl))))
    (λ (v : Memᴰ j (map older q)). jobs_older m q (λ i u. ok i (Memᴰ.tail u)) (λ i u. h i (Memᴰ.tail u)) j v)
    (Memᴰ.cases_cons w)

-- a tick without a miss
pub tick_proper : (m : Model) (s : State) → Proper m s → late m (tick_to m s).queue ≡ 0 → Proper m (tick_to m s)
tick_proper m s p e = record {
  clocks = length-map s.clocks suc ∙ p.clocks;
  jobs = jobs_served m (finishes m s.queue) s.queue refl p.jobs (first_none (is_late m) (served (finishes m s.queue) s.queue) e);
  fit = fit_served m (finishes m s.queue) s.queue p.fit;
}

-- ── an edge ────────────────────────────────────────────────────────────────────────────────────

length_set1 : (l : List ℕ) (k v : ℕ) → length (set1 l k v) ≡ length l
length_set1 l zero v = refl
length_set1 l (suc k) v = length-set l k v

pub length_reset_all : (rs cs : List ℕ) → length (reset_all rs cs) ≡ length cs
length_reset_all [] cs = refl
length_reset_all (r ∷ rs) cs = length_reset_all rs (set1 cs r 0) ∙ length_set1 cs r 0

-- a task that can be released: it has time
pub record Timed (m : Model) (t : ℕ) : Type 0 where
  pub some_work : 0 < (task_at m t).C
  pub some_time : 0 < (task_at m t).D

-- what the reader of a model's text makes sure of: each task that an edge of the model or the start releases has time
pub record WellFormed (m : Model) : Type 0 where
  pub timed : (k : ℕ) (e : Edge) → nth1 m.edges k ≡ some e → (t : ℕ) → Memᴰ t (released m e) → Timed m t
  pub timed_start : (t : ℕ) → Memᴰ t (released_at_start m) → Timed m t

-- a right model is so
module _ (m : Model) (w : RightModel m) where
  timed_at : (xs : List Task) → Each RightTask xs → (k : ℕ) → k < length xs → RightTask (get_or xs k no_task)
  timed_at [] h k l = absurd (omega arith)
  timed_at (x ∷ xs) h zero l = h.0
  timed_at (x ∷ xs) h (suc k) l = timed_at xs h.1 k (omega arith)

  task_timed : (t : ℕ) → (1 ≤ t) × (t ≤ length m.tasks) → Timed m t
  task_timed zero h = absurd (omega arith)
  task_timed (suc k) h =
      let r = timed_at m.tasks w.tasks k (omega arith) in
      record { some_work = r.low; some_time = omega (arith, r.low, r.enough) }

  tasks_timed : (ts : List ℕ) → OfModel m ts → (t : ℕ) → Memᴰ t ts → Timed m t
  tasks_timed ts h t g = task_timed t (each_mem (λ (u : ℕ). (1 ≤ u) × (u ≤ length m.tasks)) ts h t g)

  pub right_formed : WellFormed m
  right_formed = record {
    timed = λ k e h. tasks_timed (released m e) (released_tasks m w k e h);
    timed_start = tasks_timed (released_at_start m) (start_tasks m w);
  }

-- a queue that fits takes a task that may come, wherever it goes
pub fits_insert_at : (m : Model) (k t : ℕ) (o : List ℕ) → fits m o ≡ true → overflows m t o ≡ false → fits m (insert_at k t o) ≡ true
fits_insert_at m zero t o f h = and_both (not (overflows m t o)) (fits m o) (not_of_false h) f
fits_insert_at m (suc k) t [] f h = and_both (not (overflows m t [])) true (not_of_false h) refl
fits_insert_at m (suc k) t (x ∷ o) f h =
    and_both (not (overflows m x (insert_at k t o))) (fits m (insert_at k t o))
    (not_of_false (overflows_insert_at m x k t o ∙ overflows_swap m t x o h (false_of_not (overflows m x o) (and_left (not (overflows m x o)) (fits m o) f))))
    (fits_insert_at m k t o (and_right (not (overflows m x o)) (fits m o) f) (overflows_tail m t x o h))

-- and only so
fits_out : (m : Model) (k t : ℕ) (o : List ℕ) → fits m (insert_at k t o) ≡ true → (overflows m t o ≡ false) × (fits m o ≡ true)
fits_out m zero t o f = (false_of_not (overflows m t o) (and_left (not (overflows m t o)) (fits m o) f), and_right (not (overflows m t o)) (fits m o) f)
fits_out m (suc k) t [] f = (false_of_not (overflows m t []) (and_left (not (overflows m t [])) true f), refl)
fits_out m (suc k) t (x ∷ o) f =
    let r = fits_out m k t o (and_right (not (overflows m x (insert_at k t o))) (fits m (insert_at k t o)) f) in
    let e =
    sym (overflows_insert_at m x k t o) ∙ false_of_not (overflows m x (insert_at k t o)) (and_left (not (overflows m x (insert_at k t o))) (fits m (insert_at k t o)) f) in
    (overflows_swap m x t o e r.0, and_both (not (overflows m x o)) (fits m o) (not_of_false (overflows_tail m x t o e)) r.1)

-- whether a queue's tasks fit does not hang on their order
pub fits_order : (m : Model) (k t : ℕ) (o : List ℕ) → fits m (insert_at k t o) ≡ fits m (t ∷ o)
fits_order m k t o = go (fits m (insert_at k t o)) (fits m (t ∷ o)) refl refl
  where
    there : fits m (insert_at k t o) ≡ true → fits m (t ∷ o) ≡ true
    there f = let r = fits_out m k t o f in and_both (not (overflows m t o)) (fits m o) (not_of_false r.0) r.1

    back : fits m (t ∷ o) ≡ true → fits m (insert_at k t o) ≡ true
    back f = let r = fits_out m 0 t o f in fits_insert_at m k t o r.1 r.0

    go : (a b : Bool) → fits m (insert_at k t o) ≡ a → fits m (t ∷ o) ≡ b → fits m (insert_at k t o) ≡ fits m (t ∷ o)
    go true b e f = e ∙ sym (there e)
    go false true e f = absurd (true≢false (sym (back f) ∙ e))
    go false false e f = e ∙ sym f

record QueueProper (m : Model) (q : List Job) : Type 0 where
  jobs : (j : Job) → Memᴰ j q → ProperJob m j
  fit : fits m (order q) ≡ true

put_proper : (m : Model) (t : ℕ) (q : List Job) → Timed m t → overflows m t (order q) ≡ false → QueueProper m q → QueueProper m (put m t q)
put_proper m t q w e p = record {
  jobs = λ j h. ⊎_elim (λ (r : j ≡ new_job t). cast_proper m r (record { done = w.some_work; age = w.some_time })) (λ v. p.jobs j v) (mem_insert_at (place_of m t q) q h);
  fit = ap (fits m) (order_put m t q) ∙ fits_insert_at m (place_of m t q) t (order q) p.fit e;
}

pub overflows_any_insert_at : (m : Model) (ts : List ℕ) (k t : ℕ) (o : List ℕ) → overflows_any m ts (insert_at k t o) ≡ overflows_any m ts (t ∷ o)
overflows_any_insert_at m [] k t o = refl
overflows_any_insert_at m (u ∷ ts) k t o =
    ap₂ (λ (a b : Bool). a || b) (overflows_insert_at m u k t o)
    (overflows_any_insert_at m ts (suc k) t (u ∷ o) ∙ sym (overflows_any_insert_at m ts 1 t (u ∷ o)))

put_all_proper : (m : Model) (ts : List ℕ) (q : List Job) → ((t : ℕ) → Memᴰ t ts → Timed m t) → overflows_any m ts (order q) ≡ false
    → QueueProper m q → QueueProper m (put_all m ts q)
put_all_proper m [] q w e p = p
put_all_proper m (t ∷ ts) q w e p =
    put_all_proper m ts (put m t q) (λ u h. w u (Memᴰ.tail h))
    (ap (overflows_any m ts) (order_put m t q) ∙ overflows_any_insert_at m ts (place_of m t q) t (order q)
    ∙ or_right (overflows m t (order q)) (overflows_any m ts (t ∷ order q)) e)
    (put_proper m t q (w t (Memᴰ.head refl)) (or_left (overflows m t (order q)) (overflows_any m ts (t ∷ order q)) e) p)

-- an edge without an overflow
pub edge_proper : (m : Model) (s : State) (d : Edge) → ((t : ℕ) → Memᴰ t (released m d) → Timed m t)
    → overflows_any m (released m d) (order s.queue) ≡ false → Proper m s → Proper m (entered m s d)
edge_proper m s d w e p =
    let r = put_all_proper m (released m d) s.queue w e (record { jobs = p.jobs; fit = p.fit }) in
    record { clocks = length_reset_all d.resets s.clocks ∙ p.clocks; jobs = r.jobs; fit = r.fit }

-- the start
pub start_proper : (m : Model) → WellFormed m → Proper m (start m)
start_proper m w =
    let r = put_all_proper m (released_at_start m) [] w.timed_start (start_fits m) (record { jobs = λ j h. absurd (Memᴰ.not-nil h); fit = refl }) in
    record { clocks = length-replicate m.clocks 0; jobs = r.jobs; fit = r.fit }

-- ── any step ───────────────────────────────────────────────────────────────────────────────────

went_proper_tick : (m : Model) (s t : State) → Proper m s → act m s tick ≡ went t → Proper m t
went_proper_tick m s t p e = go (late m (tick_to m s).queue) refl e
  where
    go : (k : ℕ) → late m (tick_to m s).queue ≡ k → judged (tick_to m s) k ≡ went t → Proper m t
    go zero q h = let r : tick_to m s ≡ t = cc in subst (Proper m) r (tick_proper m s p q)
    go (suc k) q h = absurd (let z : ◌≡◌ {A = ℕ} 0 1 = cc in omega arith)

went_proper_edge : (m : Model) → WellFormed m → (s t : State) (k : ℕ) (x : Option Edge) → nth1 m.edges k ≡ x → Proper m s → moved_by m s x ≡ went t → Proper m t
went_proper_edge m w s t k none at p e = absurd (let z : ◌≡◌ {A = ℕ} 0 1 = cc in omega arith)
went_proper_edge m w s t k (some d) at p e = go (overflows_any m (released m d) (order s.queue)) refl e
  where
    go : (b : Bool) → overflows_any m (released m d) (order s.queue) ≡ b → cond b overflow (went (entered m s d)) ≡ went t → Proper m t
    go true q h = absurd (let z : ◌≡◌ {A = ℕ} 0 1 = cc in omega arith)
    go false q h = let r : entered m s d ≡ t = cc in subst (Proper m) r (edge_proper m s d (w.timed k d at) q p)

-- a step that is neither a miss nor an overflow keeps a state proper, so only written bounds are left to compare
pub went_proper : (m : Model) → WellFormed m → (s t : State) (ev : Event) → Proper m s → act m s ev ≡ went t → Proper m t
went_proper m w s t tick p e = went_proper_tick m s t p e
went_proper m w s t (edge k) p e = went_proper_edge m w s t k (nth1 m.edges k) refl p e
