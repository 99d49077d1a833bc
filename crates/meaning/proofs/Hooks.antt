-- The laws of the shut definitions: who beats whom, the first allowed place, overflow, releases, leaves, target, guard, the head finishes.
-- All other proofs cite these laws and do not open the definitions, but for examples that compute; proofs/Releases.antt counts the places of what
-- is released. The laws `overflows_is`, `behind_is`, `released_is`, `released_at_start_is`, `leaves_at_is` and `target_is` open theirs: each is for the one
-- function of the code that asks it.
-- Assumes nothing.
use mathlib.Core.Path.{◌≡◌, refl, sym, ◌∙◌}
use mathlib.Core.Bool.{Bool, true, false, not, cond, ◌&&◌, ◌||◌}
use mathlib.Core.List.{List, [], ◌∷◌}
use mathlib.Core.Option.{some}
use Prim.Native.Nat.{ℕ, zero, suc, ◌+◌, ◌≤◌, ◌<◌}
use native.Mathlib.Omega.{arith}
use lib.Dec.{leb, ltb, eqb}
use lib.ListN.{length, get_or, drop}
use borrow.Author.Tests.{eqb-false, ne_eqb, leb-true, leb-false}
use Rattle.meaning.specs.Lists.{nth1, elem, count, insert_at, every}
use Rattle.meaning.specs.Model.{fps, edf, sjf, Task, Model, Edge, Location, no_location, task_at, location_at, releases, leaves_at, target, released, released_at_start}
use Rattle.meaning.specs.Machine.State.{Job, State}
use Rattle.meaning.specs.Machine.Place.{behind, beats, beats_by}
use Rattle.meaning.specs.Machine.Release.{overflows, overflows_any}
use Rattle.meaning.specs.Machine.Tick.{finishes}
use Rattle.meaning.specs.Machine.Edge.{bound_test, guard_test}
use Rattle.meaning.specs.Zones.Proper.{fits}
use Rattle.meaning.specs.Text.Ranges.{queue_most, releases_most}
use Rattle.meaning.specs.Text.RightModel.{Each, RightLocation, RightModel}
use Rattle.meaning.proofs.Tests.{and_left, and_right, and_both, or_left, or_right, not_of_false, false_of_not, never}
use Rattle.meaning.proofs.Lists.{elem_insert_at, mem_elem, elem_count}
use Rattle.meaning.proofs.Distinct.{Distinct, crowd}
use Rattle.meaning.proofs.Text.Collects.{each_mem}

-- ── who beats whom ─────────────────────────────────────────────────────────────────────────────

-- the model's policy decides, from the two tasks' numbers and data and the queued job
pub beats_is : (m : Model) (n : ℕ) (j : Job) → beats m n j ≡ beats_by m.policy n (task_at m n) (task_at m j.task) j
unfolding beats
beats_is m n j = refl

-- "FPS: larger priority beats"
pub beats_by_fps : (n : ℕ) (t u : Task) (j : Job) → beats_by fps n t u j ≡ ltb u.prio t.prio
unfolding beats_by
beats_by_fps n t u j = refl

-- "EDF: fewer ticks left to the deadline (D minus age) beats; at equality the larger task number beats"
pub beats_by_edf : (n : ℕ) (t u : Task) (j : Job) → beats_by edf n t u j ≡ (ltb (t.D + j.age) u.D || (eqb (t.D + j.age) u.D && ltb j.task n))
unfolding beats_by
beats_by_edf n t u j = refl

-- M-100: "its computing time is less than what the queued job still owes, which is C minus done"
pub beats_by_sjf : (n : ℕ) (t u : Task) (j : Job) → beats_by sjf n t u j ≡ ltb (t.C + j.done) u.C
unfolding beats_by
beats_by_sjf n t u j = refl

-- ── what overflows ─────────────────────────────────────────────────────────────────────────────

-- a task overflows a queue in which it stands; for the one function of the code that asks it
pub overflows_is : (m : Model) (t : ℕ) (o : List ℕ) → overflows m t o ≡ elem t o
unfolding overflows
overflows_is m t o = refl

-- the same from how often it stands there
pub overflows_count : (m : Model) (t : ℕ) (o : List ℕ) → overflows m t o ≡ ltb 0 (count (eqb t) o)
overflows_count m t o = overflows_is m t o ∙ elem_count t o

-- ── the first allowed place ────────────────────────────────────────────────────────────────────

-- every place of the queue is allowed; for the one function of the code that asks it
pub behind_is : (m : Model) (t : ℕ) (o : List ℕ) → behind m t o ≡ 0
unfolding behind
behind_is m t o = refl

-- it is a place of the queue
pub behind_le : (m : Model) (t : ℕ) (o : List ℕ) → behind m t o ≤ length o
unfolding behind
behind_le m t o = omega arith

-- a task that isn't queued may go to every place
pub behind_none : (m : Model) (t : ℕ) (o : List ℕ) → elem t o ≡ false → behind m t o ≡ 0
unfolding behind
behind_none m t o e = refl

-- each job that it stays behind is of its task, or in front of one that is
pub behind_own : (m : Model) (t : ℕ) (o : List ℕ) (k : ℕ) → k < behind m t o → elem t (drop k o) ≡ true
unfolding behind
behind_own m t o k h = absurd (omega arith)

-- no job of its task is behind a new job that may come
pub behind_last : (m : Model) (t : ℕ) (o : List ℕ) → overflows m t o ≡ false → (k : ℕ) → behind m t o ≤ k → elem t (drop k o) ≡ false
behind_last m t o free k h = past o k (sym (overflows_is m t o) ∙ free)
  where
    past : (l : List ℕ) (i : ℕ) → elem t l ≡ false → elem t (drop i l) ≡ false
    past l zero e = e
    past [] (suc i) e = e
    past (x ∷ l) (suc i) e = past l i (or_right (eqb t x) (elem t l) e)

-- ── overflow ───────────────────────────────────────────────────────────────────────────────────

-- a queue with fewer tasks takes what a queue with more tasks takes
pub overflows_tail : (m : Model) (t x : ℕ) (o : List ℕ) → overflows m t (x ∷ o) ≡ false → overflows m t o ≡ false
unfolding overflows
overflows_tail m t x o h = or_right (eqb t x) (elem t o) h

-- it does not look at the order
pub overflows_insert_at : (m : Model) (u k t : ℕ) (o : List ℕ) → overflows m u (insert_at k t o) ≡ overflows m u (t ∷ o)
unfolding overflows
overflows_insert_at m u k t o = elem_insert_at u k t o

-- if t may come where x stands already, then x may come where t stands already
pub overflows_swap : (m : Model) (t x : ℕ) (o : List ℕ) → overflows m t (x ∷ o) ≡ false → overflows m x o ≡ false → overflows m x (t ∷ o) ≡ false
unfolding overflows
overflows_swap m t x o h g = simp (ne_eqb x t (λ (e : x ≡ t). eqb-false t x (or_left (eqb t x) (elem t o) h) (sym e)), g)

-- a task may come to an empty queue
pub overflows_nothing : (m : Model) (t : ℕ) → overflows m t [] ≡ false
unfolding overflows
overflows_nothing m t = refl

-- the start does not overflow
pub start_fits : (m : Model) → overflows_any m (released_at_start m) [] ≡ false
unfolding released_at_start overflows
start_fits m = go (eqb (location_at m 1).task 0)
  where
    go : (b : Bool) → overflows_any m (cond b [] ((location_at m 1).task ∷ [])) [] ≡ false
    go true = refl
    go false = refl

-- ── room ───────────────────────────────────────────────────────────────────────────────────────

-- the tasks are of the model
abbrev pub OfModel : Model → List ℕ → Type 0
OfModel m o = Each (λ (t : ℕ). (1 ≤ t) × (t ≤ length m.tasks)) o

-- no task stands twice in a queue that fits
fits_distinct : (m : Model) (o : List ℕ) → fits m o ≡ true → Distinct o
fits_distinct m [] e = tt
fits_distinct m (t ∷ o) e =
    let free = false_of_not (overflows m t o) (and_left (not (overflows m t o)) (fits m o) e) in
    (λ h. never (mem_elem t o h) (sym (overflows_is m t o) ∙ free), fits_distinct m o (and_right (not (overflows m t o)) (fits m o) e))

module _ (m : Model) (few : length m.tasks ≤ queue_most) where
  -- a queue that a task may come to has room for it
  pub overflows_room : (t : ℕ) (o : List ℕ) → fits m o ≡ true → OfModel m o → 1 ≤ t → t ≤ length m.tasks → overflows m t o ≡ false → length o < queue_most
  overflows_room t o fit os low high free =
      let many = crowd (length m.tasks) (t ∷ o) (λ h. never (mem_elem t o h) (sym (overflows_is m t o) ∙ free), fits_distinct m o fit)
      (each_mem (λ (u : ℕ). (1 ≤ u) × (u ≤ length m.tasks)) (t ∷ o) ((low, high), os)) in
      omega arith

  -- a queue that fits has room for itself
  pub fits_room : (o : List ℕ) → fits m o ≡ true → OfModel m o → length o ≤ queue_most
  fits_room [] fit os = omega arith
  fits_room (t ∷ o) fit os =
      let less =
      overflows_room t o (and_right (not (overflows m t o)) (fits m o) fit) os.1 os.0.0 os.0.1
      (false_of_not (overflows m t o) (and_left (not (overflows m t o)) (fits m o) fit)) in
      omega arith

  -- and for all tasks that may come, one after the other
  pub releases_room : (ts o : List ℕ) → fits m o ≡ true → OfModel m o → OfModel m ts → overflows_any m ts o ≡ false → length o + length ts ≤ queue_most
  releases_room [] o fit os rs free = omega (arith, fits_room o fit os)
  releases_room (t ∷ ts) o fit os rs free =
      let here = or_left (overflows m t o) (overflows_any m ts (t ∷ o)) free in
      let more =
      releases_room ts (t ∷ o) (and_both (not (overflows m t o)) (fits m o) (not_of_false here) fit) (rs.0, os) rs.1
      (or_right (overflows m t o) (overflows_any m ts (t ∷ o)) free) in
      omega arith

-- ── releases ───────────────────────────────────────────────────────────────────────────────────

-- for the one function of the code that asks it
pub released_is : (m : Model) (e : Edge) → released m e ≡ releases (location_at m e.to)
unfolding released
released_is m e = refl

-- for the one function of the code that asks it
pub released_at_start_is : (m : Model) → released_at_start m ≡ releases (location_at m 1)
unfolding released_at_start
released_at_start_is m = refl

releases_few : (l : Location) → length (releases l) ≤ releases_most
releases_few l = go (eqb l.task 0)
  where
    go : (b : Bool) → length (cond b [] (l.task ∷ [])) ≤ releases_most
    go true = omega arith
    go false = omega arith

-- there is room for what an edge releases
pub released_few : (m : Model) (e : Edge) → length (released m e) ≤ releases_most
unfolding released
released_few m e = releases_few (location_at m e.to)

-- and for what the start releases
pub start_few : (m : Model) → length (released_at_start m) ≤ releases_most
unfolding released_at_start
start_few m = releases_few (location_at m 1)

module _ (m : Model) (w : RightModel m) where
  location_task : (l : ℕ) → (location_at m l).task ≤ length m.tasks
  location_task zero = omega arith
  location_task (suc l) = go m.locations w.locations l
    where
      go : (xs : List Location) → Each (RightLocation m.clocks (length m.tasks)) xs → (k : ℕ) → (get_or xs k no_location).task ≤ length m.tasks
      go [] h k = omega arith
      go (x ∷ xs) h zero = h.0.task
      go (x ∷ xs) h (suc k) = go xs h.1 k

  releases_tasks : (l : ℕ) → OfModel m (releases (location_at m l))
  releases_tasks l = go (eqb (location_at m l).task 0) refl
    where
      go : (b : Bool) → eqb (location_at m l).task 0 ≡ b → OfModel m (cond b [] ((location_at m l).task ∷ []))
      go true e = tt
      go false e =
          let some : (location_at m l).task ≡ 0 → ⊥ = eqb-false (location_at m l).task 0 e in
          ((omega arith, location_task l), tt)

  -- what an edge of the model releases is of the model
  pub released_tasks : (k : ℕ) (e : Edge) → nth1 m.edges k ≡ some e → OfModel m (released m e)
  unfolding released
  released_tasks k e h = releases_tasks e.to

  -- what the start releases is of the model
  pub start_tasks : OfModel m (released_at_start m)
  unfolding released_at_start
  start_tasks = releases_tasks 1

-- ── leaves, target ─────────────────────────────────────────────────────────────────────────────

-- for the one function of the code that asks it
pub leaves_at_is : (e : Edge) (l : ℕ) → leaves_at e l ≡ eqb e.from l
unfolding leaves_at
leaves_at_is e l = refl

-- for the one function of the code that asks it
pub target_is : (e : Edge) (l : ℕ) → target e l ≡ e.to
unfolding target
target_is e l = refl

-- ── the guard ──────────────────────────────────────────────────────────────────────────────────

pub guard_test_is : (m : Model) (s : State) (e : Edge) → guard_test m s e ≡ every (bound_test s.clocks) e.guard
unfolding guard_test
guard_test_is m s e = refl

-- ── the head finishes ──────────────────────────────────────────────────────────────────────────

pub finishes_none : (m : Model) → finishes m [] ≡ false
unfolding finishes
finishes_none m = refl

pub finishes_is : (m : Model) (j : Job) (js : List Job) → finishes m (j ∷ js) ≡ leb (task_at m j.task).C (suc j.done)
unfolding finishes
finishes_is m j js = refl

-- a head that goes on still owes work
pub goes_on : (m : Model) (j : Job) (js : List Job) → finishes m (j ∷ js) ≡ false → suc j.done < (task_at m j.task).C
goes_on m j js e = leb-false (task_at m j.task).C (suc j.done) (sym (finishes_is m j js) ∙ e)

-- a proper head that finishes has done C
pub finishes_at : (m : Model) (j : Job) (js : List Job) → j.done < (task_at m j.task).C → finishes m (j ∷ js) ≡ true → suc j.done ≡ (task_at m j.task).C
finishes_at m j js p e = let h = leb-true (task_at m j.task).C (suc j.done) (sym (finishes_is m j js) ∙ e) in omega arith
