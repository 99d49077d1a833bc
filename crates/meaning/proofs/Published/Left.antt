-- The plain machine's tick, edge and miss are 000's delay, action and error, on every proper state.
-- Assumes nothing.
use mathlib.Core.Path.{◌≡◌, refl, sym, ◌∙◌, ap, ap₂}
use mathlib.Core.Logic.{⊎_elim}
use mathlib.Core.Bool.{Bool, true, false, cond, ◌&&◌, ◌||◌}
use mathlib.Core.List.{List, [], ◌∷◌, map, Memᴰ}
use Prim.Native.Nat.{ℕ, zero, suc, ◌+◌, ◌-◌, ◌≤◌, ◌<◌}
use native.Mathlib.Omega.{arith}
use native.Mathlib.Decide.{ℕ_discrete}
use lib.Dec.{leb, ltb, eqb}
use borrow.Author.Tests.{leb-true, le-leb, lt-leb, lt-ltb, eq-eqb, ne_eqb}
use Rattle.meaning.specs.Lists.{insert_at, next}
use Rattle.meaning.specs.Model.{Policy, fps, edf, sjf, Task, Edge, Model, task_at, released}
use Rattle.meaning.specs.Machine.State.{Job, State, order}
use Rattle.meaning.specs.Machine.Place.{place, place_from, behind, beats_by, beats, place_of}
use Rattle.meaning.specs.Machine.Release.{new_job, put, put_all}
use Rattle.meaning.specs.Machine.Tick.{older, finishes, served, tick_to, is_late, late}
use Rattle.meaning.specs.Machine.Edge.{entered}
use Rattle.meaning.specs.Zones.Proper.{Proper}
use Rattle.meaning.specs.Published.Left.{Ready, ready_of, triple_of, works_one, elapsed, delay_one, higher_by, higher, fresh, tasks_of, release_into, release_all, action_to, is_error, first_error}
use Rattle.meaning.proofs.Lists.{mem_insert_at, map_insert_at}
use Rattle.meaning.proofs.Hooks.{finishes_is, goes_on, beats_is}
use Rattle.meaning.proofs.Tests.{leb_same}

abbrev mk_ready : ℕ → ℕ → ℕ → Ready
mk_ready t c d = record { task = t; work = c; time = d }

abbrev cons : {A : Type 0} → A → List A → List A
cons x l = x ∷ l

-- each job of the queue owes work
abbrev Owing : Model → List Job → Type 0
Owing m q = (j : Job) → Memᴰ j q → j.done < (task_at m j.task).C

-- each job of the queue is at most D old
abbrev Aged : Model → List Job → Type 0
Aged m q = (j : Job) → Memᴰ j q → j.age ≤ (task_at m j.task).D

-- ── a tick is a delay of one ───────────────────────────────────────────────────────────────────

older_elapsed : (m : Model) (q : List Job) → map (ready_of m) (map older q) ≡ map elapsed (map (ready_of m) q)
older_elapsed m [] = refl
older_elapsed m (j ∷ q) =
    let e : (task_at m j.task).D - suc j.age ≡ (task_at m j.task).D - j.age - 1 = omega arith in
    ap₂ cons (ap (mk_ready j.task ((task_at m j.task).C - j.done)) e) (older_elapsed m q)

served_works : (m : Model) (q : List Job) → map (ready_of m) (served (finishes m q) q) ≡ map elapsed (works_one (map (ready_of m) q))
served_works m [] = refl
served_works m (j ∷ q) = go (finishes m (j ∷ q)) refl
  where
    go : (b : Bool) → finishes m (j ∷ q) ≡ b → map (ready_of m) (served b (j ∷ q)) ≡ map elapsed (works_one (map (ready_of m) (j ∷ q)))
    go true e =
        let h = leb-true (task_at m j.task).C (suc j.done) (sym (finishes_is m j q) ∙ e) in
        let f : leb ((task_at m j.task).C - j.done) 1 ≡ true = le-leb ((task_at m j.task).C - j.done) 1 (omega arith) in
        rw f (older_elapsed m q)
    go false e =
        let h = goes_on m j q e in
        let f : leb ((task_at m j.task).C - j.done) 1 ≡ false = lt-leb ((task_at m j.task).C - j.done) 1 (omega arith) in
        let c : (task_at m j.task).C - suc j.done ≡ (task_at m j.task).C - j.done - 1 = omega arith in
        let d : (task_at m j.task).D - suc j.age ≡ (task_at m j.task).D - j.age - 1 = omega arith in
        rw f (ap₂ cons (ap₂ (mk_ready j.task) c d) (older_elapsed m q))

-- a tick is 000's delay of one time unit
pub tick_published : (m : Model) (s : State) → triple_of m (tick_to m s) ≡ delay_one (triple_of m s)
tick_published m s = ap (λ (q : List Ready). record { location = s.location; clocks = map suc s.clocks; queue = q }) (served_works m s.queue)

-- ── a miss is an error ─────────────────────────────────────────────────────────────────────────

late_error : (m : Model) (j : Job) → j.done < (task_at m j.task).C → j.age ≤ (task_at m j.task).D → is_late m j ≡ is_error (ready_of m j)
late_error m j w a = go (ℕ_discrete j.age (task_at m j.task).D)
  where
    some_work : ltb 0 ((task_at m j.task).C - j.done) ≡ true
    some_work = lt-ltb 0 ((task_at m j.task).C - j.done) (omega arith)

    go : Dec (j.age ≡ (task_at m j.task).D) → is_late m j ≡ is_error (ready_of m j)
    go (yes e) = eq-eqb j.age (task_at m j.task).D e
        ∙ sym (rw some_work (le-leb ((task_at m j.task).D - j.age) 0 (omega arith)))
    go (no e) = ne_eqb j.age (task_at m j.task).D e
        ∙ sym (rw some_work (lt-leb ((task_at m j.task).D - j.age) 0 (omega arith)))

first_error_lem : (m : Model) (q : List Job) → Owing m q → Aged m q → late m q ≡ first_error (map (ready_of m) q)
first_error_lem m [] w a = refl
first_error_lem m (j ∷ q) w a =
    ap₂ (λ (b : Bool) (k : ℕ). cond b 1 (next k)) (late_error m j (w j (Memᴰ.head refl)) (a j (Memᴰ.head refl)))
    (first_error_lem m q (λ i h. w i (Memᴰ.tail h)) (λ i h. a i (Memᴰ.tail h)))

older_owing : (m : Model) (q : List Job) → Owing m q → Owing m (map older q)
older_owing m [] w j x'' = elim x'' [ ]
older_owing m (x ∷ q) w j (Memᴰ.head e) = rw e (w x (Memᴰ.head refl))
older_owing m (x ∷ q) w j (Memᴰ.tail h) = older_owing m q (λ i g. w i (Memᴰ.tail g)) j h

-- a job below its deadline is at most D old a tick later
older_aged : (m : Model) (q : List Job) → ((j : Job) → Memᴰ j q → j.age < (task_at m j.task).D) → Aged m (map older q)
older_aged m [] a j x'' = elim x'' [ ]
older_aged m (x ∷ q) a j (Memᴰ.head e) = rw e (omega (arith, a x (Memᴰ.head refl)))
older_aged m (x ∷ q) a j (Memᴰ.tail h) = older_aged m q (λ i g. a i (Memᴰ.tail g)) j h

served_owing : (m : Model) (b : Bool) (q : List Job) → finishes m q ≡ b → Owing m q → Owing m (served b q)
served_owing m b [] e w j h = w j h
served_owing m true (x ∷ q) e w j h = older_owing m q (λ i g. w i (Memᴰ.tail g)) j h
served_owing m false (x ∷ q) e w j (Memᴰ.head f) = rw f (goes_on m x q e)
served_owing m false (x ∷ q) e w j (Memᴰ.tail h) = older_owing m q (λ i g. w i (Memᴰ.tail g)) j h

served_aged : (m : Model) (b : Bool) (q : List Job) → ((j : Job) → Memᴰ j q → j.age < (task_at m j.task).D) → Aged m (served b q)
served_aged m b [] a j h = let g = a j h in omega arith
served_aged m true (x ∷ q) a j h = older_aged m q (λ i g. a i (Memᴰ.tail g)) j h
served_aged m false (x ∷ q) a j (Memᴰ.head f) = rw f (omega (arith, a x (Memᴰ.head refl)))
served_aged m false (x ∷ q) a j (Memᴰ.tail h) = older_aged m q (λ i g. a i (Memᴰ.tail g)) j h

-- the miss of a tick from a proper state is the first position that is 000's error after the delay
pub miss_published : (m : Model) (s : State) → Proper m s → late m (tick_to m s).queue ≡ first_error (delay_one (triple_of m s)).queue
miss_published m s p =
    first_error_lem m (served (finishes m s.queue) s.queue)
    (served_owing m (finishes m s.queue) s.queue refl (λ j h. (p.jobs j h).done))
    (served_aged m (finishes m s.queue) s.queue (λ j h. (p.jobs j h).age))
    ∙ ap first_error (served_works m s.queue)

-- ── an edge is an action ───────────────────────────────────────────────────────────────────────

-- the two orders agree: D of the new job against D minus age of the queued one, C against C minus done
beats_higher : (p : Policy) (n : ℕ) (t u : Task) (j : Job) → j.age ≤ u.D
    → beats_by p n t u j ≡ higher_by p t u (mk_ready n t.C t.D) (mk_ready j.task (u.C - j.done) (u.D - j.age))
unfolding beats_by higher_by
beats_higher fps n t u j a = refl
beats_higher edf n t u j a = ap₂ (λ (x y : Bool). x || (y && ltb j.task n)) less same
  where
    less : ltb (t.D + j.age) u.D ≡ ltb t.D (u.D - j.age)
    less = leb_same (suc (t.D + j.age)) u.D (suc t.D) (u.D - j.age)
        (λ (h : suc (t.D + j.age) ≤ u.D). omega arith) (λ (h : suc t.D ≤ u.D - j.age). omega arith)

    same : eqb (t.D + j.age) u.D ≡ eqb t.D (u.D - j.age)
    same = go (ℕ_discrete (t.D + j.age) u.D)
      where
        go : Dec (t.D + j.age ≡ u.D) → eqb (t.D + j.age) u.D ≡ eqb t.D (u.D - j.age)
        go (yes e) = eq-eqb (t.D + j.age) u.D e ∙ sym (eq-eqb t.D (u.D - j.age) (omega arith))
        go (no e) = ne_eqb (t.D + j.age) u.D e ∙ sym (ne_eqb t.D (u.D - j.age) (λ f. e (omega arith)))
beats_higher sjf n t u j a =
    leb_same (suc (t.C + j.done)) u.C (suc t.C) (u.C - j.done)
    (λ (h : suc (t.C + j.done) ≤ u.C). omega arith) (λ (h : suc t.C ≤ u.C - j.done). omega arith)

pub place_same : {A B : Type 0} (f : A → B) (b : A → Bool) (c : B → Bool) (q : List A) → ((x : A) → Memᴰ x q → b x ≡ c (f x))
    → place b q ≡ place c (map f q)
place_same f b c [] h = refl
place_same f b c (x ∷ q) h =
    ap₂ (λ (y : Bool) (k : ℕ). cond y zero (suc k)) (h x (Memᴰ.head refl)) (place_same f b c q (λ y g. h y (Memᴰ.tail g)))

-- 01's and 02's rule of who beats whom is the order of what is left
pub beats_is_higher : (m : Model) (t : ℕ) (j : Job) → j.age ≤ (task_at m j.task).D → beats m t j ≡ higher m (fresh m t) (ready_of m j)
beats_is_higher m t j a = beats_is m t j ∙ beats_higher m.policy t (task_at m t) (task_at m j.task) j a

-- a new job has all of C and all of D left
pub fresh_is : (m : Model) (t : ℕ) → ready_of m (new_job t) ≡ fresh m t
fresh_is m t = ap₂ (mk_ready t) (omega arith) (omega arith)

place_from_same : {A B : Type 0} (f : A → B) (b : A → Bool) (c : B → Bool) (k : ℕ) (q : List A) → ((x : A) → Memᴰ x q → b x ≡ c (f x))
    → place_from k b q ≡ place_from k c (map f q)
place_from_same f b c zero q h = place_same f b c q h
place_from_same f b c (suc k) [] h = refl
place_from_same f b c (suc k) (x ∷ q) h = ap suc (place_from_same f b c k q (λ y g. h y (Memᴰ.tail g)))

ready_tasks : (m : Model) (q : List Job) → tasks_of (map (ready_of m) q) ≡ order q
ready_tasks m [] = refl
ready_tasks m (j ∷ q) = ap (λ (o : List ℕ). j.task ∷ o) (ready_tasks m q)

put_published : (m : Model) (t : ℕ) (q : List Job) → Aged m q → map (ready_of m) (put m t q) ≡ release_into m t (map (ready_of m) q)
put_published m t q a =
    map_insert_at (ready_of m) (place_of m t q) (new_job t) q
    ∙ ap₂ (λ (k : ℕ) (r : Ready). insert_at k r (map (ready_of m) q)) where_to (fresh_is m t)
  where
    where_to : place_of m t q ≡ place_from (behind m t (tasks_of (map (ready_of m) q))) (higher m (fresh m t)) (map (ready_of m) q)
    where_to =
        place_from_same (ready_of m) (beats m t) (higher m (fresh m t)) (behind m t (order q)) q (λ j h. beats_is_higher m t j (a j h))
        ∙ ap (λ (o : List ℕ). place_from (behind m t o) (higher m (fresh m t)) (map (ready_of m) q)) (sym (ready_tasks m q))

put_aged : (m : Model) (t : ℕ) (q : List Job) → Aged m q → Aged m (put m t q)
put_aged m t q a j h = ⊎_elim (λ (e : j ≡ new_job t). rw e (omega arith)) (λ g. a j g) (mem_insert_at (place_of m t q) q h)

put_all_published : (m : Model) (ts : List ℕ) (q : List Job) → Aged m q → map (ready_of m) (put_all m ts q) ≡ release_all m ts (map (ready_of m) q)
put_all_published m [] q a = refl
put_all_published m (t ∷ ts) q a = put_all_published m ts (put m t q) (put_aged m t q a) ∙ ap (release_all m ts) (put_published m t q a)

-- an edge from a proper state is 000's action
pub edge_published : (m : Model) (s : State) (e : Edge) → Proper m s → triple_of m (entered m s e) ≡ action_to m (triple_of m s) e
edge_published m s e p =
    ap (λ (q : List Ready). record { location = (entered m s e).location; clocks = (entered m s e).clocks; queue = q })
    (put_all_published m (released m e) s.queue (λ j h. let g = (p.jobs j h).age in omega arith))
