-- Insertion agrees with 000's sorting on queues that stand in order, and every run's queue stands in order.
-- Assumes nothing.
use mathlib.Core.Path.{◌≡◌, refl, sym, ◌∙◌, ap, subst, fun_ext}
use mathlib.Core.Logic.{◌⊎◌, inl, inr, ⊎_elim, ◌↔◌}
use mathlib.Core.Bool.{Bool, true, false, ◌&&◌, ◌||◌}
use mathlib.Core.List.Memᴰ
use mathlib.Core.List.{List, [], ◌∷◌, map, Memᴰ}
use mathlib.Core.Option.{some}
use Prim.Native.Nat.{ℕ, zero, suc, ◌+◌, ◌≤◌, ◌<◌}
use native.Mathlib.Omega.{arith}
use native.Mathlib.Decide.{ℕ_discrete}
use lib.Dec.{leb, ltb, eqb}
use lib.ListN.{length, get_elem?, drop}
use borrow.Author.Tests.{leb-true, le-leb, ltb-true, ltb-false, eqb-true, lt-ltb, le-ltb, eq-eqb, ne_eqb}
use Rattle.meaning.specs.Lists.{elem, insert_at}
use Rattle.meaning.specs.Model.{Policy, fps, edf, sjf, Task, Model, task_at, released, released_at_start}
use Rattle.meaning.specs.Machine.State.{Job, State, order}
use Rattle.meaning.specs.Machine.Place.{beats_by, beats, behind, place, place_of}
use Rattle.meaning.specs.Machine.Release.{overflows, new_job, put}
use Rattle.meaning.specs.Machine.Tick.{older, worked, served}
use Rattle.meaning.specs.Machine.Run.{Run}
use Rattle.meaning.specs.Published.Order.{InOrder, ahead_by, ahead, elder, leads, stays, same_job, Stands, Settled, IsSch, TaskOf, TasksOf, Annotated, RankedBy, Ranked}
use Rattle.meaning.specs.Text.RightModel.{RightModel}
use Rattle.meaning.proofs.Tests.{and_left, and_right, or_left, or_right, never, not_of_false, false_of_not}
use Rattle.meaning.proofs.Lists.{mem_map, mem_map_inv, mem_insert_at, elem_mem, count_insert_at}
use Rattle.meaning.proofs.Distinct.{Distinct}
use Rattle.meaning.proofs.Hooks.{beats_is, behind_own, OfModel, released_tasks, start_tasks}
use Rattle.meaning.proofs.Text.Collects.{each_mem}
use Rattle.meaning.proofs.Machine.Place.{place_from_place}
use Rattle.meaning.proofs.Machine.Runs.{run_keeps}
use Rattle.meaning.proofs.Published.Sorted.{counted, map_in_order, in_order_map, insert_in_order, in_order_one}

-- ── first by one number, at equality by another ────────────────────────────────────────────────

abbrev lex : ℕ → ℕ → ℕ → ℕ → Bool
lex a b c d = ltb a b || (eqb a b && ltb c d)

lex_read : (a b c d : ℕ) → lex a b c d ≡ true → (a < b) ⊎ ((a ≡ b) × (c < d))
lex_read a b c d h = go (ltb a b) refl h
  where
    go : (x : Bool) → ltb a b ≡ x → (x || (eqb a b && ltb c d)) ≡ true → (a < b) ⊎ ((a ≡ b) × (c < d))
    go true e g = inl (ltb-true a b e)
    go false e g = inr (eqb-true a b (and_left (eqb a b) (ltb c d) g), ltb-true c d (and_right (eqb a b) (ltb c d) g))

lex_make : (a b c d : ℕ) → (a < b) ⊎ ((a ≡ b) × (c < d)) → lex a b c d ≡ true
lex_make a b c d (inl h) = simp (lt-ltb a b h)
lex_make a b c d (inr h) = simp (le-ltb a b (omega arith), eq-eqb a b h.0, lt-ltb c d h.1)

lex_false : (a b c d : ℕ) → lex a b c d ≡ false → (b < a) ⊎ ((a ≡ b) × (d ≤ c))
lex_false a b c d h = go (ℕ_discrete a b)
  where
    go : Dec (a ≡ b) → (b < a) ⊎ ((a ≡ b) × (d ≤ c))
    go (yes e) = inr (e, ltb-false c d (rw (eq-eqb a b e) at (or_right (ltb a b) (eqb a b && ltb c d) h)))
    go (no n) = inl (omega (arith, ltb-false a b (or_left (ltb a b) (eqb a b && ltb c d) h)))

lex_not : (a b c d : ℕ) → (b < a) ⊎ ((a ≡ b) × (d ≤ c)) → lex a b c d ≡ false
lex_not a b c d (inl h) = simp (le-ltb a b (omega arith), ne_eqb a b (omega arith))
lex_not a b c d (inr h) = simp (le-ltb a b (omega arith), eq-eqb a b h.0, le-ltb c d h.1)

lex_irrefl : (a c : ℕ) → lex a a c c ≡ false
lex_irrefl a c = simp (le-ltb a a (omega arith), eq-eqb a a refl, le-ltb c c (omega arith))

lex_suc : (a b c d : ℕ) → lex (suc a) (suc b) c d ≡ lex a b c d
lex_suc a b c d = go (lex a b c d) refl
  where
    more : (a < b) ⊎ ((a ≡ b) × (c < d)) → (suc a < suc b) ⊎ ((suc a ≡ suc b) × (c < d))
    more (inl h) = inl (omega arith)
    more (inr h) = inr (omega arith)

    less : (b < a) ⊎ ((a ≡ b) × (d ≤ c)) → (suc b < suc a) ⊎ ((suc a ≡ suc b) × (d ≤ c))
    less (inl h) = inl (omega arith)
    less (inr h) = inr (omega arith)

    go : (x : Bool) → lex a b c d ≡ x → lex (suc a) (suc b) c d ≡ x
    go true e = lex_make (suc a) (suc b) c d (more (lex_read a b c d e))
    go false e = lex_not (suc a) (suc b) c d (less (lex_false a b c d e))

-- ── the laws of each policy ────────────────────────────────────────────────────────────────────

beats_by_ahead : (p : Policy) (n : ℕ) (t u : Task) (j : Job) → beats_by p n t u j ≡ ahead_by p t u (new_job n) j
unfolding beats_by ahead_by
beats_by_ahead fps n t u j = refl
beats_by_ahead edf n t u j = let e : u.D + 0 ≡ u.D = omega arith in rw e refl
beats_by_ahead sjf n t u j = let e : u.C + 0 ≡ u.C = omega arith in rw e refl

ahead_by_irrefl : (p : Policy) (t : Task) (j : Job) → ahead_by p t t j j ≡ false
unfolding ahead_by
ahead_by_irrefl fps t j = le-ltb t.prio t.prio (omega arith)
ahead_by_irrefl edf t j = lex_irrefl (t.D + j.age) j.task
ahead_by_irrefl sjf t j = le-ltb (t.C + j.done) (t.C + j.done) (omega arith)

ahead_by_trans : (p : Policy) (t u v : Task) (i j k : Job) → ahead_by p t u i j ≡ true → ahead_by p u v j k ≡ true → ahead_by p t v i k ≡ true
unfolding ahead_by
ahead_by_trans fps t u v i j k h g =
    lt-ltb v.prio t.prio (omega (arith, ltb-true u.prio t.prio h, ltb-true v.prio u.prio g))
ahead_by_trans edf t u v i j k h g =
    lex_make (t.D + k.age) (v.D + i.age) k.task i.task
    (go (lex_read (t.D + j.age) (u.D + i.age) j.task i.task h) (lex_read (u.D + k.age) (v.D + j.age) k.task j.task g))
  where
    go : (t.D + j.age < u.D + i.age) ⊎ ((t.D + j.age ≡ u.D + i.age) × (j.task < i.task))
        → (u.D + k.age < v.D + j.age) ⊎ ((u.D + k.age ≡ v.D + j.age) × (k.task < j.task))
        → (t.D + k.age < v.D + i.age) ⊎ ((t.D + k.age ≡ v.D + i.age) × (k.task < i.task))
    go (inl x) (inl y) = inl (omega arith)
    go (inl x) (inr y) = inl (omega arith)
    go (inr x) (inl y) = inl (omega arith)
    go (inr x) (inr y) = inr (omega arith)
ahead_by_trans sjf t u v i j k h g =
    lt-ltb (t.C + k.done) (v.C + i.done)
    (omega (arith, ltb-true (t.C + j.done) (u.C + i.done) h, ltb-true (u.C + k.done) (v.C + j.done) g))

-- one that is not ahead of a second, which is not ahead of a third, is not ahead of the third
ahead_by_apart : (p : Policy) (t u v : Task) (i j k : Job) → ahead_by p t u i j ≡ false → ahead_by p u v j k ≡ false → ahead_by p t v i k ≡ false
unfolding ahead_by
ahead_by_apart fps t u v i j k h g =
    le-ltb v.prio t.prio (omega (arith, ltb-false u.prio t.prio h, ltb-false v.prio u.prio g))
ahead_by_apart edf t u v i j k h g =
    lex_not (t.D + k.age) (v.D + i.age) k.task i.task
    (go (lex_false (t.D + j.age) (u.D + i.age) j.task i.task h) (lex_false (u.D + k.age) (v.D + j.age) k.task j.task g))
  where
    go : (u.D + i.age < t.D + j.age) ⊎ ((t.D + j.age ≡ u.D + i.age) × (i.task ≤ j.task))
        → (v.D + j.age < u.D + k.age) ⊎ ((u.D + k.age ≡ v.D + j.age) × (j.task ≤ k.task))
        → (v.D + i.age < t.D + k.age) ⊎ ((t.D + k.age ≡ v.D + i.age) × (i.task ≤ k.task))
    go (inl x) (inl y) = inl (omega arith)
    go (inl x) (inr y) = inl (omega arith)
    go (inr x) (inl y) = inl (omega arith)
    go (inr x) (inr y) = inr (omega arith)
ahead_by_apart sjf t u v i j k h g =
    le-ltb (t.C + k.done) (v.C + i.done)
    (omega (arith, ltb-false (t.C + j.done) (u.C + i.done) h, ltb-false (u.C + k.done) (v.C + j.done) g))

-- of the jobs of two tasks of the model one is ahead
ahead_by_total : (p : Policy) (m : Model) → RankedBy p m → (i j : Job) → TaskOf m i.task → TaskOf m j.task → (i.task ≡ j.task → ⊥)
    → ahead_by p (task_at m i.task) (task_at m j.task) i j ≡ false → ahead_by p (task_at m j.task) (task_at m i.task) j i ≡ true
unfolding ahead_by
ahead_by_total sjf m ranked i j ti tj other h = absurd ranked
ahead_by_total fps m ranked i j ti tj other h =
    let le = ltb-false (task_at m j.task).prio (task_at m i.task).prio h in
    let ne : (task_at m i.task).prio ≡ (task_at m j.task).prio → ⊥ = λ e. other (ranked i.task j.task ti tj e) in
    lt-ltb (task_at m i.task).prio (task_at m j.task).prio (omega arith)
ahead_by_total edf m ranked i j ti tj other h =
    lex_make ((task_at m j.task).D + i.age) ((task_at m i.task).D + j.age) i.task j.task
    (go (lex_false ((task_at m i.task).D + j.age) ((task_at m j.task).D + i.age) j.task i.task h))
  where
    go : ((task_at m j.task).D + i.age < (task_at m i.task).D + j.age)
        ⊎ (((task_at m i.task).D + j.age ≡ (task_at m j.task).D + i.age) × (i.task ≤ j.task))
        → ((task_at m j.task).D + i.age < (task_at m i.task).D + j.age)
        ⊎ (((task_at m j.task).D + i.age ≡ (task_at m i.task).D + j.age) × (i.task < j.task))
    go (inl x) = inl x
    go (inr x) = inr (omega arith)

-- of two jobs of one task one that is no older and has done no more is not ahead
ahead_by_elder : (p : Policy) (t : Task) (i j : Job) → i.task ≡ j.task → i.age ≤ j.age → i.done ≤ j.done → ahead_by p t t i j ≡ false
unfolding ahead_by
ahead_by_elder fps t i j e a d = le-ltb t.prio t.prio (omega arith)
ahead_by_elder edf t i j e a d = lex_not (t.D + j.age) (t.D + i.age) j.task i.task (go (ℕ_discrete i.age j.age))
  where
    go : Dec (i.age ≡ j.age) → (t.D + i.age < t.D + j.age) ⊎ ((t.D + j.age ≡ t.D + i.age) × (i.task ≤ j.task))
    go (yes f) = inr (omega arith)
    go (no n) = inl (omega arith)
ahead_by_elder sjf t i j e a d = le-ltb (t.C + j.done) (t.C + i.done) (omega arith)

-- a tick keeps who is ahead
ahead_by_older : (p : Policy) (t u : Task) (i j : Job) → ahead_by p t u (older i) (older j) ≡ ahead_by p t u i j
unfolding ahead_by
ahead_by_older fps t u i j = refl
ahead_by_older edf t u i j =
    let e : t.D + suc j.age ≡ suc (t.D + j.age) = omega arith in
    let f : u.D + suc i.age ≡ suc (u.D + i.age) = omega arith in
    rw (e, f) (lex_suc (t.D + j.age) (u.D + i.age) j.task i.task)
ahead_by_older sjf t u i j = refl

-- the head's work lets nobody past it
ahead_by_worked : (p : Policy) (t u : Task) (i j : Job) → ahead_by p t u (older i) j ≡ true → ahead_by p t u (worked i) j ≡ true
unfolding ahead_by
ahead_by_worked fps t u i j h = h
ahead_by_worked edf t u i j h = h
ahead_by_worked sjf t u i j h = lt-ltb (t.C + j.done) (u.C + suc i.done) (omega (arith, ltb-true (t.C + j.done) (u.C + i.done) h))

ahead_by_unworked : (p : Policy) (t u : Task) (i j : Job) → ahead_by p t u i (older j) ≡ false → ahead_by p t u i (worked j) ≡ false
unfolding ahead_by
ahead_by_unworked fps t u i j h = h
ahead_by_unworked edf t u i j h = h
ahead_by_unworked sjf t u i j h = le-ltb (t.C + suc j.done) (u.C + i.done) (omega (arith, ltb-false (t.C + j.done) (u.C + i.done) h))

-- ── who is ahead, by the model's policy ────────────────────────────────────────────────────────

-- 01's rule of who beats whom is 000's order
pub beats_ahead : (m : Model) (t : ℕ) (j : Job) → beats m t j ≡ ahead m (new_job t) j
beats_ahead m t j = beats_is m t j ∙ beats_by_ahead m.policy t (task_at m t) (task_at m j.task) j

pub ahead_irrefl : (m : Model) (j : Job) → ahead m j j ≡ false
ahead_irrefl m j = ahead_by_irrefl m.policy (task_at m j.task) j

pub ahead_trans : (m : Model) (i j k : Job) → ahead m i j ≡ true → ahead m j k ≡ true → ahead m i k ≡ true
ahead_trans m i j k h g = ahead_by_trans m.policy (task_at m i.task) (task_at m j.task) (task_at m k.task) i j k h g

pub ahead_total : (m : Model) → Ranked m → (i j : Job) → TaskOf m i.task → TaskOf m j.task → (i.task ≡ j.task → ⊥)
    → ahead m i j ≡ false → ahead m j i ≡ true
ahead_total m ranked i j ti tj other h = ahead_by_total m.policy m ranked i j ti tj other h

pub ahead_apart : (m : Model) (i j k : Job) → ahead m i j ≡ false → ahead m j k ≡ false → ahead m i k ≡ false
ahead_apart m i j k h g = ahead_by_apart m.policy (task_at m i.task) (task_at m j.task) (task_at m k.task) i j k h g

pub ahead_older : (m : Model) (i j : Job) → ahead m (older i) (older j) ≡ ahead m i j
ahead_older m i j = ahead_by_older m.policy (task_at m i.task) (task_at m j.task) i j

ahead_worked : (m : Model) (i j : Job) → ahead m (older i) j ≡ true → ahead m (worked i) j ≡ true
ahead_worked m i j h = ahead_by_worked m.policy (task_at m i.task) (task_at m j.task) i j h

pub ahead_unworked : (m : Model) (i j : Job) → ahead m i (older j) ≡ false → ahead m i (worked j) ≡ false
ahead_unworked m i j h = ahead_by_unworked m.policy (task_at m i.task) (task_at m j.task) i j h

-- of two jobs one at most is ahead
pub ahead_asym : (m : Model) (i j : Job) → ahead m i j ≡ true → ahead m j i ≡ false
ahead_asym m i j h = go (ahead m j i) refl
  where
    go : (b : Bool) → ahead m j i ≡ b → b ≡ false
    go true e = absurd (never (ahead_trans m i j i h e) (ahead_irrefl m i))
    go false e = refl

-- ── jobs of one task ───────────────────────────────────────────────────────────────────────────

-- the job i is of j's task, and it is at least as old and has done at least as much
pub record Elder (i j : Job) : Type 0 where
  pub task : i.task ≡ j.task
  pub age : j.age ≤ i.age
  pub done : j.done ≤ i.done

elder_read : (i j : Job) → elder i j ≡ true → Elder i j
elder_read i j h =
    let a = eqb i.task j.task in
    let b = leb j.age i.age in
    let c = leb j.done i.done in
    let g = and_right a (b && c) h in
    record {
      task = eqb-true i.task j.task (and_left a (b && c) h);
      age = leb-true j.age i.age (and_left b c g);
      done = leb-true j.done i.done (and_right b c g);
    }

elder_make : (i j : Job) → Elder i j → elder i j ≡ true
elder_make i j r = rw (eq-eqb i.task j.task r.task, le-leb j.age i.age r.age, le-leb j.done i.done r.done) refl

-- the younger is not ahead
ahead_elder : (m : Model) (i j : Job) → Elder j i → ahead m i j ≡ false
ahead_elder m i j r =
    ap (λ (n : ℕ). ahead_by m.policy (task_at m n) (task_at m j.task) i j) (sym r.task)
    ∙ ahead_by_elder m.policy (task_at m j.task) i j (sym r.task) r.age r.done

-- a new job beats no job of its own task
own_stays : (m : Model) (t : ℕ) (j : Job) → t ≡ j.task → ahead m (new_job t) j ≡ false
own_stays m t j e = ahead_elder m (new_job t) j (record { task = sym e; age = omega arith; done = omega arith })

leads_read : (m : Model) (i j : Job) → leads m i j ≡ true → (ahead m i j ≡ true) ⊎ Elder i j
leads_read m i j h = go (ahead m i j) refl h
  where
    go : (b : Bool) → ahead m i j ≡ b → (b || elder i j) ≡ true → (ahead m i j ≡ true) ⊎ Elder i j
    go true e g = inl e
    go false e g = inr (elder_read i j g)

leads_make : (m : Model) (i j : Job) → (ahead m i j ≡ true) ⊎ Elder i j → leads m i j ≡ true
leads_make m i j (inl h) = rw h refl
leads_make m i j (inr h) = rw (elder_make i j h) (or_true (ahead m i j))
  where
    or_true : (b : Bool) → (b || true) ≡ true
    or_true true = refl
    or_true false = refl

-- one that goes before another may stay in front of it
pub leads_stays : (m : Model) (i j : Job) → leads m i j ≡ true → stays m i j ≡ true
leads_stays m i j h = not_of_false (go (leads_read m i j h))
  where
    go : (ahead m i j ≡ true) ⊎ Elder i j → ahead m j i ≡ false
    go (inl e) = ahead_asym m i j e
    go (inr e) = ahead_elder m j i e

leads_trans : (m : Model) (i j k : Job) → leads m i j ≡ true → leads m j k ≡ true → leads m i k ≡ true
leads_trans m i j k h g = leads_make m i k (go (leads_read m i j h) (leads_read m j k g))
  where
    must : (ahead m i k ≡ false → ⊥) → ahead m i k ≡ true
    must f = go2 (ahead m i k) refl
      where
        go2 : (b : Bool) → ahead m i k ≡ b → b ≡ true
        go2 true e = refl
        go2 false e = absurd (f e)

    go : (ahead m i j ≡ true) ⊎ Elder i j → (ahead m j k ≡ true) ⊎ Elder j k → (ahead m i k ≡ true) ⊎ Elder i k
    go (inl a) (inl b) = inl (ahead_trans m i j k a b)
    go (inl a) (inr b) = inl (must (λ e. never a (ahead_apart m i k j e (ahead_elder m k j b))))
    go (inr a) (inl b) = inl (must (λ e. never b (ahead_apart m j i k (ahead_elder m j i a) e)))
    go (inr a) (inr b) =
        let x = a.age in
        let y = b.age in
        let u = a.done in
        let v = b.done in
        inr (record { task = a.task ∙ b.task; age = omega arith; done = omega arith })

job_one : (i j : Job) → i.task ≡ j.task → i.done ≡ j.done → i.age ≡ j.age → i ≡ j
job_one i j t d a = λ k. record { task = t k; done = d k; age = a k }

-- two that go before each other are one
leads_one : (m : Model) (i j : Job) → leads m i j ≡ true → leads m j i ≡ true → i ≡ j
leads_one m i j h g = go (leads_read m i j h) (leads_read m j i g)
  where
    go : (ahead m i j ≡ true) ⊎ Elder i j → (ahead m j i ≡ true) ⊎ Elder j i → i ≡ j
    go (inl a) (inl b) = absurd (never b (ahead_asym m i j a))
    go (inl a) (inr b) = absurd (never a (ahead_elder m i j b))
    go (inr a) (inl b) = absurd (never b (ahead_elder m j i a))
    go (inr a) (inr b) =
        let x = a.age in
        let y = b.age in
        let u = a.done in
        let v = b.done in
        job_one i j a.task (omega arith) (omega arith)

same_refl : (i : Job) → same_job i i ≡ true
same_refl i = rw (eq-eqb i.task i.task refl, eq-eqb i.done i.done refl, eq-eqb i.age i.age refl) refl

same_is : (i j : Job) → same_job i j ≡ true → i ≡ j
same_is i j h =
    let a = eqb i.task j.task in
    let b = eqb i.done j.done in
    let c = eqb i.age j.age in
    let g = and_right a (b && c) h in
    job_one i j (eqb-true i.task j.task (and_left a (b && c) h)) (eqb-true i.done j.done (and_left b c g)) (eqb-true i.age j.age (and_right b c g))

-- ── sorting and insertion ──────────────────────────────────────────────────────────────────────

-- there is one sorted queue
pub sch_one : (m : Model) (q r r' : List Job) → IsSch m q r → IsSch m q r' → r ≡ r'
sch_one m q r r' s s' =
    in_order_one (leads m) same_job (leads_one m) same_refl same_is r r' s.sorted s'.sorted (λ j. s.often j ∙ sym (s'.often j))

-- what is sorted has the jobs that it is sorted from, and no other
pub sch_has : (m : Model) (q r : List Job) → IsSch m q r → (j : Job) → Memᴰ j q ↔ Memᴰ j r
sch_has m q r s j = (
  λ h. counted same_job same_refl same_is j q r h (sym (s.often j)),
  λ h. counted same_job same_refl same_is j r q h (s.often j),
)

-- in a queue with no task twice that stands in order each job is ahead of all those behind it
pub stands_ahead : (m : Model) (q : List Job) → Distinct (order q) → Stands m q → InOrder (ahead m) q
stands_ahead m [] d s = tt
stands_ahead m (x ∷ q) d s = (first, stands_ahead m q d.1 s.1)
  where
    first : (j : Job) → Memᴰ j q → ahead m x j ≡ true
    first j h =
        ⊎_elim (λ (e : ahead m x j ≡ true). e)
        (λ (e : Elder x j). absurd (d.0 (subst (λ (t : ℕ). Memᴰ t (order q)) (sym e.task) (mem_map (λ (i : Job). i.task) h))))
        (leads_read m x j (s.0 j h))

-- a queue that stands in order is settled
pub stands_settled : (m : Model) (q : List Job) → Stands m q → Settled m q
stands_settled m q s = in_order_map (leads m) (stays m) (leads_stays m) q s

-- in a queue in which no job is ahead of one in front of it, the new job beats none up to the last of its own task
own_unbeaten : (m : Model) (t : ℕ) (j : Job) (q : List Job) → Settled m (j ∷ q) → elem t (order (j ∷ q)) ≡ true → beats m t j ≡ false
own_unbeaten m t j q s h = beats_ahead m t j ∙ go r.0 r.2 (Memᴰ.cases_cons r.1)
  where
    r : (i : Job) × Memᴰ i (j ∷ q) × (t ≡ i.task)
    r = mem_map_inv (λ (i : Job). i.task) (j ∷ q) (elem_mem t (order (j ∷ q)) h)

    go : (i : Job) → t ≡ i.task → (i ≡ j) ⊎ Memᴰ i q → ahead m (new_job t) j ≡ false
    go i e (inl d) = own_stays m t j (e ∙ ap (λ (x : Job). x.task) d)
    go i e (inr w) = ahead_apart m (new_job t) i j (own_stays m t i e) (false_of_not (ahead m i j) (s.0 i w))

-- at any place of it
passed_unbeaten : (m : Model) (t : ℕ) (q : List Job) → Settled m q → (k : ℕ) → elem t (drop k (order q)) ≡ true → (j : Job) → get_elem? q k ≡ some j
    → beats m t j ≡ false
passed_unbeaten m t [] s k h j e = absurd (let z : ◌≡◌ {A = ℕ} 0 1 = cc in omega arith)
passed_unbeaten m t (x ∷ q) s zero h j e = let d : x ≡ j = cc in ap (beats m t) (sym d) ∙ own_unbeaten m t x q s h
passed_unbeaten m t (x ∷ q) s (suc k) h j e = passed_unbeaten m t q s.1 k h j e

-- so none is passed over that it beats
place_of_beats : (m : Model) (t : ℕ) (q : List Job) → Settled m q → place_of m t q ≡ place (beats m t) q
place_of_beats m t q s = place_from_place (behind m t (order q)) (beats m t) q (λ k h. passed_unbeaten m t q s k (behind_own m t (order q) k h))

place_of_ahead : (m : Model) (t : ℕ) (q : List Job) → Settled m q → place_of m t q ≡ place (ahead m (new_job t)) q
place_of_ahead m t q s = place_of_beats m t q s ∙ ap (λ (b : Job → Bool). place b q) (fun_ext (beats_ahead m t))

pub put_ahead : (m : Model) (t : ℕ) (q : List Job) → Settled m q → put m t q ≡ insert_at (place (ahead m (new_job t)) q) (new_job t) q
put_ahead m t q s = ap (λ (k : ℕ). insert_at k (new_job t) q) (place_of_ahead m t q s)

-- a release keeps the order
pub put_stands : (m : Model) (t : ℕ) (q : List Job) → Ranked m → Stands m q → TaskOf m t → TasksOf m q → Stands m (put m t q)
put_stands m t q ranked s tn tq =
    subst (Stands m) (sym (put_ahead m t q (stands_settled m q s)))
    (insert_in_order (leads m) (leads_trans m) (ahead m (new_job t)) (new_job t) q (λ j h e. leads_make m (new_job t) j (inl e)) total s)
  where
    total : (j : Job) → Memᴰ j q → ahead m (new_job t) j ≡ false → leads m j (new_job t) ≡ true
    total j h e = leads_make m j (new_job t) (go (ℕ_discrete t j.task))
      where
        go : Dec (t ≡ j.task) → (ahead m j (new_job t) ≡ true) ⊎ Elder j (new_job t)
        go (yes d) = inr (record { task = sym d; age = omega arith; done = omega arith })
        go (no n) = inl (ahead_total m ranked (new_job t) j tn (tq j h) n e)

-- a release into a queue that stands in order gives the sorted queue
pub insert_sorts : (m : Model) (t : ℕ) (q : List Job) → Ranked m → Stands m q → TaskOf m t → TasksOf m q → IsSch m (new_job t ∷ q) (put m t q)
insert_sorts m t q ranked s tn tq = record {
  often = λ j. count_insert_at (same_job j) (place_of m t q) (new_job t) q;
  sorted = put_stands m t q ranked s tn tq;
}

-- ── every run's queue stands in order ──────────────────────────────────────────────────────────

leads_older : (m : Model) (i j : Job) → leads m i j ≡ true → leads m (older i) (older j) ≡ true
leads_older m i j h = leads_make m (older i) (older j) (go (leads_read m i j h))
  where
    go : (ahead m i j ≡ true) ⊎ Elder i j → (ahead m (older i) (older j) ≡ true) ⊎ Elder (older i) (older j)
    go (inl e) = inl (ahead_older m i j ∙ e)
    go (inr e) = let a = e.age in inr (record { task = e.task; age = omega arith; done = e.done })

-- a tick keeps the order
pub served_stands : (m : Model) (b : Bool) (q : List Job) → Stands m q → Stands m (served b q)
served_stands m b [] s = s
served_stands m true (x ∷ q) s = map_in_order (leads m) older (leads_older m) q s.1
served_stands m false (x ∷ q) s = (first, map_in_order (leads m) older (leads_older m) q s.1)
  where
    go : (i : Job) → (ahead m x i ≡ true) ⊎ Elder x i → (ahead m (worked x) (older i) ≡ true) ⊎ Elder (worked x) (older i)
    go i (inl h) = inl (ahead_worked m x (older i) (ahead_older m x i ∙ h))
    go i (inr h) = let a = h.age in let d = h.done in inr (record { task = h.task; age = omega arith; done = omega arith })

    first : (j : Job) → Memᴰ j (map older q) → leads m (worked x) j ≡ true
    first j h =
        let r = mem_map_inv older q h in
        ap (leads m (worked x)) r.2 ∙ leads_make m (worked x) (older r.0) (go r.0 (leads_read m x r.0 (s.0 r.0 r.1)))

cast_task : (m : Model) {i j : Job} → i ≡ j → TaskOf m j.task → TaskOf m i.task
cast_task m e h = subst (λ (x : Job). TaskOf m x.task) (sym e) h

older_tasks : (m : Model) (q : List Job) → TasksOf m q → TasksOf m (map older q)
older_tasks m q tq j h = let r = mem_map_inv older q h in cast_task m r.2 (tq r.0 r.1)

served_tasks : (m : Model) (b : Bool) (q : List Job) → TasksOf m q → TasksOf m (served b q)
served_tasks m b [] tq = tq
served_tasks m true (x ∷ q) tq = older_tasks m q (λ j h. tq j (Memᴰ.tail h))
served_tasks m false (x ∷ q) tq = λ j h.
    ⊎_elim (λ (e : j ≡ worked x). cast_task m e (tq x (Memᴰ.head refl)))
    (older_tasks m q (λ i g. tq i (Memᴰ.tail g)) j)
    (Memᴰ.cases_cons h)

-- the queue stands in order, and every job is of a task of the model
record Ordered (m : Model) (q : List Job) : Type 0 where
  stands : Stands m q
  tasks : TasksOf m q

served_ordered : (m : Model) (b : Bool) (q : List Job) → Ordered m q → Ordered m (served b q)
served_ordered m b q o = record { stands = served_stands m b q o.stands; tasks = served_tasks m b q o.tasks }

-- a right model is annotated so
pub right_annotated : (m : Model) → RightModel m → Annotated m
right_annotated m w = record { by_edge = λ k e h. named (released m e) (released_tasks m w k e h); at_start = named (released_at_start m) (start_tasks m w) }
  where
    named : (ts : List ℕ) → OfModel m ts → (t : ℕ) → Memᴰ t ts → TaskOf m t
    named ts h t g =
        let r = each_mem (λ (u : ℕ). (1 ≤ u) × (u ≤ length m.tasks)) ts h t g in
        record { from = r.0; upto = r.1 }

module _ (m : Model) (ranked : Ranked m) (annotated : Annotated m) where
  put_ordered : (t : ℕ) (q : List Job) → TaskOf m t → overflows m t (order q) ≡ false → Ordered m q → Ordered m (put m t q)
  put_ordered t q tn free o = record {
    stands = put_stands m t q ranked o.stands tn o.tasks;
    tasks = λ j h. ⊎_elim (λ (e : j ≡ new_job t). cast_task m e tn) (o.tasks j) (mem_insert_at (place_of m t q) q h);
  }

  run_ordered : {s : State} → Run m s → Ordered m s.queue
  run_ordered r =
      run_keeps m (TaskOf m) (Ordered m) annotated.by_edge annotated.at_start (record { stands = tt; tasks = λ j h. absurd (Memᴰ.not-nil h) })
      put_ordered (served_ordered m) r

-- in every state of every run the queue stands in order
pub run_stands : (m : Model) → Ranked m → Annotated m → {s : State} → Run m s → Stands m s.queue
run_stands m ranked annotated r = (run_ordered m ranked annotated r).stands

-- so a release in a run gives 000's Sch of the new job and the queue
pub run_sorts : (m : Model) → Ranked m → Annotated m → {s : State} → Run m s → (t : ℕ) → TaskOf m t → IsSch m (new_job t ∷ s.queue) (put m t s.queue)
run_sorts m ranked annotated {s} r t tn =
    let o = run_ordered m ranked annotated r in
    insert_sorts m t s.queue ranked o.stands tn o.tasks
