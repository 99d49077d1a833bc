-- A delay of n ticks is n ticks one after the other, and the limits hold at every one of them exactly if they hold at the last.
-- Assumes nothing.
use mathlib.Core.Path.{◌≡◌, refl, sym, ◌∙◌, ap, ap₂}
use mathlib.Core.Logic.{◌↔◌}
use mathlib.Core.Bool.{Bool, true, false, cond}
use mathlib.Core.List.Memᴰ
use mathlib.Core.List.{List, [], ◌∷◌, map}
use Prim.Native.Nat.{ℕ, zero, suc, ◌+◌, ◌-◌, ◌≤◌, ◌<◌}
use native.Mathlib.Omega.{arith}
use lib.Dec.{leb}
use lib.ListN.{get_or}
use borrow.Author.Tests.{leb-true, leb-false, le-leb, lt-leb}
use Rattle.meaning.specs.Lists.{nth1D, every}
use Rattle.meaning.specs.Model.{Limit, Model, task_at, location_at}
use Rattle.meaning.specs.Machine.State.{Job, State}
use Rattle.meaning.specs.Machine.Tick.{limit_test, tick_allowed, older, worked, finishes, served, tick_to}
use Rattle.meaning.specs.Published.Delay.{owed, executed, works_off, aged, ran_for, clocks_plus, delayed, delay_allowed, ticks, Owing}
use Rattle.meaning.proofs.Lists.{every_mem, mem_every}
use Rattle.meaning.proofs.Hooks.{finishes_is}

abbrev cons : {A : Type 0} → A → List A → List A
cons x l = x ∷ l

-- one job, its done and its age written in two ways
same_job : (t d d' a a' : ℕ) → d ≡ d' → a ≡ a'
    → ◌≡◌ {A = Job} (record { task = t; done = d; age = a }) (record { task = t; done = d'; age = a' })
same_job t d d' a a' e f = cc

-- ── no delay ───────────────────────────────────────────────────────────────────────────────────

clocks_none : (cs : List ℕ) → clocks_plus 0 cs ≡ cs
clocks_none [] = refl
clocks_none (c ∷ cs) = ap₂ cons (omega arith) (clocks_none cs)

aged_none : (q : List Job) → map (aged 0) q ≡ q
aged_none [] = refl
aged_none (j ∷ q) = ap₂ cons (same_job j.task j.done j.done (j.age + 0) j.age refl (omega arith)) (aged_none q)

-- a job that owes work stays
works_off_none : (m : Model) (q : List Job) → Owing m q → works_off m 0 q ≡ q
works_off_none m [] ow = refl
works_off_none m (j ∷ q) ow =
    let stays : leb (owed m j) 0 ≡ false = lt-leb (owed m j) 0 (omega (arith, ow j (Memᴰ.head refl))) in
    rw stays (ap (λ (i : Job). i ∷ q) (same_job j.task (j.done + 0) j.done j.age j.age (omega arith) refl))

-- ── one tick more ──────────────────────────────────────────────────────────────────────────────

clocks_more : (d : ℕ) (cs : List ℕ) → map suc (clocks_plus d cs) ≡ clocks_plus (suc d) cs
clocks_more d [] = refl
clocks_more d (c ∷ cs) = ap₂ cons (omega arith) (clocks_more d cs)

aged_more : (a : ℕ) (q : List Job) → map older (map (aged a) q) ≡ map (aged (suc a)) q
aged_more a [] = refl
aged_more a (j ∷ q) = ap₂ cons (same_job j.task j.done j.done (suc (j.age + a)) (j.age + suc a) refl (omega arith)) (aged_more a q)

-- the queue after a tick
abbrev after_tick : Model → List Job → List Job
after_tick m q = served (finishes m q) q

-- the head has worked d ticks and still owes work: one tick more finishes it, or it goes on
head_more : (m : Model) (a d : ℕ) (j : Job) (q : List Job) → Owing m q → d < owed m j
    → after_tick m (map (aged a) (executed d j ∷ q)) ≡ map (aged (suc a)) (works_off m (suc d) (j ∷ q))
head_more m a d j q ow more =
    go (leb (task_at m j.task).C (suc (j.done + d))) refl (finishes_is m (aged a (executed d j)) (map (aged a) q))
  where
    go : (x : Bool) → leb (task_at m j.task).C (suc (j.done + d)) ≡ x
        → finishes m (map (aged a) (executed d j ∷ q)) ≡ leb (task_at m j.task).C (suc (j.done + d))
        → after_tick m (map (aged a) (executed d j ∷ q)) ≡ map (aged (suc a)) (works_off m (suc d) (j ∷ q))
    go true e f =
        let c = leb-true (task_at m j.task).C (suc (j.done + d)) e in
        let leaves : leb (owed m j) (suc d) ≡ true = le-leb (owed m j) (suc d) (omega arith) in
        let none_left : suc d - owed m j ≡ 0 = omega arith in
        rw (f, e, leaves, none_left, works_off_none m q ow) (aged_more a q)
    go false e f =
        let c = leb-false (task_at m j.task).C (suc (j.done + d)) e in
        let stays : leb (owed m j) (suc d) ≡ false = lt-leb (owed m j) (suc d) (omega arith) in
        let head : worked (aged a (executed d j)) ≡ aged (suc a) (executed (suc d) j) =
        same_job j.task (suc (j.done + d)) (j.done + suc d) (suc (j.age + a)) (j.age + suc a) (omega arith) (omega arith) in
        rw (f, e, stays) (ap₂ cons head (aged_more a q))

-- the queue after d ticks of work, every job a ticks older, after one tick more
queue_more : (m : Model) (a d : ℕ) (q : List Job) → Owing m q
    → after_tick m (map (aged a) (works_off m d q)) ≡ map (aged (suc a)) (works_off m (suc d) q)
queue_more m a d [] ow = refl
queue_more m a d (j ∷ q) ow = go (leb (owed m j) d) refl (queue_more m a (d - owed m j) q rest)
  where
    rest : Owing m q
    rest i h = ow i (Memᴰ.tail h)

    go : (x : Bool) → leb (owed m j) d ≡ x
        → after_tick m (map (aged a) (works_off m (d - owed m j) q)) ≡ map (aged (suc a)) (works_off m (suc (d - owed m j)) q)
        → after_tick m (map (aged a) (cond x (works_off m (d - owed m j) q) (executed d j ∷ q)))
        ≡ map (aged (suc a)) (works_off m (suc d) (j ∷ q))
    go true e ih =
        let h = leb-true (owed m j) d e in
        let leaves : leb (owed m j) (suc d) ≡ true = le-leb (owed m j) (suc d) (omega arith) in
        let less : suc d - owed m j ≡ suc (d - owed m j) = omega arith in
        rw (leaves, less) ih
    go false e ih = head_more m a d j q rest (leb-false (owed m j) d e)

state_same : (l : ℕ) (cs cs' : List ℕ) (q q' : List Job) → cs ≡ cs' → q ≡ q'
    → ◌≡◌ {A = State} (record { location = l; clocks = cs; queue = q }) (record { location = l; clocks = cs'; queue = q' })
state_same l cs cs' q q' e f = cc

-- a tick after a delay of d ticks is a delay of one tick more
tick_more : (m : Model) (d : ℕ) (s : State) → Owing m s.queue → tick_to m (delayed m d s) ≡ delayed m (suc d) s
tick_more m d s ow =
    state_same s.location (map suc (clocks_plus d s.clocks)) (clocks_plus (suc d) s.clocks)
    (after_tick m (ran_for m d s.queue)) (ran_for m (suc d) s.queue)
    (clocks_more d s.clocks) (queue_more m d d s.queue ow)

-- a delay of n ticks is n ticks one after the other
pub delay_is_ticks : (m : Model) (n : ℕ) (s : State) → Owing m s.queue → ticks m n s ≡ delayed m n s
delay_is_ticks m zero s ow =
    state_same s.location s.clocks (clocks_plus 0 s.clocks) s.queue (ran_for m 0 s.queue) (sym (clocks_none s.clocks))
    (sym (ap (map (aged 0)) (works_off_none m s.queue ow) ∙ aged_none s.queue))
delay_is_ticks m (suc n) s ow = ap (tick_to m) (delay_is_ticks m n s ow) ∙ tick_more m n s ow

-- ── the limits ─────────────────────────────────────────────────────────────────────────────────

ticks_location : (m : Model) (n : ℕ) (s : State) → (ticks m n s).location ≡ s.location
ticks_location m zero s = refl
ticks_location m (suc n) s = ticks_location m n s

ticks_clocks : (m : Model) (n : ℕ) (s : State) → (ticks m n s).clocks ≡ clocks_plus n s.clocks
ticks_clocks m zero s = sym (clocks_none s.clocks)
ticks_clocks m (suc n) s = ap (map suc) (ticks_clocks m n s) ∙ clocks_more n s.clocks

-- the tick after n ticks is allowed exactly if the delay of one tick more is
tick_allowed_at : (m : Model) (n : ℕ) (s : State) → tick_allowed m (ticks m n s) ≡ delay_allowed m (suc n) s
tick_allowed_at m n s =
    ap₂ (λ (cs : List ℕ) (l : ℕ). every (limit_test cs) (location_at m l).limits) (ticks_clocks m (suc n) s) (ticks_location m n s)

clock_rises : (cs : List ℕ) (k d n : ℕ) → d ≤ n → get_or (clocks_plus d cs) k 0 ≤ get_or (clocks_plus n cs) k 0
clock_rises [] k d n h = omega arith
clock_rises (c ∷ cs) zero d n h = omega arith
clock_rises (c ∷ cs) (suc k) d n h = clock_rises cs k d n h

-- a limit that holds later held earlier
limit_earlier : (cs : List ℕ) (l : Limit) (d n : ℕ) → d ≤ n → limit_test (clocks_plus n cs) l ≡ true
    → limit_test (clocks_plus d cs) l ≡ true
limit_earlier cs l d n h t = go l.clock (leb-true (nth1D (clocks_plus n cs) l.clock 0) l.most t)
  where
    go : (k : ℕ) → nth1D (clocks_plus n cs) k 0 ≤ l.most → leb (nth1D (clocks_plus d cs) k 0) l.most ≡ true
    go zero g = le-leb 0 l.most (omega arith)
    go (suc k) g = le-leb (get_or (clocks_plus d cs) k 0) l.most (omega (arith, clock_rises cs k d n h))

delay_earlier : (m : Model) (s : State) (d n : ℕ) → d ≤ n → delay_allowed m n s ≡ true → delay_allowed m d s ≡ true
delay_earlier m s d n h t =
    mem_every (limit_test (clocks_plus d s.clocks)) (location_at m s.location).limits
    (λ l w. limit_earlier s.clocks l d n h
    (every_mem (limit_test (clocks_plus n s.clocks)) (location_at m s.location).limits t l w))

-- the limits hold after a delay exactly if every tick of it is allowed
pub delay_allowed_lem : (m : Model) (n : ℕ) (s : State) → 1 ≤ n
    → (delay_allowed m n s ≡ true) ↔ ((k : ℕ) → k < n → tick_allowed m (ticks m k s) ≡ true)
delay_allowed_lem m zero s h = absurd (omega arith)
delay_allowed_lem m (suc n) s h = (
  λ t k g. tick_allowed_at m k s ∙ delay_earlier m s (suc k) (suc n) (omega arith) t,
  λ f. sym (tick_allowed_at m n s) ∙ f n (omega arith),
)
