-- The states of a location and queue order are one to one with the valuations of their variables that meet the bounds of properness; a
-- zone's states are those whose variables meet its bounds too.
-- Assumes nothing.
use mathlib.Core.Path.{◌≡◌, refl, sym, ◌∙◌, ap, ap₂, subst}
use mathlib.Core.Logic.{◌↔◌}
use mathlib.Core.Bool.{true}
use mathlib.Core.List.Memᴰ
use mathlib.Core.List.{List, [], ◌∷◌, Memᴰ}
use Prim.Native.Nat.{ℕ, zero, suc, ◌+◌, ◌-◌, ◌≤◌, ◌<◌}
use native.Mathlib.Omega.{arith}
use native.Mathlib.Decide.{dec_lt}
use lib.ListN.{length, get_or, get_or-append, get_or-eq_default}
use lib.Seq.{ext_get_or, get_or-append-add}
use Rattle.meaning.specs.Model.{Model, task_at}
use Rattle.meaning.specs.Machine.State.{Job, State, order}
use Rattle.meaning.specs.Zones.Variables.{queue_vars, vars, var, variables}
use Rattle.meaning.specs.Zones.Proper.{ProperJob, fits, Proper}
use Rattle.meaning.specs.Zones.Zone.{Zone, InZone}
use Rattle.meaning.specs.Zones.Reached.{Home, home_of_zone}
use Rattle.meaning.specs.Check.Faults.{Below}
use Rattle.meaning.specs.Inner.Words.{tab_from}
use Rattle.meaning.specs.Inner.Bounds.{Met, Ranged}
use Rattle.meaning.specs.Inner.Slots.{Slot, slots, slots_of, tasks_in, Reads, jobs_at, state_of, Agrees, proper_from, proper_bounds, zone_bounds, RangedZone}
use Rattle.meaning.proofs.Lists.{length_tab, get_d_tab}
use Rattle.meaning.proofs.Numbers.{sub_parts}
use Rattle.meaning.proofs.Zones.Home.{mk_home, home_in, Lies, length_vars}
use Rattle.meaning.proofs.Exact.Bounds.{met_append, ranged_append, met_tests, tests_met}

-- ── the queue in a valuation ───────────────────────────────────────────────────────────────────

tasks_slots : (v : ℕ) (o : List ℕ) → tasks_in (slots v o) ≡ o
tasks_slots v [] = refl
tasks_slots v (t ∷ o) = ap (λ (l : List ℕ). t ∷ l) (tasks_slots (suc (suc v)) o)

pub length_slots : (v : ℕ) (o : List ℕ) → length (slots v o) ≡ length o
length_slots v [] = refl
length_slots v (t ∷ o) = ap suc (length_slots (suc (suc v)) o)

pub reads_length : (x : ℕ → ℕ) (a : ℕ) (ss : List Slot) (q : List Job) → Reads x a ss q → length ss ≡ length q
reads_length x a [] [] h = refl
reads_length x a [] (j ∷ q) h = absurd h
reads_length x a (s ∷ ss) [] h = absurd h
reads_length x a (s ∷ ss) (j ∷ q) h = ap suc (reads_length x s.sum ss q h.3)

pub reads_order : (x : ℕ → ℕ) (a : ℕ) (ss : List Slot) (q : List Job) → Reads x a ss q → order q ≡ tasks_in ss
reads_order x a [] [] h = refl
reads_order x a [] (j ∷ q) h = absurd h
reads_order x a (s ∷ ss) [] h = absurd h
reads_order x a (s ∷ ss) (j ∷ q) h = ap₂ (λ (t : ℕ) (l : List ℕ). t ∷ l) h.0 (reads_order x s.sum ss q h.3)

pub agrees_order : {m : Model} {o : List ℕ} {x : ℕ → ℕ} {s : State} → Agrees m o x s → order s.queue ≡ o
agrees_order {m} {o} {x} {s} g = reads_order x 0 (slots_of m o) s.queue g.queue ∙ tasks_slots (suc m.clocks) o

-- ── a state's own variables ────────────────────────────────────────────────────────────────────

reads_vars : (x : ℕ → ℕ) (a v c : ℕ) (q : List Job) → x a ≡ c → ((i : ℕ) → x (v + i) ≡ get_or (queue_vars c q) i 0) → Reads x a (slots v (order q)) q
reads_vars x a v c [] e h = tt
reads_vars x a v c (j ∷ q) e h =
    let e0 : v + 0 ≡ v = omega arith in
    let e1 : v + 1 ≡ suc v = omega arith in
    let s : x v ≡ c + j.done = ap x (sym e0) ∙ h 0 in
    let g : x (suc v) ≡ j.age = ap x (sym e1) ∙ h 1 in
    (refl, omega arith, g, reads_vars x v (suc (suc v)) (c + j.done) q s (λ i. let e2 : suc (suc v) + i ≡ v + suc (suc i) = omega arith in ap x e2 ∙ h (suc (suc i))))

pub agrees_vars : (m : Model) (o : List ℕ) (s : State) → length s.clocks ≡ m.clocks → order s.queue ≡ o → Agrees m o (var s) s
agrees_vars m o s c e = record {
  origin = refl;
  size = c;
  clock = λ i h. get_or-append s.clocks (queue_vars 0 s.queue) 0 i (omega arith);
  queue = subst (λ (l : List ℕ). Reads (var s) 0 (slots_of m l) s.queue) e (reads_vars (var s) 0 (suc m.clocks) 0 s.queue refl rest);
}
  where
    rest : (i : ℕ) → var s (suc m.clocks + i) ≡ get_or (queue_vars 0 s.queue) i 0
    rest i =
        let k : suc m.clocks + i ≡ suc (length s.clocks + i) = omega arith in
        ap (var s) k ∙ get_or-append-add s.clocks (queue_vars 0 s.queue) i 0

pub lies_agrees : (m : Model) (h : Home) (s : State) → Lies m h s → Agrees m h.order (var s) s
lies_agrees m h s l = agrees_vars m h.order s l.clocks (ap (λ (y : Home). y.order) l.home)

reads_at : (x : ℕ → ℕ) (a v c : ℕ) (o : List ℕ) (q : List Job) → x a ≡ c → Reads x a (slots v o) q → (i : ℕ) → i < length o + length o
    → x (v + i) ≡ get_or (queue_vars c q) i 0
reads_at x a v c [] q e h i k = absurd (omega arith)
reads_at x a v c (t ∷ o) [] e h i k = absurd h
reads_at x a v c (t ∷ o) (j ∷ q) e h zero k = let e0 : v + 0 ≡ v = omega arith in ap x e0 ∙ h.1 ∙ ap (λ (y : ℕ). y + j.done) e
reads_at x a v c (t ∷ o) (j ∷ q) e h (suc zero) k = let e1 : v + 1 ≡ suc v = omega arith in ap x e1 ∙ h.2
reads_at x a v c (t ∷ o) (j ∷ q) e h (suc (suc i)) k =
    let e2 : v + suc (suc i) ≡ suc (suc v) + i = omega arith in
    ap x e2 ∙ reads_at x v (suc (suc v)) (c + j.done) o q (h.1 ∙ ap (λ (y : ℕ). y + j.done) e) h.3 i (omega arith)

-- a valuation of a state has the state's own variables
pub agrees_at : {m : Model} {o : List ℕ} {x : ℕ → ℕ} {s : State} → Agrees m o x s → (i : ℕ) → i < variables m o → x i ≡ var s i
agrees_at g zero h = g.origin
agrees_at {m} {o} {x} {s} g (suc i) h = go (dec_lt i m.clocks)
  where
    go : Dec (i < m.clocks) → x (suc i) ≡ var s (suc i)
    go (yes l) = g.clock i l ∙ sym (get_or-append s.clocks (queue_vars 0 s.queue) 0 i (omega (arith, g.size)))
    go (no l) =
        let a : suc i ≡ suc m.clocks + (i - m.clocks) = omega arith in
        let b : length s.clocks + (i - m.clocks) ≡ i = omega (arith, g.size) in
        ap x a ∙ reads_at x 0 (suc m.clocks) 0 o s.queue g.origin g.queue (i - m.clocks) (omega arith)
        ∙ sym (get_or-append-add s.clocks (queue_vars 0 s.queue) (i - m.clocks) 0) ∙ ap (λ (k : ℕ). get_or (vars s) k 0) b

reads_cong : (x y : ℕ → ℕ) (a v n : ℕ) (o : List ℕ) (q : List Job) → ((i : ℕ) → i < n → y i ≡ x i) → a < n → v + (length o + length o) ≤ n
    → Reads x a (slots v o) q → Reads y a (slots v o) q
reads_cong x y a v n [] [] e h k r = tt
reads_cong x y a v n [] (j ∷ q) e h k r = absurd r
reads_cong x y a v n (t ∷ o) [] e h k r = absurd r
reads_cong x y a v n (t ∷ o) (j ∷ q) e h k r =
    let ev = e v (omega arith) in
    let ea = e a h in
    let eg = e (suc v) (omega arith) in
    (r.0, omega (arith, r.1), omega (arith, r.2), reads_cong x y v (suc (suc v)) n o q e (omega arith) (omega arith) r.3)

pub agrees_cong : {m : Model} {o : List ℕ} {x : ℕ → ℕ} {s : State} (y : ℕ → ℕ) → ((i : ℕ) → i < variables m o → y i ≡ x i) → Agrees m o x s → Agrees m o y s
agrees_cong {m} {o} {x} {s} y e g = record {
  origin = e 0 (omega arith) ∙ g.origin;
  size = g.size;
  clock = λ i h. e (suc i) (omega arith) ∙ g.clock i h;
  queue = reads_cong x y 0 (suc m.clocks) (variables m o) o s.queue e (omega arith) (omega arith) g.queue;
}

agrees_length : {m : Model} {o : List ℕ} {x : ℕ → ℕ} {s : State} → Agrees m o x s → suc (length (vars s)) ≡ variables m o
agrees_length {m} {o} {x} {s} g =
    length_vars m (mk_home s.location o) s (record { home = ap (mk_home s.location) (agrees_order g); clocks = g.size })

-- a smaller valuation is that of a smaller state
pub agrees_below : {m : Model} {o : List ℕ} {x y : ℕ → ℕ} {s u : State} → Agrees m o x s → Agrees m o y u → ((i : ℕ) → i < variables m o → x i ≤ y i) → Below s u
agrees_below g k h zero = omega arith
agrees_below {m} {o} {x} {y} {s} {u} g k h (suc i) = go (dec_lt (suc i) (variables m o))
  where
    go : Dec (suc i < variables m o) → var s (suc i) ≤ var u (suc i)
    go (yes l) = omega (arith, agrees_at g (suc i) l, agrees_at k (suc i) l, h (suc i) l)
    go (no l) =
        let e : get_or (vars s) i 0 ≡ 0 = get_or-eq_default (vars s) 0 (omega (arith, agrees_length g)) in
        omega arith

-- ── the state is the valuation's ───────────────────────────────────────────────────────────────

reads_jobs : (x : ℕ → ℕ) (a : ℕ) (ss : List Slot) (q : List Job) → Reads x a ss q → q ≡ jobs_at x a ss
reads_jobs x a [] [] h = refl
reads_jobs x a [] (j ∷ q) h = absurd h
reads_jobs x a (s ∷ ss) [] h = absurd h
reads_jobs x a (s ∷ ss) (j ∷ q) h =
    let d : j.done ≡ x s.sum - x a = omega (arith, h.1) in
    let rest = reads_jobs x s.sum ss q h.3 in
    (λ k. record { task = h.0 k; done = d k; age = sym h.2 k } ∷ rest k)

pub agrees_state : {m : Model} {o : List ℕ} {x : ℕ → ℕ} {s : State} → Agrees m o x s → (l : ℕ) → s.location ≡ l → s ≡ state_of m (mk_home l o) x
agrees_state {m} {o} {x} {s} g l e =
    let cs : s.clocks ≡ tab_from 1 x m.clocks =
    ext_get_or 0 s.clocks (tab_from 1 x m.clocks) (g.size ∙ sym (length_tab 1 x m.clocks))
    (λ i h. let w : i < m.clocks = omega (arith, g.size) in let q : suc i ≡ 1 + i = omega arith in sym (g.clock i w) ∙ ap x q ∙ sym (get_d_tab 1 x m.clocks i 0 w)) in
    let qs = reads_jobs x 0 (slots_of m o) s.queue g.queue in
    (λ k. record { location = e k; clocks = cs k; queue = qs k })

-- ── properness as bounds ───────────────────────────────────────────────────────────────────────

jobs_met : (m : Model) (x : ℕ → ℕ) (a : ℕ) (ss : List Slot) (q : List Job) → x 0 ≡ 0 → Reads x a ss q
    → ((j : Job) → Memᴰ j q → ProperJob m j) → Met x (proper_from m a ss)
jobs_met m x a [] [] z h p = tt
jobs_met m x a [] (j ∷ q) z h p = absurd h
jobs_met m x a (s ∷ ss) [] z h p = absurd h
jobs_met m x a (s ∷ ss) (j ∷ q) z h p =
    let w = p j (Memᴰ.head refl) in
    let c = ap (λ (t : ℕ). (task_at m t).C) h.0 in
    let d = ap (λ (t : ℕ). (task_at m t).D) h.0 in (
      omega (arith, h.1),
      (
        omega (arith, h.1, w.done, c, sub_parts (task_at m s.task).C 1),
        (omega (arith, h.2, w.age, d, sub_parts (task_at m s.task).D 1), jobs_met m x s.sum ss q z h.3 (λ i v. p i (Memᴰ.tail v))),
      ),
    )

met_jobs : (m : Model) (x : ℕ → ℕ) (a : ℕ) (ss : List Slot) (q : List Job) → x 0 ≡ 0 → Reads x a ss q
    → Met x (proper_from m a ss) → (j : Job) → Memᴰ j q → ProperJob m j
met_jobs m x a [] [] z h p i w = absurd (Memᴰ.not-nil w)
met_jobs m x a [] (j ∷ q) z h p i w = absurd h
met_jobs m x a (s ∷ ss) [] z h p i w = absurd h
met_jobs m x a (s ∷ ss) (j ∷ q) z h p i (Memᴰ.head e) =
    let c = ap (λ (t : ℕ). (task_at m t).C) h.0 in
    let d = ap (λ (t : ℕ). (task_at m t).D) h.0 in
    subst (ProperJob m) (sym e) (record {
      done = omega (arith, h.1, p.0, p.1.0, c, sub_parts (task_at m s.task).C 1);
      age = omega (arith, h.2, p.1.1.0, d, sub_parts (task_at m s.task).D 1);
    })
met_jobs m x a (s ∷ ss) (j ∷ q) z h p i (Memᴰ.tail w) = met_jobs m x s.sum ss q z h.3 p.1.1.1 i w

met_reads : (m : Model) (x : ℕ → ℕ) (a : ℕ) (ss : List Slot) → Met x (proper_from m a ss) → Reads x a ss (jobs_at x a ss)
met_reads m x a [] p = tt
met_reads m x a (s ∷ ss) p = (refl, omega (arith, p.0), refl, met_reads m x s.sum ss p.1.1.1)

-- a valuation that meets the bounds of properness is that of its state
pub agrees_of : (m : Model) (h : Home) (x : ℕ → ℕ) → x 0 ≡ 0 → Met x (proper_bounds m h.order) → Agrees m h.order x (state_of m h x)
agrees_of m h x z p = record {
  origin = z;
  size = length_tab 1 x m.clocks;
  clock = λ i l. let e : 1 + i ≡ suc i = omega arith in sym (get_d_tab 1 x m.clocks i 0 l ∙ ap x e);
  queue = met_reads m x 0 (slots_of m h.order) p;
}

pub proper_met : (m : Model) (o : List ℕ) (x : ℕ → ℕ) (s : State) → Agrees m o x s → Proper m s → Met x (proper_bounds m o)
proper_met m o x s g p = jobs_met m x 0 (slots_of m o) s.queue g.origin g.queue p.jobs

pub met_proper : (m : Model) (o : List ℕ) (x : ℕ → ℕ) (s : State) → fits m o ≡ true → Agrees m o x s → Met x (proper_bounds m o) → Proper m s
met_proper m o x s f g p = record {
  clocks = g.size;
  jobs = met_jobs m x 0 (slots_of m o) s.queue g.origin g.queue p;
  fit = ap (fits m) (agrees_order g) ∙ f;
}

-- ── one to one ─────────────────────────────────────────────────────────────────────────────────

-- a state is the one of its own variables
pub state_back : (m : Model) (h : Home) (s : State) → Lies m h s → state_of m h (var s) ≡ s
state_back m h s l = sym (agrees_state (lies_agrees m h s l) h.location (ap (λ (y : Home). y.location) l.home))

-- a valuation that meets the bounds of properness is that of its state's variables
pub valuation_back : (m : Model) (h : Home) (x : ℕ → ℕ) → x 0 ≡ 0 → Met x (proper_bounds m h.order) → (i : ℕ) → i < variables m h.order
    → var (state_of m h x) i ≡ x i
valuation_back m h x z p i l = sym (agrees_at (agrees_of m h x z p) i l)

-- the proper states of a location and queue order are those whose variables meet the bounds
pub proper_iff : (m : Model) (h : Home) (s : State) → fits m h.order ≡ true → Lies m h s → Proper m s ↔ Met (var s) (proper_bounds m h.order)
proper_iff m h s f l = let g = lies_agrees m h s l in (proper_met m h.order (var s) s g, met_proper m h.order (var s) s f g)

-- ── a zone as a set of valuations ──────────────────────────────────────────────────────────────

pub zone_agrees : (m : Model) (z : Zone) (s : State) → InZone m z s → Agrees m z.order (var s) s
zone_agrees m z s h = agrees_vars m z.order s h.proper.clocks h.queue

pub zone_met : (m : Model) (z : Zone) (s : State) → InZone m z s → Met (var s) (zone_bounds m z)
zone_met m z s h =
    (met_append (var s) (proper_bounds m z.order) z.bounds).1
    (proper_met m z.order (var s) s (zone_agrees m z s h) h.proper, tests_met (vars s) z.bounds h.bounds)

-- the state of a valuation that meets the zone's bounds, and that it is the valuation's
pub met_agrees : (m : Model) (z : Zone) (x : ℕ → ℕ) → x 0 ≡ 0 → Met x (zone_bounds m z) → Agrees m z.order x (state_of m (home_of_zone z) x)
met_agrees m z x e p = agrees_of m (home_of_zone z) x e ((met_append x (proper_bounds m z.order) z.bounds).0 p).0

pub met_zone : (m : Model) (z : Zone) (x : ℕ → ℕ) → RangedZone m z → x 0 ≡ 0 → Met x (zone_bounds m z) → InZone m z (state_of m (home_of_zone z) x)
met_zone m z x r e p =
    let q = (met_append x (proper_bounds m z.order) z.bounds).0 p in
    let s = state_of m (home_of_zone z) x in
    let g = met_agrees m z x e p in
    record {
      location = refl;
      queue = agrees_order g;
      proper = met_proper m z.order x s r.fit g q.0;
      bounds = met_tests x (vars s) (variables m z.order) z.bounds (agrees_at g) r.bounds q.1;
    }

-- a state lies in the zone exactly if its variables meet the zone's bounds and those of properness
pub in_zone_iff : (m : Model) (z : Zone) (s : State) → RangedZone m z → InZone m z s ↔ (Lies m (home_of_zone z) s × Met (var s) (zone_bounds m z))
in_zone_iff m z s r = (
  λ h. (record { home = home_in m z s h; clocks = h.proper.clocks }, zone_met m z s h),
  λ h. subst (InZone m z) (state_back m (home_of_zone z) s h.0) (met_zone m z (var s) r refl h.1),
)

-- ── the range of the bounds of properness ──────────────────────────────────────────────────────

ranged_proper_from : (m : Model) (a v n : ℕ) (o : List ℕ) → a < n → v + (length o + length o) ≤ n → Ranged n (proper_from m a (slots v o))
ranged_proper_from m a v n [] h k = tt
ranged_proper_from m a v n (t ∷ o) h k =
    let r = ranged_proper_from m v (suc (suc v)) n o (omega arith) (omega arith) in
    (h, omega arith, (omega arith, h, (omega arith, omega arith, r)))

pub ranged_proper : (m : Model) (o : List ℕ) → Ranged (variables m o) (proper_bounds m o)
ranged_proper m o = ranged_proper_from m 0 (suc m.clocks) (variables m o) o (omega arith) (omega arith)

pub ranged_zone : (m : Model) (z : Zone) → RangedZone m z → Ranged (variables m z.order) (zone_bounds m z)
ranged_zone m z r = ranged_append (variables m z.order) (proper_bounds m z.order) z.bounds (ranged_proper m z.order) r.bounds
