-- A reached job is late exactly if its age is at least D, so that it is a bound: no reached job is older than its D.
-- Assumes nothing.
use mathlib.Core.Path.{◌≡◌, refl, sym, ◌∙◌, ap, subst}
use mathlib.Core.Logic.{◌↔◌, ⊎_elim}
use mathlib.Core.Bool.{Bool, true, false, cond}
use mathlib.Core.List.Memᴰ
use mathlib.Core.List.{List, [], ◌∷◌, map, Memᴰ}
use mathlib.Core.Option.{Option, none, some}
use Prim.Native.Nat.{ℕ, zero, suc, ◌+◌, ◌≤◌, ◌<◌}
use native.Mathlib.Omega.{arith}
use lib.IntN.{pos}
use lib.ListN.{length, get_or, get_elem?}
use borrow.Author.Tests.{eqb-true, eq-eqb}
use Rattle.meaning.specs.Lists.{nth1}
use Rattle.meaning.specs.Model.{Edge, Model, task_at, released}
use Rattle.meaning.specs.Machine.State.{Job, State, order}
use Rattle.meaning.specs.Machine.Place.{place_of}
use Rattle.meaning.specs.Machine.Release.{overflows_any, new_job, put, put_all}
use Rattle.meaning.specs.Machine.Tick.{older, worked, finishes, served, tick_to, late}
use Rattle.meaning.specs.Machine.Edge.{entered}
use Rattle.meaning.specs.Machine.Step.{overflow, went, judged, moved_by, act}
use Rattle.meaning.specs.Zones.Variables.{var}
use Rattle.meaning.specs.Zones.Proper.{ProperJob, Proper}
use Rattle.meaning.specs.Zones.Zone.{Zone}
use Rattle.meaning.specs.Zones.Steps.{Step, go_on, finish, by_edge, event_of}
use Rattle.meaning.specs.Zones.Reached.{Lands, ReachedBy}
use Rattle.meaning.specs.Check.Faults.{late_test}
use Rattle.meaning.specs.Inner.Bounds.{Apart}
use Rattle.meaning.specs.Inner.Slots.{slots, age_at, Reads, Agrees}
use Rattle.meaning.specs.Inner.Sources.{home_at}
use Rattle.meaning.proofs.Tests.{never}
use Rattle.meaning.proofs.Lists.{mem_map_inv, mem_insert_at}
use Rattle.meaning.proofs.Zones.Home.{reached_lies}
use Rattle.meaning.proofs.Exact.Valuations.{lies_agrees}

-- ── no reached job is older than its D ─────────────────────────────────────────────────────────

record InTime (m : Model) (q : List Job) : Type 0 where
  all : (j : Job) → Memᴰ j q → j.age ≤ (task_at m j.task).D

module _ (m : Model) where
  cast_in : {i j : Job} → i ≡ j → j.age ≤ (task_at m j.task).D → i.age ≤ (task_at m i.task).D
  cast_in e h = subst (λ (u : Job). u.age ≤ (task_at m u.task).D) (sym e) h

  older_in : (q : List Job) → ((j : Job) → Memᴰ j q → ProperJob m j) → (j : Job) → Memᴰ j (map older q) → j.age ≤ (task_at m j.task).D
  older_in q p j h = let r = mem_map_inv older q h in cast_in r.2 (p r.0 r.1).age

  served_in : (b : Bool) (q : List Job) → ((j : Job) → Memᴰ j q → ProperJob m j) → InTime m (served b q)
  served_in b [] p = record { all = λ j h. absurd (Memᴰ.not-nil h) }
  served_in true (i ∷ q) p = record { all = older_in q (λ k w. p k (Memᴰ.tail w)) }
  served_in false (i ∷ q) p = record {
    all = λ j h.
        ⊎_elim (λ (e : j ≡ worked i). cast_in e (p i (Memᴰ.head refl)).age)
        (λ w. older_in q (λ k v. p k (Memᴰ.tail v)) j w) (Memᴰ.cases_cons h);
  }

  put_in : (ts : List ℕ) (q : List Job) → InTime m q → InTime m (put_all m ts q)
  put_in [] q p = p
  put_in (t ∷ ts) q p =
      put_in ts (put m t q)
      (record { all = λ j h. ⊎_elim (λ (e : j ≡ new_job t). cast_in e (omega arith)) (λ w. p.all j w) (mem_insert_at (place_of m t q) q h) })

  judged_in : (s t : State) (k : ℕ) → Lands (judged s k) t → InTime m s.queue → InTime m t.queue
  judged_in s t zero l p = subst (λ (u : State). InTime m u.queue) l p
  judged_in s t (suc k) l p = subst (λ (u : State). InTime m u.queue) l p

  moved_in : (s t : State) (d : Option Edge) → Lands (moved_by m s d) t → InTime m s.queue → InTime m t.queue
  moved_in s t none l p = absurd l
  moved_in s t (some d) l p = go (overflows_any m (released m d) (order s.queue)) l
    where
      go : (b : Bool) → Lands (cond b overflow (went (entered m s d))) t → InTime m t.queue
      go true l = absurd l
      go false l = subst (λ (u : State). InTime m u.queue) l (put_in (released m d) s.queue p)

  lands_in : (s t : State) (st : Step) → Proper m s → Lands (act m s (event_of st)) t → InTime m t.queue
  lands_in s t go_on p l = judged_in (tick_to m s) t (late m (tick_to m s).queue) l (served_in (finishes m s.queue) s.queue p.jobs)
  lands_in s t finish p l = judged_in (tick_to m s) t (late m (tick_to m s).queue) l (served_in (finishes m s.queue) s.queue p.jobs)
  lands_in s t (by_edge k ps) p l = moved_in s t (nth1 m.edges k) l (record { all = λ j h. let w = (p.jobs j h).age in omega arith })

  reads_in : (y : ℕ → ℕ) (a v : ℕ) (o : List ℕ) (q : List Job) → Reads y a (slots v o) q → ((j : Job) → Memᴰ j q → j.age ≤ (task_at m j.task).D)
      → (k : ℕ) → k < length o → y (suc (v + (k + k))) ≤ (task_at m (get_or o k 0)).D
  reads_in y a v [] q h p k l = absurd (omega arith)
  reads_in y a v (t ∷ o) [] h p k l = absurd h
  reads_in y a v (t ∷ o) (j ∷ q) h p zero l =
      let d = ap (λ (u : ℕ). (task_at m u).D) h.0 in
      let e : suc (v + (0 + 0)) ≡ suc v = omega arith in
      let c : y (suc (v + (0 + 0))) ≡ j.age = ap y e ∙ h.2 in
      omega (arith, p j (Memᴰ.head refl))
  reads_in y a v (t ∷ o) (j ∷ q) h p (suc k) l =
      let e : suc (suc (suc v) + (k + k)) ≡ suc (v + (suc k + suc k)) = omega arith in
      subst (λ (u : ℕ). y u ≤ (task_at m (get_or o k 0)).D) e (reads_in y v (suc (suc v)) o q h.3 (λ i w. p i (Memᴰ.tail w)) k (omega arith))

  -- ── late ─────────────────────────────────────────────────────────────────────────────────────
  reads_late : (y : ℕ → ℕ) (a v : ℕ) (o : List ℕ) (q : List Job) → Reads y a (slots v o) q → (k : ℕ)
      → (late_test m (get_elem? q k) ≡ true) ↔ ((k < length o) × (y (suc (v + (k + k))) ≡ (task_at m (get_or o k 0)).D))
  reads_late y a v [] [] h k = (λ t. absurd (never t refl), λ w. absurd (omega (arith, w.0)))
  reads_late y a v [] (j ∷ q) h k = absurd h
  reads_late y a v (t ∷ o) [] h k = absurd h
  reads_late y a v (t ∷ o) (j ∷ q) h zero =
      let d = ap (λ (u : ℕ). (task_at m u).D) h.0 in
      let e : suc (v + (0 + 0)) ≡ suc v = omega arith in
      let c : y (suc (v + (0 + 0))) ≡ j.age = ap y e ∙ h.2 in
      (λ w. (omega arith, c ∙ eqb-true j.age (task_at m j.task).D w ∙ d), λ w. eq-eqb j.age (task_at m j.task).D (sym c ∙ w.1 ∙ sym d))
  reads_late y a v (t ∷ o) (j ∷ q) h (suc k) =
      let r = reads_late y v (suc (suc v)) o q h.3 k in
      let e : suc (suc (suc v) + (k + k)) ≡ suc (v + (suc k + suc k)) = omega arith in
      (λ w. (omega (arith, (r.0 w).0), ap y (sym e) ∙ (r.0 w).1), λ w. r.1 (omega (arith, w.0), ap y e ∙ w.1))

  -- the job at position k + 1 is late exactly if there is one and its age is D
  pub late_iff : (o : List ℕ) (y : ℕ → ℕ) (t : State) → Agrees m o y t → (k : ℕ)
      → (late_test m (nth1 t.queue (suc k)) ≡ true) ↔ ((k < length o) × (y (age_at m k) ≡ (task_at m (get_or o k 0)).D))
  late_iff o y t g k = reads_late y 0 (suc m.clocks) o t.queue g.queue k

  module _ (z : Zone) (st : Step) (u : State) (r : ReachedBy m z st u) where
    agrees : Agrees m (home_at m z st).order (var u) u
    agrees = lies_agrees m (home_at m z st) u (reached_lies m z st u r)

    -- a late job has a position of the step's order
    pub late_position : (k : ℕ) → late_test m (nth1 u.queue (suc k)) ≡ true → k < length (home_at m z st).order
    late_position k t = ((late_iff (home_at m z st).order (var u) u agrees k).0 t).0

    -- the job at position k + 1 of a reached state is late exactly if its age is D or more
    pub late_apart : (k : ℕ) → k < length (home_at m z st).order
        → (late_test m (nth1 u.queue (suc k)) ≡ true) ↔ Apart (var u) (age_at m k) 0 (pos (task_at m (get_or (home_at m z st).order k 0)).D)
    late_apart k h =
        let o = (home_at m z st).order in
        let e = late_iff o (var u) u agrees k in
        let b = reads_in (var u) 0 (suc m.clocks) o u.queue agrees.queue (lands_in r.from u st r.inside.proper r.lands).all k h in
        (λ w. let q = (e.0 w).1 in omega arith, λ w. e.1 (h, omega arith))
