-- Model A: "A with A prints `OK 7`", and with `BD 1 0 4` it prints `NO 5 2 1 5 1 5`. So the definitions hold of something, and a failure
-- says what it should.
-- Assumes nothing.
use mathlib.Core.Path.{◌≡◌, refl, sym, ◌∙◌, ap, ap₂, subst}
use mathlib.Core.Logic.{inl, inr}
use mathlib.Core.Bool.{Bool, true, false, ◌&&◌}
use mathlib.Core.List.Memᴰ
use mathlib.Core.List.{List, [], ◌∷◌, Memᴰ, head-eq_of_cons-eq, tail-eq_of_cons-eq, nil≢cons}
use mathlib.Core.Option.{some}
use Prim.Native.Nat.{ℕ, zero, suc, ◌+◌, ◌≤◌, ◌<◌}
use native.Mathlib.Omega.{arith}
use lib.Dec.{ltb, eqb}
use lib.IntN.{pos, negsuc}
use lib.ListN.{length}
use borrow.Author.Tests.{eqb-true, ltb-true, leb-true, leb-false}
use Rattle.meaning.specs.Lists.{nth1, every, same_list}
use Rattle.meaning.specs.Model.{Bound, Model, task_at, leaves_at, target, released, released_at_start}
use Rattle.meaning.specs.Machine.State.{Job, State, order}
use Rattle.meaning.specs.Machine.Place.{beats_by, beats, behind}
use Rattle.meaning.specs.Machine.Release.{overflows}
use Rattle.meaning.specs.Machine.Tick.{finishes}
use Rattle.meaning.specs.Machine.Edge.{bound_test, guard_test}
use Rattle.meaning.specs.Machine.Step.{tick, edge, overflow, act}
use Rattle.meaning.specs.Machine.Run.{start}
use Rattle.meaning.specs.Zones.Variables.{vars, var}
use Rattle.meaning.specs.Zones.Proper.{ProperJob, fits}
use Rattle.meaning.specs.Zones.Zone.{Zone, Proposal, InZone}
use Rattle.meaning.specs.Zones.Steps.{Step, go_on, finish, by_edge, event_of, Takes}
use Rattle.meaning.specs.Zones.Reached.{home_of, Lands, ReachedBy}
use Rattle.meaning.specs.Check.Obligations.{Follow, Obligation, starts, follows, obligations, Good, Holds, Accepts}
use Rattle.meaning.specs.Check.Faults.{Fault, late_at, over, unclaimed, elsewhere, breaks, kind_of, row_of, column_of, Before, late_test, BreaksZone, AtFault, Fails}
use Rattle.meaning.specs.Check.Answer.{accepted, failed, Right}
use Rattle.meaning.specs.ConsoleChecks.{model_a, bound, zone1, zone2, proposal_a, job, at}
use Rattle.meaning.proofs.Tests.{and_left, and_right, never}
use Rattle.meaning.proofs.Lists.{every_mem, same_list_eq}

-- ── lying in a zone, as a test ─────────────────────────────────────────────────────────────────

abbrev job_test : Model → Job → Bool
job_test m j = ltb j.done (task_at m j.task).C && ltb j.age (task_at m j.task).D

abbrev in_test : Model → Zone → State → Bool
in_test m z s =
    eqb s.location z.location && (same_list (order s.queue) z.order
    && (eqb (length s.clocks) m.clocks && (every (job_test m) s.queue && (fits m (order s.queue)
    && every (bound_test (vars s)) z.bounds))))

in_of_test : (m : Model) (z : Zone) (s : State) → in_test m z s ≡ true → InZone m z s
in_of_test m z s t =
    let a = eqb s.location z.location in
    let b = same_list (order s.queue) z.order in
    let c = eqb (length s.clocks) m.clocks in
    let d = every (job_test m) s.queue in
    let e = fits m (order s.queue) in
    let f = every (bound_test (vars s)) z.bounds in
    let t1 = and_right a (b && (c && (d && (e && f)))) t in
    let t2 = and_right b (c && (d && (e && f))) t1 in
    let t3 = and_right c (d && (e && f)) t2 in
    let t4 = and_right d (e && f) t3 in
    record {
      location = eqb-true s.location z.location (and_left a (b && (c && (d && (e && f)))) t);
      queue = same_list_eq (order s.queue) z.order (and_left b (c && (d && (e && f))) t1);
      proper = record {
        clocks = eqb-true (length s.clocks) m.clocks (and_left c (d && (e && f)) t2);
        jobs = λ j h. jobs j (every_mem (job_test m) s.queue (and_left d (e && f) t3) j h);
        fit = and_left e f t4;
      };
      bounds = every_mem (bound_test (vars s)) z.bounds (and_right e f t4);
    }
  where
    jobs : (j : Job) → job_test m j ≡ true → ProperJob m j
    jobs j t = record {
      done = ltb-true j.done (task_at m j.task).C (and_left (ltb j.done (task_at m j.task).C) (ltb j.age (task_at m j.task).D) t);
      age = ltb-true j.age (task_at m j.task).D (and_right (ltb j.done (task_at m j.task).C) (ltb j.age (task_at m j.task).D) t);
    }

-- ── the states of the two zones ────────────────────────────────────────────────────────────────

one_clock : (l : List ℕ) → length l ≡ 1 → (x : ℕ) × (l ≡ x ∷ [])
one_clock [] e = absurd (omega arith)
one_clock (x ∷ []) e = (x, refl)
one_clock (x ∷ y ∷ l) e = absurd (omega arith)

one_job : (q : List Job) (t : ℕ) → order q ≡ t ∷ [] → (j : Job) × (q ≡ j ∷ []) × (j.task ≡ t)
one_job [] t e = absurd (nil≢cons e)
one_job (j ∷ []) t e = (j, refl, head-eq_of_cons-eq e)
one_job (j ∷ i ∷ q) t e = absurd (nil≢cons (sym (tail-eq_of_cons-eq e)))

no_job : (q : List Job) → order q ≡ [] → q ≡ []
no_job [] e = refl
no_job (j ∷ q) e = absurd (nil≢cons (sym e))

-- zone 1: the clock, the job's done and its age are one number below 2
shape1 : (s : State) → InZone model_a zone1 s → (x : ℕ) × (x < 2) × (s ≡ at 1 (x ∷ []) (job 1 x x ∷ []))
shape1 s h = go (one_clock s.clocks h.proper.clocks) (one_job s.queue 1 h.queue)
  where
    go : (x : ℕ) × (s.clocks ≡ x ∷ []) → (j : Job) × (s.queue ≡ j ∷ []) × (j.task ≡ 1) → (x : ℕ) × (x < 2) × (s ≡ at 1 (x ∷ []) (job 1 x x ∷ []))
    go (x, c) (j, q, t) =
        let v : vars s ≡ x ∷ (0 + j.done) ∷ j.age ∷ [] = ap₂ (λ (a : List ℕ) (b : List Job). vars (at 1 a b)) c q in
        let b1 = leb-true (x + 0) (0 + j.done + 0) (subst (λ (w : List ℕ). bound_test w (bound 1 2 (pos 0)) ≡ true) v (h.bounds (bound 1 2 (pos 0)) (Memᴰ.head refl))) in
        let b2 = leb-true (x + 0) (j.age + 0) (subst (λ (w : List ℕ). bound_test w (bound 1 3 (pos 0)) ≡ true) v (h.bounds (bound 1 3 (pos 0)) (Memᴰ.tail (Memᴰ.head refl)))) in
        let b3 = leb-true (0 + j.done + 0) (x + 0) (subst (λ (w : List ℕ). bound_test w (bound 2 1 (pos 0)) ≡ true) v (h.bounds (bound 2 1 (pos 0)) (Memᴰ.tail (Memᴰ.tail (Memᴰ.head refl))))) in
        let b4 = leb-true (j.age + 0) (x + 0) (subst (λ (w : List ℕ). bound_test w (bound 3 1 (pos 0)) ≡ true) v (h.bounds (bound 3 1 (pos 0)) (Memᴰ.tail (Memᴰ.tail (Memᴰ.tail (Memᴰ.head refl)))))) in
        let d : j.done ≡ x = omega arith in
        let a : j.age ≡ x = omega arith in
        let m : j.done < 2 = subst (λ (n : ℕ). j.done < (task_at model_a n).C) t (h.proper.jobs j (subst (Memᴰ j) (sym q) (Memᴰ.head refl))).done in
        let js : s.queue ≡ job 1 x x ∷ [] = q ∙ (λ k. record { task = t k; done = d k; age = a k } ∷ []) in
        (x, omega arith, λ k. record { location = h.location k; clocks = c k; queue = js k })

-- zone 2: an empty queue, and the clock from 2 to the bound
shape2 : (c : ℕ) (s : State) → InZone model_a (zone2 (pos c)) s → (x : ℕ) × (2 ≤ x) × (x ≤ c) × (s ≡ at 1 (x ∷ []) [])
shape2 n s h = go (one_clock s.clocks h.proper.clocks) (no_job s.queue h.queue)
  where
    go : (x : ℕ) × (s.clocks ≡ x ∷ []) → s.queue ≡ [] → (x : ℕ) × (2 ≤ x) × (x ≤ n) × (s ≡ at 1 (x ∷ []) [])
    go (x, c) q =
        let v : vars s ≡ x ∷ [] = ap₂ (λ (a : List ℕ) (b : List Job). vars (at 1 a b)) c q in
        let b1 = leb-true (0 + 2) (x + 0) (subst (λ (w : List ℕ). bound_test w (bound 0 1 (negsuc 1)) ≡ true) v (h.bounds (bound 0 1 (negsuc 1)) (Memᴰ.head refl))) in
        let b2 = leb-true (x + 0) (0 + n) (subst (λ (w : List ℕ). bound_test w (bound 1 0 (pos n)) ≡ true) v (h.bounds (bound 1 0 (pos n)) (Memᴰ.tail (Memᴰ.head refl)))) in
        (x, omega arith, omega arith, λ k. record { location = h.location k; clocks = c k; queue = q k })

-- ── the obligations, state by state ────────────────────────────────────────────────────────────

module _ (c : ℕ) where
  p : Proposal
  p = proposal_a (pos c)

  -- of a step of zone 1: the states are two
  at1 : (st : Step) (k : ℕ)
      → ((x : ℕ) → x < 2 → Takes model_a (at 1 (x ∷ []) (job 1 x x ∷ [])) st → Good model_a p k (act model_a (at 1 (x ∷ []) (job 1 x x ∷ [])) (event_of st)))
      → (s : State) → InZone model_a zone1 s → Takes model_a s st → Good model_a p k (act model_a s (event_of st))
  at1 st k f s h t =
      let r = shape1 s h in
      subst (λ (u : State). Good model_a p k (act model_a u (event_of st))) (sym r.2)
      (f r.0 r.1 (subst (λ (u : State). Takes model_a u st) r.2 t))

  at2 : (st : Step) (k : ℕ)
      → ((x : ℕ) → 2 ≤ x → x ≤ c → Takes model_a (at 1 (x ∷ []) []) st → Good model_a p k (act model_a (at 1 (x ∷ []) []) (event_of st)))
      → (s : State) → InZone model_a (zone2 (pos c)) s → Takes model_a s st → Good model_a p k (act model_a s (event_of st))
  at2 st k f s h t =
      let r = shape2 c s h in
      subst (λ (u : State). Good model_a p k (act model_a u (event_of st))) (sym r.3)
      (f r.0 r.1 r.2 (subst (λ (u : State). Takes model_a u st) r.3 t))

  -- those of zone 1, and the start, ask of the bound only that it holds of 2
  on1 : (x : ℕ) → x < 2 → Takes model_a (at 1 (x ∷ []) (job 1 x x ∷ [])) go_on → Good model_a p 1 (act model_a (at 1 (x ∷ []) (job 1 x x ∷ [])) tick)
  unfolding p overflows finishes
  on1 zero h t = in_of_test model_a zone1 (at 1 (1 ∷ []) (job 1 1 1 ∷ [])) refl
  on1 (suc zero) h t = absurd (never t.choice refl)
  on1 (suc (suc x)) h t = absurd (omega arith)

  edge1 : (x : ℕ) → x < 2 → Takes model_a (at 1 (x ∷ []) (job 1 x x ∷ [])) (by_edge 1 []) → Good model_a p 0 (act model_a (at 1 (x ∷ []) (job 1 x x ∷ [])) (edge 1))
  unfolding p overflows leaves_at target released guard_test
  edge1 zero h t = absurd (never t.allows refl)
  edge1 (suc zero) h t = absurd (never t.allows refl)
  edge1 (suc (suc x)) h t = absurd (omega arith)

  start_holds : Holds model_a p starts
  unfolding p overflows released_at_start behind beats beats_by
  start_holds = in_of_test model_a zone1 (start model_a) refl

-- the state reached by finishing from zone 1 lies in zone 2, where zone 2's bound lets it
end1 : (c : ℕ) → InZone model_a (zone2 (pos c)) (at 1 (2 ∷ []) []) → (x : ℕ) → x < 2 → Takes model_a (at 1 (x ∷ []) (job 1 x x ∷ [])) finish
    → Good model_a (proposal_a (pos c)) 2 (act model_a (at 1 (x ∷ []) (job 1 x x ∷ [])) tick)
unfolding finishes
end1 c i zero h t = absurd (never t.choice refl)
end1 c i (suc zero) h t = i
end1 c i (suc (suc x)) h t = absurd (omega arith)

inside2_5 : InZone model_a (zone2 (pos 5)) (at 1 (2 ∷ []) [])
inside2_5 = in_of_test model_a (zone2 (pos 5)) (at 1 (2 ∷ []) []) refl

inside2_4 : InZone model_a (zone2 (pos 4)) (at 1 (2 ∷ []) [])
inside2_4 = in_of_test model_a (zone2 (pos 4)) (at 1 (2 ∷ []) []) refl

on2 : (x : ℕ) → 2 ≤ x → x ≤ 5 → Takes model_a (at 1 (x ∷ []) []) go_on → Good model_a (proposal_a (pos 5)) 2 (act model_a (at 1 (x ∷ []) []) tick)
unfolding finishes
on2 zero h k t = absurd (omega arith)
on2 (suc zero) h k t = absurd (omega arith)
on2 (suc (suc zero)) h k t = in_of_test model_a (zone2 (pos 5)) (at 1 (3 ∷ []) []) refl
on2 (suc (suc (suc zero))) h k t = in_of_test model_a (zone2 (pos 5)) (at 1 (4 ∷ []) []) refl
on2 (suc (suc (suc (suc zero)))) h k t = in_of_test model_a (zone2 (pos 5)) (at 1 (5 ∷ []) []) refl
on2 (suc (suc (suc (suc (suc zero))))) h k t = absurd (never t.allows refl)
on2 (suc (suc (suc (suc (suc (suc x)))))) h k t = absurd (omega arith)

end2 : (c x : ℕ) → 2 ≤ x → x ≤ c → Takes model_a (at 1 (x ∷ []) []) finish → Good model_a (proposal_a (pos c)) 0 (act model_a (at 1 (x ∷ []) []) tick)
unfolding finishes
end2 c x h k t = absurd (never t.choice refl)

edge2 : (x : ℕ) → 2 ≤ x → x ≤ 5 → Takes model_a (at 1 (x ∷ []) []) (by_edge 1 (0 ∷ [])) → Good model_a (proposal_a (pos 5)) 1 (act model_a (at 1 (x ∷ []) []) (edge 1))
unfolding overflows leaves_at target released behind beats beats_by guard_test
edge2 zero h k t = absurd (omega arith)
edge2 (suc zero) h k t = absurd (omega arith)
edge2 (suc (suc zero)) h k t = absurd (never t.allows refl)
edge2 (suc (suc (suc zero))) h k t = absurd (never t.allows refl)
edge2 (suc (suc (suc (suc zero)))) h k t = absurd (never t.allows refl)
edge2 (suc (suc (suc (suc (suc zero))))) h k t = in_of_test model_a zone1 (at 1 (0 ∷ []) (job 1 0 0 ∷ [])) refl
edge2 (suc (suc (suc (suc (suc (suc x)))))) h k t = absurd (omega arith)

abbrev All : {A : Type 0} → (A → Type 0) → List A → Type 0
All P [] = Unit {0}
All P (x ∷ xs) = P x × All P xs

each_of : {A : Type 0} (P : A → Type 0) (l : List A) → All P l → (a : A) → Memᴰ a l → P a
each_of {A = A} P [] h a x'' = elim x'' [ ]
each_of P (x ∷ l) h a (Memᴰ.head e) = subst P (sym e) h.0
each_of P (x ∷ l) h a (Memᴰ.tail k) = each_of P l h.1 a k

accepts : Accepts model_a (proposal_a (pos 5))
unfolding p leaves_at target released released_at_start overflows behind
accepts = record {
  all = each_of (Holds model_a (proposal_a (pos 5))) (obligations model_a (proposal_a (pos 5))) (
    start_holds 5,
    (
      at1 5 go_on 1 (on1 5),
      (
        at1 5 finish 2 (end1 5 inside2_5),
        (at1 5 (by_edge 1 []) 0 (edge1 5), (at2 5 go_on 2 on2, (at2 5 finish 0 (end2 5), (at2 5 (by_edge 1 (0 ∷ [])) 1 edge2, tt)))),
      ),
    ),
  );
}

-- "A with A prints `OK 7`."
pub ok_7 : Right model_a (proposal_a (pos 5)) (accepted 7)
unfolding leaves_at target released released_at_start overflows behind
ok_7 = (accepts, refl)

-- ── with BD 1 0 4 ──────────────────────────────────────────────────────────────────────────────

abbrev fifth : Follow
fifth = record { number = 2; place = 1; zone = zone2 (pos 4); step = go_on; claim = 2 }

-- the states that it reaches: the clock one more
reached5 : (t : State) → ReachedBy model_a (zone2 (pos 4)) go_on t → (x : ℕ) × (2 ≤ x) × (x ≤ 4) × (t ≡ at 1 (suc x ∷ []) [])
unfolding finishes
reached5 t r =
    let h = shape2 4 r.from r.inside in
    (h.0, h.1, h.2, sym (subst (λ (u : State). Lands (act model_a u tick) t) h.3 r.lands))

late5 : (k : ℕ) (t : State) → (x : ℕ) × (2 ≤ x) × (x ≤ 4) × (t ≡ at 1 (suc x ∷ []) []) → late_test model_a (nth1 t.queue k) ≡ true → ⊥
late5 k t (x, lo, hi, e) h = none_late k (subst (λ (u : State). late_test model_a (nth1 u.queue k) ≡ true) e h)
  where
    none_late : (k : ℕ) → late_test model_a (nth1 [] k) ≡ true → ⊥
    none_late zero h = never h refl
    none_late (suc k) h = never h refl

-- a broken bound is the second, and the clock is 5
breaks5 : (i j x : ℕ) → 2 ≤ x → x ≤ 4 → BreaksZone (zone2 (pos 4)) i j (at 1 (suc x ∷ []) []) → (i ≡ 1) × (j ≡ 0) × (x ≡ 4)
breaks5 i j x lo hi r = go r.bound r.written r.row r.column r.broken
  where
    go : (b : Bound) → Memᴰ b (zone2 (pos 4)).bounds → b.i ≡ i → b.j ≡ j → bound_test (vars (at 1 (suc x ∷ []) [])) b ≡ false
        → (i ≡ 1) × (j ≡ 0) × (x ≡ 4)
    go b (Memᴰ.head e) p q f =
        let g = leb-false (0 + 2) (suc x + 0) (subst (λ (y : Bound). bound_test (vars (at 1 (suc x ∷ []) [])) y ≡ false) e f) in absurd (omega arith)
    go b (Memᴰ.tail (Memᴰ.head e)) p q f =
        let g = leb-false (suc x + 0) (0 + 4) (subst (λ (y : Bound). bound_test (vars (at 1 (suc x ∷ []) [])) y ≡ false) e f) in
        (sym p ∙ ap (λ (y : Bound). y.i) e, sym q ∙ ap (λ (y : Bound). y.j) e, omega arith)
    go b (Memᴰ.tail (Memᴰ.tail h)) p q f = absurd (Memᴰ.not-nil h)

-- whatever fault there is, it is that bound, at the clock 5
fault5 : (f : Fault) (t : State) → AtFault model_a (proposal_a (pos 4)) (follows fifth) f t → (Path Fault f (breaks 1 0)) × (t ≡ at 1 (5 ∷ []) [])
unfolding finishes
fault5 (late_at k) t h = absurd (late5 k t (reached5 t h.0) h.1)
fault5 over t h = absurd (not_over (shape2 4 t h.inside))
  where
    not_over : (x : ℕ) × (2 ≤ x) × (x ≤ 4) × (t ≡ at 1 (x ∷ []) []) → ⊥
    not_over (x, lo, hi, e) =
        let g : act model_a (at 1 (x ∷ []) []) tick ≡ overflow = subst (λ (u : State). act model_a u tick ≡ overflow) e h.over in
        let z : ◌≡◌ {A = ℕ} 0 1 = cc in omega arith
fault5 unclaimed t h = absurd (let e = h.1 in omega arith)
fault5 elsewhere t h = absurd (h.1 (ap home_of (reached5 t h.0).3))
fault5 (breaks i j) t h = go (reached5 t h.0)
  where
    go : (x : ℕ) × (2 ≤ x) × (x ≤ 4) × (t ≡ at 1 (suc x ∷ []) []) → (Path Fault (breaks i j) (breaks 1 0)) × (t ≡ at 1 (5 ∷ []) [])
    go (x, lo, hi, e) =
        let r = breaks5 i j x lo hi (subst (λ (u : State). BreaksZone (zone2 (pos 4)) i j u) e h.1) in
        (ap₂ breaks r.0 r.1, e ∙ ap (λ (y : ℕ). at 1 (suc y ∷ []) []) r.2)

at_fault5 : AtFault model_a (proposal_a (pos 4)) (follows fifth) (breaks 1 0) (at 1 (5 ∷ []) [])
unfolding overflows finishes
at_fault5 = (
  record {
    from = at 1 (4 ∷ []) [];
    inside = in_of_test model_a (zone2 (pos 4)) (at 1 (4 ∷ []) []) refl;
    takes = record { allows = refl; choice = refl };
    lands = refl;
  },
  record { bound = bound 1 0 (pos 4); written = Memᴰ.tail (Memᴰ.head refl); row = refl; column = refl; broken = refl },
)

not_before : (g f : Fault) → f ≡ g → Before f g → ⊥
not_before g f e (inl h) = let k = ap kind_of e in omega arith
not_before g f e (inr (k, inl h)) = let r = ap row_of e in omega arith
not_before g f e (inr (k, inr (r, h))) = let s = ap column_of e in omega arith

fails5 : Fails model_a (proposal_a (pos 4)) (follows fifth) (breaks 1 0) (at 1 (5 ∷ []) [])
fails5 = record {
  at = at_fault5;
  least = λ u h i. subst (λ (w : State). var (at 1 (5 ∷ []) []) i ≤ var w i) (sym (fault5 (breaks 1 0) u h).1) (omega arith);
  first = λ g b u h. not_before (breaks 1 0) g (fault5 g u h).0 b;
}

some_one : {A : Type 0} (a b : A) → some a ≡ some b → a ≡ b
some_one a b e = cc

earlier5 : (i : ℕ) → i < 5 → (o : Obligation) → nth1 (obligations model_a (proposal_a (pos 4))) i ≡ some o → Holds model_a (proposal_a (pos 4)) o
unfolding p leaves_at target released released_at_start overflows behind
earlier5 zero h o e = absurd (let z : ◌≡◌ {A = ℕ} 0 1 = cc in omega arith)
earlier5 (suc zero) h o e = subst (Holds model_a (proposal_a (pos 4))) (some_one _ o e) (start_holds 4)
earlier5 (suc (suc zero)) h o e = subst (Holds model_a (proposal_a (pos 4))) (some_one _ o e) (at1 4 go_on 1 (on1 4))
earlier5 (suc (suc (suc zero))) h o e =
    subst (Holds model_a (proposal_a (pos 4))) (some_one _ o e) (at1 4 finish 2 (end1 4 inside2_4))
earlier5 (suc (suc (suc (suc zero)))) h o e = subst (Holds model_a (proposal_a (pos 4))) (some_one _ o e) (at1 4 (by_edge 1 []) 0 (edge1 4))
earlier5 (suc (suc (suc (suc (suc i))))) h o e = absurd (omega arith)

-- "Proposal A with `BD 1 0 4` for `BD 1 0 5` prints `NO 5 2 1 5 1 5`": obligation 5, zone 2, place 1, kind 5, location 1, clock 5
pub no_5 : Right model_a (proposal_a (pos 4)) (failed (record { number = 5; zone = 2; place = 1; fault = breaks 1 0; state = at 1 (5 ∷ []) [] }))
unfolding leaves_at target released released_at_start overflows behind
no_5 = record { obligation = follows fifth; listed = refl; earlier = earlier5; fails = fails5; zone = refl; place = refl }
