-- A state of a location and queue order takes a step exactly if its valuation meets the step's bounds.
-- Assumes nothing.
use mathlib.Core.Path.{◌≡◌, refl, sym, ◌∙◌, ap, subst}
use mathlib.Core.Logic.{◌↔◌}
use mathlib.Core.Bool.{Bool, true, not, ◌&&◌}
use mathlib.Core.List.{List, [], ◌∷◌, ◌++◌, map}
use mathlib.Core.Option.{Option, none, some}
use Prim.Native.Nat.{ℕ, zero, suc, ◌≤◌, ◌<◌}
use native.Mathlib.Omega.{arith}
use lib.Dec.{leb}
use lib.IntN.{sub_ℕ}
use lib.ListN.{get_or}
use borrow.Author.Tests.{leb-true, leb-false, le-leb, lt-leb}
use Rattle.meaning.specs.Lists.{nth1, nth1D, every}
use Rattle.meaning.specs.Model.{Limit, Bound, Edge, Model, task_at, location_at, leaves_at, released}
use Rattle.meaning.specs.Machine.State.{Job, State}
use Rattle.meaning.specs.Machine.Tick.{limit_test, tick_allowed, finishes}
use Rattle.meaning.specs.Machine.Edge.{bound_test, guard_test}
use Rattle.meaning.specs.Machine.Step.{edge_allowed}
use Rattle.meaning.specs.Zones.Steps.{Step, go_on, finish, by_edge, taken_by, Takes}
use Rattle.meaning.specs.Zones.Reached.{Home}
use Rattle.meaning.specs.Inner.Bounds.{bound, Meets, Met, Ranged}
use Rattle.meaning.specs.Inner.Slots.{Slot, slots_of, Reads, Agrees}
use Rattle.meaning.specs.Inner.Places.{release_bounds}
use Rattle.meaning.specs.Inner.StepBounds.{limit_bounds, Clocked, head_goes_on, head_finishes, edge_bounds, step_bounds, GuardRanged, RangedModel}
use Rattle.meaning.proofs.Tests.{and_left, and_right, and_both, not_of_false, false_of_not, never}
use Rattle.meaning.proofs.Lists.{get_d_map_suc}
use Rattle.meaning.proofs.Numbers.{sub_parts, within_true, within_make}
use Rattle.meaning.proofs.Hooks.{guard_test_is, finishes_none, finishes_is}
use Rattle.meaning.proofs.Exact.Bounds.{never_met, only_if_met, met_append}
use Rattle.meaning.proofs.Exact.Valuations.{agrees_order}
use Rattle.meaning.proofs.Exact.Releases.{release_met}

module _ {A B : Type 0} where
  and_iff : (a b : Bool) → (a ≡ true) ↔ A → (b ≡ true) ↔ B → ((a && b) ≡ true) ↔ (A × B)
  and_iff a b e f = (λ t. (e.0 (and_left a b t), f.0 (and_right a b t)), λ h. and_both a b (e.1 h.0) (f.1 h.1))

-- ── limits: the clocks after the tick ──────────────────────────────────────────────────────────

module _ {m : Model} {o : List ℕ} {x : ℕ → ℕ} {s : State} (g : Agrees m o x s) where
  limit_met_lem : (c k : ℕ) → 0 < c → c ≤ m.clocks → (leb (nth1D (map suc s.clocks) c 0) k ≡ true) ↔ Meets x (bound c 0 (sub_ℕ k 1))
  limit_met_lem zero k p h = absurd (omega arith)
  limit_met_lem (suc i) k p h =
      let e = get_d_map_suc s.clocks i (omega (arith, g.size)) in
      let v = g.clock i (omega arith) in (
        λ t. let w = leb-true (get_or (map suc s.clocks) i 0) k t in omega (arith, sub_parts k 1, g.origin),
        λ w. le-leb (get_or (map suc s.clocks) i 0) k (omega (arith, sub_parts k 1, g.origin)),
      )

  limits_met_lem : (ls : List Limit) → Clocked m.clocks ls → (every (limit_test (map suc s.clocks)) ls ≡ true) ↔ Met x (limit_bounds ls)
  limits_met_lem [] c = (λ t. tt, λ h. refl)
  limits_met_lem (l ∷ ls) c =
      and_iff (limit_test (map suc s.clocks) l) (every (limit_test (map suc s.clocks)) ls)
      (limit_met_lem l.clock l.most c.0 c.1) (limits_met_lem ls c.2)

  -- ── guards: the clocks before the step ─────────────────────────────────────────────────────────
  clock_at : (i : ℕ) → i < suc m.clocks → nth1D s.clocks i 0 ≡ x i
  clock_at zero h = sym g.origin
  clock_at (suc i) h = sym (g.clock i (omega arith))

  guards_met : (bs : List Bound) → Ranged (suc m.clocks) bs → (every (bound_test s.clocks) bs ≡ true) ↔ Met x bs
  guards_met [] r = (λ t. tt, λ h. refl)
  guards_met (b ∷ bs) r =
      let i = clock_at b.i r.0 in
      let j = clock_at b.j r.1 in
      and_iff (bound_test s.clocks b) (every (bound_test s.clocks) bs) (
        λ t. let w = within_true (nth1D s.clocks b.i 0) (nth1D s.clocks b.j 0) b.c t in omega arith,
        λ w. within_make (nth1D s.clocks b.i 0) (nth1D s.clocks b.j 0) b.c (omega arith),
      )
      (guards_met bs r.2)

  guard_met : (e : Edge) → Ranged (suc m.clocks) e.guard → (guard_test m s e ≡ true) ↔ Met x e.guard
  guard_met e r =
      let f = guards_met e.guard r in
      (λ t. f.0 (sym (guard_test_is m s e) ∙ t), λ h. guard_test_is m s e ∙ f.1 h)

-- ── the head goes on, or finishes ──────────────────────────────────────────────────────────────

on_met : (m : Model) (x : ℕ → ℕ) (ss : List Slot) (q : List Job) → x 0 ≡ 0 → Reads x 0 ss q → (not (finishes m q) ≡ true) ↔ Met x (head_goes_on m ss)
on_met m x [] [] z r = (λ t. tt, λ h. not_of_false (finishes_none m))
on_met m x [] (j ∷ q) z r = absurd r
on_met m x (s ∷ ss) [] z r = absurd r
on_met m x (s ∷ ss) (j ∷ q) z r =
    let c = ap (λ (t : ℕ). (task_at m t).C) r.0 in
    let p = sub_parts (task_at m s.task).C 2 in
    let f = finishes_is m j q in (
      λ t. (let w = leb-false (task_at m j.task).C (suc j.done) (sym f ∙ false_of_not (finishes m (j ∷ q)) t) in omega (arith, r.1), tt),
      λ h. not_of_false (f ∙ lt-leb (task_at m j.task).C (suc j.done) (omega (arith, r.1, h.0))),
    )

finish_met : (m : Model) (x : ℕ → ℕ) (ss : List Slot) (q : List Job) → x 0 ≡ 0 → Reads x 0 ss q → (finishes m q ≡ true) ↔ Met x (head_finishes m ss)
finish_met m x [] [] z r = (λ t. absurd (never t (finishes_none m)), λ h. absurd (never_met x h))
finish_met m x [] (j ∷ q) z r = absurd r
finish_met m x (s ∷ ss) [] z r = absurd r
finish_met m x (s ∷ ss) (j ∷ q) z r =
    let c = ap (λ (t : ℕ). (task_at m t).C) r.0 in
    let p = sub_parts 1 (task_at m s.task).C in
    let f = finishes_is m j q in (
      λ t. (let w = leb-true (task_at m j.task).C (suc j.done) (sym f ∙ t) in omega (arith, r.1), tt),
      λ h. f ∙ le-leb (task_at m j.task).C (suc j.done) (omega (arith, r.1, h.0)),
    )

-- ── the bounds of a step ───────────────────────────────────────────────────────────────────────

module _ (m : Model) (h : Home) (x : ℕ → ℕ) (s : State) (w : RangedModel m) (g : Agrees m h.order x s) (e : s.location ≡ h.location) where
  tick_met : (tick_allowed m s ≡ true) ↔ Met x (limit_bounds (location_at m h.location).limits)
  tick_met =
      subst (λ (l : ℕ). (tick_allowed m s ≡ true) ↔ Met x (limit_bounds (location_at m l).limits)) e
      (limits_met_lem g (location_at m s.location).limits (w.limits s.location))

  edge_met : (ps : List ℕ) (d : Edge) → Ranged (suc m.clocks) d.guard
      → ((edge_allowed m s (some d) ≡ true) × (taken_by m s ps (some d) ≡ true)) ↔ Met x (edge_bounds m h ps (some d))
  edge_met ps d r =
      let ss = slots_of m h.order in
      let a = guard_met g d r in
      let b = release_met m x (released m d) ps h.order ss s.queue g.origin g.queue (agrees_order g) in
      let c = met_append x d.guard (release_bounds m (released m d) ps h.order ss) in
      let f = only_if_met x (leaves_at d h.location) (d.guard ++ release_bounds m (released m d) ps h.order ss) in
      let l : leaves_at d s.location ≡ leaves_at d h.location = ap (leaves_at d) e in (
        λ t. f.1 (
          sym l ∙ and_left (leaves_at d s.location) (guard_test m s d) t.0,
          c.1 (a.0 (and_right (leaves_at d s.location) (guard_test m s d) t.0), b.0 t.1),
        ),
        λ q. (and_both (leaves_at d s.location) (guard_test m s d) (l ∙ (f.0 q).0) (a.1 (c.0 (f.0 q).1).0), b.1 (c.0 (f.0 q).1).1),
      )

  edges_met : (ps : List ℕ) (d : Option Edge) → GuardRanged (suc m.clocks) d
      → ((edge_allowed m s d ≡ true) × (taken_by m s ps d ≡ true)) ↔ Met x (edge_bounds m h ps d)
  edges_met ps none r = (λ t. absurd (never t.0 refl), λ q. absurd (never_met x q))
  edges_met ps (some d) r = edge_met ps d r

  -- a state of the location and queue order takes the step exactly if its valuation meets the step's bounds
  pub takes_iff : (st : Step) → Takes m s st ↔ Met x (step_bounds m h st)
  takes_iff go_on =
      let c = met_append x (limit_bounds (location_at m h.location).limits) (head_goes_on m (slots_of m h.order)) in
      let o = on_met m x (slots_of m h.order) s.queue g.origin g.queue in
      (λ t. c.1 (tick_met.0 t.allows, o.0 t.choice), λ q. record { allows = tick_met.1 (c.0 q).0; choice = o.1 (c.0 q).1 })
  takes_iff finish =
      let c = met_append x (limit_bounds (location_at m h.location).limits) (head_finishes m (slots_of m h.order)) in
      let o = finish_met m x (slots_of m h.order) s.queue g.origin g.queue in
      (λ t. c.1 (tick_met.0 t.allows, o.0 t.choice), λ q. record { allows = tick_met.1 (c.0 q).0; choice = o.1 (c.0 q).1 })
  takes_iff (by_edge k ps) =
      let c = edges_met ps (nth1 m.edges k) (w.guards k) in
      (λ t. c.0 (t.allows, t.choice), λ q. record { allows = (c.1 q).0; choice = (c.1 q).1 })
