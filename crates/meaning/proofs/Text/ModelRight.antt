-- The model that a proper table holds is one that a text can say.
-- Assumes nothing.
use Prim.Native.Nat.{◌%◌, ◌*◌, ◌+◌, ◌-◌, ◌/◌, ◌<◌, ◌≤◌, suc, zero, ℕ}
use mathlib.Core.Bool.{◌&&◌, ◌||◌, false, true}
use mathlib.Core.List.{List}
use mathlib.Core.Path.{◌∙◌, ◌≡◌, ap, refl, sym}
use native.Mathlib.Omega.{arith}
use lib.Dec.{eqb, ltb}
use lib.ListN.{get_or, length}
use borrow.Author.Tests.{eq-eqb, eqb-false, le-ltb, lt-ltb, ltb-false, ltb-true, ne_eqb}
use Rattle.meaning.proofs.Text.Choices.{by_eq, by_lt, by_pick, nonsense, or_false}
use Rattle.meaning.proofs.Text.Collects.{collect_length, each_collect, ordered_collect}
use Rattle.meaning.proofs.Text.ModelCells.{at_limit, at_location, at_task, count_le, get_words, in_edge}
use Rattle.meaning.proofs.Text.ModelDecode.{lowered_over, lowered_under}
use Rattle.meaning.proofs.Text.ModelLaws.{by_one, by_three, by_two, guard_in_lem, lawful, reset_in_lem}
use Rattle.meaning.proofs.Text.ModelShape.{at_from, below, count_same, count_some, get_cell, head_location, head_task, location_first, policy_is, record_at, task_first, upto}
use Rattle.meaning.proofs.Text.RecordLaws.{Proper}
use Rattle.meaning.proofs.Text.RecordParts.{part_below}
use Rattle.meaning.specs.Model.{Bound, Limit, Policy, Task, edf, fps, sjf}
use Rattle.meaning.specs.Text.Lines.{around, between}
use Rattle.meaning.specs.Text.ModelReader.{cells, format, get, mark_at, misfit, rule, used, width, words}
use Rattle.meaning.specs.Text.ModelTable.{clocks, collect, decode, edge_in, edges, guard_in, limits_in, location_in, locations, lowered, resets_in, size, task_in, tasks, there}
use Rattle.meaning.specs.Text.ModelText.{ed, form, gu, iv, lo, policy_number, policy_of, rs, tk}
use Rattle.meaning.proofs.Text.Policies.{policy_number_lem}
use Rattle.meaning.specs.Text.Ranges.{time_most}
use Rattle.meaning.specs.Text.RightModel.{Each, Ranked, RightBound, RightEdge, RightLimit, RightLocation, RightModel, RightTask, before}

-- row by row: five to a row
row_rising : (x y : ℕ) → x < y → (ltb (x / 5) (y / 5) || (eqb (x / 5) (y / 5) && ltb (x % 5) (y % 5))) ≡ true
row_rising x y h =
    by_lt (x / 5) (y / 5) (λ l. rw (lt-ltb (x / 5) (y / 5) l))
    (λ l.
    let e : x / 5 ≡ y / 5 = omega arith in
    let k : x % 5 < y % 5 = omega arith in
    rw (le-ltb (x / 5) (y / 5) l, eq-eqb (x / 5) (y / 5) e, lt-ltb (x % 5) (y % 5) k))

not_used : (m : List ℕ) (p n x : ℕ) → used m p n ≡ false → x < n → get_or m (2 + 3 * x + 2) 0 ≡ p + 1 → ⊥
unfolding used
not_used m p zero x e h k = omega arith
not_used m p (suc n) x e h k =
    let o = or_false (used m p n) (eqb (get_or m (2 + 3 * n + 2) 0) (p + 1)) e in
    by_lt x n (λ l. not_used m p n x o.0 l k) (λ l. let z : n ≡ x = omega arith in eqb-false (get_or m (2 + 3 * n + 2) 0) (p + 1) o.1 (rw z k))

fit_fps : (m : List ℕ) (c : ℕ) → misfit m c ≡ false → get_or m 0 0 ≡ 2 → (1 ≤ c) × (used m c 6 ≡ false)
unfolding misfit
fit_fps m c e h =
    let o = or_false (eqb c 0) (used m c 6) (rw (eq-eqb (get_or m 0 0) 2 h) at e) in
    (by_eq c 0 (λ z. absurd (eqb-false c 0 o.0 z)) (λ n. omega arith), o.1)

fit_edf : (m : List ℕ) (c : ℕ) → misfit m c ≡ false → (get_or m 0 0 ≡ 2 → ⊥) → c ≡ 0
unfolding misfit
fit_edf m c e h =
    let z = ltb-false 0 c (rw (ne_eqb (get_or m 0 0) 2 h) at e) in
    omega arith

module _ (m : List ℕ) (p : Proper format lawful m) where
  clocks_of : (j : ℕ) → 2 ≤ j → j ≤ size → clocks (upto m p j) ≡ clocks m
  unfolding width form mark_at
  clocks_of j a h = ap (λ (x : ℕ). x - 1) (below m p j 1 (omega arith) h (omega arith))

  tasks_of : (j : ℕ) → 20 ≤ j → j ≤ size → tasks (upto m p j) ≡ tasks m
  unfolding tasks
  tasks_of j a h = count_same (upto m p j) m 2 3 6 (λ x l. below m p j (2 + 3 * x) (omega arith) h (head_task x l))

  locations_of : (j : ℕ) → 100 ≤ j → j ≤ size → locations (upto m p j) ≡ locations m
  unfolding locations
  locations_of j a h = count_same (upto m p j) m 20 5 16 (λ x l. below m p j (20 + 5 * x) (omega arith) h (head_location x l))

  right_task : (t : ℕ) → t < 6 → 0 < get_or m (2 + 3 * t) 0 → RightTask (task_in m (2 + 3 * t))
  unfolding rule width form cells words task_in
  right_task t h f =
      let z₁ : suc (2 + 3 * t) ≡ 2 + 3 * t + 1 = omega arith in
      let z₂ : suc (suc (2 + 3 * t)) ≡ 2 + 3 * t + 2 = omega arith in
      let s = record_at m p (2 + 3 * t) tk (omega arith) (at_task t h) (omega arith) f in
      by_three (λ (v : List ℕ). (rule tk (upto m p (2 + 3 * t))).wrong v ≡ 0 → cells tk v ≡ get m (2 + 3 * t) → RightTask (task_in m (2 + 3 * t)))
      (between 1 time_most) (between 1 time_most) (between 0 6) s.vals s.within
      (λ a b c a₁ a₂ b₁ b₂ c₁ c₂ w g.
      let d = g ∙ get_words m (2 + 3 * t) tk (at_task t h) f in
      let d₀ = ap (λ (l : List ℕ). get_or l 0 0) d in
      let d₁ : suc b ≡ get_or m (2 + 3 * t + 1) 0 = rw z₁ at (ap (λ (l : List ℕ). get_or l 1 0) d) in
      let d₂ : suc c ≡ get_or m (2 + 3 * t + 2) 0 = rw z₂ at (ap (λ (l : List ℕ). get_or l 2 0) d) in
      let k : a ≤ b = by_pick (ltb b a) _ _ _ w (λ _ e. nonsense (omega arith)) (λ e _. ltb-false b a e) in
      record { low = omega arith; high = omega arith; enough = omega arith; prio = omega arith })
      s.right s.held

  -- what was asked of a task's priority
  record Rank (t : ℕ) : Type 0 where
    none : (get_or m 0 0 ≡ 2 → ⊥) → (task_in m (2 + 3 * t)).prio ≡ 0
    some : get_or m 0 0 ≡ 2 → 1 ≤ (task_in m (2 + 3 * t)).prio
    new : get_or m 0 0 ≡ 2 → (x : ℕ) → x < t → 0 < get_or m (2 + 3 * x) 0 → (task_in m (2 + 3 * x)).prio ≡ (task_in m (2 + 3 * t)).prio → ⊥

  -- a task before is the same in the part
  prio_kept : (j x : ℕ) → x < 6 → 2 + 3 * x < j → j ≤ size → 0 < get_or m (2 + 3 * x) 0 → (get_or (upto m p j) (2 + 3 * x + 2) 0 ≡ get_or m (2 + 3 * x + 2) 0) × (0 < get_or m (2 + 3 * x + 2) 0)
  unfolding width form words rule cells
  prio_kept j x h l b f =
      let z : suc (suc (2 + 3 * x)) ≡ 2 + 3 * x + 2 = omega arith in
      let c = below m p j (2 + 3 * x) l b (head_task x h) in
      let u = get_words m (2 + 3 * x) tk (at_task x h) f in
      let v = get_words (upto m p j) (2 + 3 * x) tk (at_task x h) (omega arith) in
      let e = ap (λ (r : List ℕ). get_or r 2 0) (sym v ∙ part_below format lawful m p j (2 + 3 * x) l b ∙ u) in
      let s = record_at m p (2 + 3 * x) tk (omega arith) (at_task x h) (omega arith) f in (
        rw z at e,
        by_three (λ (w : List ℕ). cells tk w ≡ get m (2 + 3 * x) → 0 < get_or m (2 + 3 * x + 2) 0) (between 1 time_most) (between 1 time_most) (between 0 6) s.vals s.within
            (λ a₀ b₀ c₀ a₁ a₂ b₁ b₂ c₁ c₂ g. let d : suc c₀ ≡ get_or m (2 + 3 * x + 2) 0 = rw z at (ap (λ (r : List ℕ). get_or r 2 0) (g ∙ u)) in omega arith)
            s.held,
      )

  policy_kept : (j : ℕ) → 1 ≤ j → j ≤ size → get_or (upto m p j) 0 0 ≡ get_or m 0 0
  unfolding width form mark_at
  policy_kept j a b = below m p j 0 (omega arith) b (omega arith)

  rank : (t : ℕ) → t < 6 → 0 < get_or m (2 + 3 * t) 0 → Rank t
  unfolding rule width form cells words task_in
  rank t h f =
      let z : suc (suc (2 + 3 * t)) ≡ 2 + 3 * t + 2 = omega arith in
      let s = record_at m p (2 + 3 * t) tk (omega arith) (at_task t h) (omega arith) f in
      let o = policy_kept (2 + 3 * t) (omega arith) (omega arith) in
      by_three (λ (v : List ℕ). (rule tk (upto m p (2 + 3 * t))).wrong v ≡ 0 → cells tk v ≡ get m (2 + 3 * t) → Rank t)
      (between 1 time_most) (between 1 time_most) (between 0 6) s.vals s.within
      (λ a b c a₁ a₂ b₁ b₂ c₁ c₂ w g.
      let d : suc c ≡ get_or m (2 + 3 * t + 2) 0 = rw z at (ap (λ (r : List ℕ). get_or r 2 0) (g ∙ get_words m (2 + 3 * t) tk (at_task t h) f)) in
      let k : misfit (upto m p (2 + 3 * t)) c ≡ false = by_pick (ltb b a) _ _ _ w (λ _ e. nonsense (omega arith))
      (λ _ e. by_pick (misfit (upto m p (2 + 3 * t)) c) _ _ _ e (λ _ e. nonsense (omega arith)) (λ q _. q)) in
      record {
        none = λ n. (let e = fit_edf (upto m p (2 + 3 * t)) c k (λ q. n (sym o ∙ q)) in omega arith);
        some = λ n. (let e = (fit_fps (upto m p (2 + 3 * t)) c k (o ∙ n)).0 in omega arith);
        new = λ n x l u q. (
            let r = prio_kept (2 + 3 * t) x (omega arith) (omega arith) (omega arith) u in
            not_used (upto m p (2 + 3 * t)) c 6 x (fit_fps (upto m p (2 + 3 * t)) c k (o ∙ n)).1 (omega arith) (omega arith));
      })
      s.right s.held

  right_limit : (l x : ℕ) → l < 16 → x < 4 → 0 < get_or m (20 + 5 * l + (1 + x)) 0 → RightLimit (clocks m) (record { clock = 1 + x; most = get_or m (20 + 5 * l + (1 + x)) 0 - 1 })
  unfolding rule width form cells
  right_limit l x h i f =
      let q = at_limit l (1 + x) h (omega arith) (omega arith) in
      let s = record_at m p (20 + 5 * l + (1 + x)) iv (omega arith) q (omega arith) f in
      let n = clocks_of (20 + 5 * l + (1 + x)) (omega arith) (omega arith) in
      by_two (λ (v : List ℕ). (rule iv (upto m p (20 + 5 * l + (1 + x)))).slot v ≡ 20 + 5 * l + (1 + x) → cells iv v ≡ get m (20 + 5 * l + (1 + x))
      → RightLimit (clocks m) (record { clock = 1 + x; most = get_or m (20 + 5 * l + (1 + x)) 0 - 1 }))
      (between 1 (clocks (upto m p (20 + 5 * l + (1 + x))))) (between 0 time_most) s.vals s.within
      (λ a b a₁ a₂ b₁ b₂ g e.
      let w = s.few in
      let c = get_cell m (20 + 5 * l + (1 + x)) (rw q (omega arith)) in
      let d = ap (λ (r : List ℕ). get_or r 0 0) e in
      record { low = omega arith; high = omega arith; most = omega arith })
      s.goal s.held

  right_location : (l : ℕ) → l < 16 → 0 < get_or m (20 + 5 * l) 0 → RightLocation (clocks m) (tasks m) (location_in m (20 + 5 * l))
  unfolding rule width form cells location_in limits_in
  right_location l h f =
      let q = at_location l h in
      let s = record_at m p (20 + 5 * l) lo (omega arith) q (omega arith) f in
      let n = tasks_of (20 + 5 * l) (omega arith) (omega arith) in
      let k : get_or m (20 + 5 * l) 0 - 1 ≤ tasks m =
      by_one (λ (v : List ℕ). cells lo v ≡ get m (20 + 5 * l) → get_or m (20 + 5 * l) 0 - 1 ≤ tasks m) (between 0 (tasks (upto m p (20 + 5 * l)))) s.vals s.within
      (λ a a₁ a₂ e.
      let c = get_cell m (20 + 5 * l) (rw q (omega arith)) in
      let d = ap (λ (r : List ℕ). get_or r 0 0) e in
      omega arith)
      s.held in
      record {
        task = k;
        limits = each_collect (RightLimit (clocks m)) 4 (λ x. there m (20 + 5 * l + 1 + x)) (λ x. record { clock = 1 + x; most = get_or m (20 + 5 * l + 1 + x) 0 - 1 })
            (λ x i t.
            let z : 20 + 5 * l + 1 + x ≡ 20 + 5 * l + (1 + x) = omega arith in
            rw z (right_limit l x h i (rw z at (ltb-true 0 (get_or m (20 + 5 * l + 1 + x) 0) t))));
        rising = ordered_collect (λ (a b : Limit). a.clock < b.clock) 4 (λ x. there m (20 + 5 * l + 1 + x)) (λ x. record { clock = 1 + x; most = get_or m (20 + 5 * l + 1 + x) 0 - 1 })
            (λ x y a b c d. omega arith);
      }

  right_bound : (e x : ℕ) → e < 32 → x < 25 → 0 < get_or m (100 + 31 * e + (2 + x)) 0
      → RightBound (clocks m) time_most (record { i = x / 5; j = x % 5; c = lowered (get_or m (100 + 31 * e + (2 + x)) 0 - 1) })
  unfolding rule width form cells
  right_bound e x h i f =
      let q : mark_at (100 + 31 * e + (2 + x)) ≡ gu = in_edge e (2 + x) (omega arith) ∙ guard_in_lem (2 + x) (omega arith) (omega arith) in
      let s = record_at m p (100 + 31 * e + (2 + x)) gu (omega arith) q (omega arith) f in
      let n = clocks_of (100 + 31 * e + (2 + x)) (omega arith) (omega arith) in
      by_three (λ (v : List ℕ). (rule gu (upto m p (100 + 31 * e + (2 + x)))).slot v ≡ 100 + 31 * e + (2 + x) → (rule gu (upto m p (100 + 31 * e + (2 + x)))).wrong v ≡ 0
      → cells gu v ≡ get m (100 + 31 * e + (2 + x)) → RightBound (clocks m) time_most (record { i = x / 5; j = x % 5; c = lowered (get_or m (100 + 31 * e + (2 + x)) 0 - 1) }))
      (between 0 (clocks (upto m p (100 + 31 * e + (2 + x))))) (between 0 (clocks (upto m p (100 + 31 * e + (2 + x))))) (around time_most) s.vals s.within
      (λ a b c a₁ a₂ b₁ b₂ c₁ c₂ g w d.
      let few = s.few in
      let u : x ≡ 5 * a + b = omega arith in
      let u₁ : x / 5 ≡ a = omega arith in
      let u₂ : x % 5 ≡ b = omega arith in
      let y = get_cell m (100 + 31 * e + (2 + x)) (rw q (omega arith)) in
      let d₀ = ap (λ (r : List ℕ). get_or r 0 0) d in
      let k₁ = lowered_under (get_or m (100 + 31 * e + (2 + x)) 0 - 1) in
      let k₂ = lowered_over (get_or m (100 + 31 * e + (2 + x)) 0 - 1) in
      record {
        i = omega arith;
        j = omega arith;
        two = (λ t. by_pick (eqb a b) _ _ _ w (λ _ o. nonsense (omega arith)) (λ o _. eqb-false a b o (omega arith)));
        least = omega arith;
        most = omega arith;
      })
      s.goal s.right s.held

  right_reset : (e x : ℕ) → e < 32 → x < 4 → 0 < get_or m (100 + 31 * e + (27 + x)) 0 → 1 + x ≤ clocks m
  unfolding rule width form
  right_reset e x h i f =
      let q : mark_at (100 + 31 * e + (27 + x)) ≡ rs = in_edge e (27 + x) (omega arith) ∙ reset_in_lem (27 + x) (omega arith) in
      let s = record_at m p (100 + 31 * e + (27 + x)) rs (omega arith) q (omega arith) f in
      let n = clocks_of (100 + 31 * e + (27 + x)) (omega arith) (omega arith) in
      by_one (λ (v : List ℕ). (rule rs (upto m p (100 + 31 * e + (27 + x)))).slot v ≡ 100 + 31 * e + (27 + x) → 1 + x ≤ clocks m)
      (between 1 (clocks (upto m p (100 + 31 * e + (27 + x))))) s.vals s.within
      (λ a a₁ a₂ g. let few = s.few in omega arith)
      s.goal

  right_edge : (e : ℕ) → e < 32 → 0 < get_or m (100 + 31 * e) 0 → RightEdge (clocks m) (locations m) (edge_in m (100 + 31 * e))
  unfolding rule width form cells words edge_in guard_in resets_in
  right_edge e h f =
      let z₁ : suc (100 + 31 * e) ≡ 100 + 31 * e + 1 = omega arith in
      let s = record_at m p (100 + 31 * e) ed (omega arith) (at_from e) (omega arith) f in
      let n = locations_of (100 + 31 * e) (omega arith) (omega arith) in
      by_two (λ (v : List ℕ). cells ed v ≡ get m (100 + 31 * e) → RightEdge (clocks m) (locations m) (edge_in m (100 + 31 * e)))
      (between 1 (locations (upto m p (100 + 31 * e)))) (between 1 (locations (upto m p (100 + 31 * e)))) s.vals s.within
      (λ a b a₁ a₂ b₁ b₂ g.
      let d = g ∙ get_words m (100 + 31 * e) ed (at_from e) f in
      let d₀ = ap (λ (l : List ℕ). get_or l 0 0) d in
      let d₁ : suc b ≡ get_or m (100 + 31 * e + 1) 0 = rw z₁ at (ap (λ (l : List ℕ). get_or l 1 0) d) in
      record {
        from_low = omega arith;
        from_high = omega arith;
        to_low = omega arith;
        to_high = omega arith;
        guard = each_collect (RightBound (clocks m) time_most) 25 (λ x. there m (100 + 31 * e + 2 + x)) (λ x. record { i = x / 5; j = x % 5; c = lowered (get_or m (100 + 31 * e + 2 + x) 0 - 1) })
            (λ x i t.
            let z : 100 + 31 * e + 2 + x ≡ 100 + 31 * e + (2 + x) = omega arith in
            rw z (right_bound e x h i (rw z at (ltb-true 0 (get_or m (100 + 31 * e + 2 + x) 0) t))));
        guard_rising = ordered_collect (λ (a b : Bound). before a b ≡ true) 25 (λ x. there m (100 + 31 * e + 2 + x)) (λ x. record { i = x / 5; j = x % 5; c = lowered (get_or m (100 + 31 * e + 2 + x) 0 - 1) })
            (λ x y a b c d. row_rising x y a);
        resets = each_collect (λ (k : ℕ). (1 ≤ k) × (k ≤ clocks m)) 4 (λ x. there m (100 + 31 * e + 27 + x)) (λ x. 1 + x)
            (λ x i t.
            let z : 100 + 31 * e + 27 + x ≡ 100 + 31 * e + (27 + x) = omega arith in
            (omega arith, right_reset e x h i (rw z at (ltb-true 0 (get_or m (100 + 31 * e + 27 + x) 0) t))));
        resets_rising = ordered_collect (λ (a b : ℕ). a < b) 4 (λ x. there m (100 + 31 * e + 27 + x)) (λ x. 1 + x) (λ x y a b c d. omega arith);
      })
      s.held

  few_clocks : clocks m ≤ 4
  unfolding width form
  few_clocks =
      let s = record_at m p 2 tk (omega arith) (at_task 0 (omega arith)) (omega arith) (task_first m p) in
      let n = clocks_of 2 (omega arith) (omega arith) in
      omega (arith, s.few)

  pub length_tasks : length (decode m).tasks ≡ tasks m
  unfolding decode tasks
  length_tasks = collect_length m 2 3 6 (λ t. task_in m (2 + 3 * t))

  pub length_locations : length (decode m).locations ≡ locations m
  unfolding decode locations
  length_locations = collect_length m 20 5 16 (λ l. location_in m (20 + 5 * l))

  pub length_edges : length (decode m).edges ≡ edges m
  unfolding decode edges
  length_edges = collect_length m 100 31 32 (λ e. edge_in m (100 + 31 * e))

  tasks_range : (1 ≤ tasks m) × (tasks m ≤ 6)
  unfolding tasks
  tasks_range = (count_some m 2 3 5 (task_first m p), count_le m 2 3 6)

  locations_range : (1 ≤ locations m) × (locations m ≤ 16)
  unfolding locations
  locations_range = (count_some m 20 5 15 (location_first m p), count_le m 20 5 16)

  edges_range : edges m ≤ 32
  unfolding edges
  edges_range = count_le m 100 31 32

  each_task : Each RightTask (decode m).tasks
  unfolding decode
  each_task = each_collect RightTask 6 (λ t. there m (2 + 3 * t)) (λ t. task_in m (2 + 3 * t)) (λ t h e. right_task t h (ltb-true 0 (get_or m (2 + 3 * t) 0) e))

  each_location : Each (RightLocation (clocks m) (tasks m)) (decode m).locations
  unfolding decode
  each_location =
      each_collect (RightLocation (clocks m) (tasks m)) 16 (λ l. there m (20 + 5 * l)) (λ l. location_in m (20 + 5 * l)) (λ l h e. right_location l h (ltb-true 0 (get_or m (20 + 5 * l) 0) e))

  each_edge : Each (RightEdge (clocks m) (locations m)) (decode m).edges
  unfolding decode
  each_edge =
      each_collect (RightEdge (clocks m) (locations m)) 32 (λ e. there m (100 + 31 * e)) (λ e. edge_in m (100 + 31 * e)) (λ e h t. right_edge e h (ltb-true 0 (get_or m (100 + 31 * e) 0) t))

  ranked : Ranked (decode m).policy (decode m).tasks
  unfolding decode policy_number
  ranked = let r = policy_is m p in go (policy_of (get_or m 0 0 - 1)) (sym (policy_number_lem (get_or m 0 0 - 1) (omega arith) (omega arith)))
    where
      there_is : (t : ℕ) → there m (2 + 3 * t) ≡ true → 0 < get_or m (2 + 3 * t) 0
      there_is t e = ltb-true 0 (get_or m (2 + 3 * t) 0) e

      zeros : (get_or m 0 0 ≡ 2 → ⊥) → Each (λ (x : Task). x.prio ≡ 0) (collect 6 (λ t. there m (2 + 3 * t)) (λ t. task_in m (2 + 3 * t)))
      zeros n = each_collect (λ (x : Task). x.prio ≡ 0) 6 (λ t. there m (2 + 3 * t)) (λ t. task_in m (2 + 3 * t)) (λ t h k. (rank t h (there_is t k)).none n)

      go : (q : Policy) → get_or m 0 0 - 1 ≡ policy_number q → Ranked q (collect 6 (λ t. there m (2 + 3 * t)) (λ t. task_in m (2 + 3 * t)))
      go fps e =
          let z : get_or m 0 0 ≡ 2 = omega arith in (
            each_collect (λ (x : Task). 1 ≤ x.prio) 6 (λ t. there m (2 + 3 * t)) (λ t. task_in m (2 + 3 * t)) (λ t h k. (rank t h (there_is t k)).some z),
            ordered_collect (λ (x y : Task). x.prio ≡ y.prio → ⊥) 6 (λ t. there m (2 + 3 * t)) (λ t. task_in m (2 + 3 * t)) (λ x y l h a b q. (rank y h (there_is y b)).new z x l (there_is x a) q),
          )
      go edf e = zeros (omega arith)
      go sjf e = zeros (omega arith)

  clocks_are : (decode m).clocks ≡ clocks m
  unfolding decode
  clocks_are = refl

  pub decode_right : RightModel (decode m)
  decode_right =
      let a = tasks_range in
      let b = locations_range in
      let c = edges_range in
      let x = length_tasks in
      let y = length_locations in
      let z = length_edges in
      record {
        clocks = rw clocks_are few_clocks;
        tasks_low = omega arith;
        tasks_high = omega arith;
        tasks = each_task;
        ranks = ranked;
        locations_low = omega arith;
        locations_high = omega arith;
        locations = rw (clocks_are, length_tasks) each_location;
        edges_high = omega arith;
        edges = rw (clocks_are, length_locations) each_edge;
      }
