-- Where a step takes the variables: each variable after it is one from before, moved by a fixed amount. At an overflow all stay.
-- Assumes nothing.
use mathlib.Core.Path.{◌≡◌, refl, sym, ◌∙◌, ap, subst}
use mathlib.Core.Logic.{◌≢◌}
use mathlib.Core.Bool.{Bool, true, false, cond, ◌||◌}
use mathlib.Core.List.{List, [], ◌∷◌, map, tail, Memᴰ}
use mathlib.Core.Option.{Option, none, some}
use Prim.Native.Nat.{ℕ, zero, suc, ◌+◌, ◌-◌, ◌<◌}
use native.Mathlib.Omega.{arith}
use native.Mathlib.Decide.{dec_lt}
use lib.Dec.{eqb}
use lib.IntN.{ℤ, pos, sub_ℕ}
use lib.ListN.{length, get_or, set}
use lib.Seq.{get_or-set_other}
use borrow.Author.Tests.{eqb-true, eqb-false}
use Rattle.meaning.specs.Lists.{nth1, set1, elem, same_list}
use Rattle.meaning.specs.Model.{Edge, Model, task_at, target, released}
use Rattle.meaning.specs.Machine.State.{Job, State}
use Rattle.meaning.specs.Machine.Release.{overflows_any, put_all, positions}
use Rattle.meaning.specs.Machine.Tick.{older, finishes, served, ticked, tick_to, late}
use Rattle.meaning.specs.Machine.Edge.{reset_all, entered}
use Rattle.meaning.specs.Machine.Step.{overflow, went, judged, moved_by, act, after}
use Rattle.meaning.specs.Zones.Variables.{variables}
use Rattle.meaning.specs.Zones.Proper.{ProperJob, Proper}
use Rattle.meaning.specs.Zones.Steps.{Step, go_on, finish, by_edge, event_of, taken_by, Takes}
use Rattle.meaning.specs.Zones.Reached.{Home, insert_all, home_by, home_after}
use Rattle.meaning.specs.Inner.Slots.{Slot, slots, slots_of, Reads, Agrees}
use Rattle.meaning.specs.Inner.Places.{insert_slots}
use Rattle.meaning.specs.Inner.Plans.{Plan, head_time, stays, enters, plan_by, plan_of, unreset, slot_vars, slot_offs, from, off, Shifted}
use Rattle.meaning.proofs.Tests.{false_of_not, never}
use Rattle.meaning.proofs.Lists.{same_list_eq, tab_front, tab_back, get_d_map_suc}
use Rattle.meaning.proofs.Numbers.{sub_parts}
use Rattle.meaning.proofs.Hooks.{finishes_at}
use Rattle.meaning.proofs.Zones.Home.{mk_home}
use Rattle.meaning.proofs.Exact.Valuations.{length_slots, reads_length, agrees_order}
use Rattle.meaning.proofs.Exact.Releases.{reads_put_all}

-- ── the queue ──────────────────────────────────────────────────────────────────────────────────

-- from variable v on, y has what x has in the slots, moved
abbrev QueueMoved : (ℕ → ℕ) → ℕ → (ℕ → ℕ) → ℤ → ℤ → List Slot → Type 0
QueueMoved y v x c d [] = Unit {0}
QueueMoved y v x c d (s ∷ ss) = Shifted c (x s.sum) (y v) × Shifted d (x s.age) (y (suc v)) × QueueMoved y (suc (suc v)) x c d ss

move_older : (c : ℤ) (x y : ℕ → ℕ) (a b v : ℕ) (ss : List Slot) (o : List ℕ) (q : List Job) → Shifted c (x a) (y b) → Reads x a ss q
    → Reads y b (slots v o) (map older q) → QueueMoved y v x c (pos 1) ss
move_older c x y a b v [] o q e h k = tt
move_older c x y a b v (s ∷ ss) o [] e h k = absurd h
move_older c x y a b v (s ∷ ss) [] (j ∷ q) e h k = absurd k
move_older c x y a b v (s ∷ ss) (t ∷ o) (j ∷ q) e h k =
    let g : Shifted c (x s.sum) (y v) = omega (arith, h.1, k.1) in
    (g, omega (arith, h.2, k.2), move_older c x y s.sum v (suc (suc v)) ss o q g h.3 k.3)

move_same : (x y : ℕ → ℕ) (a b v : ℕ) (ss : List Slot) (o : List ℕ) (q : List Job) → y b ≡ x a → Reads x a ss q
    → Reads y b (slots v o) q → QueueMoved y v x (pos 0) (pos 0) ss
move_same x y a b v [] o q e h k = tt
move_same x y a b v (s ∷ ss) o [] e h k = absurd h
move_same x y a b v (s ∷ ss) [] (j ∷ q) e h k = absurd k
move_same x y a b v (s ∷ ss) (t ∷ o) (j ∷ q) e h k =
    let g : y v ≡ x s.sum = omega (arith, h.1, k.1) in
    (omega arith, omega (arith, h.2, k.2), move_same x y s.sum v (suc (suc v)) ss o q g h.3 k.3)

move_on : (x y : ℕ → ℕ) (v : ℕ) (o : List ℕ) (q : List Job) → x 0 ≡ 0 → y 0 ≡ 0 → Reads x 0 (slots v o) q
    → Reads y 0 (slots v o) (served false q) → QueueMoved y v x (pos 1) (pos 1) (slots v o)
move_on x y v [] q z w h k = tt
move_on x y v (t ∷ o) [] z w h k = absurd h
move_on x y v (t ∷ o) (j ∷ q) z w h k =
    let g : Shifted (pos 1) (x v) (y v) = omega (arith, h.1, k.1) in
    (g, omega (arith, h.2, k.2), move_older (pos 1) x y v v (suc (suc v)) (slots (suc (suc v)) o) o q g h.3 k.3)

move_finish : (m : Model) (x y : ℕ → ℕ) (v : ℕ) (o : List ℕ) (q : List Job) → x 0 ≡ 0 → y 0 ≡ 0 → ((j : Job) → Memᴰ j q → ProperJob m j)
    → finishes m q ≡ true → Reads x 0 (slots v o) q → Reads y 0 (slots v (tail o)) (served true q)
    → QueueMoved y v x (sub_ℕ 1 (head_time m o)) (pos 1) (tail (slots v o))
move_finish m x y v [] q z w p f h k = tt
move_finish m x y v (t ∷ o) [] z w p f h k = absurd h
move_finish m x y v (t ∷ o) (j ∷ q) z w p f h k =
    let d = finishes_at m j q (p j (Memᴰ.head refl)).done f in
    let c = ap (λ (u : ℕ). (task_at m u).C) h.0 in
    move_older (sub_ℕ 1 (task_at m t).C) x y v 0 v (slots (suc (suc v)) o) o q (omega (arith, h.1, sub_parts 1 (task_at m t).C)) h.3 k

-- ── the clocks ─────────────────────────────────────────────────────────────────────────────────

set_zero : (l : List ℕ) (i : ℕ) → get_or (set l i 0) i 0 ≡ 0
set_zero [] i = refl
set_zero (x ∷ l) zero = refl
set_zero (x ∷ l) (suc i) = set_zero l i

set1_other : (l : List ℕ) (r i : ℕ) → suc i ≢ r → get_or (set1 l r 0) i 0 ≡ get_or l i 0
set1_other l zero i h = refl
set1_other l (suc k) i h = get_or-set_other l k i 0 0 (omega arith)

get_d_reset : (rs cs : List ℕ) (i : ℕ) → get_or (reset_all rs cs) i 0 ≡ cond (elem (suc i) rs) 0 (get_or cs i 0)
get_d_reset [] cs i = refl
get_d_reset (r ∷ rs) cs i = get_d_reset rs (set1 cs r 0) i ∙ go (eqb (suc i) r) refl
  where
    zeros : (b : Bool) → ◌≡◌ {A = ℕ} (cond b 0 0) 0
    zeros true = refl
    zeros false = refl

    go : (b : Bool) → eqb (suc i) r ≡ b → cond (elem (suc i) rs) 0 (get_or (set1 cs r 0) i 0) ≡ cond (b || elem (suc i) rs) 0 (get_or cs i 0)
    go true e =
        ap (λ (k : ℕ). cond (elem (suc i) rs) 0 (get_or (set1 cs k 0) i 0)) (sym (eqb-true (suc i) r e))
        ∙ ap (λ (k : ℕ). cond (elem (suc i) rs) 0 k) (set_zero cs i) ∙ zeros (elem (suc i) rs)
    go false e = ap (λ (k : ℕ). cond (elem (suc i) rs) 0 k) (set1_other cs r i (eqb-false (suc i) r e))

at_unreset : (x : ℕ → ℕ) (b : Bool) (i : ℕ) → x 0 ≡ 0 → cond b 0 (x i) ≡ x (cond b 0 i)
at_unreset x true i z = sym z
at_unreset x false i z = refl

-- ── one step ───────────────────────────────────────────────────────────────────────────────────

-- y is x moved by the plan, to a queue of the order o
pub record Moves (m : Model) (o : List ℕ) (p : Plan) (x y : ℕ → ℕ) : Type 0 where
  pub start : x 0 ≡ 0
  pub origin : y 0 ≡ 0
  pub clock : (i : ℕ) → i < m.clocks → Shifted p.clock (x (unreset p.resets (suc i))) (y (suc i))
  queue : QueueMoved y (suc m.clocks) x p.sum p.age p.slots
  pub long : length p.slots ≡ length o

-- the state after a tick, whether it is a miss or not
after_judged : (s t : State) (k : ℕ) → after s (judged t k) ≡ t
after_judged s t zero = refl
after_judged s t (suc k) = refl

length_tail_slots : (v : ℕ) (o : List ℕ) → length (tail (slots v o)) ≡ length (tail o)
length_tail_slots v [] = refl
length_tail_slots v (t ∷ o) = length_slots (suc (suc v)) o

module _ (m : Model) (h : Home) (x y : ℕ → ℕ) (s : State) (g : Agrees m h.order x s) where
  on_moves : Agrees m h.order y (ticked s false) → Moves m h.order (plan_of m h go_on) x y
  on_moves k = record {
    start = g.origin;
    origin = k.origin;
    clock = λ i l. omega (arith, k.clock i l, g.clock i l, get_d_map_suc s.clocks i (omega (arith, g.size)));
    queue = move_on x y (suc m.clocks) h.order s.queue g.origin k.origin g.queue k.queue;
    long = length_slots (suc m.clocks) h.order;
  }

  finish_moves : Proper m s → finishes m s.queue ≡ true → Agrees m (tail h.order) y (ticked s true)
      → Moves m (tail h.order) (plan_of m h finish) x y
  finish_moves p f k = record {
    start = g.origin;
    origin = k.origin;
    clock = λ i l. omega (arith, k.clock i l, g.clock i l, get_d_map_suc s.clocks i (omega (arith, g.size)));
    queue = move_finish m x y (suc m.clocks) h.order s.queue g.origin k.origin p.jobs f g.queue k.queue;
    long = length_tail_slots (suc m.clocks) h.order;
  }

  stay_moves : Agrees m h.order y s → Moves m h.order (stays m h) x y
  stay_moves k = record {
    start = g.origin;
    origin = k.origin;
    clock = λ i l. omega (arith, k.clock i l, g.clock i l);
    queue = move_same x y 0 0 (suc m.clocks) (slots_of m h.order) h.order s.queue (k.origin ∙ sym g.origin) g.queue k.queue;
    long = length_slots (suc m.clocks) h.order;
  }

  enter_moves : (ps : List ℕ) (d : Edge) (o : List ℕ) → positions m (released m d) s.queue ≡ ps → Agrees m o y (entered m s d)
      → Moves m o (enters m h ps d) x y
  enter_moves ps d o e k =
      let ss = insert_slots (released m d) ps (slots_of m h.order) in
      let r = reads_put_all m x g.origin (released m d) ps (slots_of m h.order) s.queue g.queue e in
      record {
        start = g.origin;
        origin = k.origin;
        clock = λ i l.
            let c : y (suc i) ≡ x (unreset d.resets (suc i)) =
            k.clock i l ∙ get_d_reset d.resets s.clocks i ∙ ap (λ (w : ℕ). cond (elem (suc i) d.resets) 0 w) (sym (g.clock i l))
            ∙ at_unreset x (elem (suc i) d.resets) (suc i) g.origin in
            omega arith;
        queue = move_same x y 0 0 (suc m.clocks) ss o (put_all m (released m d) s.queue) (k.origin ∙ sym g.origin) r k.queue;
        long =
            reads_length x 0 ss (put_all m (released m d) s.queue) r
            ∙ sym (reads_length y 0 (slots_of m o) (put_all m (released m d) s.queue) k.queue) ∙ length_slots (suc m.clocks) o;
      }

  edge_moves : (ps : List ℕ) (d : Edge) (b : Bool) → same_list (cond b [] (positions m (released m d) s.queue)) ps ≡ true
      → Agrees m (cond b h (mk_home (target d h.location) (insert_all (released m d) ps h.order))).order y (after s (cond b overflow (went (entered m s d))))
      → Moves m (cond b h (mk_home (target d h.location) (insert_all (released m d) ps h.order))).order (cond b (stays m h) (enters m h ps d)) x y
  edge_moves ps d true c k = stay_moves k
  edge_moves ps d false c k = enter_moves ps d (insert_all (released m d) ps h.order) (same_list_eq (positions m (released m d) s.queue) ps c) k

  edges_move : (ps : List ℕ) (d : Option Edge) → taken_by m s ps d ≡ true → Agrees m (home_by m h ps d).order y (after s (moved_by m s d))
      → Moves m (home_by m h ps d).order (plan_by m h ps d) x y
  edges_move ps none c k = absurd (never c refl)
  edges_move ps (some d) c k =
      edge_moves ps d (overflows_any m (released m d) h.order)
      (subst (λ (o : List ℕ). same_list (cond (overflows_any m (released m d) o) [] (positions m (released m d) s.queue)) ps ≡ true) (agrees_order g) c)
      (subst (λ (o : List ℕ). Agrees m (home_by m h ps (some d)).order y (after s (cond (overflows_any m (released m d) o) overflow (went (entered m s d)))))
      (agrees_order g) k)

  -- where a state takes the step, the valuation of the state after it is the one from before, moved
  pub step_moves : (st : Step) → Proper m s → Takes m s st → Agrees m (home_after m h st).order y (after s (act m s (event_of st)))
      → Moves m (home_after m h st).order (plan_of m h st) x y
  step_moves go_on p w k =
      on_moves (subst (Agrees m h.order y) (after_judged s (tick_to m s) (late m (tick_to m s).queue) ∙ ap (ticked s) (false_of_not (finishes m s.queue) w.choice)) k)
  step_moves finish p w k =
      finish_moves p w.choice (subst (Agrees m (tail h.order) y) (after_judged s (tick_to m s) (late m (tick_to m s).queue) ∙ ap (ticked s) w.choice) k)
  step_moves (by_edge n ps) p w k = edges_move ps (nth1 m.edges n) w.choice k

-- ── variable by variable ───────────────────────────────────────────────────────────────────────

moved_at : (x y : ℕ → ℕ) (v : ℕ) (c d : ℤ) (ss : List Slot) → QueueMoved y v x c d ss → (i : ℕ) → i < length ss + length ss
    → Shifted (get_or (slot_offs c d ss) i (pos 0)) (x (get_or (slot_vars ss) i 0)) (y (v + i))
moved_at x y v c d [] h i k = absurd (omega arith)
moved_at x y v c d (s ∷ ss) h zero k = let e : v + 0 ≡ v = omega arith in subst (λ (u : ℕ). Shifted c (x s.sum) (y u)) (sym e) h.0
moved_at x y v c d (s ∷ ss) h (suc zero) k = let e : v + 1 ≡ suc v = omega arith in subst (λ (u : ℕ). Shifted d (x s.age) (y u)) (sym e) h.1
moved_at x y v c d (s ∷ ss) h (suc (suc i)) k =
    let e : v + suc (suc i) ≡ suc (suc v) + i = omega arith in
    subst (λ (u : ℕ). Shifted (get_or (slot_offs c d ss) i (pos 0)) (x (get_or (slot_vars ss) i 0)) (y u)) (sym e)
    (moved_at x y (suc (suc v)) c d ss h.2 i (omega arith))

module _ (m : Model) (p : Plan) where
  -- the clocks' and the slots' part of the two tables
  pub from_clock : (i : ℕ) → i < m.clocks → from m p (suc i) ≡ unreset p.resets (suc i)
  from_clock i h = tab_front (unreset p.resets) m.clocks (slot_vars p.slots) i 0 h

  pub off_clock : (i : ℕ) → i < m.clocks → off m p (suc i) ≡ p.clock
  off_clock i h = tab_front (λ (k : ℕ). p.clock) m.clocks (slot_offs p.sum p.age p.slots) i (pos 0) h

  pub from_slot : (i : ℕ) → from m p (suc (m.clocks + i)) ≡ get_or (slot_vars p.slots) i 0
  from_slot i = tab_back (unreset p.resets) m.clocks (slot_vars p.slots) i 0

  pub off_slot : (i : ℕ) → off m p (suc (m.clocks + i)) ≡ get_or (slot_offs p.sum p.age p.slots) i (pos 0)
  off_slot i = tab_back (λ (k : ℕ). p.clock) m.clocks (slot_offs p.sum p.age p.slots) i (pos 0)

  -- variable i after the step is variable from i before it, and off i more
  pub moves_at : (o : List ℕ) (x y : ℕ → ℕ) → Moves m o p x y → (i : ℕ) → i < variables m o → Shifted (off m p i) (x (from m p i)) (y i)
  moves_at o x y w zero h = omega (arith, w.start, w.origin)
  moves_at o x y w (suc i) h = go (dec_lt i m.clocks)
    where
      go : Dec (i < m.clocks) → Shifted (off m p (suc i)) (x (from m p (suc i))) (y (suc i))
      go (yes l) =
          subst (λ (c : ℤ). Shifted c (x (from m p (suc i))) (y (suc i))) (sym (off_clock i l))
          (subst (λ (u : ℕ). Shifted p.clock (x u) (y (suc i))) (sym (from_clock i l)) (w.clock i l))
      go (no l) =
          let k : ℕ = i - m.clocks in
          let a : suc (m.clocks + k) ≡ suc i = omega arith in
          let b : suc m.clocks + k ≡ suc i = omega arith in
          let r = moved_at x y (suc m.clocks) p.sum p.age p.slots w.queue k (omega (arith, w.long)) in
          subst (λ (u : ℕ). Shifted (off m p u) (x (from m p u)) (y (suc i))) a
          (subst (λ (c : ℤ). Shifted c (x (from m p (suc (m.clocks + k)))) (y (suc i))) (sym (off_slot k))
          (subst (λ (u : ℕ). Shifted (get_or (slot_offs p.sum p.age p.slots) k (pos 0)) (x u) (y (suc i))) (sym (from_slot k))
          (subst (λ (u : ℕ). Shifted (get_or (slot_offs p.sum p.age p.slots) k (pos 0)) (x (get_or (slot_vars p.slots) k 0)) (y u)) b r)))
