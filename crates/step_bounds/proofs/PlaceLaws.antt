-- Laws of the places of new jobs: those ahead of one, the one that it goes in front of, and jobs one after the other.
-- Assumes nothing.
use mathlib.Core.Path.{◌≡◌, refl, sym, ◌∙◌, ap, ap₂, subst}
use mathlib.Core.List.{List, [], ◌∷◌, ◌++◌, append_assoc, append-nil, Memᴰ}
use Prim.Native.Nat.{ℕ, zero, suc, ◌+◌, ◌≤◌, ◌<◌}
use native.Mathlib.Omega.{arith}
use native.Mathlib.Numerals.{add-one}
use lib.IntN.{ℤ}
use lib.ListN.{length, get_or, take, drop}
use lib.Seq.{drop-cons, drop-length, get_or-take, length-take-le, take_all, take-take}
use Rattle.std.specs.Prelude.{Option, None, Some}
use Rattle.meaning.specs.Model.{Bound, Model}
use Rattle.meaning.specs.Lists.{insert_at}
use Rattle.meaning.specs.Machine.Place.{behind}
use Rattle.meaning.specs.Zones.Steps.{choices}
use Rattle.meaning.specs.Inner.Slots.{Slot, slots, slots_of, tasks_in, last_sum, slots_flat}
use Rattle.meaning.specs.Inner.Tests.{Test, when_true, when_false, test_at}
use Rattle.meaning.specs.Inner.Places.{no_at, yes_at, place_bounds, insert_slot, insert_slots, position_bounds}
use Rattle.meaning.proofs.Zones.Choices.{choice_in, choices_length}
use Rattle.meaning.proofs.Exact.Valuations.{length_slots}
use Rattle.meaning.proofs.Exact.Loops.{place_flat}
use Rattle.meaning.proofs.Exact.Ranges.{length_insert_slot}
use Rattle.home.specs.declared.Home.{Home}
use Rattle.home.specs.declared.Releases.{Releases}
use Rattle.home.specs.Stands.{order_of, tasks_of}
use Rattle.slots.specs.declared.standing.Slots.{Slots}
use Rattle.slots.specs.Stands.{no_slot, slot_in, sum_before, Stand}
use Rattle.slots.proofs.SlotLaws.{tasks_insert, length_insert_slots, stand_tasks}
use Rattle.zone_bounds.specs.Narrowed.{Workable, Narrows}
use Rattle.zone_bounds.proofs.NarrowLaws.{narrows_no, narrows_then, narrows_stop, narrows_rest}
use Rattle.step_bounds.specs.declared.tests.Test as Made
use Rattle.step_bounds.specs.Tests.{Asks}
use Rattle.step_bounds.specs.Places.{staying, PlaceIn, PlacesIn}

-- ---- the running sum just ahead

last_sum_lem : (a k : ℕ) (ss : List Slot) → k < length ss → last_sum a (take (suc k) ss) ≡ (get_or ss k no_slot).sum
last_sum_lem a k [] h = absurd (omega arith)
last_sum_lem a zero (s ∷ ss) h = refl
last_sum_lem a (suc k) (s ∷ ss) h = last_sum_lem s.sum k ss (omega arith)

pub sum_ahead_lem : (ss : List Slot) (s : Slots) (k : ℕ) → Stand ss s → k ≤ s.count → last_sum 0 (take k ss) ≡ sum_before s k
sum_ahead_lem ss s zero w h = refl
sum_ahead_lem ss s (suc k) w h = last_sum_lem 0 k ss (omega (arith, w.many)) ∙ ap (λ (x : Slot). x.sum) (w.each k (omega arith))

pub before_known : (ss : List Slot) (s : Slots) (k : ℕ) → Stand ss s → sum_before s k < 17
before_known ss s zero w = omega arith
before_known ss s (suc k) w = (w.known k).0

-- the first place that a new job may take, as it is found of the slots' tasks
pub first_of : (m : Model) (t first : ℕ) (ss : List Slot) (s : Slots) (ts : List ℕ) → Stand ss s → length ts ≡ 6 → ((k : ℕ) → get_or ts k 0 ≡ (slot_in s k).task)
    → first ≡ behind m t (take s.count ts) → first ≡ behind m t (tasks_in ss)
first_of m t first ss s ts w l f e = e ∙ ap (behind m t) (stand_tasks ss s ts w l f)

-- the test of a slot, by its variables
pub test_slot : (m : Model) (n : ℕ) (ss : List Slot) (s : Slots) (k b : ℕ) (r : Made.Test) → Stand ss s → k < s.count → b ≡ sum_before s k
    → Asks (test_at m n b (slot_in s k)) r → Asks (test_at m n (last_sum 0 (take k ss)) (get_or ss k no_slot)) r
test_slot m n ss s k b r w h e a =
    subst (λ (f : Test). Asks f r) (ap₂ (λ (x : ℕ) (y : Slot). test_at m n x y) (e ∙ sym (sum_ahead_lem ss s k w (omega arith))) (sym (w.each k h))) a

-- ---- one new job, which passes over the first slots

module _ (f : ℕ → Slot → Test) where
  flat_next : (g : ℕ → Slot → List Bound) (a k : ℕ) (ss : List Slot) (d : Slot) → k < length ss
      → slots_flat g a (take (suc k) ss) ≡ slots_flat g a (take k ss) ++ g (last_sum a (take k ss)) (get_or ss k d)
  flat_next g a k [] d h = absurd (omega arith)
  flat_next g a zero (s ∷ ss) d h = append-nil (g a s)
  flat_next g a (suc k) (s ∷ ss) d h =
      ap (λ (l : List Bound). g a s ++ l) (flat_next g s.sum k ss d (omega arith))
      ∙ sym (append_assoc (g a s) (slots_flat g s.sum (take k ss)) (g (last_sum s.sum (take k ss)) (get_or ss k d)))

  stay_next : (a first k : ℕ) (ss : List Slot) (d : Slot) → first ≤ k → k < length ss
      → slots_flat (no_at f) (last_sum a (take first ss)) (drop first (take (suc k) ss))
      ≡ slots_flat (no_at f) (last_sum a (take first ss)) (drop first (take k ss)) ++ when_false (f (last_sum a (take k ss)) (get_or ss k d))
  stay_next a zero k ss d h l = flat_next (no_at f) a k ss d l
  stay_next a (suc first) k [] d h l = absurd (omega arith)
  stay_next a (suc first) zero (s ∷ ss) d h l = absurd (omega arith)
  stay_next a (suc first) (suc k) (s ∷ ss) d h l = stay_next s.sum first k ss d (omega arith) (omega arith)

  parts : (a first p : ℕ) (ss : List Slot) → first ≤ p → p ≤ length ss
      → place_bounds f first p a ss ≡ slots_flat (no_at f) (last_sum a (take first ss)) (drop first (take p ss)) ++ yes_at f (last_sum a (take p ss)) (drop p ss)
  parts a zero p ss h l = place_flat f p a ss l
  parts a (suc first) zero ss h l = absurd (omega arith)
  parts a (suc first) (suc p) [] h l = absurd (omega arith)
  parts a (suc first) (suc p) (s ∷ ss) h l = parts s.sum first p ss (omega arith) (omega arith)

  none_between : (n : ℕ) (ss : List Slot) → drop n (take n ss) ≡ []
  none_between zero ss = refl
  none_between (suc n) [] = refl
  none_between (suc n) (s ∷ ss) = none_between n ss

  module _ (first : ℕ) (ss : List Slot) where
    -- a matrix that is narrowed by those that stay ahead: none yet,
    pub place_first : (t : List ℤ) → Workable t → Narrows (staying f first first ss) (Some t) (Some t)
    place_first t u =
        subst (λ (l : List Slot). Narrows (slots_flat (no_at f) (last_sum 0 (take first ss)) l) (Some t) (Some t)) (sym (none_between first ss)) (narrows_no t u)

    -- one more,
    pub place_next : (k : ℕ) (d : Slot) (t r : List ℤ) (s : Option (List ℤ)) → first ≤ k → k < length ss → Narrows (staying f first k ss) (Some t) (Some r)
        → Narrows (when_false (f (last_sum 0 (take k ss)) (get_or ss k d))) (Some r) s → Narrows (staying f first (k + 1) ss) (Some t) s
    place_next k d t r s h l a b =
        subst (λ (x : List Bound). Narrows x (Some t) s) (sym (ap (λ (n : ℕ). staying f first n ss) (add-one k) ∙ stay_next 0 first k ss d h l))
        (narrows_then (staying f first k ss) (when_false (f (last_sum 0 (take k ss)) (get_or ss k d))) (Some t) (Some r) s a b)

    -- or none is left, and so however many follow,
    pub place_stop : (k p : ℕ) (t : List ℤ) → first ≤ k → k ≤ p → p ≤ length ss → Narrows (staying f first k ss) (Some t) None → Narrows (staying f first p ss) (Some t) None
    place_stop k p t h i l a =
        narrows_rest (λ n. staying f first n ss) (λ n. when_false (f (last_sum 0 (take n ss)) (get_or ss n no_slot))) first p
        (λ n j q. stay_next 0 first n ss no_slot j (omega arith)) (Some t) k h i a

    -- and at last in front of one that it beats,
    pub place_front : (p : ℕ) (d : Slot) (t r : List ℤ) (s : Option (List ℤ)) → first ≤ p → p < length ss → Narrows (staying f first p ss) (Some t) (Some r)
        → Narrows (when_true (f (last_sum 0 (take p ss)) (get_or ss p d))) (Some r) s → Narrows (place_bounds f first p 0 ss) (Some t) s
    place_front p d t r s h l a b =
        subst (λ (x : List Bound). Narrows x (Some t) s)
        (sym (parts 0 first p ss h (omega arith) ∙ ap (λ (x : List Slot). staying f first p ss ++ yes_at f (last_sum 0 (take p ss)) x) (drop-cons ss p d l)))
        (narrows_then (staying f first p ss) (when_true (f (last_sum 0 (take p ss)) (get_or ss p d))) (Some t) (Some r) s a b)

    -- or behind them all,
    pub place_last : (p : ℕ) (t : List ℤ) (r : Option (List ℤ)) → first ≤ p → p ≡ length ss → Narrows (staying f first p ss) (Some t) r → Narrows (place_bounds f first p 0 ss) (Some t) r
    place_last p t r h e a =
        subst (λ (x : List Bound). Narrows x (Some t) r)
        (sym (parts 0 first p ss h (omega arith)
        ∙ ap (λ (x : List Slot). staying f first p ss ++ yes_at f (last_sum 0 (take p ss)) x) (ap (λ (n : ℕ). drop n ss) e ∙ drop-length ss)
        ∙ append-nil (staying f first p ss)))
        a

    -- or nowhere, as none is left
    pub place_none : (p : ℕ) (t : List ℤ) → first ≤ p → p ≤ length ss → Narrows (staying f first p ss) (Some t) None → Narrows (place_bounds f first p 0 ss) (Some t) None
    place_none p t h l a = rw (parts 0 first p ss h l) (narrows_stop (staying f first p ss) (yes_at f (last_sum 0 (take p ss)) (drop p ss)) (Some t) a)

-- ---- jobs one after the other

length_tasks : (ss : List Slot) → length (tasks_in ss) ≡ length ss
length_tasks [] = refl
length_tasks (s ∷ ss) = ap suc (length_tasks ss)

module _ (m : Model) where
  position_step : (ts ps : List ℕ) (ss : List Slot) (k : ℕ) → k < length ts → k < length ps
      → position_bounds m (take (suc k) ts) (take (suc k) ps) ss
      ≡ position_bounds m (take k ts) (take k ps) ss
      ++ place_bounds (test_at m (get_or ts k 0)) (behind m (get_or ts k 0) (tasks_in (insert_slots (take k ts) (take k ps) ss))) (get_or ps k 0) 0
      (insert_slots (take k ts) (take k ps) ss)
  position_step [] ps ss k h l = absurd (omega arith)
  position_step (t ∷ ts) [] ss k h l = absurd (omega arith)
  position_step (t ∷ ts) (p ∷ ps) ss zero h l = append-nil (place_bounds (test_at m t) (behind m t (tasks_in ss)) p 0 ss)
  position_step (t ∷ ts) (p ∷ ps) ss (suc k) h l =
      ap (λ (x : List Bound). place_bounds (test_at m t) (behind m t (tasks_in ss)) p 0 ss ++ x)
      (position_step ts ps (insert_slot p 0 t ss) k (omega arith) (omega arith))
      ∙ sym (append_assoc (place_bounds (test_at m t) (behind m t (tasks_in ss)) p 0 ss) _ _)

  -- one job more
  pub position_next : (ts ps : List ℕ) (ss : List Slot) (k : ℕ) (t r : List ℤ) (s : Option (List ℤ)) → k < length ts → k < length ps
      → Narrows (position_bounds m (take k ts) (take k ps) ss) (Some t) (Some r)
      → Narrows (place_bounds (test_at m (get_or ts k 0)) (behind m (get_or ts k 0) (tasks_in (insert_slots (take k ts) (take k ps) ss))) (get_or ps k 0) 0
      (insert_slots (take k ts) (take k ps) ss)) (Some r) s
      → Narrows (position_bounds m (take (k + 1) ts) (take (k + 1) ps) ss) (Some t) s
  position_next ts ps ss k t r s h l a b =
      subst (λ (x : List Bound). Narrows x (Some t) s)
      (sym (ap (λ (n : ℕ). position_bounds m (take n ts) (take n ps) ss) (add-one k) ∙ position_step ts ps ss k h l)) (narrows_then _ _ (Some t) (Some r) s a b)

  -- none is left on the way
  pub position_stop : (ts ps : List ℕ) (ss : List Slot) (n k : ℕ) (t : List ℤ) → n ≤ length ts → n ≤ length ps → k ≤ n
      → Narrows (position_bounds m (take k ts) (take k ps) ss) (Some t) None → Narrows (position_bounds m (take n ts) (take n ps) ss) (Some t) None
  position_stop ts ps ss n k t h l i a =
      narrows_rest (λ j. position_bounds m (take j ts) (take j ps) ss)
      (λ j. place_bounds (test_at m (get_or ts j 0)) (behind m (get_or ts j 0) (tasks_in (insert_slots (take j ts) (take j ps) ss))) (get_or ps j 0) 0
      (insert_slots (take j ts) (take j ps) ss))
      0 n (λ j z q. position_step ts ps ss j (omega arith) (omega arith)) (Some t) k (omega arith) i a

  -- each position of a choice is allowed as its job comes in
  pub choice_turn : (ts ps o : List ℕ) (ss : List Slot) (k : ℕ) → tasks_in ss ≡ o → Memᴰ ps (choices m ts o) → k < length ts
      → (behind m (get_or ts k 0) (tasks_in (insert_slots (take k ts) (take k ps) ss)) ≤ get_or ps k 0) × (get_or ps k 0 ≤ length ss + k)
  choice_turn [] ps o ss k e h l = absurd (omega arith)
  choice_turn (t ∷ ts) [] o ss k e h l = absurd (let n = choices_length m (t ∷ ts) o [] h in omega arith)
  choice_turn (t ∷ ts) (p ∷ ps) o ss zero e h l =
      let w = (choice_in m t ts o p ps).0 h in
      let n = length_tasks ss in
      let z : length o ≡ length ss = ap length (sym e) ∙ n in
      (rw e w.0, omega (arith, w.1))
  choice_turn (t ∷ ts) (p ∷ ps) o ss (suc k) e h l =
      let w = (choice_in m t ts o p ps).0 h in
      let r = choice_turn ts ps (insert_at p t o) (insert_slot p 0 t ss) k (tasks_insert p 0 t ss ∙ ap (insert_at p t) e) w.2 (omega arith) in
      (r.0, omega (arith, r.1, length_insert_slot t p 0 ss))

-- ---- the turns of a loop over the releases

tasks_slots : (v : ℕ) (o : List ℕ) → tasks_in (slots v o) ≡ o
tasks_slots v [] = refl
tasks_slots v (t ∷ o) = ap (λ (l : List ℕ). t ∷ l) (tasks_slots (suc (suc v)) o)

-- the slots as release k comes in
abbrev pub slots_by : Model → Home → Releases → List ℕ → ℕ → List Slot
slots_by m h r ahead k = insert_slots (take k (tasks_of r)) (take k ahead) (slots_of m (order_of h))

module _ (m : Model) (h : Home) (r : Releases) (ahead : List ℕ) (w : PlacesIn m h r ahead) (six : length h.tasks ≡ 6) (four : length r.tasks ≡ 4) (far : length ahead ≡ 4) where
  pub tasks_many : length (tasks_of r) ≡ r.count
  tasks_many = length-take-le r.count r.tasks (omega (arith, w.few))

  slots_many : length (slots_of m (order_of h)) ≡ h.count
  slots_many = length_slots (suc m.clocks) (order_of h) ∙ length-take-le h.count h.tasks (omega (arith, w.room))

  module _ (k : ℕ) (l : k < r.count) where
    pub task_turn : get_or (tasks_of r) k 0 ≡ get_or r.tasks k 0
    task_turn = get_or-take r.count r.tasks k 0 l

    turn : (behind m (get_or r.tasks k 0) (tasks_in (slots_by m h r ahead k)) ≤ get_or ahead k 0) × (get_or ahead k 0 ≤ h.count + k)
    turn =
        let c = choice_turn m (tasks_of r) (take r.count ahead) (order_of h) (slots_of m (order_of h)) k (tasks_slots (suc m.clocks) (order_of h)) w.here (omega (arith, tasks_many)) in
        rw (task_turn, get_or-take r.count ahead k 0 l, take-take k r.count ahead (omega arith), slots_many) at c

    pub turn_high : get_or ahead k 0 ≤ h.count + k
    turn_high = turn.1

    -- the release may take its place
    pub place_in : (s : Slots) → Stand (slots_by m h r ahead k) s → PlaceIn m (get_or r.tasks k 0) (get_or ahead k 0) s
    place_in s v =
        let i = length_insert_slots (take k (tasks_of r)) (take k ahead) (slots_of m (order_of h)) (length-take-le k (tasks_of r) (omega (arith, tasks_many)) ∙ sym (length-take-le k ahead (omega (arith, w.few)))) in
        let n = length-take-le k (tasks_of r) (omega (arith, tasks_many)) in
        record {
          stands = record { slots = slots_by m h r ahead k; stand = v };
          low = turn.0;
          high = omega (arith, turn.1, v.many, slots_many);
        }

  -- one turn
  pub placed_next : (k : ℕ) (t q : List ℤ) (s : Option (List ℤ)) → k < r.count
      → Narrows (position_bounds m (take k (tasks_of r)) (take k ahead) (slots_of m (order_of h))) (Some t) (Some q)
      → Narrows (place_bounds (test_at m (get_or r.tasks k 0)) (behind m (get_or r.tasks k 0) (tasks_in (slots_by m h r ahead k))) (get_or ahead k 0) 0 (slots_by m h r ahead k)) (Some q) s
      → Narrows (position_bounds m (take (k + 1) (tasks_of r)) (take (k + 1) ahead) (slots_of m (order_of h))) (Some t) s
  placed_next k t q s l a b =
      position_next m (tasks_of r) ahead (slots_of m (order_of h)) k t q s (omega (arith, tasks_many)) (omega (arith, w.few)) a (rw (task_turn k l) b)

  -- after the last
  pub placed_all : (k : ℕ) (t : List ℤ) (q : Option (List ℤ)) → k ≡ r.count
      → Narrows (position_bounds m (take k (tasks_of r)) (take k ahead) (slots_of m (order_of h))) (Some t) q
      → Narrows (position_bounds m (tasks_of r) (take r.count ahead) (slots_of m (order_of h))) (Some t) q
  placed_all k t q e a =
      let f : take k (tasks_of r) ≡ tasks_of r = take_all k (tasks_of r) (omega (arith, tasks_many)) in
      rw (f, e) at a

  -- none is left on the way
  pub placed_stop : (k : ℕ) (t : List ℤ) → k ≤ r.count → Narrows (position_bounds m (take k (tasks_of r)) (take k ahead) (slots_of m (order_of h))) (Some t) None
      → Narrows (position_bounds m (tasks_of r) (take r.count ahead) (slots_of m (order_of h))) (Some t) None
  placed_stop k t l a =
      placed_all r.count t None refl
      (position_stop m (tasks_of r) ahead (slots_of m (order_of h)) r.count k t (omega (arith, tasks_many)) (omega (arith, w.few)) l a)
