-- The table of a model that a text can say is one that a text gives.
-- Assumes nothing.
use Prim.Native.Nat.{◌%◌, ◌*◌, ◌+◌, ◌-◌, ◌/◌, ◌<◌, ◌≤◌, suc, zero, ℕ}
use mathlib.Core.Bool.{Bool, ◌||◌, false, true}
use mathlib.Core.List.{List, [], ◌∷◌}
use mathlib.Core.Option.{none, some}
use mathlib.Core.Path.{◌∙◌, ◌≡◌, ap, refl, subst, sym}
use native.Mathlib.Omega.{arith}
use lib.Dec.{eqb, ltb}
use lib.ListN.{get_or, get_elem?, length, length-replicate}
use lib.Seq.{ext_get_or, length-sets, sets}
use borrow.Author.Tests.{le-ltb, lt-ltb, ltb-false, ltb-true, ne_eqb}
use Rattle.meaning.proofs.Text.Choices.{by_eq, by_lt, nonsense}
use Rattle.meaning.proofs.Text.Keyed.{by_nth, each_nth, keyed_found, nth_in, nth_none, nth_some, ordered_nth}
use Rattle.meaning.proofs.Text.ModelCells.{at_limit, at_location, at_task, by_slot, count_is, get_words, in_edge, own_cell, owned, owner, owner_edge, owner_low, owner_mid, owner_task, owner_to, sets_in, sets_other, slot_inside, words_at, words_length}
use Rattle.meaning.proofs.Text.ModelEncode.{bound_cell_lem, clocks_cell, edge_firsts, edge_none, encode_length, limit_cell, location_first, location_none, policy_cell, reset_cell, task_cells, task_none}
use Rattle.meaning.proofs.Text.ModelLaws.{Ok, guard_in_lem, lawful, make_proper, reset_in_lem, zeros}
use Rattle.meaning.proofs.Text.ModelShape.{at_from, head_edge, head_location, head_task}
use Rattle.meaning.proofs.Text.RecordLaws.{Proper, part}
use Rattle.meaning.specs.Model.{Bound, Edge, Limit, Location, Model, Policy, Task, edf, fps, sjf}
use Rattle.meaning.specs.Text.Choice.{pick}
use Rattle.meaning.specs.Text.ModelReader.{cells, format, get, is_none, mark_at, misfit, rule, used, width, words}
use Rattle.meaning.specs.Text.ModelTable.{clocks, count, edges, encode, locations, size, tasks, there}
use Rattle.meaning.specs.Text.ModelText.{ck, ed, form, gu, iv, lo, po, policy_number, raised, rs, tk}
use Rattle.meaning.specs.Text.Ranges.{time_most}
use Rattle.meaning.specs.Text.RightModel.{Each, Ordered, Ranked, RightBound, RightEdge, RightLimit, RightLocation, RightModel, RightTask}

-- ---- the first records of a table in which nothing stands alone

module _ (t : List ℕ) (long : length t ≡ size) (closed : (k : ℕ) → k < size → get_or t (owner k) 0 ≡ 0 → get_or t k 0 ≡ 0) where
  abbrev part_of : ℕ → List ℕ
  part_of i = part format lawful t i

  part_none : (i : ℕ) → is_none (get t i) ≡ true → part_of (suc i) ≡ part_of i
  unfolding part
  part_none i e = rw e

  part_some : (i : ℕ) → is_none (get t i) ≡ false → part_of (suc i) ≡ sets (part_of i) i (get t i)
  unfolding part
  part_some i e = rw e

  part_long : (i : ℕ) → length (part_of i) ≡ size
  unfolding part
  part_long zero = length-replicate {A = ℕ} size 0
  part_long (suc i) = go (is_none (get t i)) refl (part_long i)
    where
      go : (b : Bool) → is_none (get t i) ≡ b → length (part_of i) ≡ size → length (part_of (suc i)) ≡ size
      go true e h = rw (part_none i e) h
      go false e h = rw (part_some i e) (length-sets (part_of i) i (get t i) ∙ h)

  -- where a record may stand and none does, its first cell is 0
  slot_empty : (i : ℕ) → 0 < width (mark_at i) → is_none (get t i) ≡ true → get_or t i 0 ≡ 0
  unfolding get is_none words
  slot_empty i w e = go (width (mark_at i)) w (there t i) refl e
    where
      go : (n : ℕ) → 0 < n → (b : Bool) → there t i ≡ b → is_none (pick b (words t i n) []) ≡ true → get_or t i 0 ≡ 0
      go zero h b f e = absurd (omega arith)
      go (suc n) h true f e = nonsense (cc)
      go (suc n) h false f e = let q = ltb-false 0 (get_or t i 0) f in omega arith

  slot_full : (i : ℕ) → is_none (get t i) ≡ false → (0 < get_or t i 0) × (0 < width (mark_at i))
  unfolding get is_none words
  slot_full i e = go (width (mark_at i)) (there t i) refl e
    where
      go : (n : ℕ) (b : Bool) → there t i ≡ b → is_none (pick b (words t i n) []) ≡ false → (0 < get_or t i 0) × (0 < n)
      go zero true f e = nonsense (cc)
      go zero false f e = nonsense (cc)
      go (suc n) true f e = (ltb-true 0 (get_or t i 0) f, omega arith)
      go (suc n) false f e = nonsense (cc)

  part_cell : (i k : ℕ) → i ≤ size → k < size → get_or (part_of i) k 0 ≡ pick (ltb (owner k) i) (get_or t k 0) 0
  unfolding part
  part_cell zero k h l = zeros k ∙ rw (le-ltb (owner k) 0 (omega arith))
  part_cell (suc i) k h l = go (is_none (get t i)) refl (part_cell i k (omega arith) l)
    where
      o : (owner k ≤ k) × (k < owner k + width (mark_at (owner k)))
      o = owned k

      later : (owner k ≡ i → ⊥) → ltb (owner k) (suc i) ≡ ltb (owner k) i
      later n = by_lt (owner k) i (λ a. lt-ltb (owner k) (suc i) (omega arith) ∙ sym (lt-ltb (owner k) i a)) (λ a. le-ltb (owner k) (suc i) (omega arith) ∙ sym (le-ltb (owner k) i a))

      go : (b : Bool) → is_none (get t i) ≡ b → get_or (part_of i) k 0 ≡ pick (ltb (owner k) i) (get_or t k 0) 0 → get_or (part_of (suc i)) k 0 ≡ pick (ltb (owner k) (suc i)) (get_or t k 0) 0
      go true e ih =
          rw (part_none i e) (by_eq (owner k) i
          (λ q.
          let w : 0 < width (mark_at i) = rw q at (let a = o in let r : 0 < width (mark_at (owner k)) = omega arith in r) in
          let c : get_or t k 0 ≡ 0 = closed k l (ap (λ (x : ℕ). get_or t x 0) q ∙ slot_empty i w e) in
          let ih' : get_or (part_of i) k 0 ≡ 0 = rw (le-ltb (owner k) i (omega arith)) at ih in
          rw (lt-ltb (owner k) (suc i) (omega arith)) (ih' ∙ sym c))
          (λ q. rw (later q) ih))
      go false e ih =
          let f = slot_full i e in
          let g : get t i ≡ words t i (width (mark_at i)) = get_words t i (mark_at i) refl f.0 in
          let r = slot_inside i h in
          let n = words_length t i (width (mark_at i)) in
          rw (part_some i e, g) (by_eq (owner k) i
          (λ q.
          let a₁ = o.0 in
          let a₂ : k < i + width (mark_at i) = rw q at o.1 in
          let z : k ≡ i + (k - i) = omega arith in
          let s = sets_in (words t i (width (mark_at i))) (part_of i) i (k - i) (omega arith) (omega (arith, part_long i)) in
          let u = words_at t i (width (mark_at i)) (k - i) (omega arith) in
          rw (lt-ltb (owner k) (suc i) (omega arith)) (ap (λ (x : ℕ). get_or (sets (part_of i) i (words t i (width (mark_at i)))) x 0) z ∙ s ∙ u ∙ ap (λ (x : ℕ). get_or t x 0) (sym z)))
          (λ q. rw (later q) (sets_other (words t i (width (mark_at i))) (part_of i) i k (λ x a b. q (ap owner b ∙ own_cell i x (omega arith))) ∙ ih)))

  pub part_whole : part_of size ≡ t
  part_whole =
      ext_get_or 0 (part_of size) t (part_long size ∙ sym long)
      (λ k h.
      let l : k < size = omega (arith, part_long size) in
      let o = owned k in
      part_cell size k (omega arith) l ∙ rw (lt-ltb (owner k) size (omega arith)))

  -- the first cells of records
  pub head_below : (i s : ℕ) → i ≤ size → s < i → 0 < width (mark_at s) → get_or (part_of i) s 0 ≡ get_or t s 0
  head_below i s h l w =
      let z : s + 0 ≡ s = omega arith in
      let o : owner s ≡ s = rw z at (own_cell s 0 w) in
      part_cell i s h (omega arith) ∙ rw (o, lt-ltb s i l)

  pub head_above : (i s : ℕ) → i ≤ size → s < size → i ≤ s → 0 < width (mark_at s) → get_or (part_of i) s 0 ≡ 0
  head_above i s h k l w =
      let z : s + 0 ≡ s = omega arith in
      let o : owner s ≡ s = rw z at (own_cell s 0 w) in
      part_cell i s h k ∙ rw (o, le-ltb s i l)

  -- a count of the records before slot i: the first c, and the others stand behind it
  pub count_to : (i at step n c : ℕ) → i ≤ size → c ≤ n → ((x : ℕ) → x < n → (0 < width (mark_at (at + step * x))) × (at + step * x < size))
      → ((x : ℕ) → x < c → (at + step * x < i) × (0 < get_or t (at + step * x) 0)) → ((x : ℕ) → c ≤ x → x < n → i ≤ at + step * x) → count (part_of i) at step n ≡ c
  count_to i at step n c h l w f g =
      count_is (part_of i) at step n c l (λ x k. rw (head_below i (at + step * x) h (f x k).0 (w x (omega arith)).0) (f x k).1)
      (λ x k j. head_above i (at + step * x) h (w x j).1 (g x k j) (w x j).0)

  -- the first c, and no others are there
  pub count_all : (i at step n c : ℕ) → i ≤ size → c ≤ n → ((x : ℕ) → x < n → (0 < width (mark_at (at + step * x))) × (at + step * x < i))
      → ((x : ℕ) → x < c → 0 < get_or t (at + step * x) 0) → ((x : ℕ) → c ≤ x → x < n → get_or t (at + step * x) 0 ≡ 0) → count (part_of i) at step n ≡ c
  count_all i at step n c h l w f g =
      count_is (part_of i) at step n c l (λ x k. rw (head_below i (at + step * x) h (w x (omega arith)).1 (w x (omega arith)).0) (f x k))
      (λ x k j. head_below i (at + step * x) h (w x j).1 (w x j).0 ∙ g x k j)

-- ---- the table of a model that a text can say

module _ (m : Model) (w : RightModel m) where
  abbrev table : List ℕ
  table = encode m

  long : length table ≡ size
  long = encode_length m

  task_zero : (t : ℕ) → t < 6 → get_elem? m.tasks t ≡ none → get_or table (2 + 3 * t) 0 ≡ 0
  task_zero t h e = let z : 2 + 3 * t + 0 ≡ 2 + 3 * t = omega arith in rw z at (task_none m t 0 h (omega arith) e)

  location_zero : (l : ℕ) → l < 16 → get_elem? m.locations l ≡ none → get_or table (20 + 5 * l) 0 ≡ 0
  location_zero l h e = let z : 20 + 5 * l + 0 ≡ 20 + 5 * l = omega arith in rw z at (location_none m l 0 h (omega arith) e)

  edge_zero : (e : ℕ) → e < 32 → get_elem? m.edges e ≡ none → get_or table (100 + 31 * e) 0 ≡ 0
  edge_zero e h q = let z : 100 + 31 * e + 0 ≡ 100 + 31 * e = omega arith in rw z at (edge_none m e 0 h (omega arith) q)

  -- nothing stands without its record's first cell
  closed : (k : ℕ) → k < size → get_or table (owner k) 0 ≡ 0 → get_or table k 0 ≡ 0
  closed k h e =
      by_lt k 2 (λ a. rw (owner_low k a) at e)
      (λ a. by_lt k 20
      (λ b.
      let z : k ≡ 2 + 3 * ((k - 2) / 3) + (k - 2) % 3 = omega arith in
      let y : k - (k - 2) % 3 ≡ 2 + 3 * ((k - 2) / 3) = omega arith in
      by_nth m.tasks ((k - 2) / 3)
      (λ x q. let c = (task_cells m ((k - 2) / 3) x (omega arith) q).0 in let d : get_or table (2 + 3 * ((k - 2) / 3)) 0 ≡ 0 = rw (owner_task k a b, y) at e in nonsense (omega arith))
      (λ q. rw z (task_none m ((k - 2) / 3) ((k - 2) % 3) (omega arith) (omega arith) q)))
      (λ b. by_lt k 100 (λ c. rw (owner_mid k b c) at e)
      (λ c. by_eq ((k - 100) % 31) 1
      (λ f.
      let z : k ≡ 100 + 31 * ((k - 100) / 31) + 1 = omega arith in
      let y : k - 1 ≡ 100 + 31 * ((k - 100) / 31) = omega arith in
      by_nth m.edges ((k - 100) / 31)
      (λ x q. let d₀ = (edge_firsts m ((k - 100) / 31) x (omega arith) q).0 in let d : get_or table (100 + 31 * ((k - 100) / 31)) 0 ≡ 0 = rw (owner_to k c f, y) at e in nonsense (omega arith))
      (λ q. rw z (edge_none m ((k - 100) / 31) 1 (omega arith) (omega arith) q)))
      (λ f. rw (owner_edge k c f) at e))))

  abbrev so_far : ℕ → List ℕ
  so_far i = part_of table long closed i

  -- what is there
  task_there : (t : ℕ) → t < length m.tasks → 0 < get_or table (2 + 3 * t) 0
  task_there t h = let n = nth_in m.tasks t h in let k = w.tasks_high in let c = (task_cells m t n.0 (omega arith) n.1).0 in omega arith

  location_there : (l : ℕ) → l < length m.locations → 0 < get_or table (20 + 5 * l) 0
  location_there l h = let n = nth_in m.locations l h in let k = w.locations_high in let c = location_first m l n.0 (omega arith) n.1 in omega arith

  edge_there : (e : ℕ) → e < length m.edges → 0 < get_or table (100 + 31 * e) 0
  edge_there e h = let n = nth_in m.edges e h in let k = w.edges_high in let c = (edge_firsts m e n.0 (omega arith) n.1).0 in omega arith

  -- ---- what was read before a slot

  few : (i : ℕ) → i ≤ size → clocks (so_far i) ≤ 4
  unfolding width form mark_at
  few i h =
      let c = clocks_cell m in
      let r = w.clocks in
      by_lt 1 i
      (λ l. let e = head_below table long closed i 1 h l (omega arith) in omega arith)
      (λ l. let e = head_above table long closed i 1 h (omega arith) l (omega arith) in omega arith)

  clocks_so_far : (i : ℕ) → 2 ≤ i → i ≤ size → clocks (so_far i) ≡ m.clocks
  unfolding width form mark_at
  clocks_so_far i l h =
      let c = clocks_cell m in
      let e = head_below table long closed i 1 h (omega arith) (omega arith) in
      omega arith

  -- the first cell of a record that is there, in front of slot i
  there_so_far : (i s : ℕ) → i ≤ size → s < i → 0 < width (mark_at s) → 0 < get_or table s 0 → there (so_far i) s ≡ true
  there_so_far i s h l v f = lt-ltb 0 (get_or (so_far i) s 0) (rw (head_below table long closed i s h l v) f)

  tasks_to : (t : ℕ) → t < length m.tasks → tasks (so_far (2 + 3 * t)) ≡ t
  unfolding tasks
  tasks_to t h =
      let k = w.tasks_high in
      count_to table long closed (2 + 3 * t) 2 3 6 t (omega arith) (omega arith) (λ x l. (head_task x l, omega arith)) (λ x l. (omega arith, task_there x (omega arith))) (λ x l j. omega arith)

  tasks_all : (i : ℕ) → 20 ≤ i → i ≤ size → tasks (so_far i) ≡ length m.tasks
  unfolding tasks
  tasks_all i l h =
      let k = w.tasks_high in
      count_all table long closed i 2 3 6 (length m.tasks) h k (λ x j. (head_task x j, omega arith)) task_there (λ x j v. task_zero x v (nth_none m.tasks x j))

  locations_to : (l i : ℕ) → l ≤ length m.locations → i ≤ 20 + 5 * l → 20 + 5 * l ≤ i + 4 → locations (so_far i) ≡ l
  unfolding locations
  locations_to l i h a b =
      let k = w.locations_high in
      count_to table long closed i 20 5 16 l (omega arith) (omega arith) (λ x j. (head_location x j, omega arith)) (λ x j. (omega arith, location_there x (omega arith))) (λ x j v. omega arith)

  locations_all : (i : ℕ) → 100 ≤ i → i ≤ size → locations (so_far i) ≡ length m.locations
  unfolding locations
  locations_all i l h =
      let k = w.locations_high in
      count_all table long closed i 20 5 16 (length m.locations) h k (λ x j. (head_location x j, omega arith)) location_there (λ x j v. location_zero x v (nth_none m.locations x j))

  edges_to : (e i : ℕ) → e ≤ length m.edges → i ≤ 100 + 31 * e → 100 + 31 * e ≤ i + 30 → edges (so_far i) ≡ e
  unfolding edges
  edges_to e i h a b =
      let k = w.edges_high in
      count_to table long closed i 100 31 32 e (omega arith) (omega arith) (λ x j. (head_edge x, omega arith)) (λ x j. (omega arith, edge_there x (omega arith))) (λ x j v. omega arith)

  -- ---- record by record

  abbrev Right-at : ℕ → Type 0
  Right-at i = Ok (so_far i) i (get table i)

  right_policy : Right-at 0
  unfolding rule cells form words width mark_at policy_number
  right_policy =
      let c = policy_cell m in
      record {
        mark = po;
        vals = policy_number m.policy ∷ [];
        goes = refl;
        due = refl;
        room = refl;
        within = go m.policy;
        right = refl;
        goal = refl;
        held = sym (get_words table 0 po refl (omega arith) ∙ rw c);
        few = few 0 (omega arith);
      }
    where
      go : (p : Policy) → (1 ≤ policy_number p) × (policy_number p ≤ 3) × Unit {0}
      go fps = omega arith
      go edf = omega arith
      go sjf = omega arith

  right_clocks : Right-at 1
  unfolding rule cells form words width mark_at
  right_clocks =
      let c = clocks_cell m in
      let d = policy_cell m in
      let k = w.clocks in
      record {
        mark = ck;
        vals = m.clocks ∷ [];
        goes = refl;
        due = there_so_far 1 0 (omega arith) (omega arith) (omega arith) (omega arith);
        room = refl;
        within = omega arith;
        right = refl;
        goal = refl;
        held = sym (get_words table 1 ck refl (omega arith) ∙ rw c);
        few = few 1 (omega arith);
      }

  -- refusal 8 does not apply
  prio_cell : (t n : ℕ) → t < 6 → n < 6 → get_or (so_far (2 + 3 * t)) (2 + 3 * n + 2) 0 ≡ pick (ltb n t) (get_or table (2 + 3 * n + 2) 0) 0
  prio_cell t n h l =
      let o : owner (2 + 3 * n + 2) ≡ 2 + 3 * n = owner_task (2 + 3 * n + 2) (omega arith) (omega arith) ∙ omega arith in
      part_cell table long closed (2 + 3 * t) (2 + 3 * n + 2) (omega arith) (omega arith)
      ∙ by_lt n t (λ a. rw (o, lt-ltb (2 + 3 * n) (2 + 3 * t) (omega arith), lt-ltb n t a)) (λ a. rw (o, le-ltb (2 + 3 * n) (2 + 3 * t) (omega arith), le-ltb n t a))

  not_used : (t : ℕ) (x : Task) → t < 6 → get_elem? m.tasks t ≡ some x → Ordered (λ (a b : Task). a.prio ≡ b.prio → ⊥) m.tasks → (n : ℕ) → n ≤ 6
      → used (so_far (2 + 3 * t)) x.prio n ≡ false
  unfolding used
  not_used t x h e d zero l = refl
  not_used t x h e d (suc n) l = rw (not_used t x h e d n (omega arith)) (ne_eqb (get_or (so_far (2 + 3 * t)) (2 + 3 * n + 2) 0) (x.prio + 1) (λ q. go q))
    where
      go : get_or (so_far (2 + 3 * t)) (2 + 3 * n + 2) 0 ≡ x.prio + 1 → ⊥
      go q =
          by_lt n t
          (λ a.
          let p : get_or table (2 + 3 * n + 2) 0 ≡ x.prio + 1 = (rw (lt-ltb n t a) at (sym (prio_cell t n h (omega arith)))) ∙ q in
          let k = nth_in m.tasks n (let j = nth_some m.tasks t x e in omega arith) in
          let c = (task_cells m n k.0 (omega arith) k.1).2 in
          ordered_nth (λ (a b : Task). a.prio ≡ b.prio → ⊥) m.tasks n t k.0 x d a k.1 e (omega arith))
          (λ a. let p = rw (le-ltb n t a) at (prio_cell t n h (omega arith)) in omega arith)

  fits_policy : (t : ℕ) (x : Task) → t < 6 → get_elem? m.tasks t ≡ some x → misfit (so_far (2 + 3 * t)) x.prio ≡ false
  unfolding misfit width form mark_at policy_number
  fits_policy t x h e =
      let c = head_below table long closed (2 + 3 * t) 0 (omega arith) (omega arith) (omega arith) ∙ policy_cell m in
      rw c (go m.policy w.ranks)
    where
      none : Each (λ (y : Task). y.prio ≡ 0) m.tasks → ltb 0 x.prio ≡ false
      none r = let k = each_nth (λ (y : Task). y.prio ≡ 0) m.tasks t x r e in le-ltb 0 x.prio (omega arith)

      go : (p : Policy) → Ranked p m.tasks → pick (eqb (suc (policy_number p)) 2) (eqb x.prio 0 || used (so_far (2 + 3 * t)) x.prio 6) (ltb 0 x.prio) ≡ false
      go fps r =
          let k = each_nth (λ (y : Task). 1 ≤ y.prio) m.tasks t x r.0 e in
          rw (ne_eqb x.prio 0 (omega arith)) (not_used t x h e r.1 6 (omega arith))
      go edf r = none r
      go sjf r = none r

  right_task : (t : ℕ) (x : Task) → t < 6 → get_elem? m.tasks t ≡ some x → Right-at (2 + 3 * t)
  unfolding rule cells form words width mark_at
  right_task t x h e =
      let r = each_nth RightTask m.tasks t x w.tasks e in
      let r₁ = r.low in
      let r₂ = r.high in
      let r₃ = r.enough in
      let r₄ = r.prio in
      let c = task_cells m t x h e in
      let c₁ = c.0 in
      let d = clocks_cell m in
      let n = tasks_to t (nth_some m.tasks t x e) in
      let z₁ : suc (2 + 3 * t) ≡ 2 + 3 * t + 1 = omega arith in
      let z₂ : suc (suc (2 + 3 * t)) ≡ 2 + 3 * t + 2 = omega arith in
      let g : get table (2 + 3 * t) ≡ words table (2 + 3 * t) 3 = get_words table (2 + 3 * t) tk (at_task t h) (omega arith) in
      record {
        mark = tk;
        vals = x.C ∷ x.D ∷ x.prio ∷ [];
        goes = refl;
        due = there_so_far (2 + 3 * t) 1 (omega arith) (omega arith) (omega arith) (omega arith);
        room = lt-ltb (tasks (so_far (2 + 3 * t))) 6 (omega arith);
        within = omega arith;
        right = rw (le-ltb x.D x.C r₃, fits_policy t x h e);
        goal = omega arith;
        held = sym (g ∙ rw (z₂, z₁, c.0, c.1, c.2));
        few = few (2 + 3 * t) (omega arith);
      }

  right_location : (l : ℕ) (x : Location) → l < 16 → get_elem? m.locations l ≡ some x → Right-at (20 + 5 * l)
  unfolding rule cells form words width
  right_location l x h e =
      let r = (each_nth (RightLocation m.clocks (length m.tasks)) m.locations l x w.locations e).task in
      let c = location_first m l x h e in
      let j = nth_some m.locations l x e in
      let n = locations_to l (20 + 5 * l) (omega arith) (omega arith) (omega arith) in
      let a = tasks_all (20 + 5 * l) (omega arith) (omega arith) in
      let low = w.tasks_low in
      record {
        mark = lo;
        vals = x.task ∷ [];
        goes = refl;
        due = there_so_far (20 + 5 * l) 2 (omega arith) (omega arith) (head_task 0 (omega arith)) (task_there 0 (omega arith));
        room = lt-ltb (locations (so_far (20 + 5 * l))) 16 (omega arith);
        within = omega arith;
        right = refl;
        goal = omega arith;
        held = sym (get_words table (20 + 5 * l) lo (at_location l h) (omega arith) ∙ rw c);
        few = few (20 + 5 * l) (omega arith);
      }

  right_limit : (l k : ℕ) (x : Location) → l < 16 → 1 ≤ k → k ≤ 4 → get_elem? m.locations l ≡ some x → 0 < get_or table (20 + 5 * l + k) 0 → Right-at (20 + 5 * l + k)
  unfolding rule cells form words width
  right_limit l k x h a b e f =
      let r = each_nth (RightLocation m.clocks (length m.tasks)) m.locations l x w.locations e in
      let c = limit_cell m l k x h a (omega arith) e in
      let y = keyed_found (λ (y : Limit). y.clock) (λ (y : Limit). y.most) (RightLimit m.clocks) x.limits k r.limits (omega arith) in
      let y₁ = y.1 in
      let y₂ = y.2 in
      let q₁ = y.3.low in
      let q₂ = y.3.high in
      let q₃ = y.3.most in
      let j = nth_some m.locations l x e in
      let n = locations_to (l + 1) (20 + 5 * l + k) (omega arith) (omega arith) (omega arith) in
      let d = clocks_so_far (20 + 5 * l + k) (omega arith) (omega arith) in
      record {
        mark = iv;
        vals = k ∷ y.0.most ∷ [];
        goes = refl;
        due = there_so_far (20 + 5 * l + k) 20 (omega arith) (omega arith) (head_location 0 (omega arith)) (location_there 0 (omega arith));
        room = refl;
        within = omega arith;
        right = refl;
        goal = omega arith;
        held = sym (get_words table (20 + 5 * l + k) iv (at_limit l k h a b) f ∙ ap (λ (v : ℕ). v ∷ []) (c ∙ y.2));
        few = few (20 + 5 * l + k) (omega arith);
      }

  right_edge : (e : ℕ) (x : Edge) → e < 32 → get_elem? m.edges e ≡ some x → Right-at (100 + 31 * e)
  unfolding rule cells form words width
  right_edge e x h q =
      let r = each_nth (RightEdge m.clocks (length m.locations)) m.edges e x w.edges q in
      let r₁ = r.from_low in
      let r₂ = r.from_high in
      let r₃ = r.to_low in
      let r₄ = r.to_high in
      let c = edge_firsts m e x h q in
      let c₁ = c.0 in
      let j = nth_some m.edges e x q in
      let n = edges_to e (100 + 31 * e) (omega arith) (omega arith) (omega arith) in
      let a = locations_all (100 + 31 * e) (omega arith) (omega arith) in
      let low = w.locations_low in
      let z : suc (100 + 31 * e) ≡ 100 + 31 * e + 1 = omega arith in
      record {
        mark = ed;
        vals = x.from ∷ x.to ∷ [];
        goes = refl;
        due = there_so_far (100 + 31 * e) 20 (omega arith) (omega arith) (head_location 0 (omega arith)) (location_there 0 (omega arith));
        room = lt-ltb (edges (so_far (100 + 31 * e))) 32 (omega arith);
        within = omega arith;
        right = refl;
        goal = omega arith;
        held = sym (get_words table (100 + 31 * e) ed (at_from e) (omega arith) ∙ rw (z, c.0, c.1));
        few = few (100 + 31 * e) (omega arith);
      }

  right_bound : (e r : ℕ) (x : Edge) → e < 32 → 2 ≤ r → r < 27 → get_elem? m.edges e ≡ some x → 0 < get_or table (100 + 31 * e + r) 0 → Right-at (100 + 31 * e + r)
  unfolding rule cells form words width raised
  right_bound e r x h a b q f =
      let i = each_nth (RightEdge m.clocks (length m.locations)) m.edges e x w.edges q in
      let c = bound_cell_lem m e r x h a b q in
      let y = keyed_found (λ (y : Bound). 5 * y.i + y.j) (λ (y : Bound). raised y.c) (RightBound m.clocks time_most) x.guard (r - 2) i.guard (omega arith) in
      let y₁ = y.1 in
      let q₁ = y.3.i in
      let q₂ = y.3.j in
      let q₃ = y.3.least in
      let q₄ = y.3.most in
      let k = w.clocks in
      let j = nth_some m.edges e x q in
      let n = edges_to (e + 1) (100 + 31 * e + r) (omega arith) (omega arith) (omega arith) in
      let d = clocks_so_far (100 + 31 * e + r) (omega arith) (omega arith) in
      record {
        mark = gu;
        vals = y.0.i ∷ y.0.j ∷ raised y.0.c ∷ [];
        goes = refl;
        due = there_so_far (100 + 31 * e + r) 100 (omega arith) (omega arith) (head_edge 0) (edge_there 0 (omega arith));
        room = refl;
        within = omega arith;
        right = rw (ne_eqb y.0.i y.0.j y.3.two);
        goal = omega arith;
        held = sym (get_words table (100 + 31 * e + r) gu (in_edge e r (omega arith) ∙ guard_in_lem r a b) f ∙ ap (λ (v : ℕ). v ∷ []) (c ∙ y.2));
        few = few (100 + 31 * e + r) (omega arith);
      }

  right_reset : (e r : ℕ) (x : Edge) → e < 32 → 27 ≤ r → r < 31 → get_elem? m.edges e ≡ some x → 0 < get_or table (100 + 31 * e + r) 0 → Right-at (100 + 31 * e + r)
  unfolding rule cells form words width
  right_reset e r x h a b q f =
      let i = each_nth (RightEdge m.clocks (length m.locations)) m.edges e x w.edges q in
      let c = reset_cell m e r x h a b q in
      let y = keyed_found (λ (y : ℕ). y) (λ (y : ℕ). y) (λ (k : ℕ). (1 ≤ k) × (k ≤ m.clocks)) x.resets (r - 26) i.resets (omega arith) in
      let y₁ = y.1 in
      let q₁ = y.3.0 in
      let q₂ = y.3.1 in
      let j = nth_some m.edges e x q in
      let n = edges_to (e + 1) (100 + 31 * e + r) (omega arith) (omega arith) (omega arith) in
      let d = clocks_so_far (100 + 31 * e + r) (omega arith) (omega arith) in
      record {
        mark = rs;
        vals = y.0 ∷ [];
        goes = refl;
        due = there_so_far (100 + 31 * e + r) 100 (omega arith) (omega arith) (head_edge 0) (edge_there 0 (omega arith));
        room = refl;
        within = omega arith;
        right = refl;
        goal = omega arith;
        held = sym (get_words table (100 + 31 * e + r) rs (in_edge e r b ∙ reset_in_lem r a) f ∙ ap (λ (v : ℕ). v ∷ []) (c ∙ y.2));
        few = few (100 + 31 * e + r) (omega arith);
      }

  -- every record of the table is one that may stand there
  right_at : (i : ℕ) → i < size → is_none (get table i) ≡ false → Right-at i
  right_at i h e =
      let f = slot_full table long closed i e in
      by_slot i h f.1
      (λ q. subst Right-at (sym q) right_policy)
      (λ q. subst Right-at (sym q) right_clocks)
      (λ t l q. by_nth m.tasks t (λ x n. subst Right-at (sym q) (right_task t x l n))
      (λ n. let u = task_zero t l n in let v = rw q at f.0 in nonsense (omega arith)))
      (λ l k q. by_nth m.locations l (λ x n. subst Right-at (sym q) (right_location l x k n))
      (λ n. let u = location_zero l k n in let v = rw q at f.0 in nonsense (omega arith)))
      (λ l k a b c q. by_nth m.locations l (λ x n. subst Right-at (sym q) (right_limit l k x a b c n (rw q at f.0)))
      (λ n. let u = location_none m l k a (omega arith) n in let v = rw q at f.0 in nonsense (omega arith)))
      (λ d k q. by_nth m.edges d (λ x n. subst Right-at (sym q) (right_edge d x k n))
      (λ n. let u = edge_zero d k n in let v = rw q at f.0 in nonsense (omega arith)))
      (λ d r a b c q. by_nth m.edges d (λ x n. subst Right-at (sym q) (right_bound d r x a b c n (rw q at f.0)))
      (λ n. let u = edge_none m d r a (omega arith) n in let v = rw q at f.0 in nonsense (omega arith)))
      (λ d r a b c q. by_nth m.edges d (λ x n. subst Right-at (sym q) (right_reset d r x a b c n (rw q at f.0)))
      (λ n. let u = edge_none m d r a (omega arith) n in let v = rw q at f.0 in nonsense (omega arith)))

  -- the table of a model that a text can say is one that a text gives
  pub encode_proper : Proper format lawful (encode m)
  encode_proper = let k = w.locations_low in make_proper table right_at (location_there 0 (omega arith)) (part_whole table long closed)
