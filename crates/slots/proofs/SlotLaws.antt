-- Laws of the slots of a queue by value.
-- Assumes nothing.
use Prim.Native.Nat.{ℕ, zero, suc, ◌+◌, ◌-◌, ◌≤◌, ◌<◌}
use mathlib.Core.Path.{◌≡◌, refl, sym, ◌∙◌, ap, subst}
use mathlib.Core.List.{List, [], ◌∷◌, ◌++◌, map, tail}
use native.Mathlib.Omega.{arith}
use native.Mathlib.Decide.{dec_lt, ℕ_discrete}
use native.Mathlib.Numerals.{add-one}
use lib.ListN.{length, get_or, take, drop, set, replicate, length-set, get_or-map, get_or-eq_default}
use lib.Seq.{ext_get_or, get_or-take, length-take-le, get_or-set_same, get_or-set_other}
use Rattle.std.proofs.lemmas.List.{length-map}
use Rattle.std.specs.Coded.{le_prop}
use Rattle.meaning.specs.Lists.{insert_at}
use Rattle.meaning.specs.Model.{Model}
use Rattle.meaning.specs.Text.Ranges.{variables_most}
use Rattle.meaning.specs.Inner.Slots.{Slot, slot, slots_of, slot_at, tasks_in}
use Rattle.meaning.specs.Inner.Places.{insert_slot, insert_slots}
use Rattle.meaning.proofs.Lists.{map_insert_at, length_insert_at}
use Rattle.meaning.proofs.Exact.Valuations.{length_slots}
use Rattle.meaning.proofs.Exact.Loops.{get_d_slots}
use Rattle.meaning.proofs.Exact.Ranges.{length_insert_slot}
use Rattle.slots.specs.declared.standing.Slot as Cell
use Rattle.slots.specs.declared.standing.Slots.{Slots}
use Rattle.slots.specs.Stands.{no_slot, no_cell, slot_of, slot_in, sum_before, Stand}

-- ---- releases one after the other

-- one release more is one more slot put in
pub insert_step : (ts ps : List ℕ) (ss : List Slot) (k : ℕ) → k < length ts → k < length ps
    → insert_slots (take (suc k) ts) (take (suc k) ps) ss ≡ insert_slot (get_or ps k 0) 0 (get_or ts k 0) (insert_slots (take k ts) (take k ps) ss)
insert_step [] ps ss k h g = absurd (omega arith)
insert_step (t ∷ ts) [] ss k h g = absurd (omega arith)
insert_step (t ∷ ts) (p ∷ ps) ss zero h g = refl
insert_step (t ∷ ts) (p ∷ ps) ss (suc k) h g = insert_step ts ps (insert_slot p 0 t ss) k (omega arith) (omega arith)

-- each release adds one
pub length_insert_slots : (ts ps : List ℕ) (ss : List Slot) → length ts ≡ length ps → length (insert_slots ts ps ss) ≡ length ss + length ts
length_insert_slots [] ps ss e = omega arith
length_insert_slots (t ∷ ts) [] ss e = absurd (omega arith)
length_insert_slots (t ∷ ts) (p ∷ ps) ss e =
    let i = length_insert_slots ts ps (insert_slot p 0 t ss) (omega arith) in
    omega (arith, i, length_insert_slot t p 0 ss)

-- a new slot puts its task into the order
pub tasks_insert : (p a t : ℕ) (ss : List Slot) → tasks_in (insert_slot p a t ss) ≡ insert_at p t (tasks_in ss)
tasks_insert zero a t ss = refl
tasks_insert (suc p) a t [] = refl
tasks_insert (suc p) a t (s ∷ ss) = ap (λ (l : List ℕ). s.task ∷ l) (tasks_insert p s.sum t ss)

-- ---- the cells

-- the cells of the queue are the slots
cells_are : (ss : List Slot) (s : Slots) → Stand ss s → length s.slots ≡ 6 → map slot_of (take s.count s.slots) ≡ ss
cells_are ss s w l =
    let n = length-take-le s.count s.slots (omega (arith, w.few)) in
    let m = length-map (take s.count s.slots) slot_of in
    ext_get_or no_slot (map slot_of (take s.count s.slots)) ss (omega (arith, w.many))
    (λ k h. get_or-map slot_of (take s.count s.slots) k no_cell ∙ ap slot_of (get_or-take s.count s.slots k no_cell (omega arith)) ∙ sym (w.each k (omega arith)))

tasks_map : (ss : List Slot) → tasks_in ss ≡ map (λ (s : Slot). s.task) ss
tasks_map [] = refl
tasks_map (s ∷ ss) = ap (λ (l : List ℕ). s.task ∷ l) (tasks_map ss)

-- the tasks of the slots
pub stand_tasks : (ss : List Slot) (s : Slots) (ts : List ℕ) → Stand ss s → length ts ≡ 6 → ((k : ℕ) → get_or ts k 0 ≡ (slot_in s k).task) → take s.count ts ≡ tasks_in ss
stand_tasks ss s ts w l e =
    let n = length-take-le s.count ts (omega (arith, w.few)) in
    let m = length-map ss (λ (x : Slot). x.task) in
    ext_get_or 0 (take s.count ts) (map (λ (x : Slot). x.task) ss) (omega (arith, w.many))
    (λ k h. get_or-take s.count ts k 0 (omega arith) ∙ e k ∙ ap (λ (x : Slot). x.task) (sym (w.each k (omega arith))) ∙ sym (get_or-map (λ (x : Slot). x.task) ss k no_slot))
    ∙ sym (tasks_map ss)

-- ---- a queue order

-- the first k cells keep the slots of the queue order o, from variable v on, and those behind them nothing
pub record Filled (v : ℕ) (o : List ℕ) (l : List Cell.Slot) (k : ℕ) : Type 0 where
  pub long : length l ≡ 6
  pub done : (q : ℕ) → q < k → slot_of (get_or l q no_cell) ≡ slot_at v o q
  pub rest : (q : ℕ) → k ≤ q → slot_of (get_or l q no_cell) ≡ no_slot

none_left : (n k : ℕ) → get_or (replicate n no_cell) k no_cell ≡ no_cell
none_left zero k = refl
none_left (suc n) zero = refl
none_left (suc n) (suc k) = none_left n k

-- nothing is filled yet
pub filled_start : (v : ℕ) (o : List ℕ) → Filled v o (replicate 6 no_cell) 0
filled_start v o = record { long = refl; done = λ q h. absurd (omega arith); rest = λ q h. ap slot_of (none_left 6 q) }

-- one cell more
pub filled_more : (v : ℕ) (o : List ℕ) (l : List Cell.Slot) (k : ℕ) (c : Cell.Slot) → Filled v o l k → k < 6 → slot_of c ≡ slot_at v o k → Filled v o (set l k c) (k + 1)
filled_more v o l k c w h e = record {
  long = length-set l k c ∙ w.long;
  done = λ q g. go q g (ℕ_discrete q k);
  rest = λ q g. ap slot_of (get_or-set_other l k q c no_cell (omega arith)) ∙ w.rest q (omega arith);
}
  where
    go : (q : ℕ) → q < k + 1 → Dec (q ≡ k) → slot_of (get_or (set l k c) q no_cell) ≡ slot_at v o q
    go q g (yes d) = rw d (ap slot_of (get_or-set_same l k c no_cell (omega (arith, w.long))) ∙ e)
    go q g (no d) = ap slot_of (get_or-set_other l k q c no_cell d) ∙ w.done q (omega arith)

-- variables that there are
known_by : (s t : Slot) → s ≡ t → (t.sum < variables_most) × (t.age < variables_most) → (s.sum < variables_most) × (s.age < variables_most)
known_by s t e h = rw e h

-- cells that are filled are the slots of the queue order
pub stand_order : (m : Model) (o : List ℕ) (s : Slots) → m.clocks ≤ 4 → length o ≡ s.count → s.count ≤ 6 → Filled (suc m.clocks) o s.slots s.count → Stand (slots_of m o) s
stand_order m o s c n h w = record {
  many = length_slots (suc m.clocks) o ∙ n;
  few = h;
  each = λ k g. get_d_slots (suc m.clocks) o k no_slot (omega arith) ∙ sym (w.done k g);
  known = λ k. go k (dec_lt k s.count);
  unused = w.rest;
}
  where
    go : (k : ℕ) → Dec (k < s.count) → ((slot_in s k).sum < variables_most) × ((slot_in s k).age < variables_most)
    go k (yes g) = known_by (slot_in s k) (slot_at (suc m.clocks) o k) (w.done k g) (omega arith, omega arith)
    go k (no g) = known_by (slot_in s k) no_slot (w.rest k (omega arith)) (omega arith, omega arith)

-- ---- a new job

-- the variable of the running sum just ahead of it, which is a at the head
abbrev sum_over : ℕ → ℕ → List Slot → ℕ
sum_over a zero ss = a
sum_over a (suc p) [] = a
sum_over a (suc p) (s ∷ ss) = sum_over s.sum p ss

-- the new slot is put in as any list has it
insert_is : (p a t : ℕ) (ss : List Slot) → insert_slot p a t ss ≡ insert_at p (slot t (sum_over a p ss) 0) ss
insert_is zero a t ss = refl
insert_is (suc p) a t [] = refl
insert_is (suc p) a t (s ∷ ss) = ap (λ (l : List Slot). s ∷ l) (insert_is p s.sum t ss)

-- it is that of the slot just ahead
over_is : (p a : ℕ) (ss : List Slot) → p < length ss → sum_over a (suc p) ss ≡ (get_or ss p no_slot).sum
over_is p a [] h = absurd (omega arith)
over_is zero a (s ∷ ss) h = refl
over_is (suc p) a (s ∷ ss) h = over_is p s.sum ss (omega arith)

-- as it stands in the array
sum_over_lem : (ss : List Slot) (s : Slots) → Stand ss s → (p : ℕ) → p ≤ s.count → sum_over 0 p ss ≡ sum_before s p
sum_over_lem ss s w zero h = refl
sum_over_lem ss s w (suc p) h = over_is p 0 ss (omega (arith, w.many)) ∙ ap (λ (x : Slot). x.sum) (w.each p (omega arith))

-- ---- what holds of every cell

module _ {A : Type 0} (P : A → Type 0) (d : A) (none : P d) where
  take_each : (n : ℕ) (l : List A) → ((k : ℕ) → P (get_or l k d)) → (k : ℕ) → P (get_or (take n l) k d)
  take_each zero l h k = none
  take_each (suc n) [] h k = none
  take_each (suc n) (x ∷ l) h zero = h 0
  take_each (suc n) (x ∷ l) h (suc k) = take_each n l (λ i. h (suc i)) k

  insert_each : (p : ℕ) (x : A) (l : List A) → P x → ((k : ℕ) → P (get_or l k d)) → (k : ℕ) → P (get_or (insert_at p x l) k d)
  insert_each zero x l h all zero = h
  insert_each zero x l h all (suc k) = all k
  insert_each (suc p) x [] h all zero = h
  insert_each (suc p) x [] h all (suc k) = none
  insert_each (suc p) x (y ∷ l) h all zero = all 0
  insert_each (suc p) x (y ∷ l) h all (suc k) = insert_each p x l h (λ i. all (suc i)) k

-- nothing stands behind a list, where nothing is filled in behind it
padded_is : {A : Type 0} (l : List A) (n : ℕ) (d : A) (k : ℕ) → get_or (l ++ replicate n d) k d ≡ get_or l k d
padded_is [] zero d k = refl
padded_is [] (suc n) d zero = refl
padded_is [] (suc n) d (suc k) = padded_is [] n d k
padded_is (x ∷ l) n d zero = refl
padded_is (x ∷ l) n d (suc k) = padded_is l n d k

-- ---- it is put in

-- the variable just ahead is one that there is
sum_small : (ss : List Slot) (s : Slots) → Stand ss s → (p : ℕ) → sum_before s p < variables_most
sum_small ss s w zero = omega arith
sum_small ss s w (suc p) = (w.known p).0

-- "A new job gets the running sum of the job just ahead, or 0 as head, and age 0."
pub stand_put : (s r : Slots) (p t x : ℕ) → p ≤ s.count → s.count < 6 → length s.slots ≡ 6 → x ≡ sum_before s p
    → r.slots ≡ insert_at p (record { task = t; sum = x; age = 0 }) (take s.count s.slots) ++ replicate (6 - suc s.count) no_cell → r.count ≡ s.count + 1
    → (ss : List Slot) → Stand ss s → Stand (insert_slot p 0 t ss) r
stand_put s r p t x h g l e i j ss w =
    let new : Cell.Slot = record { task = t; sum = x; age = 0 } in
    let o = insert_at p new (take s.count s.slots) in
    let n = length-take-le s.count s.slots (omega arith) in
    let m = length_insert_at p new (take s.count s.slots) in
    let cell : (k : ℕ) → slot_in r k ≡ slot_of (get_or o k no_cell) =
    λ k. ap (λ (z : List Cell.Slot). slot_of (get_or z k no_cell)) i ∙ ap slot_of (padded_is o (6 - suc s.count) no_cell k) in
    let is : insert_slot p 0 t ss ≡ map slot_of o =
    insert_is p 0 t ss ∙ ap (λ (v : ℕ). insert_at p (slot t v 0) ss) (sum_over_lem ss s w p h ∙ sym e)
    ∙ ap (insert_at p (slot t x 0)) (sym (cells_are ss s w l)) ∙ sym (map_insert_at slot_of p new (take s.count s.slots)) in
    let low : x < variables_most = omega (arith, sum_small ss s w p) in
    let Known : Cell.Slot → Type 0 = λ c. (c.sum < variables_most) × (c.age < variables_most) in
    record {
      many = length_insert_slot t p 0 ss ∙ omega (arith, w.many);
      few = omega arith;
      each = λ k f. ap (λ (z : List Slot). get_or z k no_slot) is ∙ get_or-map slot_of o k no_cell ∙ sym (cell k);
      known = λ k. known_by (slot_in r k) (slot_of (get_or o k no_cell)) (cell k)
          (insert_each Known no_cell (omega arith, omega arith) p new (take s.count s.slots) (low, omega arith) (take_each Known no_cell (omega arith, omega arith) s.count s.slots w.known) k);
      unused = λ k f. cell k ∙ ap slot_of (get_or-eq_default o no_cell (omega arith));
    }

-- ---- the head gone

-- each slot moves up
get_d_tail : (ss : List Slot) (k : ℕ) → get_or (tail ss) k no_slot ≡ get_or ss (suc k) no_slot
get_d_tail [] k = refl
get_d_tail (s ∷ ss) k = refl

-- one less, if there is one
length_tail : (ss : List Slot) → length (tail ss) ≡ length ss - 1
length_tail [] = refl
length_tail (s ∷ ss) = omega arith

moved_is : {A : Type 0} (l : List A) (d : A) (k : ℕ) → get_or (drop 1 l ++ d ∷ []) k d ≡ get_or l (suc k) d
moved_is [] d zero = refl
moved_is [] d (suc k) = refl
moved_is (x ∷ l) d k = padded_is l 1 d k

-- cells that moved up are the slots without the head
pub stand_tail : (s r : Slots) → r.slots ≡ drop 1 s.slots ++ no_cell ∷ [] → r.count ≡ s.count - 1 → (ss : List Slot) → Stand ss s → Stand (tail ss) r
stand_tail s r i j ss w =
    let cell : (k : ℕ) → slot_in r k ≡ slot_in s (suc k) =
    λ k. ap (λ (z : List Cell.Slot). slot_of (get_or z k no_cell)) i ∙ ap slot_of (moved_is s.slots no_cell k) in
    record {
      many = omega (arith, length_tail ss, w.many);
      few = omega (arith, w.few);
      each = λ k h. get_d_tail ss k ∙ w.each (suc k) (omega arith) ∙ sym (cell k);
      known = λ k. known_by (slot_in r k) (slot_in s (suc k)) (cell k) (w.known (suc k));
      unused = λ k h. cell k ∙ w.unused (suc k) (omega arith);
    }

-- ---- releases

-- the slots after the first k releases
abbrev pub After : List ℕ → List ℕ → List Slot → ℕ → List Slot
After ts ps ss k = insert_slots (take k ts) (take k ps) ss

-- a loop that puts them in began at the slots s and stands at r
pub record Came (ts ps : List ℕ) (k : ℕ) (s r : Slots) : Type 0 where
  pub stand : (ss : List Slot) → Stand ss s → Stand (After ts ps ss k) r

module _ (ts ps : List ℕ) (k : ℕ) (s r : Slots) (w : Came ts ps k s r) where
  -- so many jobs are queued
  pub came_many : (ss : List Slot) → Stand ss s → k ≤ length ts → k ≤ length ps → r.count ≡ s.count + k
  came_many ss a h g =
      let x = length-take-le k ts h in
      let y = length-take-le k ps g in
      let z = length_insert_slots (take k ts) (take k ps) ss (x ∙ sym y) in
      omega (arith, (w.stand ss a).many, a.many)

  -- one release more
  pub came_more : (u : Slots) → k < length ts → k < length ps
      → ((ss : List Slot) → Stand ss r → Stand (insert_slot (get_or ps k 0) 0 (get_or ts k 0) ss) u) → Came ts ps (k + 1) s u
  came_more u h g f = record {
    stand = λ ss a.
        subst (λ (l : List Slot). Stand l u) (sym (ap (After ts ps ss) (add-one k) ∙ insert_step ts ps ss k h g)) (f (After ts ps ss k) (w.stand ss a));
  }

-- how many jobs a queue order has
pub order_many : (m : Model) (q : List ℕ) (n : ℕ) (s : Slots) → n ≤ 6 → length q ≡ 6 → Stand (slots_of m (take n q)) s → s.count ≡ n
order_many m q n s h l w = sym w.many ∙ length_slots (suc m.clocks) (take n q) ∙ length-take-le n q (omega arith)

-- ---- one `Slots` for the slots

-- a cell is told by its slot
cell_once : (c d : Cell.Slot) → slot_of c ≡ slot_of d → c ≡ d
cell_once c d e = ap (λ (s : Slot). record { task = s.task; sum = s.sum; age = s.age }) e

-- two that stand for the same slots have the same cells
same_cells : (ss : List Slot) (r s : Slots) → Stand ss r → Stand ss s → (k : ℕ) → slot_in r k ≡ slot_in s k
same_cells ss r s a b k = go (dec_lt k r.count)
  where
    go : Dec (k < r.count) → slot_in r k ≡ slot_in s k
    go (yes h) = sym (a.each k h) ∙ b.each k (omega (arith, a.many, b.many))
    go (no h) = a.unused k (omega arith) ∙ sym (b.unused k (omega (arith, a.many, b.many)))

same_count : (p : List Cell.Slot) (m n : ℕ) (a : m ≤ 6) (b : n ≤ 6) → m ≡ n → ◌≡◌ {A = Slots} (record { slots = p; count = m; few = a }) (record { slots = p; count = n; few = b })
same_count p m n a b e =
    let F : ℕ → Type 0 = λ k. (c : k ≤ 6) → ◌≡◌ {A = Slots} (record { slots = p; count = m; few = a }) (record { slots = p; count = k; few = c }) in
    subst F e (λ c. ap (λ (h : m ≤ 6). record { slots = p; count = m; few = h }) (le_prop a c)) b

-- an array by value has its length
pub stand_once : (ss : List Slot) (r s : Slots) → Stand ss r → Stand ss s → length r.slots ≡ 6 → length s.slots ≡ 6 → r ≡ s
stand_once ss r s a b t u =
    let e = ext_get_or no_cell r.slots s.slots (t ∙ sym u) (λ k h. cell_once (get_or r.slots k no_cell) (get_or s.slots k no_cell) (same_cells ss r s a b k)) in
    ap (λ (p : List Cell.Slot). record { slots = p; count = r.count; few = r.few }) e ∙ same_count s.slots r.count s.count r.few s.few (sym a.many ∙ b.many)
