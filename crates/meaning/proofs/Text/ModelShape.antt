-- What a table that some text gives is like: nothing stands in it without what it stands under.
-- Assumes nothing.
use Prim.Native.Nat.{◌*◌, ◌+◌, ◌-◌, ◌<◌, ◌≤◌, suc, zero, ℕ}
use mathlib.Core.Bool.{Bool, false, true}
use mathlib.Core.List.{List, []}
use mathlib.Core.Path.{◌∙◌, ◌≡◌, ap, refl, sym}
use native.Mathlib.Omega.{arith}
use lib.ListN.{get_or}
use borrow.Author.Tests.{lt-ltb, ltb-false, ltb-true}
use Rattle.meaning.proofs.Text.Choices.{by_eq, by_lt}
use Rattle.meaning.proofs.Text.ModelCells.{at_limit, at_location, at_task, in_edge}
use Rattle.meaning.proofs.Text.ModelLaws.{As, by_one, by_three, by_two, guard_in_lem, lawful, ok_as, proper_full, proper_ok, reset_in_lem, some_is}
use Rattle.meaning.proofs.Text.RecordLaws.{Proper, part}
use Rattle.meaning.proofs.Text.RecordParts.{part_above, part_below}
use Rattle.meaning.specs.Text.Choice.{pick}
use Rattle.meaning.specs.Text.Lines.{around, between}
use Rattle.meaning.specs.Text.ModelReader.{cells, format, get, mark_at, mark_in_edge, rule, width, words}
use Rattle.meaning.specs.Text.ModelTable.{clocks, count, edges, locations, size, there}
use Rattle.meaning.specs.Text.ModelText.{Mark, ck, ed, form, gu, iv, lo, po, rs, tk}
use Rattle.meaning.specs.Text.Ranges.{time_most}

-- ---- counts

pub count_same : (a b : List ℕ) (at step n : ℕ) → ((x : ℕ) → x < n → get_or a (at + step * x) 0 ≡ get_or b (at + step * x) 0) → count a at step n ≡ count b at step n
unfolding count
count_same a b at step zero h = refl
count_same a b at step (suc n) h = rw (count_same a b at step n (λ x l. h x (omega arith)), h n (omega arith))

count_cut : (m : List ℕ) (at step c d : ℕ) → ((x : ℕ) → c ≤ x → x < c + d → get_or m (at + step * x) 0 ≡ 0) → count m at step (c + d) ≡ count m at step c
unfolding count
count_cut m at step c zero h = let z : c + 0 ≡ c = omega arith in ap (count m at step) z
count_cut m at step c (suc d) h =
    let z : c + suc d ≡ suc (c + d) = omega arith in
    rw (z, h (c + d) (omega arith) (omega arith)) (let r = count_cut m at step c d (λ x a b. h x a (omega arith)) in omega arith)

count_most : (m : List ℕ) (at step n : ℕ) → count m at step n ≤ n
unfolding count
count_most m at step zero = omega arith
count_most m at step (suc n) = go (there m (at + step * n)) (count_most m at step n)
  where
    go : (t : Bool) → count m at step n ≤ n → count m at step n + pick t 1 0 ≤ suc n
    go true h = omega arith
    go false h = omega arith

-- as many as there can be: each is there
count_full : (m : List ℕ) (at step n x : ℕ) → count m at step n ≡ n → x < n → 0 < get_or m (at + step * x) 0
unfolding count
count_full m at step zero x e h = absurd (omega arith)
count_full m at step (suc n) x e h = go (there m (at + step * n)) refl e (count_full m at step n x)
  where
    go : (t : Bool) → there m (at + step * n) ≡ t → count m at step n + pick t 1 0 ≡ suc n → (count m at step n ≡ n → x < n → 0 < get_or m (at + step * x) 0) → 0 < get_or m (at + step * x) 0
    go true a b ih = by_lt x n (λ l. ih (omega arith) l) (λ l. let z : x ≡ n = omega arith in rw z (ltb-true 0 (get_or m (at + step * n) 0) a))
    go false a b ih = absurd (omega (arith, count_most m at step n))

-- the first is there: there is one
pub count_some : (m : List ℕ) (at step n : ℕ) → 0 < get_or m at 0 → 0 < count m at step (suc n)
unfolding count
count_some m at step zero h = let z : at + step * 0 ≡ at = omega arith in rw (z, lt-ltb 0 (get_or m at 0) h) (omega arith)
count_some m at step (suc n) h = let r = count_some m at step n h in omega arith

-- ---- first cells

pub get_cell : (m : List ℕ) (k : ℕ) → 0 < width (mark_at k) → get_or (get m k) 0 0 ≡ get_or m k 0
unfolding get words
get_cell m k h = go (width (mark_at k)) h (there m k) refl
  where
    go : (w : ℕ) → 0 < w → (t : Bool) → there m k ≡ t → get_or (pick t (words m k w) []) 0 0 ≡ get_or m k 0
    go zero h t e = absurd (omega arith)
    go (suc w) h true e = refl
    go (suc w) h false e = let a = ltb-false 0 (get_or m k 0) e in omega arith

-- these are first cells
pub head_task : (t : ℕ) → t < 6 → 0 < width (mark_at (2 + 3 * t))
unfolding width form
head_task t h = rw (at_task t h) (omega arith)

pub head_location : (l : ℕ) → l < 16 → 0 < width (mark_at (20 + 5 * l))
unfolding width form
head_location l h = rw (at_location l h) (omega arith)

head_limit : (l k : ℕ) → l < 16 → 1 ≤ k → k ≤ 4 → 0 < width (mark_at (20 + 5 * l + k))
unfolding width form
head_limit l k h a b = rw (at_limit l k h a b) (omega arith)

pub at_from : (e : ℕ) → mark_at (100 + 31 * e) ≡ ed
unfolding mark_in_edge
at_from e = let z : 100 + 31 * e ≡ 100 + 31 * e + 0 = omega arith in ap mark_at z ∙ in_edge e 0 (omega arith)

pub head_edge : (e : ℕ) → 0 < width (mark_at (100 + 31 * e))
unfolding width form
head_edge e = rw (at_from e) (omega arith)

module _ (m : List ℕ) (p : Proper format lawful m) where
  abbrev pub upto : ℕ → List ℕ
  upto j = part format lawful m j

  pub below : (j k : ℕ) → k < j → j ≤ size → 0 < width (mark_at k) → get_or (upto j) k 0 ≡ get_or m k 0
  below j k h a w = sym (get_cell (upto j) k w) ∙ ap (λ (l : List ℕ). get_or l 0 0) (part_below format lawful m p j k h a) ∙ get_cell m k w

  above : (j k : ℕ) → j ≤ k → k < size → 0 < width (mark_at k) → get_or (upto j) k 0 ≡ 0
  above j k h a w = sym (get_cell (upto j) k w) ∙ ap (λ (l : List ℕ). get_or l 0 0) (part_above format lawful m p j k h a)

  -- what a record that is there was held to
  pub record_at : (j : ℕ) (q : Mark) → j < size → mark_at j ≡ q → 0 < width q → 0 < get_or m j 0 → As q (upto j) j (get m j)
  record_at j q h e w f =
      let w' : 0 < width (mark_at j) = rw e w in
      let c = get_cell m j w' in
      ok_as (upto j) j (get m j) (proper_ok m p j h (some_is (get m j) (omega arith))) q e

  -- of a head that is there in the part, all heads up to it are there
  head_there : (j at step n c x : ℕ) → c ≤ n → j ≤ size → ((y : ℕ) → y < n → (0 < width (mark_at (at + step * y))) × (at + step * y < size))
      → ((y : ℕ) → c ≤ y → y < n → j ≤ at + step * y) → count (upto j) at step n ≡ c → x < c → at + step * x < j → 0 < get_or m (at + step * x) 0
  head_there j at step n c x h a w f e l b =
      let z : c + (n - c) ≡ n = omega arith in
      let k : count (upto j) at step c ≡ c = sym (count_cut (upto j) at step c (n - c) (λ y u v. above j (at + step * y) (f y u (omega arith)) (w y (omega arith)).1 (w y (omega arith)).0)) ∙ ap (count (upto j) at step) z ∙ e in
      rw (below j (at + step * x) b a (w x (omega arith)).0) at (count_full (upto j) at step c x k l)

  -- a limit stands under its location
  pub location_there : (l k : ℕ) → l < 16 → 1 ≤ k → k ≤ 4 → 0 < get_or m (20 + 5 * l + k) 0 → 0 < get_or m (20 + 5 * l) 0
  unfolding rule width form locations
  location_there l k h a b f =
      let s = record_at (20 + 5 * l + k) iv (omega arith) (at_limit l k h a b) (omega arith) f in
      by_two (λ (v : List ℕ). (rule iv (upto (20 + 5 * l + k))).slot v ≡ 20 + 5 * l + k → 0 < get_or m (20 + 5 * l) 0) (between 1 (clocks (upto (20 + 5 * l + k)))) (between 0 time_most) s.vals s.within
      (λ x y x₁ x₂ y₁ y₂ g.
      by_eq l 0
      (λ z.
      let d = ltb-true 0 (get_or (upto (20 + 5 * l + k)) 20 0) s.due in
      rw z (rw (below (20 + 5 * l + k) 20 (omega arith) (omega arith) (head_location 0 (omega arith))) at d))
      (λ z. head_there (20 + 5 * l + k) 20 5 16 (l + 1) l (omega arith) (omega arith) (λ y u. (head_location y u, omega arith)) (λ y u v. omega arith)
      (let w = s.few in omega arith) (omega arith) (omega arith)))
      s.goal

  -- a guard's bound and a reset stand under their edge
  edge_of : (j e : ℕ) → e < 32 → 100 + 31 * e < j → j < 100 + 31 * e + 31 → edges (upto j) - 1 ≡ e → there (upto j) 100 ≡ true → 0 < get_or m (100 + 31 * e) 0
  unfolding edges
  edge_of j e h a b c d =
      by_eq e 0
      (λ z. let f = ltb-true 0 (get_or (upto j) 100 0) d in rw z (rw (below j 100 (omega arith) (omega arith) (head_edge 0)) at f))
      (λ z. head_there j 100 31 32 (e + 1) e (omega arith) (omega arith) (λ y u. (head_edge y, omega arith)) (λ y u v. omega arith) (omega arith) (omega arith) a)

  pub guard_there : (e r : ℕ) → e < 32 → 2 ≤ r → r < 27 → 0 < get_or m (100 + 31 * e + r) 0 → 0 < get_or m (100 + 31 * e) 0
  unfolding rule width form
  guard_there e r h a b f =
      let s = record_at (100 + 31 * e + r) gu (omega arith) (in_edge e r (omega arith) ∙ guard_in_lem r a b) (omega arith) f in
      by_three (λ (v : List ℕ). (rule gu (upto (100 + 31 * e + r))).slot v ≡ 100 + 31 * e + r → 0 < get_or m (100 + 31 * e) 0)
      (between 0 (clocks (upto (100 + 31 * e + r)))) (between 0 (clocks (upto (100 + 31 * e + r)))) (around time_most) s.vals s.within
      (λ x y z x₁ x₂ y₁ y₂ z₁ z₂ g.
      let w = s.few in
      edge_of (100 + 31 * e + r) e h (omega arith) (omega arith) (omega arith) s.due)
      s.goal

  pub reset_there : (e r : ℕ) → e < 32 → 27 ≤ r → r < 31 → 0 < get_or m (100 + 31 * e + r) 0 → 0 < get_or m (100 + 31 * e) 0
  unfolding rule width form
  reset_there e r h a b f =
      let s = record_at (100 + 31 * e + r) rs (omega arith) (in_edge e r b ∙ reset_in_lem r a) (omega arith) f in
      by_one (λ (v : List ℕ). (rule rs (upto (100 + 31 * e + r))).slot v ≡ 100 + 31 * e + r → 0 < get_or m (100 + 31 * e) 0)
      (between 1 (clocks (upto (100 + 31 * e + r)))) s.vals s.within
      (λ x x₁ x₂ g.
      let w = s.few in
      edge_of (100 + 31 * e + r) e h (omega arith) (omega arith) (omega arith) s.due)
      s.goal

  -- a reset's cell tells its clock once more
  pub reset_value : (e x : ℕ) → e < 32 → x < 4 → 0 < get_or m (100 + 31 * e + (27 + x)) 0 → get_or m (100 + 31 * e + (27 + x)) 0 ≡ 2 + x
  unfolding rule width form cells
  reset_value e x h b f =
      let j = 100 + 31 * e + (27 + x) in
      let q : mark_at (100 + 31 * e + (27 + x)) ≡ rs = in_edge e (27 + x) (omega arith) ∙ reset_in_lem (27 + x) (omega arith) in
      let s = record_at (100 + 31 * e + (27 + x)) rs (omega arith) q (omega arith) f in
      by_one (λ (v : List ℕ). (rule rs (upto (100 + 31 * e + (27 + x)))).slot v ≡ 100 + 31 * e + (27 + x) → cells rs v ≡ get m (100 + 31 * e + (27 + x)) → get_or m (100 + 31 * e + (27 + x)) 0 ≡ 2 + x)
      (between 1 (clocks (upto (100 + 31 * e + (27 + x))))) s.vals s.within
      (λ a x₁ x₂ g d.
      let w = s.few in
      let c = get_cell m (100 + 31 * e + (27 + x)) (rw q (omega arith)) in
      let d' = ap (λ (l : List ℕ). get_or l 0 0) d in
      omega arith)
      s.goal s.held

  -- what every text has
  pub location_first : 0 < get_or m 20 0
  location_first = proper_full m p

  pub task_first : 0 < get_or m 2 0
  unfolding rule width form
  task_first =
      let s = record_at 20 lo (omega arith) (at_location 0 (omega arith)) (omega arith) location_first in
      let d = ltb-true 0 (get_or (upto 20) 2 0) s.due in
      rw (below 20 2 (omega arith) (omega arith) (head_task 0 (omega arith))) at d

  pub clocks_there : 0 < get_or m 1 0
  unfolding rule width form mark_at
  clocks_there =
      let s = record_at 2 tk (omega arith) (at_task 0 (omega arith)) (omega arith) task_first in
      let d = ltb-true 0 (get_or (upto 2) 1 0) s.due in
      rw (below 2 1 (omega arith) (omega arith) (omega arith)) at d

  pub policy_there : 0 < get_or m 0 0
  unfolding rule width form mark_at
  policy_there =
      let s = record_at 1 ck (omega arith) refl (omega arith) clocks_there in
      let d = ltb-true 0 (get_or (upto 1) 0 0) s.due in
      rw (below 1 0 (omega arith) (omega arith) (omega arith)) at d

  pub policy_is : (2 ≤ get_or m 0 0) × (get_or m 0 0 ≤ 4)
  unfolding rule width form mark_at cells
  policy_is =
      let s = record_at 0 po (omega arith) refl (omega arith) policy_there in
      by_one (λ (v : List ℕ). cells po v ≡ get m 0 → (2 ≤ get_or m 0 0) × (get_or m 0 0 ≤ 4)) (between 1 3) s.vals s.within
      (λ a x y e. let c = get_cell m 0 (omega arith) in let d = ap (λ (l : List ℕ). get_or l 0 0) e in omega arith)
      s.held
