-- Which cells a record of the model has, and that no two records share one.
-- Assumes nothing.
use Prim.Native.Nat.{◌%◌, ◌*◌, ◌+◌, ◌-◌, ◌/◌, ◌<◌, ◌≤◌, suc, zero, ℕ}
use mathlib.Core.Bool.{Bool, false, true}
use mathlib.Core.List.{List, [], ◌∷◌}
use mathlib.Core.Path.{◌∙◌, ◌≡◌, ap, refl}
use native.Mathlib.Omega.{arith}
use lib.Dec.{eqb, ltb}
use lib.ListN.{get_or, length, length-set, set}
use lib.Seq.{get_or-set_other, get_or-set_same, sets}
use borrow.Author.Tests.{eq-eqb, le-ltb, lt-ltb, ne_eqb}
use Rattle.meaning.proofs.Text.Choices.{by_eq, by_lt}
use Rattle.meaning.specs.Text.Choice.{pick}
use Rattle.meaning.specs.Text.ModelReader.{get, mark_at, mark_in_edge, width, words}
use Rattle.meaning.specs.Text.ModelTable.{count, size, there}
use Rattle.meaning.specs.Text.ModelText.{Mark, form, iv, lo, tk}

-- ---- the mark at a slot

pub at_task : (t : ℕ) → t < 6 → mark_at (2 + 3 * t) ≡ tk
unfolding mark_at
at_task t h =
    let e : (2 + 3 * t - 2) % 3 ≡ 0 = omega arith in
    rw (le-ltb (2 + 3 * t) 1 (omega arith), le-ltb (2 + 3 * t) 2 (omega arith), lt-ltb (2 + 3 * t) 20 (omega arith), e)

pub at_location : (l : ℕ) → l < 16 → mark_at (20 + 5 * l) ≡ lo
unfolding mark_at
at_location l h =
    let j = 20 + 5 * l in
    let e : (20 + 5 * l - 20) % 5 ≡ 0 = omega arith in
    rw (le-ltb (20 + 5 * l) 1 (omega arith), le-ltb (20 + 5 * l) 2 (omega arith), le-ltb (20 + 5 * l) 20 (omega arith), lt-ltb (20 + 5 * l) 100 (omega arith), e)

pub at_limit : (l k : ℕ) → l < 16 → 1 ≤ k → k ≤ 4 → mark_at (20 + 5 * l + k) ≡ iv
unfolding mark_at
at_limit l k h a b =
    let e : (20 + 5 * l + k - 20) % 5 ≡ k = omega arith in
    rw (
      le-ltb (20 + 5 * l + k) 1 (omega arith),
      le-ltb (20 + 5 * l + k) 2 (omega arith),
      le-ltb (20 + 5 * l + k) 20 (omega arith),
      lt-ltb (20 + 5 * l + k) 100 (omega arith),
      e,
      ne_eqb k 0 (omega arith),
    )

pub at_edge : (k : ℕ) → 100 ≤ k → mark_at k ≡ mark_in_edge ((k - 100) % 31)
unfolding mark_at
at_edge k h = rw (le-ltb k 1 (omega arith), le-ltb k 2 (omega arith), le-ltb k 20 (omega arith), le-ltb k 100 h)

pub in_edge : (e r : ℕ) → r < 31 → mark_at (100 + 31 * e + r) ≡ mark_in_edge r
in_edge e r h =
    let x : (100 + 31 * e + r - 100) % 31 ≡ r = omega arith in
    at_edge (100 + 31 * e + r) (omega arith) ∙ ap mark_in_edge x

-- ---- which record a cell belongs to

unfoldable pub owner : ℕ → ℕ
owner k = pick (ltb k 2) k (pick (ltb k 20) (k - (k - 2) % 3) (pick (ltb k 100) k (pick (eqb ((k - 100) % 31) 1) (k - 1) k)))

module _ (k : ℕ) where
  pub owner_low : k < 2 → owner k ≡ k
  unfolding owner
  owner_low h = rw (lt-ltb k 2 h)

  pub owner_task : 2 ≤ k → k < 20 → owner k ≡ k - (k - 2) % 3
  unfolding owner
  owner_task a h = rw (le-ltb k 2 a, lt-ltb k 20 h)

  pub owner_mid : 20 ≤ k → k < 100 → owner k ≡ k
  unfolding owner
  owner_mid a h = rw (le-ltb k 2 (omega arith), le-ltb k 20 a, lt-ltb k 100 h)

  pub owner_to : 100 ≤ k → (k - 100) % 31 ≡ 1 → owner k ≡ k - 1
  unfolding owner
  owner_to a h = rw (le-ltb k 2 (omega arith), le-ltb k 20 (omega arith), le-ltb k 100 a, eq-eqb ((k - 100) % 31) 1 h)

  pub owner_edge : 100 ≤ k → ((k - 100) % 31 ≡ 1 → ⊥) → owner k ≡ k
  unfolding owner
  owner_edge a h = rw (le-ltb k 2 (omega arith), le-ltb k 20 (omega arith), le-ltb k 100 a, ne_eqb ((k - 100) % 31) 1 h)

  width_low : k < 2 → width (mark_at k) ≡ 1
  unfolding width mark_at form
  width_low h = by_lt k 1 (λ a. rw (lt-ltb k 1 a)) (λ a. rw (le-ltb k 1 a, lt-ltb k 2 h))

  width_task : 2 ≤ k → k < 20 → (k - 2) % 3 ≡ 0 → width (mark_at k) ≡ 3
  unfolding width mark_at form
  width_task a h e = rw (le-ltb k 1 (omega arith), le-ltb k 2 a, lt-ltb k 20 h, e)

  width_inner : 2 ≤ k → k < 20 → ((k - 2) % 3 ≡ 0 → ⊥) → width (mark_at k) ≡ 0
  unfolding width mark_at form
  width_inner a h e = rw (le-ltb k 1 (omega arith), le-ltb k 2 a, lt-ltb k 20 h, ne_eqb ((k - 2) % 3) 0 e)

  width_mid : 20 ≤ k → k < 100 → width (mark_at k) ≡ 1
  unfolding width mark_at form
  width_mid a h =
      by_eq ((k - 20) % 5) 0
      (λ e. rw (le-ltb k 1 (omega arith), le-ltb k 2 (omega arith), le-ltb k 20 a, lt-ltb k 100 h, e))
      (λ e. rw (le-ltb k 1 (omega arith), le-ltb k 2 (omega arith), le-ltb k 20 a, lt-ltb k 100 h, ne_eqb ((k - 20) % 5) 0 e))

  -- in an edge, by the place in it
  width_in : width (mark_in_edge k) ≡ pick (eqb k 0) 2 (pick (eqb k 1) 0 1)
  unfolding width mark_in_edge form
  width_in = by_eq k 0 (λ e. rw e) (λ e. by_eq k 1 (λ f. rw f)
      (λ f. by_lt k 27 (λ l. rw (ne_eqb k 0 e, ne_eqb k 1 f, lt-ltb k 27 l)) (λ l. rw (ne_eqb k 0 e, ne_eqb k 1 f, le-ltb k 27 l))))

width_edge : (k : ℕ) → 100 ≤ k → width (mark_at k) ≡ pick (eqb ((k - 100) % 31) 0) 2 (pick (eqb ((k - 100) % 31) 1) 0 1)
width_edge k h = ap width (at_edge k h) ∙ width_in ((k - 100) % 31)

-- the cells of a record are its own
pub own_cell : (k x : ℕ) → x < width (mark_at k) → owner (k + x) ≡ k
own_cell k x h =
    by_lt k 2
    (λ a. let w = width_low k a in let z : k + x ≡ k = omega arith in rw (z, owner_low k a))
    (λ a. by_lt k 20
    (λ b. by_eq ((k - 2) % 3) 0
    (λ e. let w = width_task k a b e in rw (owner_task (k + x) (omega arith) (omega arith)) (omega arith))
    (λ e. absurd (let w = width_inner k a b e in omega arith)))
    (λ b. by_lt k 100
    (λ c. let w = width_mid k b c in let z : k + x ≡ k = omega arith in rw (z, owner_mid k b c))
    (λ c.
    let w = width_edge k c in
    by_eq ((k - 100) % 31) 0
    (λ e.
    let w' : width (mark_at k) ≡ 2 = rw e at w in
    by_eq x 0
    (λ f. let z : k + x ≡ k = omega arith in rw z (owner_edge k c (omega arith)))
    (λ f. rw (owner_to (k + x) (omega arith) (omega arith)) (omega arith)))
    (λ e. by_eq ((k - 100) % 31) 1
    (λ f. absurd (let w' : width (mark_at k) ≡ 0 = rw f at w in omega arith))
    (λ f.
    let w' : width (mark_at k) ≡ 1 = rw (ne_eqb ((k - 100) % 31) 0 e, ne_eqb ((k - 100) % 31) 1 f) at w in
    let z : k + x ≡ k = omega arith in
    rw z (owner_edge k c f))))))

-- and each cell is a record's own
pub owned : (k : ℕ) → (owner k ≤ k) × (k < owner k + width (mark_at (owner k)))
owned k =
    by_lt k 2
    (λ a. rw (owner_low k a, width_low k a) (omega arith, omega arith))
    (λ a. by_lt k 20
    (λ b. rw (owner_task k a b, width_task (k - (k - 2) % 3) (omega arith) (omega arith) (omega arith)) (omega arith, omega arith))
    (λ b. by_lt k 100
    (λ c. rw (owner_mid k b c, width_mid k b c) (omega arith, omega arith))
    (λ c. by_eq ((k - 100) % 31) 1
    (λ e.
    let z : (k - 1 - 100) % 31 ≡ 0 = omega arith in
    rw (owner_to k c e, width_edge (k - 1) (omega arith), z) (omega arith, omega arith))
    (λ e. by_eq ((k - 100) % 31) 0
    (λ f. rw (owner_edge k c e, width_edge k c, f) (omega arith, omega arith))
    (λ f. rw (owner_edge k c e, width_edge k c, ne_eqb ((k - 100) % 31) 0 f, ne_eqb ((k - 100) % 31) 1 e) (omega arith, omega arith))))))

-- the cells of a record lie within the table
pub slot_inside : (k : ℕ) → k < size → k + width (mark_at k) ≤ size
slot_inside k h =
    by_lt k 2
    (λ a. rw (width_low k a) (omega arith))
    (λ a. by_lt k 20
    (λ b. by_eq ((k - 2) % 3) 0 (λ e. rw (width_task k a b e) (omega arith)) (λ e. rw (width_inner k a b e) (omega arith)))
    (λ b. by_lt k 100
    (λ c. rw (width_mid k b c) (omega arith))
    (λ c. by_eq ((k - 100) % 31) 0
    (λ f. rw (width_edge k c, f) (omega arith))
    (λ f. by_eq ((k - 100) % 31) 1 (λ e. rw (width_edge k c, e) (omega arith))
    (λ e. rw (width_edge k c, ne_eqb ((k - 100) % 31) 0 f, ne_eqb ((k - 100) % 31) 1 e) (omega arith))))))

-- the slots of the records, kind by kind
pub by_slot {ℓ} : {X : Type ℓ} (i : ℕ) → i < size → 0 < width (mark_at i) → (i ≡ 0 → X) → (i ≡ 1 → X) → ((t : ℕ) → t < 6 → i ≡ 2 + 3 * t → X)
    → ((l : ℕ) → l < 16 → i ≡ 20 + 5 * l → X) → ((l k : ℕ) → l < 16 → 1 ≤ k → k ≤ 4 → i ≡ 20 + 5 * l + k → X) → ((e : ℕ) → e < 32 → i ≡ 100 + 31 * e → X)
    → ((e r : ℕ) → e < 32 → 2 ≤ r → r < 27 → i ≡ 100 + 31 * e + r → X) → ((e r : ℕ) → e < 32 → 27 ≤ r → r < 31 → i ≡ 100 + 31 * e + r → X) → X
by_slot i h w po-case ck-case tk-case lo-case iv-case ed-case gu-case rs-case =
    by_lt i 1 (λ a. po-case (omega arith))
    (λ a₀. by_lt i 2 (λ a. ck-case (omega arith))
    (λ a. by_lt i 20
    (λ b. by_eq ((i - 2) % 3) 0 (λ e. tk-case ((i - 2) / 3) (omega arith) (omega arith)) (λ e. absurd (omega (arith, width_inner i a b e))))
    (λ b. by_lt i 100
    (λ c. by_eq ((i - 20) % 5) 0 (λ e. lo-case ((i - 20) / 5) (omega arith) (omega arith))
    (λ e. iv-case ((i - 20) / 5) ((i - 20) % 5) (omega arith) (omega arith) (omega arith) (omega arith)))
    (λ c. by_eq ((i - 100) % 31) 0 (λ e. ed-case ((i - 100) / 31) (omega arith) (omega arith))
    (λ f. by_eq ((i - 100) % 31) 1 (λ e. absurd (let q : width (mark_at i) ≡ 0 = width_edge i c ∙ rw e in omega arith))
    (λ e. by_lt ((i - 100) % 31) 27
    (λ l. gu-case ((i - 100) / 31) ((i - 100) % 31) (omega arith) (omega arith) l (omega arith))
    (λ l. rs-case ((i - 100) / 31) ((i - 100) % 31) (omega arith) l (omega arith) (omega arith))))))))

-- ---- cells after a record was put in

pub sets_other : (v m : List ℕ) (i k : ℕ) → ((x : ℕ) → x < length v → k ≡ i + x → ⊥) → get_or (sets m i v) k 0 ≡ get_or m k 0
sets_other [] m i k h = refl
sets_other (a ∷ v) m i k h =
    sets_other v (set m i a) (suc i) k (λ x l e. h (suc x) (omega arith) (omega arith)) ∙ get_or-set_other m i k a 0 (λ e. h 0 (omega arith) (omega arith))

pub sets_first : (a : ℕ) (v m : List ℕ) (i : ℕ) → i < length m → get_or (sets m i (a ∷ v)) i 0 ≡ a
sets_first a v m i h = sets_other v (set m i a) (suc i) i (λ x l e. omega arith) ∙ get_or-set_same m i a 0 h

pub words_sets : (v m : List ℕ) (i : ℕ) → i + length v ≤ length m → words (sets m i v) i (length v) ≡ v
unfolding words
words_sets [] m i h = refl
words_sets (a ∷ v) m i h =
    rw (sets_first a v m i (omega arith)) (ap (λ (r : List ℕ). a ∷ r) (words_sets v (set m i a) (suc i) (omega (arith, length-set m i a))))

pub words_same : (m n : List ℕ) (k w : ℕ) → ((x : ℕ) → x < w → get_or n (k + x) 0 ≡ get_or m (k + x) 0) → words n k w ≡ words m k w
unfolding words
words_same m n k zero h = refl
words_same m n k (suc w) h =
    let z : k + 0 ≡ k = omega arith in
    rw (rw z at (h 0 (omega arith))) (ap (λ (r : List ℕ). get_or m k 0 ∷ r)
    (words_same m n (suc k) w (λ x l. let y : suc k + x ≡ k + suc x = omega arith in rw y (h (suc x) (omega arith)))))

pub count_le : (m : List ℕ) (at step n : ℕ) → count m at step n ≤ n
unfolding count
count_le m at step zero = omega arith
count_le m at step (suc n) = go (there m (at + step * n)) (count_le m at step n)
  where
    go : (t : Bool) → count m at step n ≤ n → count m at step n + pick t 1 0 ≤ suc n
    go true h = omega arith
    go false h = omega arith

-- a cell of those that were put in
pub sets_in : (v m : List ℕ) (i x : ℕ) → x < length v → i + length v ≤ length m → get_or (sets m i v) (i + x) 0 ≡ get_or v x 0
sets_in [] m i x h l = absurd (omega arith)
sets_in (a ∷ v) m i zero h l = let z : i + 0 ≡ i = omega arith in rw z (sets_first a v m i (omega arith))
sets_in (a ∷ v) m i (suc x) h l =
    let z : i + suc x ≡ suc i + x = omega arith in
    rw z (sets_in v (set m i a) (suc i) x (omega arith) (omega (arith, length-set m i a)))

pub words_at : (m : List ℕ) (k w x : ℕ) → x < w → get_or (words m k w) x 0 ≡ get_or m (k + x) 0
unfolding words
words_at m k zero x h = absurd (omega arith)
words_at m k (suc w) zero h = let z : k + 0 ≡ k = omega arith in rw z
words_at m k (suc w) (suc x) h = let z : k + suc x ≡ suc k + x = omega arith in rw z (words_at m (suc k) w x (omega arith))

pub words_length : (m : List ℕ) (k w : ℕ) → length (words m k w) ≡ w
unfolding words
words_length m k zero = refl
words_length m k (suc w) = ap suc (words_length m (suc k) w)

-- as many as there are from the first on
pub count_is : (m : List ℕ) (at step n c : ℕ) → c ≤ n → ((x : ℕ) → x < c → 0 < get_or m (at + step * x) 0) → ((x : ℕ) → c ≤ x → x < n → get_or m (at + step * x) 0 ≡ 0)
    → count m at step n ≡ c
unfolding count
count_is m at step zero c h f g = omega arith
count_is m at step (suc n) c h f g =
    by_lt n c
    (λ l.
    let r = count_is m at step n n (omega arith) (λ x k. f x (omega arith)) (λ x k j. absurd (omega arith)) in
    rw (lt-ltb 0 (get_or m (at + step * n) 0) (f n l)) (omega arith))
    (λ l.
    let r = count_is m at step n c l f (λ x k j. g x k (omega arith)) in
    rw (g n l (omega arith)) (omega arith))

-- the cells of a record that is there
pub get_words : (m : List ℕ) (k : ℕ) (q : Mark) → mark_at k ≡ q → 0 < get_or m k 0 → get m k ≡ words m k (width q)
unfolding get
get_words m k q e h = rw (lt-ltb 0 (get_or m k 0) h, e)
