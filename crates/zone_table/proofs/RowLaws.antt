-- Texts of what is collected: one more, one left out, and room for one.
-- Assumes nothing.
use Prim.Native.Nat.{ℕ, zero, suc, ◌+◌, ◌-◌, ◌/◌, ◌%◌, ◌≤◌, ◌<◌}
use mathlib.Core.Path.{◌≡◌, refl, sym, ◌∙◌, ap}
use mathlib.Core.Bool.{Bool, true, false}
use mathlib.Core.List.{List, [], ◌∷◌, ◌++◌, append_assoc, append-nil, map}
use native.Mathlib.Omega.{arith}
use native.Mathlib.Nat.{add-zero}
use native.Mathlib.Numerals.{add-one}
use lib.ListN.{length, get_or, length-append}
use Rattle.meaning.specs.Text.Choice.{pick}
use Rattle.meaning.specs.Text.Lines.{fields_text, kept_text, numbers_text}
use Rattle.meaning.specs.Text.ModelText.{texts}
use Rattle.meaning.specs.Text.ModelTable.{collect, there}
use Rattle.meaning.specs.Text.ModelReader.{words}
use Rattle.meaning.specs.Text.ProposalTable.{zone_slot, order_slot, bounds_slot, pool_start, order_in, bounds_in, zone_in, decode}
use Rattle.meaning.specs.Text.ProposalText.{bound_text, zone_text}
use Rattle.meaning.proofs.Text.Choices.{by_lt}
use Rattle.zone_table.specs.Kept.{field_text, kept_bound}

pub texts_append : {A : Type 0} (g : A → List ℕ) (xs ys : List A) → texts g (xs ++ ys) ≡ texts g xs ++ texts g ys
unfolding texts
texts_append g [] ys = refl
texts_append g (x ∷ xs) ys = rw (texts_append g xs ys, append_assoc)

module _ {A : Type 0} (g : A → List ℕ) (p : ℕ → Bool) (f : ℕ → A) where
  -- the texts of the first n
  abbrev pub row : ℕ → List ℕ
  row n = texts g (collect n p f)

  pub row_none : row 0 ≡ []
  unfolding texts collect
  row_none = refl

  pub row_more : (n : ℕ) → row (n + 1) ≡ row n ++ pick (p n) (g (f n)) []
  unfolding texts collect
  row_more n = rw (add-one, texts_append) (ap (λ (l : List ℕ). row n ++ l) (go (p n)))
    where
      go : (b : Bool) → texts g (pick b (f n ∷ []) []) ≡ pick b (g (f n)) []
      go true = append-nil (g (f n))
      go false = refl

  pub length_more : (n : ℕ) → length (row (n + 1)) ≡ length (row n) + length (pick (p n) (g (f n)) [])
  length_more n = ap length (row_more n) ∙ length-append (row n) (pick (p n) (g (f n)) [])

  pub row_le : (k n : ℕ) → k ≤ n → length (row k) ≤ length (row n)
  row_le k zero h = let z : k ≡ 0 = omega arith in rw z (omega arith)
  row_le k (suc n) h =
      by_lt k (suc n)
      (λ l. let z : n + 1 ≡ suc n = omega arith in omega (arith, row_le k n (omega arith), rw z at (length_more n)))
      (λ l. let z : k ≡ suc n = omega arith in rw z (omega arith))

  -- there is room for one more
  pub row_room : (k n : ℕ) → k < n → length (row k) + length (pick (p k) (g (f k)) []) ≤ length (row n)
  row_room k n h = omega (arith, length_more k, row_le (k + 1) n (omega arith))

-- numbers and the line feed
pub numbers_texts : (vs : List ℕ) → numbers_text vs ≡ texts field_text vs ++ 10 ∷ []
unfolding numbers_text fields_text texts
numbers_texts [] = refl
numbers_texts (v ∷ vs) =
    ap (λ (l : List ℕ). 32 ∷ l) (ap (λ (l : List ℕ). kept_text 0 v ++ l) (numbers_texts vs) ∙ sym (append_assoc (kept_text 0 v) (texts field_text vs) (10 ∷ [])))

-- cells in a row are collected without a gap
words_more : (t : List ℕ) (k n : ℕ) → words t k (suc n) ≡ words t k n ++ get_or t (k + n) 0 ∷ []
unfolding words
words_more t k zero = rw (add-zero k)
words_more t k (suc n) = let z : suc k + n ≡ k + suc n = omega arith in ap (λ (l : List ℕ). get_or t k 0 ∷ l) (words_more t (suc k) n ∙ rw z)

map_append : (g : ℕ → ℕ) (xs ys : List ℕ) → map g (xs ++ ys) ≡ map g xs ++ map g ys
map_append g [] ys = refl
map_append g (x ∷ xs) ys = ap (λ (l : List ℕ). g x ∷ l) (map_append g xs ys)

pub words_collect : (t : List ℕ) (k n : ℕ) → map (λ (x : ℕ). x - 1) (words t k n) ≡ collect n (λ x. true) (λ x. get_or t (k + x) 0 - 1)
unfolding collect
words_collect t k zero = unfold words in refl
words_collect t k (suc n) = rw (words_more t k n, map_append, words_collect t k n)

-- ---- the parts of a table

module _ (t : List ℕ) where
  -- the fields of the first n tasks of zone k + 1
  abbrev pub task_row : ℕ → ℕ → List ℕ
  task_row k n = row field_text (λ x. there t (order_slot k + x)) (λ x. get_or t (order_slot k + x) 0 - 1) n

  -- the lines of its bounds in the first n cells
  abbrev pub bound_row : ℕ → ℕ → List ℕ
  bound_row k n = row bound_text (λ x. there t (bounds_slot k + x)) (λ x. kept_bound (x / 17) (x % 17) (get_or t (bounds_slot k + x) 0 - 1)) n

  -- the fields of the n claims from `from` on
  abbrev pub claim_row : ℕ → ℕ → List ℕ
  claim_row from n = row field_text (λ x. true) (λ x. get_or t (pool_start + from + x) 0 - 1) n

  -- the lines of the first n zones
  abbrev pub zone_row : ℕ → List ℕ
  zone_row n = row zone_text (λ x. there t (zone_slot x)) (zone_in t) n

  pub tasks_all : (k : ℕ) → texts field_text (order_in t k) ≡ task_row k 6
  unfolding order_in
  tasks_all k = refl

  pub bounds_all : (k : ℕ) → texts bound_text (bounds_in t k) ≡ bound_row k 289
  unfolding bounds_in
  bounds_all k = refl

  pub claims_all : (from n : ℕ) → texts field_text (map (λ (x : ℕ). x - 1) (words t (pool_start + from) n)) ≡ claim_row from n
  claims_all from n = ap (texts field_text) (words_collect t (pool_start + from) n)

  pub zones_all : texts zone_text (decode t).zones ≡ zone_row 48
  unfolding decode
  zones_all = refl
