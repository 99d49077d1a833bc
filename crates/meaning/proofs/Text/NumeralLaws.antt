-- Laws of a number of a text: one for each case of the reading, and where it ends.
-- Assumes nothing.
use Prim.Native.Nat.{◌+◌, ◌<◌, ◌≤◌, ℕ}
use mathlib.Core.Bool.{Bool, false, true}
use mathlib.Core.List.{List, [], ◌∷◌}
use mathlib.Core.Path.{◌≡◌, refl}
use native.Mathlib.Numerals.{add-one}
use native.Mathlib.Omega.{arith}
use lib.Dec.{eqb, leb}
use lib.ListN.{drop, drop_of_length-le, get_or, length}
use lib.Seq.{drop-cons}
use borrow.Author.Tests.{eq-eqb, le-leb, leb-true, lt-leb, ne_eqb}
use Rattle.meaning.proofs.Text.Choices.{by_pick}
use Rattle.meaning.specs.Text.Choice.{pick}
use Rattle.meaning.specs.Text.Numerals.{Numeral, digits, is_digit, negated, num, number, positive, push, stuck, too_large}

-- a digit's byte is at least 48 and at most 57
pub digit_low : (b : ℕ) → is_digit b ≡ true → (48 ≤ b) × (b ≤ 57)
unfolding is_digit
digit_low b e = go (leb 48 b) refl e
  where
    go : (t : Bool) → leb 48 b ≡ t → pick t (leb b 57) false ≡ true → (48 ≤ b) × (b ≤ 57)
    go true p q = (leb-true 48 b p, leb-true b 57 q)
    go false p q = let z : ◌≡◌ {A = ℕ} 0 1 = cc in omega arith

pub push_le : (v b : ℕ) → push v b ≤ too_large
unfolding push
push_le v b = omega arith

-- the three cases of `digits` at a place of the whole text
module _ (s : List ℕ) (i v : ℕ) where
  pub digits_more : i < length s → is_digit (get_or s i 0) ≡ true → digits (drop i s) i v ≡ digits (drop (i + 1) s) (i + 1) (push v (get_or s i 0))
  unfolding digits
  digits_more h e = rw (drop-cons s i 0, e, add-one)

  pub digits_stop : i < length s → is_digit (get_or s i 0) ≡ false → digits (drop i s) i v ≡ num false v i
  unfolding digits
  digits_stop h e = rw (drop-cons s i 0, e)

  pub digits_end : length s ≤ i → digits (drop i s) i v ≡ num false v i
  unfolding digits
  digits_end h = rw (drop_of_length-le s h)

-- the cases of `positive` and `number` at a place of the whole text
module _ (s : List ℕ) (i : ℕ) where
  pub positive_end : length s ≤ i → positive (drop i s) i ≡ stuck i
  unfolding positive
  positive_end h = rw (drop_of_length-le s h)

  pub positive_low : i < length s → get_or s i 0 < 49 → positive (drop i s) i ≡ stuck i
  unfolding positive
  positive_low h l = rw (drop-cons s i 0, lt-leb 49 (get_or s i 0))

  pub positive_high : i < length s → 57 < get_or s i 0 → positive (drop i s) i ≡ stuck i
  unfolding positive
  positive_high h l =
      let k : 49 ≤ get_or s i 0 = omega arith in
      rw (drop-cons s i 0, le-leb 49 (get_or s i 0), lt-leb (get_or s i 0) 57)

  pub positive_ok : i < length s → 49 ≤ get_or s i 0 → get_or s i 0 ≤ 57 → positive (drop i s) i ≡ digits (drop i s) i 0
  unfolding positive
  positive_ok h k l = rw (drop-cons s i 0, le-leb 49 (get_or s i 0), le-leb (get_or s i 0) 57)

  pub number_end : (m : Bool) → length s ≤ i → number m (drop i s) i ≡ stuck i
  unfolding number
  number_end m h = rw (drop_of_length-le s h)

  pub number_zero : (m : Bool) → i < length s → get_or s i 0 ≡ 48 → number m (drop i s) i ≡ num false 0 (i + 1)
  unfolding number
  number_zero m h e = rw (drop-cons s i 0, eq-eqb (get_or s i 0) 48)

  pub number_plain : (m : Bool) → i < length s → (get_or s i 0 ≡ 48 → ⊥) → m ≡ false → number m (drop i s) i ≡ positive (drop i s) i
  unfolding number
  number_plain m h n e = rw (drop-cons s i 0, ne_eqb (get_or s i 0) 48, e)

  pub number_sign : (m : Bool) → i < length s → (get_or s i 0 ≡ 48 → ⊥) → (get_or s i 0 ≡ 45 → ⊥) → number m (drop i s) i ≡ positive (drop i s) i
  unfolding number
  number_sign true h n k = rw (drop-cons s i 0, ne_eqb (get_or s i 0) 48, ne_eqb (get_or s i 0) 45)
  number_sign false h n k = number_plain false h n refl

  pub number_minus : (m : Bool) → i < length s → m ≡ true → get_or s i 0 ≡ 45 → number m (drop i s) i ≡ negated (positive (drop (i + 1) s) (i + 1))
  unfolding number
  number_minus m h e k = rw (drop-cons s i 0, e, k, add-one)

-- two tests in a row
pub two_tests : (lo hi b : ℕ) → pick (leb lo b) (leb b hi) false ≡ true → (lo ≤ b) × (b ≤ hi)
two_tests lo hi b e =
    by_pick (leb lo b) (leb b hi) false true e
    (λ p q. (leb-true lo b p, leb-true b hi q))
    (λ p q. let z : ◌≡◌ {A = ℕ} 0 1 = cc in absurd (omega arith))

pub is_digit_lem : (b : ℕ) → 48 ≤ b → b ≤ 57 → is_digit b ≡ true
unfolding is_digit
is_digit_lem b h k = rw (le-leb 48 b, le-leb b 57)

-- where a number that was read ends
abbrev pub Next : List ℕ → ℕ → ℕ → Type 0
Next l at k = (at < k) × (k ≤ at + length l)

digits_next : (l : List ℕ) (at v : ℕ) (n : Bool) (w k : ℕ) → digits l at v ≡ num n w k → (at ≤ k) × (k ≤ at + length l)
unfolding digits
digits_next [] at v n w k e = let p : at ≡ k = cc in omega arith
digits_next (b ∷ bs) at v n w k e =
    by_pick (is_digit b) (digits bs (at + 1) (push v b)) (num false v at) (num n w k) e
    (λ t q. let h = digits_next bs (at + 1) (push v b) n w k q in omega arith)
    (λ t q. let p : at ≡ k = cc in omega arith)

positive_next : (l : List ℕ) (at : ℕ) (n : Bool) (w k : ℕ) → positive l at ≡ num n w k → Next l at k
unfolding positive digits
positive_next [] at n w k e = let z : ◌≡◌ {A = ℕ} 0 1 = cc in absurd (omega arith)
positive_next (b ∷ bs) at n w k e =
    by_pick (pick (leb 49 b) (leb b 57) false) (digits (b ∷ bs) at 0) (stuck at) (num n w k) e
    (λ t q.
    let x = two_tests 49 57 b t in
    let i : is_digit b ≡ true = is_digit_lem b (omega arith) (omega arith) in
    let h = digits_next bs (at + 1) (push 0 b) n w k (rw i at q) in
    omega arith)
    (λ t q. let z : ◌≡◌ {A = ℕ} 0 1 = cc in absurd (omega arith))

negated_next : (x : Numeral) (l : List ℕ) (at : ℕ) (n : Bool) (w k : ℕ) → negated x ≡ num n w k
    → ((m : Bool) → x ≡ num m w k → Next l at k) → Next l at k
unfolding negated
negated_next (num m v j) l at n w k e f = f m (cc)
negated_next (stuck j) l at n w k e f = let z : ◌≡◌ {A = ℕ} 0 1 = cc in absurd (omega arith)

pub number_next : (m : Bool) (l : List ℕ) (at : ℕ) (n : Bool) (w k : ℕ) → number m l at ≡ num n w k → Next l at k
unfolding number
number_next m [] at n w k e = let z : ◌≡◌ {A = ℕ} 0 1 = cc in absurd (omega arith)
number_next m (b ∷ bs) at n w k e =
    by_pick (eqb b 48) (num false 0 (at + 1)) _ (num n w k) e
    (λ t q. let p : at + 1 ≡ k = cc in omega arith)
    (λ t q. by_pick (pick m (eqb b 45) false) _ _ (num n w k) q
    (λ u r. negated_next (positive bs (at + 1)) (b ∷ bs) at n w k r (λ x y. let h = positive_next bs (at + 1) x w k y in omega arith))
    (λ u r. positive_next (b ∷ bs) at n w k r))
