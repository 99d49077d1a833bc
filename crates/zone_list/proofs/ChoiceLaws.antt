-- Laws of the choices of positions, counted release by release.
-- Assumes nothing.
use mathlib.Core.Path.{◌≡◌, refl, sym, ◌∙◌, ap}
use mathlib.Core.List.{List, [], ◌∷◌}
use Prim.Native.Nat.{ℕ, zero, suc, ◌+◌, ◌-◌, ◌*◌, ◌^◌, ◌≤◌, ◌<◌}
use native.Mathlib.Omega.{arith}
use Rattle.std.proofs.Math.Nat.{mul-le-mul_right, pow-succ', pow-le-pow_right}
use lib.ListN.{length, take, drop, get_or, length-append}
use lib.Seq.{take-length}
use Rattle.meaning.specs.Lists.{insert_at}
use Rattle.meaning.specs.Model.{Model}
use Rattle.meaning.specs.Machine.Place.{behind}
use Rattle.meaning.specs.Zones.Steps.{choices}
use Rattle.meaning.proofs.Lists.{length_insert_at}
use Rattle.meaning.proofs.Hooks.{behind_le}
use Rattle.meaning.proofs.Zones.Choices.{choices_from, choices_before, choices_from_lem, choices_one, count_more, before_first, before_turn, before_all, choices_split}

-- ---- how many there can be

from_few : (m : Model) (t : ℕ) (ts o : List ℕ) (b : ℕ) → ((p : ℕ) → length (choices m ts (insert_at p t o)) ≤ b) → (n p : ℕ) → length (choices_from m t ts o p n) ≤ n * b
from_few m t ts o b f zero p = omega arith
from_few m t ts o b f (suc n) p = omega (arith, count_more m t ts o p n, f p, from_few m t ts o b f n (suc p))

-- at most 7 positions for each release
choices_few : (m : Model) (ts o : List ℕ) → length o + length ts ≤ 6 → length (choices m ts o) ≤ 7 ^ length ts
choices_few m [] o h = omega arith
choices_few m (t ∷ ts) o h =
    let n = suc (length o - behind m t o) in
    let f = from_few m t ts o (7 ^ length ts) (λ p. choices_few m ts (insert_at p t o) (omega (arith, length_insert_at p t o))) n (behind m t o) in
    let e = ap length (choices_from_lem m t ts o) in
    omega (arith, mul-le-mul_right {m = n} {n = 7} (7 ^ length ts) (omega arith), pow-succ' 7 (length ts))

pub choices_most : (m : Model) (ts o : List ℕ) → length o + length ts ≤ 6 → length ts ≤ 4 → length (choices m ts o) ≤ 2401
choices_most m ts o h g = omega (arith, choices_few m ts o h, pow-le-pow_right {n = 7} (omega arith) {j = 4} g)

-- ---- a loop over the positions of one release

-- those up to a position are not more than all
pub before_few : (m : Model) (t : ℕ) (ts o : List ℕ) (p : ℕ) → behind m t o ≤ p → p ≤ length o → choices_before m t ts o (p + 1) ≤ length (choices m (t ∷ ts) o)
before_few m t ts o p h g =
    let e = ap length (choices_split m t ts o p h g) ∙ length-append (choices_from m t ts o (behind m t o) (p - behind m t o)) (choices_from m t ts o p (suc (length o - p))) in
    omega (arith, before_turn m t ts o p h, count_more m t ts o p (length o - p))

-- the choices are counted up to position p
pub record Counting (m : Model) (t : ℕ) (ts o : List ℕ) (p r : ℕ) : Type 0 where
  pub low : behind m t o ≤ p
  pub high : p ≤ length o + 1
  pub is : r ≡ choices_before m t ts o p

module _ (m : Model) (t : ℕ) (ts o : List ℕ) where
  pub counting_start : (p : ℕ) → p ≡ behind m t o → Counting m t ts o p 0
  counting_start p e = record {
    low = omega arith;
    high = omega (arith, behind_le m t o);
    is = sym (ap (choices_before m t ts o) e ∙ before_first m t ts o);
  }

  module _ (p r : ℕ) (w : Counting m t ts o p r) where
    pub counting_turn : p ≤ length o → (n : ℕ) → n ≡ length (choices m ts (insert_at p t o))
        → (r + n ≤ length (choices m (t ∷ ts) o)) × Counting m t ts o (p + 1) (r + n)
    counting_turn h n e =
        let s = before_turn m t ts o p w.low in
        let b = before_few m t ts o p w.low h in
        let i = w.is in
        (omega arith, record { low = omega (arith, w.low); high = omega arith; is = omega arith })

    pub counting_end : length o < p → r ≡ length (choices m (t ∷ ts) o)
    counting_end h = let e : p ≡ length o + 1 = omega (arith, w.high) in w.is ∙ ap (choices_before m t ts o) e ∙ before_all m t ts o

-- ---- a release and those behind it, as a slice pattern takes them

-- those behind the first
abbrev pub behind_first : List ℕ → List ℕ
behind_first ts = take (length ts - 1) (drop 1 ts)

pub first_and_rest : (ts : List ℕ) → 0 < length ts → ts ≡ get_or ts 0 0 ∷ behind_first ts
first_and_rest [] h = absurd (omega arith)
first_and_rest (t ∷ ts) h = let n : suc (length ts) - 1 ≡ length ts = omega arith in rw n (ap (λ (l : List ℕ). t ∷ l) (sym (take-length ts)))

pub rest_length : (ts : List ℕ) → length (behind_first ts) ≡ length ts - 1
rest_length [] = refl
rest_length (t ∷ ts) = let n : suc (length ts) - 1 ≡ length ts = omega arith in rw n (ap length (take-length ts))

nothing_behind : (ts : List ℕ) → length (behind_first ts) ≡ 0 → behind_first ts ≡ []
nothing_behind ts e = go (behind_first ts) e
  where
    go : (l : List ℕ) → length l ≡ 0 → l ≡ []
    go [] e = refl
    go (x ∷ l) e = absurd (omega arith)

module _ (m : Model) (ts o : List ℕ) (h : 0 < length ts) where
  pub choices_first : length (choices m (get_or ts 0 0 ∷ behind_first ts) o) ≡ length (choices m ts o)
  choices_first = ap (λ (l : List ℕ). length (choices m l o)) (sym (first_and_rest ts h))

  -- the last release has a position for each place from its first on
  pub choices_last : length (behind_first ts) ≡ 0 → length o + 1 - behind m (get_or ts 0 0) o ≡ length (choices m ts o)
  choices_last e =
      let one : length (choices m (get_or ts 0 0 ∷ behind_first ts) o) ≡ length (choices m (get_or ts 0 0 ∷ []) o) =
      ap (λ (l : List ℕ). length (choices m (get_or ts 0 0 ∷ l) o)) (nothing_behind ts e) in
      omega (arith, behind_le m (get_or ts 0 0) o, choices_one m (get_or ts 0 0) o, choices_first)
