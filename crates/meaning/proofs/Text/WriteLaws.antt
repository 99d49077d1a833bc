-- Laws for the writers of numbers: one for each case, and one run of stores after another.
-- Assumes nothing.
use Prim.Native.Nat.{◌%◌, ◌+◌, ◌-◌, ◌/◌, ◌<◌, ◌≤◌, suc, zero, ℕ}
use mathlib.Core.Bool.{Bool, false, true}
use mathlib.Core.List.{List, [], ◌++◌, ◌∷◌}
use mathlib.Core.Path.{◌≡◌, refl}
use native.Mathlib.Nat.{add-zero}
use native.Mathlib.Numerals.{sub-one}
use native.Mathlib.Omega.{arith}
use lib.ListN.{length, length-append, set}
use lib.Seq.{sets}
use borrow.Author.Tests.{le-ltb, lt-ltb}
use Rattle.meaning.specs.Text.Numerals.{dec, dec_f, digits_most, num_text}

-- a run of stores after another
pub sets_append : (l : List ℕ) (i : ℕ) (vs ws : List ℕ) → sets l i (vs ++ ws) ≡ sets (sets l i vs) (i + length vs) ws
sets_append l i [] ws = rw (add-zero i)
sets_append l i (v ∷ vs) ws = rw (add_suc_suc i (length vs)) (sets_append (set l i v) (suc i) vs ws)
  where
    add_suc_suc : (f n : ℕ) → f + suc n ≡ suc f + n
    add_suc_suc f n = omega arith

pub dec_f_none : (k v : ℕ) → k ≡ 0 → dec_f k v ≡ []
unfolding dec_f
dec_f_none k v e = rw e

pub dec_f_last : (k v : ℕ) → (k ≡ 0 → ⊥) → v < 10 → dec_f k v ≡ (48 + v) ∷ []
unfolding dec_f
dec_f_last zero v n h = absurd (n refl)
dec_f_last (suc k) v n h = rw (lt-ltb v 10)

pub dec_f_then : (k v : ℕ) → (k ≡ 0 → ⊥) → 10 ≤ v → dec_f k v ≡ dec_f (k - 1) (v / 10) ++ (48 + v % 10) ∷ []
unfolding dec_f
dec_f_then zero v n h = absurd (n refl)
dec_f_then (suc k) v n h = rw (le-ltb v 10, sub-one)

pub length_then : (k v : ℕ) → (k ≡ 0 → ⊥) → 10 ≤ v → length (dec_f k v) ≡ length (dec_f (k - 1) (v / 10)) + 1
length_then k v n h = rw (dec_f_then k v n h, length-append)

pub num_text_minus : (n : Bool) (v : ℕ) → n ≡ true → num_text n v ≡ 45 ∷ dec_f digits_most v
unfolding num_text dec
num_text_minus n v e = rw e

pub num_text_plain : (n : Bool) (v : ℕ) → n ≡ false → num_text n v ≡ dec_f digits_most v
unfolding num_text dec
num_text_plain n v e = rw e
