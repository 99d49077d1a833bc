-- Laws of signed numbers by their parts: over − under. `omega` reads only naturals, so a signed number stands in it by its two parts.
-- Assumes nothing.
use mathlib.Core.Path.{◌≡◌, refl, sym, ◌∙◌, ap}
use mathlib.Core.Bool.{Bool, true, false, cond}
use Prim.Native.Nat.{ℕ, zero, suc, ◌+◌, ◌-◌, ◌≤◌, ◌<◌}
use native.Mathlib.Omega.{arith}
use lib.Dec.{leb, ltb}
use lib.IntN.{ℤ, pos, negsuc, sub_ℕ, neg_ℤ, ◌+ℤ◌, ◌-ℤ◌}
use lib.Signed.{le_z}
use borrow.Author.Tests.{leb-true, leb-false, ltb-true, ltb-false, le-leb, lt-leb}
use Rattle.meaning.specs.Numbers.{over, under, within}
use Rattle.meaning.specs.Inner.Words.{shift}
use Rattle.meaning.proofs.Tests.{leb_same}

-- the difference of two naturals
pub sub_parts : (a b : ℕ) → over (sub_ℕ a b) + b ≡ a + under (sub_ℕ a b)
sub_parts a b = go (ltb a b) refl
  where
    go : (x : Bool) → ltb a b ≡ x → over (cond x (negsuc (b - suc a)) (pos (a - b))) + b ≡ a + under (cond x (negsuc (b - suc a)) (pos (a - b)))
    go true e = let h = ltb-true a b e in omega arith
    go false e = let h = ltb-false a b e in omega arith

pub sum_parts : (a b : ℤ) → over (a +ℤ b) + (under a + under b) ≡ over a + over b + under (a +ℤ b)
sum_parts (pos a) (pos b) = omega arith
sum_parts (pos a) (negsuc b) = omega (arith, sub_parts a (suc b))
sum_parts (negsuc a) (pos b) = omega (arith, sub_parts b (suc a))
sum_parts (negsuc a) (negsuc b) = omega arith

-- neither part of a difference or a sum is more than those of what it is made of
pub sub_size : (a b : ℕ) → (over (sub_ℕ a b) ≤ a) × (under (sub_ℕ a b) ≤ b)
sub_size a b = go (ltb a b) refl
  where
    go : (x : Bool) → ltb a b ≡ x → (over (cond x (negsuc (b - suc a)) (pos (a - b))) ≤ a) × (under (cond x (negsuc (b - suc a)) (pos (a - b))) ≤ b)
    go true e = let h = ltb-true a b e in omega arith
    go false e = let h = ltb-false a b e in omega arith

pub sum_size : (a b : ℤ) → (over (a +ℤ b) ≤ over a + over b) × (under (a +ℤ b) ≤ under a + under b)
sum_size (pos a) (pos b) = omega arith
sum_size (pos a) (negsuc b) = omega (arith, sub_size a (suc b))
sum_size (negsuc a) (pos b) = omega (arith, sub_size b (suc a))
sum_size (negsuc a) (negsuc b) = omega arith

pub over_neg : (a : ℤ) → over (neg_ℤ a) ≡ under a
over_neg (pos zero) = refl
over_neg (pos (suc n)) = refl
over_neg (negsuc n) = refl

pub under_neg : (a : ℤ) → under (neg_ℤ a) ≡ over a
under_neg (pos zero) = refl
under_neg (pos (suc n)) = refl
under_neg (negsuc n) = refl

-- a signed number is its parts
pub parts_one : (a b : ℤ) → over a + under b ≡ over b + under a → a ≡ b
parts_one (pos a) (pos b) e = let h : a ≡ b = omega arith in ap pos h
parts_one (pos a) (negsuc b) e = absurd (omega arith)
parts_one (negsuc a) (pos b) e = absurd (omega arith)
parts_one (negsuc a) (negsuc b) e = let h : a ≡ b = omega arith in ap negsuc h

-- the order of two signed numbers
pub le_parts : (a b : ℤ) → le_z a b ≡ leb (over a + under b) (over b + under a)
le_parts (pos a) (pos b) = leb_same a b (a + 0) (b + 0) (omega arith) (omega arith)
le_parts (pos a) (negsuc b) = sym (lt-leb (a + suc b) 0 (omega arith))
le_parts (negsuc a) (pos b) = sym (le-leb 0 (b + suc a) (omega arith))
le_parts (negsuc a) (negsuc b) = leb_same b a (0 + suc b) (0 + suc a) (omega arith) (omega arith)

-- the test of a bound is the one of the integers: x − y ≤ c
pub within_is : (x y : ℕ) (c : ℤ) → within x y c ≡ le_z (pos x -ℤ pos y) c
within_is x y c =
    leb_same (x + under c) (y + over c) (over d + under c) (over c + under d)
    (λ (h : x + under c ≤ y + over c). omega (arith, e)) (λ (h : over d + under c ≤ over c + under d). omega (arith, e))
    ∙ sym (le_parts d c)
  where
    d : ℤ
    d = pos x -ℤ pos y

    e : over d + y ≡ x + under d
    e = omega (arith, sum_parts (pos x) (neg_ℤ (pos y)), over_neg (pos y), under_neg (pos y))

-- a bound that holds, and a bound from what it says
pub within_true : (x y : ℕ) (c : ℤ) → within x y c ≡ true → x + under c ≤ y + over c
within_true x y c e = leb-true (x + under c) (y + over c) e

pub within_make : (x y : ℕ) (c : ℤ) → x + under c ≤ y + over c → within x y c ≡ true
within_make x y c h = le-leb (x + under c) (y + over c) h

-- a bound that does not hold, and that it does not hold
pub within_false : (x y : ℕ) (c : ℤ) → within x y c ≡ false → y + over c < x + under c
within_false x y c e = leb-false (x + under c) (y + over c) e

pub within_break : (x y : ℕ) (c : ℤ) → y + over c < x + under c → within x y c ≡ false
within_break x y c h = lt-leb (x + under c) (y + over c) h

pub shift_parts : (c a b : ℤ) → over (shift c a b) + under c + under a + over b ≡ over c + over a + under b + under (shift c a b)
shift_parts c a b = omega (arith, sum_parts c (a -ℤ b), sum_parts a (neg_ℤ b), over_neg b, under_neg b)

pub shift_none : (c : ℤ) → shift c (pos 0) (pos 0) ≡ c
shift_none c = parts_one (shift c (pos 0) (pos 0)) c (omega (arith, shift_parts c (pos 0) (pos 0)))
