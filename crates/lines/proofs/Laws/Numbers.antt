-- What the answers of a number's reader come from, and its cases by the byte at a place.
-- Assumes nothing.
use Prim.Native.Nat.{ℕ, ◌+◌, ◌≤◌, ◌<◌}
use mathlib.Core.Path.{◌≡◌, refl, sym, ◌∙◌}
use mathlib.Core.List.{List}
use mathlib.Core.Bool.{Bool, true, false}
use native.Mathlib.Omega.{arith}
use lib.ListN.{length, drop, get_or, get_or-eq_default}
use Rattle.std.proofs.Common.{Ok, Err}
use Rattle.meaning.specs.Text.Numerals.{Numeral, num, stuck, digits, positive, negated, number}
use Rattle.meaning.proofs.Text.Choices.{by_lt}
use Rattle.meaning.proofs.Text.NumeralLaws.{digit_low, push_le, digits_more, digits_stop, digits_end, positive_end, positive_low, positive_high, positive_ok, number_end, number_zero, number_plain, number_sign, number_minus}
use Rattle.refusals.specs.declared.Reason.TheVariants.{BrokenLine}
use Rattle.refusals.specs.declared.Refusal.{Refusal}
use Rattle.lines.specs.declared.numerals.Number.{Number}
use Rattle.lines.specs.Meant.{meant}

pub meant_ok : (x : Numeral) (n : Number) → Ok n ≡ meant x → x ≡ num n.minus n.size n.next
meant_ok (num m v k) n e = cc
meant_ok (stuck p) n e = cc

pub meant_err : (x : Numeral) (e : Refusal) → Err e ≡ meant x → x ≡ stuck e.place
meant_err (num m v k) e q = cc
meant_err (stuck p) e q = cc

-- what is refused is refused as a broken line
pub broken_is : (x : Numeral) (e : Refusal) → Err e ≡ meant x → e ≡ record { reason = BrokenLine; place = e.place }
broken_is (num m v k) e q = cc
broken_is (stuck p) e q = cc

-- the same number behind a minus
pub negated_ok : (x : Numeral) (n : Number) → Ok n ≡ meant x → Ok (record n { minus = true }) ≡ meant (negated x)
unfolding negated
negated_ok (num m v k) n e = cc
negated_ok (stuck p) n e = cc

pub negated_err : (x : Numeral) (e : Refusal) → Err e ≡ meant x → Err e ≡ meant (negated x)
unfolding negated
negated_err (num m v k) e q = cc
negated_err (stuck p) e q = q

-- ---- the cases of `digits` and `positive`

module _ (s : List ℕ) (i : ℕ) where
  pub positive_here : 49 ≤ get_or s i 0 → get_or s i 0 ≤ 57 → positive (drop i s) i ≡ digits (drop i s) i 0
  positive_here a b = positive_ok s i (by_lt i (length s) (λ k. k) (λ k. absurd (omega (arith, get_or-eq_default s 0 {n = i} k)))) a b

  -- the byte is no digit, or 0
  pub positive_not : (49 ≤ get_or s i 0 → get_or s i 0 ≤ 57 → ⊥) → positive (drop i s) i ≡ stuck i
  positive_not n =
      by_lt i (length s)
      (λ k. by_lt (get_or s i 0) 49 (λ l. positive_low s i k l) (λ l. positive_high s i k (by_lt 57 (get_or s i 0) (λ h. h) (λ h. absurd (n l h)))))
      (λ k. positive_end s i k)

  within : (b : ℕ) → 0 < b → get_or s i 0 ≡ b → i < length s
  within b h e = by_lt i (length s) (λ k. k) (λ k. absurd (omega (arith, get_or-eq_default s 0 {n = i} k)))

  pub zero_here : (m : Bool) → get_or s i 0 ≡ 48 → number m (drop i s) i ≡ num false 0 (i + 1)
  zero_here m e = number_zero s i m (within 48 (omega arith) e) e

  pub minus_here : (m : Bool) → m ≡ true → get_or s i 0 ≡ 45 → number m (drop i s) i ≡ negated (positive (drop (i + 1) s) (i + 1))
  minus_here m t e = number_minus s i m (within 45 (omega arith) e) t e

  -- a number that does not begin with a 0 or a minus
  pub number_positive : (m : Bool) → (get_or s i 0 ≡ 48 → ⊥) → (m ≡ true → get_or s i 0 ≡ 45 → ⊥) → number m (drop i s) i ≡ positive (drop i s) i
  number_positive m n k = by_lt i (length s) (go m k) (λ h. number_end s i m h ∙ sym (positive_end s i h))
    where
      go : (m : Bool) → (m ≡ true → get_or s i 0 ≡ 45 → ⊥) → i < length s → number m (drop i s) i ≡ positive (drop i s) i
      go true k h = number_sign s i true h n (k refl)
      go false k h = number_plain s i false h n refl

-- ---- what the readers are proved by

pub ruleset digit_laws = (digit_low, push_le, digits_more, digits_stop, digits_end)

pub ruleset number_laws = (zero_here, minus_here, number_positive, negated_ok, negated_err)
