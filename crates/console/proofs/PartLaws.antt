-- Laws of the fault's part: the next line feed, place by place.
-- Assumes nothing.
use Rattle.std.proofs.Common.{◌==◌, Some, None}
use Rattle.std.specs.List.{position, position_or_len}
use Rattle.std.proofs.lemmas.List.Recursion.{is_position_or_len}
use Prim.Native.Nat.{ℕ, ◌+◌, ◌-◌, ◌≤◌}
use mathlib.Core.Path.{◌≡◌, refl, ap}
use mathlib.Core.List.{List, [], ◌∷◌}
use native.Mathlib.Omega.{arith}
use lib.ListN.{length, take, drop}
use borrow.Author.Tests.{eq-eqb, ne_eqb}
use Rattle.meaning.proofs.Text.Choices.{by_eq}
use borrow.Rule.Slice.PartAt.{sl_partˢ}
use denote.Ref.{Bor}
use Rattle.console.specs.Part.{line_length, part_at, Shows}

-- a line is within the text
pub line_within : (s : List ℕ) → line_length s ≤ length s
unfolding line_length
line_within [] = omega arith
line_within (b ∷ bs) = by_eq b 10
    (λ e. rw (eq-eqb b 10 e) (omega arith))
    (λ n. rw (ne_eqb b 10 n) (omega (arith, line_within bs)))

-- how long a line is, in the library's words
pub line_is : (s : List ℕ) → line_length s ≡ position_or_len (λ b. b == 10) s
unfolding line_length
line_is s = is_position_or_len line_length (λ b. b == 10) refl (λ x xs. grind arith) s

-- the first line feed, or that there is none
module _ (s : List ℕ) where
  pub feed_found : (k : ℕ) → position (λ b. b == 10) s ≡ Some k → line_length s ≡ k
  feed_found k e = grind (arith, line_is s)

  pub feed_none : position (λ b. b == 10) s ≡ None → line_length s ≡ length s
  feed_none e = grind (arith, line_is s, line_within s)

-- the part from a place to an end
pub shown : (text : Bor (List ℕ)) (at e : ℕ) → e ≡ at + line_length (drop at text.now) → Shows text (part_at text.now at) (sl_partˢ text (at + text.ref_ptr.1) at e)
shown text at e h =
    let z : at + text.ref_ptr.1 ≡ text.ref_ptr.1 + at = omega arith in
    let d : e - at ≡ line_length (drop at text.now) = omega (arith, h) in
    record { begins = ap (λ (o : ℕ). (text.ref_ptr.0, o)) z; bytes = ap (λ (k : ℕ). take k (drop at text.now)) d }
