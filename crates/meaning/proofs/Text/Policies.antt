-- The policy and its number in the text.
-- Assumes nothing.
use mathlib.Core.Path.{◌≡◌, refl, sym, ◌∙◌, ap}
use Prim.Native.Nat.{ℕ, ◌≤◌}
use native.Mathlib.Omega.{arith}
use borrow.Author.Tests.{ne_eqb}
use Rattle.meaning.specs.Model.{Policy, fps, edf, sjf}
use Rattle.meaning.specs.Text.ModelText.{policy_number, policy_of}
use Rattle.meaning.proofs.Text.Choices.{by_eq}

-- the policy with a policy's number is that policy
pub policy_back : (p : Policy) → policy_of (policy_number p) ≡ p
unfolding policy_number policy_of
policy_back fps = refl
policy_back edf = refl
policy_back sjf = refl

-- each number in the range is the number of its policy
pub policy_number_lem : (n : ℕ) → 1 ≤ n → n ≤ 3 → policy_number (policy_of n) ≡ n
unfolding policy_number policy_of
policy_number_lem n a b =
    by_eq n 1 (λ e. rw e)
    (λ e. by_eq n 2 (λ f. rw f) (λ f. rw (ne_eqb n 1 e, ne_eqb n 2 f) (omega arith)))

-- which policy it is, as code finds out: it asks for 1, then for 2
pub policy_fps : (p : Policy) → policy_number p ≡ 1 → p ≡ fps
unfolding policy_of
policy_fps p e = sym (policy_back p) ∙ ap policy_of e

pub policy_edf : (p : Policy) → policy_number p ≡ 2 → p ≡ edf
unfolding policy_of
policy_edf p e = sym (policy_back p) ∙ ap policy_of e

pub policy_sjf : (p : Policy) → (policy_number p ≡ 1 → ⊥) → (policy_number p ≡ 2 → ⊥) → p ≡ sjf
unfolding policy_of
policy_sjf p e f = sym (policy_back p) ∙ rw (ne_eqb (policy_number p) 1 e, ne_eqb (policy_number p) 2 f) refl
