-- Laws of the tests of who beats whom: a few lines for each policy; and of the bounds of a test.
-- Assumes nothing.
use mathlib.Core.Path.{◌≡◌, refl, sym, subst}
use mathlib.Core.List.{List, [], ◌∷◌}
use Prim.Native.Nat.{ℕ, ◌+◌, ◌≤◌, ◌<◌}
use native.Mathlib.Omega.{arith}
use lib.IntN.{ℤ, sub_ℕ}
use borrow.Author.Tests.{lt-ltb, le-ltb}
use Rattle.std.specs.Prelude.{None, Some}
use Rattle.meaning.specs.Model.{Policy, fps, edf, sjf, Model, task_at}
use Rattle.meaning.specs.Inner.Bounds.{impossible}
use Rattle.meaning.specs.Text.ModelText.{policy_number}
use Rattle.meaning.specs.Inner.Slots.{slot}
use Rattle.meaning.specs.Inner.Tests.{test_by, test_at}
use Rattle.meaning.proofs.Exact.Bounds.{met_append}
use Rattle.meaning.proofs.Text.Policies.{policy_sjf}
use Rattle.zone_bounds.specs.Narrowed.{Narrows}
use Rattle.zone_bounds.proofs.NumberLaws.{sub_sized}
use Rattle.step_bounds.specs.Tests.{Asks}
use Rattle.step_bounds.specs.declared.tests.Test.{Test}
use Rattle.step_bounds.specs.declared.tests.Test.TheVariants.{Always, Never, AtMost}

-- no valuation meets a bound that none meets
pub narrows_impossible : (m : List ℤ) → Narrows (impossible ∷ []) (Some m) None
narrows_impossible m = record {
  usable = tt;
  more = λ cs w x z h. let e = ((met_append x cs (impossible ∷ [])).0 h).1.0 in omega arith;
}

-- the policy's number
pub policy_range : (p : Policy) → (1 ≤ policy_number p) × (policy_number p ≤ 3)
unfolding policy_number
policy_range fps = (omega arith, omega arith)
policy_range edf = (omega arith, omega arith)
policy_range sjf = (omega arith, omega arith)

pub policy_third : (p : Policy) → policy_number p ≡ 3 → p ≡ sjf
policy_third p e = policy_sjf p (λ q. absurd (omega arith)) (λ q. absurd (omega arith))

module _ (m : Model) (new queued a s g : ℕ) where
  pub rank_yes : (task_at m queued).prio < (task_at m new).prio → Asks (test_by fps m new a (slot queued s g)) Always
  rank_yes h = record { is = rw (lt-ltb (task_at m queued).prio (task_at m new).prio h) refl; askable = tt }

  pub rank_no : (task_at m new).prio ≤ (task_at m queued).prio → Asks (test_by fps m new a (slot queued s g)) Never
  rank_no h = record { is = rw (le-ltb (task_at m queued).prio (task_at m new).prio h) refl; askable = tt }

  module _ (few : (n : ℕ) → ((task_at m n).C ≤ 10000) × ((task_at m n).D ≤ 10000)) where
    pub deadline_tie : queued < new → g < 17 → (z : ℤ) → z ≡ sub_ℕ (task_at m queued).D (task_at m new).D
        → Asks (test_by edf m new a (slot queued s g)) (AtMost g 0 z)
    deadline_tie h l z q =
        let o : (task_at m new).D + 0 ≡ (task_at m new).D = omega arith in
        record {
          is = rw (lt-ltb queued new h, o, q) refl;
          askable = (l, omega arith, rw q (sub_sized (task_at m queued).D (task_at m new).D (omega (arith, few queued)) (omega (arith, few new))));
        }

    pub deadline_less : new ≤ queued → g < 17 → (z : ℤ) → z ≡ sub_ℕ (task_at m queued).D ((task_at m new).D + 1)
        → Asks (test_by edf m new a (slot queued s g)) (AtMost g 0 z)
    deadline_less h l z q =
        record {
          is = rw (le-ltb queued new h, q) refl;
          askable = (l, omega arith, rw q (sub_sized (task_at m queued).D ((task_at m new).D + 1) (omega (arith, few queued)) (omega (arith, few new))));
        }

    pub work_less : a < 17 → s < 17 → (z : ℤ) → z ≡ sub_ℕ (task_at m queued).C ((task_at m new).C + 1)
        → Asks (test_by sjf m new a (slot queued s g)) (AtMost s a z)
    work_less l k z q =
        record {
          is = rw q refl;
          askable = (k, l, rw q (sub_sized (task_at m queued).C ((task_at m new).C + 1) (omega (arith, few queued)) (omega (arith, few new))));
        }

  -- the model's policy is this one
  pub test_under : {p : Policy} → m.policy ≡ p → (r : Test) → Asks (test_by p m new a (slot queued s g)) r → Asks (test_at m new a (slot queued s g)) r
  test_under e r w = subst (λ (q : Policy). Asks (test_by q m new a (slot queued s g)) r) (sym e) w
