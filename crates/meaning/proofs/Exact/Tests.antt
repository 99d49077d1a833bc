-- Who beats whom, as a test of the valuation: the policy's test holds exactly if the new job beats the queued one, and it holds, and fails,
-- exactly where its bounds are met. One line for each policy; everything else that speaks of who beats whom is over these laws.
-- Assumes nothing.
use mathlib.Core.Path.{◌≡◌, refl, sym, ◌∙◌, subst}
use mathlib.Core.Logic.{◌↔◌}
use mathlib.Core.Bool.{Bool, true, false, cond, ◌&&◌, ◌||◌, true≢false}
use Prim.Native.Nat.{ℕ, suc, ◌+◌, ◌≤◌}
use native.Mathlib.Omega.{arith}
use lib.Dec.{leb, ltb, eqb}
use lib.IntN.{negsuc, sub_ℕ, neg_ℤ}
use borrow.Author.Tests.{ltb-true, ltb-false, le-leb, lt-leb, eqb-true, eqb-false}
use Rattle.meaning.specs.Numbers.{over, under, within}
use Rattle.meaning.specs.Model.{Policy, fps, edf, sjf, Model, task_at}
use Rattle.meaning.specs.Machine.State.{Job}
use Rattle.meaning.specs.Machine.Place.{beats_by, beats}
use Rattle.meaning.specs.Inner.Bounds.{Met}
use Rattle.meaning.specs.Inner.Slots.{Slot, slot}
use Rattle.meaning.specs.Inner.Tests.{Test, always, never, at_most, test_met, when_true, when_false, fixed, test_by, test_at}
use Rattle.meaning.proofs.Tests.{leb_same}
use Rattle.meaning.proofs.Numbers.{sub_parts, sum_parts, over_neg, under_neg, within_true, within_make, within_false, within_break}
use Rattle.meaning.proofs.Hooks.{beats_is}
use Rattle.meaning.proofs.Exact.Bounds.{never_met}

-- ── the bounds of a test ───────────────────────────────────────────────────────────────────────

-- the test holds exactly where these bounds are met
pub true_met : (x : ℕ → ℕ) (t : Test) → (test_met x t ≡ true) ↔ Met x (when_true t)
true_met x always = (λ e. tt, λ h. refl)
true_met x never = (λ e. absurd (true≢false (sym e)), λ h. absurd (never_met x h))
true_met x (at_most i j c) = (λ e. (within_true (x i) (x j) c e, tt), λ h. within_make (x i) (x j) c h.0)

-- and fails exactly where these are
pub false_met : (x : ℕ → ℕ) (t : Test) → (test_met x t ≡ false) ↔ Met x (when_false t)
false_met x always = (λ e. absurd (true≢false e), λ h. absurd (never_met x h))
false_met x never = (λ e. tt, λ h. refl)
false_met x (at_most i j c) =
    let p = sum_parts (neg_ℤ c) (negsuc 0) in
    let o = over_neg c in
    let u = under_neg c in
    (λ e. (omega (arith, within_false (x i) (x j) c e), tt), λ h. within_break (x i) (x j) c (omega (arith, h.0)))

-- ── the law of the policy ──────────────────────────────────────────────────────────────────────

-- a fixed test holds of every valuation or of none
fixed_met : (x : ℕ → ℕ) (b : Bool) → test_met x (fixed b) ≡ b
fixed_met x true = refl
fixed_met x false = refl

-- less, or equal and the tie won: at most
le_tie : (a b : ℕ) → (ltb a b || (eqb a b && true)) ≡ leb a b
le_tie a b = go (ltb a b) refl (eqb a b) refl
  where
    go : (x : Bool) → ltb a b ≡ x → (y : Bool) → eqb a b ≡ y → (x || (y && true)) ≡ leb a b
    go true e y f = let h = ltb-true a b e in sym (le-leb a b (omega arith))
    go false e true f = let h = eqb-true a b f in sym (le-leb a b (omega arith))
    go false e false f = let h = ltb-false a b e in let k = eqb-false a b f in sym (lt-leb a b (omega arith))

-- and the tie lost: less
lt_tie : (a b : ℕ) → (ltb a b || (eqb a b && false)) ≡ ltb a b
lt_tie a b = go (ltb a b) (eqb a b)
  where
    go : (x y : Bool) → (x || (y && false)) ≡ x
    go true y = refl
    go false true = refl
    go false false = refl

-- where v is w and d more, v minus w is at most u − t exactly if t + d, which is k, is at most u
most : (v w t u d k : ℕ) → v ≡ w + d → k ≡ t + d → within v w (sub_ℕ u t) ≡ leb k u
most v w t u d k e f =
    let p = sub_parts u t in
    leb_same (v + under (sub_ℕ u t)) (w + over (sub_ℕ u t)) k u (λ (h : v + under (sub_ℕ u t) ≤ w + over (sub_ℕ u t)). omega arith) (λ (h : k ≤ u). omega arith)

-- the job stands in slot s of the valuation x, behind the running sum in variable a
pub record Stands (x : ℕ → ℕ) (a : ℕ) (s : Slot) (j : Job) : Type 0 where
  pub origin : x 0 ≡ 0
  pub task : j.task ≡ s.task
  pub sum : x s.sum ≡ x a + j.done
  pub age : x s.age ≡ j.age

-- the law of the policy: one line for each
pub test_right : (p : Policy) (m : Model) (n a : ℕ) (s : Slot) (j : Job) (x : ℕ → ℕ) → x 0 ≡ 0 → x s.sum ≡ x a + j.done → x s.age ≡ j.age
    → test_met x (test_by p m n a (slot j.task s.sum s.age)) ≡ beats_by p n (task_at m n) (task_at m j.task) j
unfolding beats_by
test_right fps m n a s j x z hs ha = fixed_met x (ltb (task_at m j.task).prio (task_at m n).prio)
test_right edf m n a s j x z hs ha = go (ltb j.task n)
  where
    t : ℕ
    t = (task_at m n).D

    u : ℕ
    u = (task_at m j.task).D

    go : (b : Bool) → within (x s.age) (x 0) (sub_ℕ u (t + cond b 0 1)) ≡ (ltb (t + j.age) u || (eqb (t + j.age) u && b))
    go true = most (x s.age) (x 0) (t + 0) u j.age (t + j.age) (omega arith) (omega arith) ∙ sym (le_tie (t + j.age) u)
    go false = most (x s.age) (x 0) (t + 1) u j.age (suc (t + j.age)) (omega arith) (omega arith) ∙ sym (lt_tie (t + j.age) u)
test_right sjf m n a s j x z hs ha =
    most (x s.sum) (x a) ((task_at m n).C + 1) (task_at m j.task).C j.done (suc ((task_at m n).C + j.done)) hs (omega arith)

-- a new job of task n beats the queued job exactly if the model's test holds of where it stands
pub beats_test : (m : Model) (n a : ℕ) (s : Slot) (j : Job) (x : ℕ → ℕ) → Stands x a s j → test_met x (test_at m n a s) ≡ beats m n j
beats_test m n a s j x h =
    subst (λ (k : ℕ). test_met x (test_at m n a (slot k s.sum s.age)) ≡ beats m n j) h.task
    (test_right m.policy m n a s j x h.origin h.sum h.age ∙ sym (beats_is m n j))
