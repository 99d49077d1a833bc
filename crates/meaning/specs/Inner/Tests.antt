-- Who beats whom, as the zones see it: a test of two variables, or none at all. One line for each policy.
-- Assumes nothing.
use Rattle.std.specs.Prelude.{Bool, true, false, cond, List, [], ◌∷◌, ℕ, ◌+◌, ltb, ℤ, pos, neg_ℤ, ◌-ℤ◌}
use Rattle.std.proofs.Math.IntN.{sub_ℕ}
use Rattle.meaning.specs.Numbers.{within}
use Rattle.meaning.specs.Model.{Policy, fps, edf, sjf, Bound, Model, task_at}
use Rattle.meaning.specs.Inner.Bounds.{bound, impossible}
use Rattle.meaning.specs.Inner.Slots.{Slot}

-- it holds of every valuation, of none, or where "variable i minus variable j is at most c"
pub data Test : Type 0 where
  always never : Test
  at_most : ℕ → ℕ → ℤ → Test

-- the test holds of the valuation x
abbrev pub test_met : (ℕ → ℕ) → Test → Bool
test_met x always = true
test_met x never = false
test_met x (at_most i j c) = within (x i) (x j) c

-- the bounds of the valuations of which it holds
abbrev pub when_true : Test → List Bound
when_true always = []
when_true never = impossible ∷ []
when_true (at_most i j c) = bound i j c ∷ []

-- and of those of which it does not
abbrev pub when_false : Test → List Bound
when_false always = impossible ∷ []
when_false never = []
when_false (at_most i j c) = bound j i (neg_ℤ c -ℤ pos 1) ∷ []

-- a test that looks at no variable
abbrev pub fixed : Bool → Test
fixed b = cond b always never

-- "at equality the larger task number beats": of a new job of task n and a queued one of task k, by how many ticks it has to be ahead
abbrev pub tie : ℕ → ℕ → ℕ
tie n k = cond (ltb k n) 0 1

-- a new job of task n beats the job in slot s, behind the running sum in variable a: one line for each policy
abbrev pub test_by : Policy → Model → ℕ → ℕ → Slot → Test
test_by fps m n a s = fixed (ltb (task_at m s.task).prio (task_at m n).prio)
test_by edf m n a s = at_most s.age 0 (sub_ℕ (task_at m s.task).D ((task_at m n).D + tie n s.task))
test_by sjf m n a s = at_most s.sum a (sub_ℕ (task_at m s.task).C ((task_at m n).C + 1))

-- the same under the model's own policy
abbrev pub test_at : Model → ℕ → ℕ → Slot → Test
test_at m n a s = test_by m.policy m n a s
