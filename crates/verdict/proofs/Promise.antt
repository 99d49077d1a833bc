-- Demand 3 of the code's answer: on tables that it accepts, no run from the start, however long, misses a deadline, overflows, or leaves the
-- proposed zones; and the number it gives is that of all obligations.
-- Assumes nothing.
use mathlib.Core.Path.{◌≡◌, ◌∙◌}
use mathlib.Core.List.{List}
use Prim.Native.Nat.{ℕ}
use native.Mathlib.Omega.{arith}
use lib.ListN.{length}
use Rattle.std.specs.Prelude.{Ok}
use Rattle.meaning.specs.Check.Answer as A
use Rattle.meaning.specs.Check.Obligations.{obligations, Accepts}
use Rattle.meaning.specs.Check.Promise.{Promise}
use Rattle.meaning.specs.Text.ModelTable.{decode}
use Rattle.meaning.specs.Text.ProposalTable as table
use Rattle.meaning.proofs.Check.DemandThree.{demand_three}
use Rattle.verdict.specs.declared.answer.Verdict.{Verdict}
use Rattle.verdict.specs.declared.answer.Verdict.TheVariants.{Accepted, Failed}
use Rattle.verdict.specs.Answers.{BothGiven, Says, Answered, unusable, right}

-- the tables are usable, every obligation holds, and n is how many they are
pub record AcceptedWith (t u : List ℕ) (n : ℕ) : Type 0 where
  pub usable : BothGiven t u
  pub accepts : Accepts (decode t) (table.decode u)
  pub number : n ≡ length (obligations (decode t) (table.decode u))

-- an answer of acceptance is right
pub accepted_is : (t u : List ℕ) (n : ℕ) → Answered t u (Ok (Accepted n)) → AcceptedWith t u n
accepted_is t u n (unusable h e) = absurd (let z : ◌≡◌ {A = ℕ} 0 1 = cc in omega arith)
accepted_is t u n (right g a x v s e) = by a v x s (let same : Accepted n ≡ v = cc in same)
  where
    by : (a : A.Answer) (v : Verdict) → A.Right (decode t) (table.decode u) a → Says a v → Accepted n ≡ v → AcceptedWith t u n
    by (A.accepted k) (Accepted i) x s e = record { usable = g; accepts = x.0; number = (let same : n ≡ i = cc in same) ∙ s ∙ x.1 }
    by (A.accepted k) (Failed f) x s e = absurd s
    by (A.failed y) (Accepted i) x s e = absurd s
    by (A.failed y) (Failed f) x s e = absurd (let z : ◌≡◌ {A = ℕ} 0 1 = cc in omega arith)

-- "in any run from the start, however long, no job reaches its deadline with work owed, no task is released while it is queued, and every
-- state lies in one of the proposed zones"
pub accepted_keeps : (t u : List ℕ) (n : ℕ) → Answered t u (Ok (Accepted n)) → Promise (decode t) (table.decode u)
accepted_keeps t u n a = demand_three (decode t) (table.decode u) (accepted_is t u n a).accepts

-- "the number of obligations tried, which is all of them"
pub accepted_number : (t u : List ℕ) (n : ℕ) → Answered t u (Ok (Accepted n)) → n ≡ length (obligations (decode t) (table.decode u))
accepted_number t u n a = (accepted_is t u n a).number
