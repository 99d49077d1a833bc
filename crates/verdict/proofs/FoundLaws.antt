-- What is found of an obligation: how it fails.
-- Assumes nothing.
use mathlib.Core.Path.{◌≡◌}
use mathlib.Core.Option.{none, some}
use Prim.Native.Nat.{ℕ}
use native.Mathlib.Omega.{arith}
use Rattle.std.proofs.Common.{Option, Some}
use Rattle.meaning.specs.Model.{Model}
use Rattle.meaning.specs.Machine.State as M
use Rattle.meaning.specs.Zones.Zone.{Proposal}
use Rattle.meaning.specs.Check.Obligations.{Obligation}
use Rattle.meaning.specs.Check.Faults.{Fails}
use Rattle.machine.specs.declared.State.{State}
use Rattle.machine.specs.Stands.{held}
use Rattle.verdict.specs.declared.answer.Fault.{Fault}
use Rattle.verdict.specs.declared.answer.Found.{Found}
use Rattle.verdict.specs.Answers.{fault_of}
use Rattle.verdict.specs.Judged.{Judged}

abbrev pub found : Fault → State → Option Found
found f s = Some (record { fault = f; state = s })

pub none_some : {A : Type 0} {x : A} → none ≡ some x → ⊥
none_some e = let w : ◌≡◌ {A = ℕ} 0 1 = cc in omega arith

-- a kind applies
pub judged_fails : (m : Model) (p : Proposal) (o : Obligation) (d : Fault) (s : M.State) (r : State) → Fails m p o (fault_of d) s → r ≡ held s → Judged m p o (found d r)
judged_fails m p o d s r h q = record { state = s; fails = h; says = q }
