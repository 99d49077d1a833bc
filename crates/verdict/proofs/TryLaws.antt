-- The obligations of a zone, tried place by place up to the first that fails.
-- Assumes nothing.
use mathlib.Core.Path.{◌≡◌, refl, subst}
use mathlib.Core.List.{List, [], ◌∷◌, tail}
use mathlib.Core.Option.{some}
use Prim.Native.Nat.{ℕ, zero, suc, ◌+◌, ◌≤◌, ◌<◌}
use native.Mathlib.Omega.{arith}
use native.Mathlib.Decide.{dec_lt}
use lib.ListN.{length, get_elem?}
use Rattle.meaning.specs.Model.{Model}
use Rattle.meaning.specs.Zones.Zone.{Zone, Proposal}
use Rattle.meaning.specs.Zones.Steps.{Step, steps}
use Rattle.meaning.specs.Check.Obligations.{Obligation, claimed, Holds}
use Rattle.verdict.specs.declared.answer.Found.{Found}
use Rattle.verdict.specs.Failing.{failing}
use Rattle.verdict.specs.Judged.{AtPlace, HoldBefore, FailsSo, FailsIn, AllHold, OwnHold}
use Rattle.verdict.proofs.FoundLaws.{none_some}
use Rattle.verdict.proofs.CountLaws.{nth_inside, claimed_length}

-- ---- at which places obligations stand

claimed_some : (n : ℕ) (z : Zone) (k : ℕ) (ss : List Step) (cs : List ℕ) (i : ℕ) → i < length ss → (o : Obligation) × (get_elem? (claimed n z k ss cs) i ≡ some o)
claimed_some n z k [] cs i h = absurd (omega arith)
claimed_some n z k (s ∷ ss) cs zero h = (_, refl)
claimed_some n z k (s ∷ ss) cs (suc i) h = claimed_some n z (suc k) ss (tail cs) i (omega arith)

module _ (m : Model) (p : Proposal) (n : ℕ) (z : Zone) where
  -- at each place of the list
  pub place_some : (x : ℕ) → 1 ≤ x → x ≤ length (steps m z) → (o : Obligation) × AtPlace m n z x o
  place_some zero a b = absurd (omega arith)
  place_some (suc i) a b = claimed_some n z 1 (steps m z) z.claims i (omega arith)

  -- and at no other
  pub place_few : (x : ℕ) (o : Obligation) → AtPlace m n z x o → x ≤ length (steps m z)
  place_few zero o e = absurd (none_some e)
  place_few (suc i) o e = omega (arith, nth_inside (claimed n z 1 (steps m z) z.claims) i o e, claimed_length n z 1 (steps m z) z.claims)

  -- ---- the tries

  -- before the first
  pub tried_none : HoldBefore m p n z 1
  tried_none zero h o e = absurd (none_some e)
  tried_none (suc i) h o e = absurd (omega arith)

  module _ (x : ℕ) (h : HoldBefore m p n z x) where
    -- the next holds
    pub tried_on : ((o : Obligation) → AtPlace m n z x o → Holds m p o) → HoldBefore m p n z (x + 1)
    tried_on j i l o e = go (dec_lt i x)
      where
        go : Dec (i < x) → Holds m p o
        go (yes w) = h i w o e
        go (no w) =
            let s : i ≡ x = omega arith in
            j o (subst (λ (y : ℕ). AtPlace m n z y o) s e)

    -- it fails
    pub tried_fails : (f : Found) → ((o : Obligation) → AtPlace m n z x o → FailsSo m p o f) → 1 ≤ x → x ≤ length (steps m z)
        → (before number : ℕ) → number ≡ before + x → FailsIn m p n z before (failing number n x f)
    tried_fails f j a b before number e =
        let w = place_some x a b in
        record { obligation = w.0; here = w.1; hold = h; number = e; zone = refl; fails = j w.0 w.1 }

    -- none fails
    pub tried_all : x ≡ length (steps m z) + 1 → (before number : ℕ) → number + 1 ≡ before + x → AllHold m p n z before number
    tried_all l before number e = record {
      hold = λ i o w. h i (let q = place_few i o w in omega arith) o w;
      number = omega arith;
    }

    -- by the zone's own number
    pub own_all : x ≡ length (steps m z) + 1 → (number : ℕ) → number + 1 ≡ x → number ≤ 32767 → OwnHold m p n z number
    own_all l number e f = let w = tried_all l 0 number (omega arith) in record { hold = w.hold; number = omega (arith, w.number); few = f }
