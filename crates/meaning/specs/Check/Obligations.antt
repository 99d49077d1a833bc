-- The list of obligations, and when one holds.
-- Assumes nothing.
use mathlib.Core.List.{List, [], ◌∷◌, ◌++◌, tail, Memᴰ}
use Rattle.std.proofs.Math.Option.{Option, none, some}
use Rattle.std.specs.Prelude.{ℕ, suc}
use Rattle.meaning.specs.Lists.{nth1}
use Rattle.meaning.specs.Model.{Model}
use Rattle.meaning.specs.Machine.State.{State}
use Rattle.meaning.specs.Machine.Step.{Outcome, went, missed, overflow, refused, act}
use Rattle.meaning.specs.Machine.Run.{start}
use Rattle.meaning.specs.Zones.Zone.{Zone, Proposal, InZone}
use Rattle.meaning.specs.Zones.Steps.{Step, steps, event_of, Takes}

-- a step of a zone with its claim: the zone's number, and the place in the zone's list
pub record Follow : Type 0 where
  pub number : ℕ
  pub place : ℕ
  pub zone : Zone
  pub step : Step
  pub claim : ℕ

-- "Obligation 1: zone 1 holds the start state. Then zone by zone, place by place, these steps with their claims"
pub data Obligation : Type 0 where
  starts : Obligation
  follows : Follow → Obligation

-- the first claim; 0 where there is none
abbrev pub head0 : List ℕ → ℕ
head0 [] = 0
head0 (c ∷ cs) = c

-- "place by place": each step with its claim, from place k on
abbrev pub claimed : ℕ → Zone → ℕ → List Step → List ℕ → List Obligation
claimed n z k [] cs = []
claimed n z k (st ∷ ss) cs =
    follows (record { number = n; place = k; zone = z; step = st; claim = head0 cs }) ∷ claimed n z (suc k) ss (tail cs)

-- "zone by zone", from number n on
abbrev pub of_zones : Model → ℕ → List Zone → List Obligation
of_zones m n [] = []
of_zones m n (z ∷ zs) = claimed n z 1 (steps m z) z.claims ++ of_zones m (suc n) zs

-- the list of all obligations
abbrev pub obligations : Model → Proposal → List Obligation
obligations m p = starts ∷ of_zones m 1 p.zones

-- "a zone number, or 0 for 'no state takes this'": the state lies in the zone of that number, if there is one
abbrev pub InNumber : Model → Option Zone → State → Type 0
InNumber m none s = ⊥
InNumber m (some z) s = InZone m z s

-- what a step has to come to for the claim c: no miss, no overflow, and a state of the claimed zone
abbrev pub Good : Model → Proposal → ℕ → Outcome → Type 0
Good m p c (went s) = InNumber m (nth1 p.zones c) s
Good m p c (missed s k) = ⊥
Good m p c overflow = ⊥
Good m p c refused = ⊥

-- "An obligation holds if no state of the zone takes the step", or each that takes it comes to what is claimed
abbrev pub Holds : Model → Proposal → Obligation → Type 0
Holds m p starts = InNumber m (nth1 p.zones 1) (start m)
Holds m p (follows f) = (s : State) → InZone m f.zone s → Takes m s f.step → Good m p f.claim (act m s (event_of f.step))

-- the check accepts: every obligation holds
pub record Accepts (m : Model) (p : Proposal) : Type 0 where
  pub all : (o : Obligation) → Memᴰ o (obligations m p) → Holds m p o
