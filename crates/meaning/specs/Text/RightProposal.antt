-- The proposals that a text can say over a model: document 01's ranges, "1 to 48 zones", rising order, no task twice, and the claims.
-- Assumes nothing.
use Rattle.std.specs.Prelude.{ℕ, ◌-◌, ◌≤◌, ◌≡◌, Bool, true, false, not, ◌&&◌, ◌||◌, List, [], ◌∷◌, eqb, length}
use Rattle.std.proofs.Math.Option.{Option, none, some}
use Rattle.meaning.specs.Lists.{nth1}
use Rattle.meaning.specs.Model.{Bound, Edge, Model, released}
use Rattle.meaning.specs.Machine.Release.{overflows_any}
use Rattle.meaning.specs.Zones.Variables.{variables}
use Rattle.meaning.specs.Zones.Proper.{fits}
use Rattle.meaning.specs.Zones.Zone.{Zone, Proposal}
use Rattle.meaning.specs.Zones.Steps.{Step, go_on, finish, by_edge, steps}
use Rattle.meaning.specs.Text.Ranges.{bound_most, queue_most, zones_most}
use Rattle.meaning.specs.Text.RightModel.{Each, Ordered, RightBound, before}

-- ---- the claims

-- the queue is empty
abbrev pub empty : List ℕ → Bool
empty [] = true
empty (t ∷ o) = false

-- "releasing a queued task one place, claim 0", of a queue of the tasks o
abbrev pub zero_by : Model → List ℕ → Option Edge → Bool
zero_by m o none = false
zero_by m o (some e) = overflows_any m (released m e) o

-- "tick and the head finishes (an empty queue: nothing, claim 0)"; "releasing a queued task one place, claim 0": of a queue of the tasks o
abbrev pub zero_due_in : Model → List ℕ → Step → Bool
zero_due_in m o go_on = false
zero_due_in m o finish = empty o
zero_due_in m o (by_edge k ps) = zero_by m o (nth1 m.edges k)

-- the same, of the steps of a zone
abbrev pub zero_due : Model → Zone → Step → Bool
zero_due m z st = zero_due_in m z.order st

-- "0 where 0 is due", step by step
abbrev pub zeros_at : (Step → Bool) → List Step → List ℕ → Bool
zeros_at due [] cs = true
zeros_at due (st ∷ ss) [] = true
zeros_at due (st ∷ ss) (c ∷ cs) = (not (due st) || eqb c 0) && zeros_at due ss cs

-- refusal 9 is "GO: wrong number of claims, or not 0 where 0 is due"
abbrev pub claims_fit : Model → Zone → List ℕ → Bool
claims_fit m z cs = eqb (length cs) (length (steps m z)) && zeros_at (zero_due m z) (steps m z) cs

-- ---- the zones

-- ZN: "location, then 0 to 6 tasks"; refusal 6 is "a task twice in ZN"
pub record RightOrder (m : Model) (l : ℕ) (o : List ℕ) : Type 0 where
  pub low : 1 ≤ l
  pub high : l ≤ length m.locations
  pub few : length o ≤ queue_most
  pub tasks : Each (λ (t : ℕ). (1 ≤ t) × (t ≤ length m.tasks)) o
  pub fit : fits m o ≡ true

-- BD: "i, j, c; rising; i ≠ j"; "BD bounds run from −32,000 to 32,000"; i and j of the variables of a queue of the tasks o
pub record RightBounds (m : Model) (o : List ℕ) (bs : List Bound) : Type 0 where
  pub each : Each (RightBound (variables m o - 1) bound_most) bs
  pub rising : Ordered (λ (a b : Bound). before a b ≡ true) bs

-- GO: the claims of a zone, each a number up to n
pub record RightClaims (m : Model) (n : ℕ) (z : Zone) (cs : List ℕ) : Type 0 where
  pub many : length cs ≡ length (steps m z)
  pub zeros : zeros_at (zero_due m z) (steps m z) cs ≡ true
  pub each : Each (λ (c : ℕ). c ≤ n) cs

-- "ZN, BD, GO", with claims up to n
pub record RightZone (m : Model) (n : ℕ) (z : Zone) : Type 0 where
  pub order : RightOrder m z.location z.order
  pub bounds : RightBounds m z.order z.bounds
  pub claims : RightClaims m n z z.claims

-- "for each of 1 to 48 zones"; refusal 9 is "at EN: a claim above the last zone"
pub record RightProposal (m : Model) (p : Proposal) : Type 0 where
  pub low : 1 ≤ length p.zones
  pub high : length p.zones ≤ zones_most
  pub zones : Each (RightZone m (length p.zones)) p.zones
