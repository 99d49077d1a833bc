-- How an obligation fails: the five kinds, the first that applies, and the smallest state at fault.
-- Assumes nothing.
use Rattle.std.specs.Prelude.{◌≡◌, ◌⊎◌, Bool, true, false, ℕ, ◌≤◌, ◌<◌}
use mathlib.Core.List.{Memᴰ}
use Rattle.std.proofs.Math.Option.{Option, none, some}
use Rattle.meaning.specs.Lists.{nth1}
use Rattle.meaning.specs.Model.{Bound, Model}
use Rattle.meaning.specs.Machine.State.{Job, State}
use Rattle.meaning.specs.Machine.Tick.{is_late}
use Rattle.meaning.specs.Machine.Edge.{bound_test}
use Rattle.meaning.specs.Machine.Run.{start}
use Rattle.meaning.specs.Zones.Variables.{vars, var}
use Rattle.meaning.specs.Zones.Zone.{Zone, Proposal}
use Rattle.meaning.specs.Zones.Reached.{home_of, home_of_zone, ReachedBy, OverBy}
use Rattle.meaning.specs.Check.Obligations.{Obligation, starts, follows}

-- "1 a miss (the first position ..); 2 an overflow; 3 the claim is 0; 4 the claimed zone has another location or queue order;
-- 5 the claimed zone's bounds are broken (the first broken bound, row by row)", by its i and j
pub data Fault : Type 0 where
  late_at : ℕ → Fault
  over : Fault
  unclaimed : Fault
  elsewhere : Fault
  breaks : ℕ → ℕ → Fault

-- the number of the kind
abbrev pub kind_of : Fault → ℕ
kind_of (late_at k) = 1
kind_of over = 2
kind_of unclaimed = 3
kind_of elsewhere = 4
kind_of (breaks i j) = 5

-- "the first position", "row by row": what tells faults of one kind apart, first by this
abbrev pub row_of : Fault → ℕ
row_of (late_at k) = k
row_of over = 0
row_of unclaimed = 0
row_of elsewhere = 0
row_of (breaks i j) = i

-- and then by this
abbrev pub column_of : Fault → ℕ
column_of (late_at k) = 0
column_of over = 0
column_of unclaimed = 0
column_of elsewhere = 0
column_of (breaks i j) = j

-- "the first kind that applies": f comes before g
abbrev pub Before : Fault → Fault → Type 0
Before f g =
    (kind_of f < kind_of g) ⊎ ((kind_of f ≡ kind_of g) × ((row_of f < row_of g) ⊎ ((row_of f ≡ row_of g) × (column_of f < column_of g))))

-- the claim of an obligation: for the start it is zone 1
abbrev pub claim_of : Obligation → ℕ
claim_of starts = 1
claim_of (follows f) = f.claim

-- the reached states; "for obligation 1 it is the start state"
abbrev pub Reached : Model → Obligation → State → Type 0
Reached m starts t = t ≡ start m
Reached m (follows f) t = ReachedBy m f.zone f.step t

-- "kind 2 takes the states of the zone that meet the guard"
abbrev pub Over : Model → Obligation → State → Type 0
Over m starts s = ⊥
Over m (follows f) s = OverBy m f.zone f.step s

-- "that job's age is D"
abbrev pub late_test : Model → Option Job → Bool
late_test m none = false
late_test m (some j) = is_late m j

-- "the claimed zone has another location or queue order"
abbrev pub Elsewhere : Option Zone → State → Type 0
Elsewhere none t = ⊥
Elsewhere (some z) t = home_of t ≡ home_of_zone z → ⊥

-- the state breaks a bound between i and j that is written in the zone
pub record BreaksZone (z : Zone) (i j : ℕ) (t : State) : Type 0 where
  pub bound : Bound
  pub written : Memᴰ bound z.bounds
  pub row : bound.i ≡ i
  pub column : bound.j ≡ j
  pub broken : bound_test (vars t) bound ≡ false

-- "those that break the bound named", of the claimed zone, if there is one
abbrev pub Breaks : Option Zone → ℕ → ℕ → State → Type 0
Breaks none i j t = ⊥
Breaks (some z) i j t = BreaksZone z i j t

-- "those reached states that are at fault": "Kind 1 takes those where that job's age is D; kinds 3 and 4 take all reached states; kind 5
-- takes those that break the bound named; kind 2 takes the states of the zone that meet the guard"
abbrev pub AtFault : Model → Proposal → Obligation → Fault → State → Type 0
AtFault m p o (late_at k) t = Reached m o t × (late_test m (nth1 t.queue k) ≡ true)
AtFault m p o over t = Over m o t
AtFault m p o unclaimed t = Reached m o t × (claim_of o ≡ 0)
AtFault m p o elsewhere t = Reached m o t × Elsewhere (nth1 p.zones (claim_of o)) t
AtFault m p o (breaks i j) t = Reached m o t × Breaks (nth1 p.zones (claim_of o)) i j t

-- "smallest in every variable at once": no larger in any variable
abbrev pub Below : State → State → Type 0
Below t u = (i : ℕ) → var t i ≤ var u i

-- "Otherwise it fails with the first kind that applies"; "The state shown is, of those reached states that are at fault, the one smallest
-- in every variable at once"
pub record Fails (m : Model) (p : Proposal) (o : Obligation) (f : Fault) (t : State) : Type 0 where
  pub at : AtFault m p o f t
  pub least : (u : State) → AtFault m p o f u → Below t u
  pub first : (g : Fault) → Before g f → (u : State) → AtFault m p o g u → ⊥
