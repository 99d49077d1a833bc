-- Where a zone's step leads, and the states that it reaches.
-- Assumes nothing.
use Rattle.std.specs.Prelude.{◌≡◌, ◌⊎◌, cond, ℕ}
use mathlib.Core.List.{List, [], ◌∷◌, tail}
use Rattle.std.proofs.Math.Option.{Option, none, some}
use Rattle.meaning.specs.Lists.{nth1, insert_at}
use Rattle.meaning.specs.Model.{Edge, Model, target, released}
use Rattle.meaning.specs.Machine.State.{State, order}
use Rattle.meaning.specs.Machine.Release.{overflows_any}
use Rattle.meaning.specs.Machine.Step.{Outcome, went, missed, overflow, refused, act}
use Rattle.meaning.specs.Zones.Zone.{Zone, InZone}
use Rattle.meaning.specs.Zones.Steps.{Step, go_on, finish, by_edge, event_of, Takes}

-- "the location and queue order"
pub record Home : Type 0 where
  pub location : ℕ
  pub order : List ℕ

-- those of a state
abbrev pub home_of : State → Home
home_of s = record { location = s.location; order = order s.queue }

-- those of a zone
abbrev pub home_of_zone : Zone → Home
home_of_zone z = record { location = z.location; order = z.order }

-- the tasks put in one after the other, each at its position
abbrev pub insert_all : List ℕ → List ℕ → List ℕ → List ℕ
insert_all [] ps o = o
insert_all (t ∷ ts) [] o = o
insert_all (t ∷ ts) (p ∷ ps) o = insert_all ts ps (insert_at p t o)

-- "at an overflow, location and queue from before"
abbrev pub home_by : Model → Home → List ℕ → Option Edge → Home
home_by m h ps none = h
home_by m h ps (some e) =
    cond (overflows_any m (released m e) h.order) h
    (record { location = target e h.location; order = insert_all (released m e) ps h.order })

-- "A zone's step gives the location and queue order after it"
abbrev pub home_after : Model → Home → Step → Home
home_after m h go_on = h
home_after m h finish = record { location = h.location; order = tail h.order }
home_after m h (by_edge k ps) = home_by m h ps (nth1 m.edges k)

-- "all reached states, those with a miss too": the state t is where the step ends
abbrev pub Lands : Outcome → State → Type 0
Lands (went s) t = s ≡ t
Lands (missed s k) t = s ≡ t
Lands overflow t = ⊥
Lands refused t = ⊥

-- "The states that one step reaches from a zone"
pub record ReachedBy (m : Model) (z : Zone) (st : Step) (t : State) : Type 0 where
  pub from : State
  pub inside : InZone m z from
  pub takes : Takes m from st
  pub lands : Lands (act m from (event_of st)) t

-- "the states of the zone that meet the guard", of an edge whose release overflows
pub record OverBy (m : Model) (z : Zone) (st : Step) (s : State) : Type 0 where
  pub inside : InZone m z s
  pub takes : Takes m s st
  pub over : act m s (event_of st) ≡ overflow

-- the states that a zone's step speaks of: those reached; "at an overflow .. the states meeting the guard"
abbrev pub Shown : Model → Zone → Step → State → Type 0
Shown m z st t = ReachedBy m z st t ⊎ OverBy m z st t
