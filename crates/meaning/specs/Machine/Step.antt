-- One step of the plain machine.
-- Assumes nothing.
use Rattle.std.specs.Prelude.{Bool, false, cond, ◌&&◌, ℕ, zero, suc}
use Rattle.std.proofs.Math.Option.{Option, none, some}
use Rattle.meaning.specs.Lists.{nth1}
use Rattle.meaning.specs.Model.{Edge, Model, leaves_at, released}
use Rattle.meaning.specs.Machine.State.{State, order}
use Rattle.meaning.specs.Machine.Release.{overflows_any}
use Rattle.meaning.specs.Machine.Tick.{tick_allowed, tick_to, late}
use Rattle.meaning.specs.Machine.Edge.{guard_test, entered}

-- what is asked of the machine: a tick, or an edge by its number in the file
pub data Event : Type 0 where
  tick : Event
  edge : ℕ → Event

-- "A step's reply is the new state and whether it is a miss (the first position at fault in the new queue) or an overflow"; or refusal 12
pub data Outcome : Type 0 where
  went : State → Outcome
  missed : State → ℕ → Outcome
  overflow : Outcome
  refused : Outcome

-- refusal 12: "the edge isn't in the model, leaves another location, or its guard doesn't hold"
abbrev pub edge_allowed : Model → State → Option Edge → Bool
edge_allowed m s none = false
edge_allowed m s (some e) = leaves_at e s.location && guard_test m s e

-- "Tick: allowed when", "Edge: allowed when": the edge by "file order"
abbrev pub allowed : Model → State → Event → Bool
allowed m s tick = tick_allowed m s
allowed m s (edge k) = edge_allowed m s (nth1 m.edges k)

-- a tick to the state s, whose first position at fault is k
abbrev pub judged : State → ℕ → Outcome
judged s zero = went s
judged s (suc k) = missed s (suc k)

-- an edge: "A release of a queued task is an overflow."
abbrev pub moved : Model → State → Edge → Outcome
moved m s e = cond (overflows_any m (released m e) (order s.queue)) overflow (went (entered m s e))

-- the same of an edge by its number: one that "isn't in the model" is refused
abbrev pub moved_by : Model → State → Option Edge → Outcome
moved_by m s none = refused
moved_by m s (some e) = moved m s e

-- what an allowed step does
abbrev pub act : Model → State → Event → Outcome
act m s tick = judged (tick_to m s) (late m (tick_to m s).queue)
act m s (edge k) = moved_by m s (nth1 m.edges k)

-- the step: what is not allowed is refused
abbrev pub step : Model → State → Event → Outcome
step m s ev = cond (allowed m s ev) (act m s ev) refused

-- the state after a step: "or an overflow (the state then stays as before the edge)"
abbrev pub after : State → Outcome → State
after s (went t) = t
after s (missed t k) = t
after s overflow = s
after s refused = s
