-- What the machine's functions promise, on every table, state and number.
-- Assumes nothing.
use Rattle.std.specs.Prelude.{ℕ, suc, ◌≤◌, ◌≡◌, Bool, true, Result, Ok, Err, leb, length, replicate}
use mathlib.Core.List.{List, map, Memᴰ}
use Rattle.meaning.specs.Lists.{every}
use Rattle.meaning.specs.Model.{Model}
use Rattle.meaning.specs.Machine.State as M
use Rattle.meaning.specs.Machine.Step as S
use Rattle.meaning.specs.Machine.Step.{Event, tick, edge, allowed, act}
use Rattle.meaning.specs.Machine.Run.{start}
use Rattle.meaning.specs.Machine.State.{order}
use Rattle.meaning.specs.Machine.Place.{place_of}
use Rattle.meaning.specs.Machine.Release.{overflows}
use Rattle.meaning.specs.Zones.Proper.{ProperJob, fits}
use Rattle.meaning.specs.Text.Choice.{pick}
use Rattle.meaning.specs.Text.ModelReader.{Given}
use Rattle.meaning.specs.Text.ModelTable.{decode}
use Rattle.meaning.specs.Text.Refusals.{not_proper, not_allowed, clock_end}
use Rattle.refusals.specs.Number.{number_of}
use Rattle.refusals.specs.declared.Reason.{Reason}
use Rattle.machine.specs.Stands.{clock_most, job_of, no_job, state_of, held, Lendable}
use Rattle.machine.specs.declared.Job.{Job}
use Rattle.machine.specs.declared.State.{State}
use Rattle.machine.specs.declared.Outcome.{Outcome}
use Rattle.machine.specs.declared.Outcome.TheVariants.{Went, Missed, Overflowed, Refused}
use Rattle.machine.specs.declared.Reply.{Reply}
use Rattle.machine.specs.declared.Placed.{Placed}
use Rattle.machine.specs.declared.Placed.TheVariants as Alt

-- what a reply says, in document 01's words
pub data Said : Type 0 where
  -- "the new state"
  went : State → Said
  -- "a miss (the first position at fault in the new queue)"
  missed : State → ℕ → Said
  -- "an overflow (the state then stays as before the edge)"
  overflow : State → Said
  -- a refusal's number and place, with the state as it was given
  refused : ℕ → ℕ → State → Said

-- each case of the answer, by document 01's number and values
abbrev pub said_by : Outcome → State → Said
said_by Went s = went s
said_by (Missed k) s = missed s k
said_by Overflowed s = overflow s
said_by (Refused r) s = refused (number_of r) 0 s

abbrev pub said : Reply → Said
said r = said_by r.outcome r.state

-- without refusal 14, "a tick would take a clock above 32,000 (plain machine only)": no clock is above it after the step
abbrev pub within_end : M.State → Event → Bool
within_end x tick = every (λ (c : ℕ). leb c clock_most) (map suc x.clocks)
within_end x (edge k) = true

-- what a step that is neither refused nor without a state comes to
abbrev pub told : State → S.Outcome → Said
told s (S.went x) = went (held x)
told s (S.missed x k) = missed (held x) k
told s S.overflow = overflow s
told s S.refused = refused not_allowed 0 s

-- the step of a state that may be lent: 12, then 14, then what the machine does
abbrev pub answered : Model → State → Event → Said
answered m s ev =
    pick (allowed m (state_of m s) ev)
    (pick (within_end (state_of m s) ev) (told s (act m (state_of m s) ev)) (refused clock_end 0 s))
    (refused not_allowed 0 s)

-- the table is one that a text gives, and the state may be lent with it
pub record UsableState (t : List ℕ) (s : State) : Type 0 where
  pub given : Given t
  pub lendable : Lendable (decode t) s

-- what a step promises: 13 before all else
pub record Stepped (t : List ℕ) (s : State) (ev : Event) (r : Reply) : Type 0 where
  pub unusable : (UsableState t s → ⊥) → said r ≡ refused not_proper 0 s
  pub usable : UsableState t s → said r ≡ answered (decode t) s ev

-- a state of nothing
abbrev pub no_state : State
no_state = record { location = 0; clocks = replicate 4 0; jobs = replicate 6 no_job; count = 0 }

-- what the start promises
pub record Started (t : List ℕ) (r : Reply) : Type 0 where
  pub unusable : (Given t → ⊥) → said r ≡ refused not_proper 0 no_state
  pub usable : Given t → said r ≡ went (held (start (decode t)))

-- ---- "A caller may lend a list of jobs and ask for the first place a new job takes in it"

-- the answer, in document 01's words
pub data PlaceSaid : Type 0 where
  -- the position that the new job takes
  at : ℕ → PlaceSaid
  -- "if its task is there already the reply is overflow"
  full : PlaceSaid
  -- a refusal's number and place
  refused_place : ℕ → ℕ → PlaceSaid

-- a place, or an overflow
abbrev pub placed_said : Placed → PlaceSaid
placed_said (Alt.At k) = at k
placed_said Alt.Overflowed = full

-- each case of the answer, by document 01's number and values
abbrev pub place_said : Result Placed Reason → PlaceSaid
place_said (Ok p) = placed_said p
place_said (Err r) = refused_place (number_of r) 0

-- the task is one of the model, and the list is a proper queue
pub record Listed (m : Model) (n : ℕ) (q : List M.Job) : Type 0 where
  pub low : 1 ≤ n
  pub high : n ≤ length m.tasks
  pub jobs : (j : M.Job) → Memᴰ j q → ProperJob m j
  pub fit : fits m (order q) ≡ true

-- what `place` promises of the lent list js and a new job of task n: 13, then overflow, then the position
pub record Placing (t : List ℕ) (js : List Job) (n : ℕ) (r : Result Placed Reason) : Type 0 where
  pub unusable : (Given t → Listed (decode t) n (map job_of js) → ⊥) → place_said r ≡ refused_place not_proper 0
  pub usable : Given t → Listed (decode t) n (map job_of js)
      → place_said r ≡ pick (overflows (decode t) n (order (map job_of js))) full (at (suc (place_of (decode t) n (map job_of js))))
