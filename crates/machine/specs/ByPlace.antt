-- What a walk over a lent list of jobs has found: for the inner functions' contracts, not for a reader to believe.
-- Assumes nothing.
use Rattle.std.specs.Prelude.{ℕ, suc, ◌≤◌, ◌≡◌, Bool, true, List, Result, take}
use Rattle.meaning.specs.Model.{Model}
use Rattle.meaning.specs.Machine.Place.{place_from, behind}
use Rattle.meaning.specs.Machine.Release.{overflows}
use Rattle.meaning.specs.Zones.Proper.{fits}
use Rattle.meaning.specs.Text.Choice.{pick}
use Rattle.meaning.specs.Text.ModelReader.{Given}
use Rattle.meaning.specs.Text.ModelTable.{tasks, decode}
use Rattle.meaning.specs.Text.Refusals.{not_proper}
use Rattle.refusals.specs.declared.Reason.{Reason}
use Rattle.machine.specs.Promise.{PlaceSaid, place_said, at, full, refused_place}
use Rattle.machine.specs.declared.Placed.{Placed}
use Rattle.machine.specs.declared.seen.Seen.{Seen}

-- the table is one that a text gives, and task n one of its model
pub record Known (t : List ℕ) (n : ℕ) : Type 0 where
  pub given : Given t
  pub low : 1 ≤ n
  pub high : n ≤ tasks t

-- what is said at the end of the walk of a list that is right
abbrev pub position_said : Model → ℕ → Seen → PlaceSaid
position_said m n s =
    pick (overflows m n (take s.count s.tasks)) full
    (at (suc (place_from (behind m n (take s.count s.tasks)) (λ (b : Bool). b) (take s.count s.beaten))))

-- the answer there, for a new job of task n
pub record Finished (t : List ℕ) (n : ℕ) (s : Seen) (r : Result Placed Reason) : Type 0 where
  pub unusable : (Known t n → fits (decode t) (take s.count s.tasks) ≡ true → ⊥) → place_said r ≡ refused_place not_proper 0
  pub usable : Known t n → fits (decode t) (take s.count s.tasks) ≡ true → place_said r ≡ position_said (decode t) n s
