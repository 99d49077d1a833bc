-- What the functions of single kinds ask and give.
-- Assumes nothing.
use Rattle.std.specs.Prelude.{◌≡◌, List, ℕ, ◌-◌, ◌<◌, ℤ, pos, ◌+ℤ◌, Some}
use Rattle.meaning.specs.Model.{Model}
use Rattle.meaning.specs.Zones.Zone.{Zone}
use Rattle.meaning.specs.Zones.Steps.{Step}
use Rattle.meaning.specs.Text.Ranges.{bound_most}
use Rattle.meaning.specs.Text.Lines.{lowered_by}
use Rattle.bounds.specs.Claims.{cell, Cells}
use Rattle.step_reach.specs.declared.plan.Plan.{Plan}
use Rattle.shown.specs.Drawn.{Drawn, ApartBy, SmallestApart, FirstLate}
use Rattle.verdict.specs.declared.answer.Fault.TheVariants.{Breaks}
use Rattle.verdict.specs.declared.answer.Found.{Found}

-- position `late` is the first late one of some zone's step
pub record LateBy (m : Model) (t : List ℤ) (p : Plan) (late : ℕ) : Type 0 where
  pub zone : Zone
  pub step : Step
  pub drawn : Drawn m zone step t p
  pub first : FirstLate m zone step (Some late)

-- the least number that breaks the bound that a cell holds
abbrev pub above : List ℕ → ℕ → ℕ → ℕ → ℤ
above u start i j = lowered_by bound_most (cell u start i j - 1) +ℤ pos 1

-- some state breaks the bound between i and j of those that stand in the table u from `start` on
pub record BrokenBy (m : Model) (u : List ℕ) (t : List ℤ) (p : Plan) (start i j : ℕ) : Type 0 where
  pub cells : Cells u start
  pub row : i < p.variables
  pub column : j < p.variables
  pub there : 0 < cell u start i j
  pub apart : ApartBy m t p i j (above u start i j)

-- r names the bound, with the smallest state that breaks it
pub record BrokenIs (m : Model) (u : List ℕ) (z : Zone) (st : Step) (start i j : ℕ) (r : Found) : Type 0 where
  pub fault : r.fault ≡ Breaks i j
  pub state : SmallestApart m z st i j (above u start i j) r.state
