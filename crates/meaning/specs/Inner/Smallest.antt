-- Sets of valuations made from a list of bounds, and the smallest state and valuation of a set.
-- Assumes nothing.
use Rattle.std.specs.Prelude.{◌≡◌, List, ℕ, ◌≤◌, ◌<◌, ℤ, pos, get_or}
use Rattle.meaning.specs.Model.{Bound, Model, task_at}
use Rattle.meaning.specs.Machine.State.{State}
use Rattle.meaning.specs.Zones.Zone.{Zone}
use Rattle.meaning.specs.Zones.Steps.{Step}
use Rattle.meaning.specs.Check.Faults.{Below}
use Rattle.meaning.specs.Inner.Words.{shift}
use Rattle.meaning.specs.Inner.Bounds.{Meets, Met, Apart}
use Rattle.meaning.specs.Inner.Slots.{age_at}
use Rattle.meaning.specs.Inner.Plans.{from, off}
use Rattle.meaning.specs.Inner.Sources.{plan_at, home_at}

-- ── solved ─────────────────────────────────────────────────────────────────────────────────────

-- S holds the valuations, with variable 0 at 0, that meet the bounds
pub record Solves (S : (ℕ → ℕ) → Type 0) (bs : List Bound) : Type 0 where
  pub origin : (x : ℕ → ℕ) → S x → x 0 ≡ 0
  pub sound : (x : ℕ → ℕ) → S x → Met x bs
  pub whole : (x : ℕ → ℕ) → x 0 ≡ 0 → Met x bs → S x

-- R is S with one more bound: what one tightening gives
pub record Tightens (S : (ℕ → ℕ) → Type 0) (b : Bound) (R : (ℕ → ℕ) → Type 0) : Type 0 where
  pub sound : (x : ℕ → ℕ) → R x → S x × Meets x b
  pub whole : (x : ℕ → ℕ) → S x → Meets x b → R x

-- nothing meets the bounds
abbrev pub NoneMeet : List Bound → Type 0
NoneMeet bs = (x : ℕ → ℕ) → x 0 ≡ 0 → Met x bs → ⊥

-- ── smallest ───────────────────────────────────────────────────────────────────────────────────

-- t is the smallest of the states of S
pub record Least (S : State → Type 0) (t : State) : Type 0 where
  pub is : S t
  pub least : (u : State) → S u → Below t u

-- x is the smallest of the valuations of S, in the first n variables
pub record Lowest (n : ℕ) (S : (ℕ → ℕ) → Type 0) (x : ℕ → ℕ) : Type 0 where
  pub is : S x
  pub least : (y : ℕ → ℕ) → S y → (i : ℕ) → i < n → x i ≤ y i

-- ── before the step ────────────────────────────────────────────────────────────────────────────

-- the variables from before of i and j are as far apart as c asks for after the step
abbrev pub ApartBefore : Model → Zone → Step → ℕ → ℕ → ℤ → (ℕ → ℕ) → Type 0
ApartBefore m z st i j c x =
    Apart x (from m (plan_at m z st) i) (from m (plan_at m z st) j) (shift c (off m (plan_at m z st) j) (off m (plan_at m z st) i))

-- the age of the job that is at position k + 1 after the step comes to its D
abbrev pub LateBefore : Model → Zone → Step → ℕ → (ℕ → ℕ) → Type 0
LateBefore m z st k x = ApartBefore m z st (age_at m k) 0 (pos (task_at m (get_or (home_at m z st).order k 0)).D) x
