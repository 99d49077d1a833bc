-- The tightest bounds of a set of states, and what a zone's step replies.
-- Assumes nothing.
use Rattle.std.specs.Prelude.{◌≡◌, ◌⊎◌, Bool, true, false, ℕ, ◌+◌, ◌≤◌, ◌<◌, ℤ, pos, neg_ℤ}
use Rattle.std.proofs.Math.Option.{Option, none, some}
use Rattle.meaning.specs.Numbers.{within}
use Rattle.meaning.specs.Model.{Model}
use Rattle.meaning.specs.Machine.State.{State}
use Rattle.meaning.specs.Zones.Variables.{var, variables}
use Rattle.meaning.specs.Zones.Zone.{Zone}
use Rattle.meaning.specs.Zones.Steps.{Step}
use Rattle.meaning.specs.Zones.Reached.{Home, home_of_zone, home_after, Shown}

-- "the tightest bounds over all reached states": c bounds variable i minus variable j in every state of S, and one state reaches it
pub record Tightest (S : State → Type 0) (i j : ℕ) (c : ℤ) : Type 0 where
  pub bounds : (s : State) → S s → within (var s i) (var s j) c ≡ true
  pub at : State
  pub is : S at
  pub reaches : within (var at j) (var at i) (neg_ℤ c) ≡ true

-- there is no bound: above every number lies some state of S
pub record Unbounded (S : State → Type 0) (i j : ℕ) : Type 0 where
  pub at : (k : ℕ) → (s : State) × S s × (var s j + k < var s i)

-- the entry (i, j) of a reply: the tightest bound, or no bound
abbrev pub Entry : (State → Type 0) → ℕ → ℕ → Option ℤ → Type 0
Entry S i j none = Unbounded S i j
Entry S i j (some c) = Tightest S i j c

-- "A zone's step gives the location and queue order after it and the tightest bounds"; whether it is empty: no state takes it
pub record Reply : Type 0 where
  pub home : Home
  pub empty : Bool
  pub entry : ℕ → ℕ → Option ℤ

-- "if there are none, it says so with all bounds 0"; entries of variables that the zone doesn't have are 0
pub record RightReply (m : Model) (z : Zone) (st : Step) (r : Reply) : Type 0 where
  pub home : r.home ≡ home_after m (home_of_zone z) st
  pub none_shown : r.empty ≡ true → (t : State) → Shown m z st t → ⊥
  pub zeros : r.empty ≡ true → (i j : ℕ) → r.entry i j ≡ some (pos 0)
  pub tightest : r.empty ≡ false → (i j : ℕ) → i < variables m r.home.order → j < variables m r.home.order
      → Entry (Shown m z st) i j (r.entry i j)
  pub beyond : r.empty ≡ false → (i j : ℕ) → (variables m r.home.order ≤ i) ⊎ (variables m r.home.order ≤ j)
      → r.entry i j ≡ some (pos 0)
