-- Laws of choices and tests: one case after the other.
-- Assumes nothing.
use Prim.Native.Nat.{◌<◌, ◌≤◌, ℕ}
use mathlib.Core.Bool.{Bool, ◌&&◌, ◌||◌, false, true}
use mathlib.Core.Path.{◌≡◌, refl}
use native.Mathlib.Omega.{arith}
use lib.Dec.{eqb, ltb}
use borrow.Author.Tests.{eqb-false, eqb-true, ltb-false, ltb-true}
use Rattle.meaning.specs.Text.Choice.{pick}

-- nothing follows from 0 being 1: what a clash of constructors comes to
pub nonsense {ℓ} : {X : Type ℓ} → ◌≡◌ {A = ℕ} 0 1 → X
nonsense z = absurd (omega arith)

-- an equation of a choice, by its test
pub by_pick {ℓ κ} : {X : Type ℓ} {P : Type κ} (t : Bool) (x y z : X) → pick t x y ≡ z → (t ≡ true → x ≡ z → P) → (t ≡ false → y ≡ z → P) → P
by_pick true x y z e f g = f refl e
by_pick false x y z e f g = g refl e

-- a test, with what it says
pub by_lt {ℓ} : {X : Type ℓ} (a b : ℕ) → (a < b → X) → (b ≤ a → X) → X
by_lt {X = X} a b f g = go (ltb a b) refl
  where
    go : (t : Bool) → ltb a b ≡ t → X
    go true e = f (ltb-true a b e)
    go false e = g (ltb-false a b e)

-- the same for equality
pub by_eq {ℓ} : {X : Type ℓ} (a b : ℕ) → (a ≡ b → X) → ((a ≡ b → ⊥) → X) → X
by_eq {X = X} a b f g = go (eqb a b) refl
  where
    go : (t : Bool) → eqb a b ≡ t → X
    go true e = f (eqb-true a b e)
    go false e = g (eqb-false a b e)

-- both, and neither
pub and_true : (a b : Bool) → a && b ≡ true → (a ≡ true) × (b ≡ true)
and_true true b e = (refl, e)
and_true false b e = nonsense (cc)

pub or_false : (a b : Bool) → a || b ≡ false → (a ≡ false) × (b ≡ false)
or_false true b e = nonsense (cc)
or_false false b e = (refl, e)
