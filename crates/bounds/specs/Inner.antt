-- What the inner functions give, entry by entry.
-- Assumes nothing.
use Rattle.std.specs.Prelude.{◌≡◌, List, ◌⊎◌, ◌≢◌, ℕ, ◌+◌, ◌<◌, ◌≤◌, ℤ, pos}
use Rattle.meaning.specs.Numbers.{over, under}
use Rattle.bounds.specs.Matrix.{ent, at, Outside, none, Finite}
use Rattle.bounds.specs.Claims.{bias}

-- z is the bound on variable a minus variable b where nothing is known
pub record Unknown (a b : ℕ) (z : ℤ) : Type 0 where
  pub row : a ≡ 0 → z ≡ pos 0
  pub diag : a ≡ b → z ≡ pos 0
  pub rest : a ≢ 0 → a ≢ b → z ≡ none

-- r is x, or it is y + c + z
abbrev pub Way : ℤ → ℤ → ℤ → ℤ → ℤ → Type 0
Way x y c z r = (r ≡ x) ⊎ (Finite r × Finite y × Finite z × (over r + under y + under c + under z ≡ over y + over c + over z + under r))

-- r is the least of x and y + c + z, where y and z are bounds
pub record Via (x y c z r : ℤ) : Type 0 where
  pub kept : over r + under x ≤ over x + under r
  pub short : Finite y → Finite z → Finite r × (over r + under y + under c + under z ≤ over y + over c + over z + under r)
  pub one : Way x y c z r

-- r is m with the way over the bound c on i minus j taken where it is shorter, among the first n variables
pub record Shortened (m : List ℤ) (n i j : ℕ) (c : ℤ) (r : List ℤ) : Type 0 where
  pub cells : (a b : ℕ) → a < n → b < n → Via (at m a b) (at m a i) c (at m j b) (at r a b)
  pub outside : (k : ℕ) → Outside n k → ent r k ≡ ent m k

-- r is the bound v on one variable minus another, after u was added to the first and w to the second
pub record Shift (v u w r : ℤ) : Type 0 where
  pub some : Finite v → Finite r × (over r + under v + under u + over w ≡ over v + over u + under w + under r)
  pub kept : (Finite v → ⊥) → r ≡ v

-- r is the claimed bound that the cell v holds
pub record Claimed (v : ℕ) (r : ℤ) : Type 0 where
  pub nothing : v ≡ 0 → r ≡ none
  pub bound : 0 < v → over r + bias ≡ v + under r
