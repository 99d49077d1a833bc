-- Claimed bounds where they stand: 289 cells of a list, the first at `start`, row by row. A cell 0 says nothing; any other is the bound with `bias` added.
-- Assumes nothing.
use Rattle.std.specs.Prelude.{◌≡◌, List, ◌⊎◌, ℕ, ◌+◌, ◌-◌, ◌*◌, ◌<◌, ◌≤◌, length, get_or}

-- "from −32,000 to 32,000": the least bound is kept as 1
abbrev pub bias : ℕ
bias = 32001

-- the cell of the claimed bound on variable a minus variable b
abbrev pub cell : List ℕ → ℕ → ℕ → ℕ → ℕ
cell claims start a b = get_or claims (start + (a * 17 + b)) 0

-- y breaks it: y a minus y b is above the bound
pub record Breaks (claims : List ℕ) (start a b : ℕ) (y : ℕ → ℕ) : Type 0 where
  pub there : 0 < cell claims start a b
  pub above : y b + cell claims start a b < y a + bias

-- every cell is in the list, and no bound is above the greatest
pub record Cells (claims : List ℕ) (start : ℕ) : Type 0 where
  pub long : start + 289 ≤ length claims
  pub small : (q : ℕ) → q < 289 → get_or claims (start + q) 0 ≤ 2 * bias - 1

-- (a, b) comes before (i, j), row by row
abbrev pub Before : ℕ → ℕ → ℕ → ℕ → Type 0
Before a b i j = (a < i) ⊎ ((a ≡ i) × (b < j))
