-- The range of a matrix: from what bounds it comes. A function above that passes a matrix on says so of it by `Ready`.
-- Assumes nothing.
use Rattle.std.specs.Prelude.{◌≡◌, List, ℕ, ◌<◌, ◌≤◌, ℤ}
use Rattle.bounds.specs.Matrix.{at, Finite, Size, Entries, Sol, Closed}

-- d has the solutions of a raw matrix, closed or not, over N variables of which the first n are those of d, whose bounds are at most B in size
pub record From (d : ℕ → ℕ → ℤ) (n N B : ℕ) : Type 0 where
  pub raw : ℕ → ℕ → ℤ
  pub more : n ≤ N
  pub sized : (a b : ℕ) → a < N → b < N → Finite (raw a b) → Size (raw a b) B
  pub to : (x : ℕ → ℕ) → Sol raw N x → Sol d n x
  pub back : (x : ℕ → ℕ) → Sol d n x → (y : ℕ → ℕ) × Sol raw N y × ((a : ℕ) → a < n → y a ≡ x a)

-- m is closed, its entries leave room for a sum of three, and it comes from such bounds: it may be tightened, moved and read
pub record Ready (m : List ℤ) (n N B : ℕ) : Type 0 where
  pub entries : Entries m
  pub closed : Closed (at m) n
  pub from : From (at m) n N B
