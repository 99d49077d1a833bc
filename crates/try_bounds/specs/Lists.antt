-- A list of bounds, and the matrix that they make.
-- Assumes nothing.
use Rattle.std.specs.Prelude.{List, ℕ, ◌+◌, ◌<◌, ◌≤◌, ℤ, pos, length, get_or}
use Rattle.bounds.specs.Matrix.{at, Meets, Sol, Size}
use Rattle.bounds.specs.Range.{Ready}
use Rattle.try_bounds.specs.declared.Bound.{Bound}

-- bound t of a list
abbrev pub bound_at : List Bound → ℕ → Bound
bound_at list t = get_or list t (record { i = 0; j = 0; c = pos 0 })

-- b is a bound between two of n variables
pub record IsBound (n : ℕ) (b : Bound) : Type 0 where
  pub row : b.i < n
  pub column : b.j < n
  pub size : Size b.c 640002

-- they all are
pub record Listed (n : ℕ) (list : List Bound) : Type 0 where
  pub some : 0 < n
  pub few : n ≤ 17
  pub each : (t : ℕ) → t < length list → IsBound n (bound_at list t)

-- every solution of m meets the first k
pub record MadeTo (n : ℕ) (list : List Bound) (k : ℕ) (m : List ℤ) : Type 0 where
  pub ready : Ready m n n 640002
  pub meets : (x : ℕ → ℕ) → Sol (at m) n x → (t : ℕ) → t < k → let b = bound_at list t in Meets b.i b.j b.c x

-- m is their matrix: every solution meets them
abbrev pub Made : ℕ → List Bound → List ℤ → Type 0
Made n list m = MadeTo n list (length list) m

-- m is the matrix of one clock and two jobs: the head's running sum is at least 1, and the second's is no less
pub record TwoJobs (m : List ℤ) : Type 0 where
  pub ready : Ready m 6 6 640002
  pub reaches : (x : ℕ → ℕ) → Sol (at m) 6 x → 2 ≤ x 2 + 1
  pub rising : (x : ℕ → ℕ) → Sol (at m) 6 x → x 2 ≤ x 4
