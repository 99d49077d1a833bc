-- A matrix that is narrowed by a list of bounds: its solutions are the valuations that meet them.
-- Assumes nothing.
use Rattle.std.specs.Prelude.{List, ◌++◌, ℕ, ℤ, Option, None, Some, IfSome}
use Rattle.meaning.specs.Model.{Bound}
use Rattle.meaning.specs.Inner.Smallest.{Solves, NoneMeet}
use Rattle.bounds.specs.Matrix.{at, Sol}
use Rattle.bounds.specs.Range.{Ready}

-- the size of a single bound: the largest of document 01's and of M-106's, and a deadline more
abbrev pub bound_size : ℕ
bound_size = 500000

-- a matrix is closed, and in range
abbrev pub Workable : List ℤ → Type 0
Workable m = Ready m 17 17 bound_size

-- the solutions of m are exactly the valuations, with variable 0 at 0, that meet the bounds
pub record MatrixOf (bs : List Bound) (m : List ℤ) : Type 0 where
  pub ready : Workable m
  pub solves : Solves (Sol (at m) 17) bs

-- a matrix has exactly the valuations that meet the bounds; there is none exactly if none does
abbrev pub Narrowed : List Bound → Option (List ℤ) → Type 0
Narrowed bs None = NoneMeet bs
Narrowed bs (Some m) = MatrixOf bs m

-- r is t with these bounds too
pub record Narrows (bs : List Bound) (t r : Option (List ℤ)) : Type 0 where
  pub usable : IfSome r Workable
  pub more : (cs : List Bound) → Narrowed cs t → Narrowed (cs ++ bs) r
