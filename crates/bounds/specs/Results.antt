-- What the operations give, said of the solutions.
-- Assumes nothing.
use Rattle.std.specs.Prelude.{◌≡◌, List, ℕ, ◌<◌, ◌≤◌, ℤ, pos, Option, None, Some}
use Rattle.bounds.specs.Matrix.{ent, at, Outside, Stored, Entry, Entries, Meets, Sol, Closed}
use Rattle.bounds.specs.Images.{var, Image}
use Rattle.bounds.specs.Claims.{Breaks, Before}
use Rattle.bounds.specs.declared.broken.Broken.{Broken}

-- `get`: the bound on variable a minus variable b
pub record Got (m : List ℤ) (a b : ℕ) (r : ℤ) : Type 0 where
  pub is : r ≡ at m a b
  pub entry : Entries m → Entry r

-- `top`: nothing is known but that every variable is at least 0
pub record Widest (r : List ℤ) : Type 0 where
  pub entries : Entries r
  pub closed : Closed (at r) 17
  pub all : (x : ℕ → ℕ) → x 0 ≡ 0 → Sol (at r) 17 x

-- the solutions of r are those of m that meet the bound, and there is one
pub record Exact (m : List ℤ) (n i j : ℕ) (c : ℤ) (r : List ℤ) : Type 0 where
  pub closed : Closed (at r) n
  pub stored : (a b : ℕ) → a < n → b < n → Stored (at r a b)
  pub sound : (x : ℕ → ℕ) → Sol (at r) n x → Sol (at m) n x × Meets i j c x
  pub whole : (x : ℕ → ℕ) → Sol (at m) n x → Meets i j c x → Sol (at r) n x
  pub some : (x : ℕ → ℕ) × Sol (at r) n x
  pub outside : (k : ℕ) → Outside n k → ent r k ≡ ent m k

-- `tighten`: no solution meets the bound; or the solutions that do
abbrev pub Tightened : List ℤ → ℕ → ℕ → ℕ → ℤ → Option (List ℤ) → Type 0
Tightened m n i j c None = (x : ℕ → ℕ) → Sol (at m) n x → Meets i j c x → ⊥
Tightened m n i j c (Some r) = Exact m n i j c r

-- `remap`: the solutions of r, of n variables, are the images of those of m, of n₀ variables
pub record Remapped (m : List ℤ) (n₀ n : ℕ) (p : List ℕ) (off r : List ℤ) : Type 0 where
  pub closed : Closed (at r) n
  pub stored : (a b : ℕ) → a < n → b < n → Stored (at r a b)
  pub to : (x y : ℕ → ℕ) → Sol (at m) n₀ x → Image n (var p) (ent off) x y → Sol (at r) n y
  pub from : (y : ℕ → ℕ) → Sol (at r) n y → (x : ℕ → ℕ) × Sol (at m) n₀ x × Image n (var p) (ent off) x y
  pub outside : (k : ℕ) → Outside n k → ent r k ≡ pos 0

-- `least`: the solution that is smallest in every variable at once
pub record Smallest (m : List ℤ) (n : ℕ) (r : List ℕ) : Type 0 where
  pub sol : Sol (at m) n (var r)
  pub least : (x : ℕ → ℕ) → Sol (at m) n x → (k : ℕ) → k < n → var r k ≤ x k
  pub outside : (k : ℕ) → n ≤ k → var r k ≡ 0

-- the image of no solution of m breaks the bound claimed at (a, b)
abbrev pub Met : List ℤ → ℕ → ℕ → List ℕ → List ℤ → List ℕ → ℕ → ℕ → ℕ → Type 0
Met m n₀ n p off claims start a b = (x y : ℕ → ℕ) → Sol (at m) n₀ x → Image n (var p) (ent off) x y → Breaks claims start a b y → ⊥

-- the image of some solution does
pub record BrokenBy (m : List ℤ) (n₀ n : ℕ) (p : List ℕ) (off : List ℤ) (claims : List ℕ) (start a b : ℕ) : Type 0 where
  pub x : ℕ → ℕ
  pub y : ℕ → ℕ
  pub sol : Sol (at m) n₀ x
  pub image : Image n (var p) (ent off) x y
  pub breaks : Breaks claims start a b y

-- (i, j) is the first claimed bound, row by row, that is broken
pub record FirstAt (m : List ℤ) (n₀ n : ℕ) (p : List ℕ) (off : List ℤ) (claims : List ℕ) (start i j : ℕ) : Type 0 where
  pub inside : (i < n) × (j < n)
  pub here : BrokenBy m n₀ n p off claims start i j
  pub first : (a b : ℕ) → a < n → b < n → Before a b i j → Met m n₀ n p off claims start a b

-- `first_broken`: the first claimed bound, row by row, that is broken; or none is
abbrev pub FirstBroken : List ℤ → ℕ → ℕ → List ℕ → List ℤ → List ℕ → ℕ → Option Broken → Type 0
FirstBroken m n₀ n p off claims start None = (a b : ℕ) → a < n → b < n → Met m n₀ n p off claims start a b
FirstBroken m n₀ n p off claims start (Some w) = FirstAt m n₀ n p off claims start w.i w.j
