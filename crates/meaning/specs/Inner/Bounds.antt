-- Bounds over a valuation of the variables, and lists of bounds: met by a valuation, and among the first n variables.
-- Assumes nothing.
use Rattle.std.specs.Prelude.{Bool, true, false, List, [], ◌∷◌, ℕ, ◌+◌, ◌≤◌, ◌<◌, ℤ, negsuc}
use Rattle.meaning.specs.Numbers.{over, under}
use Rattle.meaning.specs.Model.{Bound}

-- "variable i minus variable j is at most c"
abbrev pub bound : ℕ → ℕ → ℤ → Bound
bound i j c = record { i = i; j = j; c = c }

-- the valuation x meets the bound
abbrev pub Meets : (ℕ → ℕ) → Bound → Type 0
Meets x b = x b.i + under b.c ≤ x b.j + over b.c

-- and every bound of a list
abbrev pub Met : (ℕ → ℕ) → List Bound → Type 0
Met x [] = Unit {0}
Met x (b ∷ bs) = Meets x b × Met x bs

-- variable i is at least c above variable j
abbrev pub Apart : (ℕ → ℕ) → ℕ → ℕ → ℤ → Type 0
Apart x i j c = x j + over c ≤ x i + under c

-- every bound speaks of the first n variables
abbrev pub Ranged : ℕ → List Bound → Type 0
Ranged n [] = Unit {0}
Ranged n (b ∷ bs) = (b.i < n) × (b.j < n) × Ranged n bs

-- the bound that nothing meets
abbrev pub impossible : Bound
impossible = bound 0 0 (negsuc 0)

-- a list that is met only where the test holds
abbrev pub only_if : Bool → List Bound → List Bound
only_if true bs = bs
only_if false bs = impossible ∷ []
