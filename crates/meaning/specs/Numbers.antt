-- Signed numbers by their parts, and "x minus y is at most c".
-- Assumes nothing.
use Rattle.std.specs.Prelude.{Bool, ℕ, suc, ◌+◌, leb, ℤ, pos, negsuc}

-- "where the range goes below 0": a signed number is over − under, and one of the two is 0; how far it goes above 0
abbrev pub over : ℤ → ℕ
over (pos n) = n
over (negsuc n) = 0

-- how far the number goes below 0
abbrev pub under : ℤ → ℕ
under (pos n) = 0
under (negsuc n) = suc n

-- "variable i minus variable j is at most c", of the values x and y of the two variables
abbrev pub within : ℕ → ℕ → ℤ → Bool
within x y c = leb (x + under c) (y + over c)
