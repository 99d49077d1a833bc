-- Words for tables and for signed numbers.
-- Assumes nothing.
use Rattle.std.specs.Prelude.{List, [], ◌∷◌, ℕ, zero, suc, ℤ, ◌+ℤ◌, ◌-ℤ◌}

-- f k, f (k + 1), .., n of them
abbrev pub tab_from : {A : Type 0} → ℕ → (ℕ → A) → ℕ → List A
tab_from k f zero = []
tab_from k f (suc n) = f k ∷ tab_from (suc k) f n

-- c + a − b
abbrev pub shift : ℤ → ℤ → ℤ → ℤ
shift c a b = c +ℤ (a -ℤ b)
