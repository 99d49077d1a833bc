-- A matrix of bounds as it is stored, its solutions, and when it is closed.
-- Assumes nothing.
use Rattle.std.specs.Prelude.{◌≡◌, List, ◌⊎◌, ℕ, ◌+◌, ◌*◌, ◌/◌, ◌%◌, ◌<◌, ◌≤◌, ℤ, pos, get_or}
use Rattle.meaning.specs.Numbers.{over, under}

-- what stands at index k
abbrev pub ent : List ℤ → ℕ → ℤ
ent m k = get_or m k (pos 0)

-- entry (a, b), the bound on variable a minus variable b, stands at a * 17 + b
abbrev pub at : List ℤ → ℕ → ℕ → ℤ
at m a b = ent m (a * 17 + b)

-- index k lies outside the rows and columns of the first n variables
abbrev pub Outside : ℕ → ℕ → Type 0
Outside n k = (n ≤ k / 17) ⊎ (n ≤ k % 17)

-- "no bound"
abbrev pub none : ℤ
none = pos 1000000000

-- z is a bound
abbrev pub Finite : ℤ → Type 0
Finite z = over z < 1000000000 + under z

-- z is a bound or "no bound"
abbrev pub Stored : ℤ → Type 0
Stored z = over z ≤ 1000000000 + under z

-- z is at most B in size
pub record Size (z : ℤ) (B : ℕ) : Type 0 where
  pub high : over z ≤ B + under z
  pub low : under z ≤ B + over z

-- z is "no bound", or a bound that leaves room for a sum of three
pub record Entry (z : ℤ) : Type 0 where
  pub most : Stored z
  pub high : Finite z → over z ≤ 300000000 + under z
  pub low : under z ≤ 300000000 + over z

-- every entry is one
abbrev pub Entries : List ℤ → Type 0
Entries m = (k : ℕ) → k < 289 → Entry (ent m k)

-- x meets "variable i minus variable j is at most c"
abbrev pub Meets : ℕ → ℕ → ℤ → (ℕ → ℕ) → Type 0
Meets i j c x = x i + under c ≤ x j + over c

-- x is a solution: it meets every bound between the first n variables, and variable 0 is 0
pub record Sol (d : ℕ → ℕ → ℤ) (n : ℕ) (x : ℕ → ℕ) : Type 0 where
  pub zero : x 0 ≡ 0
  pub holds : (a b : ℕ) → a < n → b < n → Finite (d a b) → Meets a b (d a b) x

-- what follows from two bounds together stands there already, a variable minus itself is 0, and 0 minus a variable is at most 0
pub record Closed (d : ℕ → ℕ → ℤ) (n : ℕ) : Type 0 where
  pub some : 0 < n
  pub diag : (a : ℕ) → a < n → over (d a a) ≡ under (d a a)
  pub tri : (a k b : ℕ) → a < n → k < n → b < n → Finite (d a k) → Finite (d k b)
      → Finite (d a b) × (over (d a b) + under (d a k) + under (d k b) ≤ over (d a k) + over (d k b) + under (d a b))
  pub row : (b : ℕ) → b < n → over (d 0 b) ≤ under (d 0 b)
