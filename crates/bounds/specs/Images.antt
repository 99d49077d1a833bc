-- New variables for old: new variable a is the old variable p a with off a added.
-- Assumes nothing.
use Rattle.std.specs.Prelude.{◌≡◌, List, ℕ, ◌+◌, ◌<◌, ◌≤◌, ℤ, pos, get_or}
use Rattle.meaning.specs.Numbers.{over, under}
use Rattle.bounds.specs.Matrix.{ent, at, Sol, Closed, Size}

-- what stands at index a of a list of naturals
abbrev pub var : List ℕ → ℕ → ℕ
var p a = get_or p a 0

-- y is the image of x, in the first n variables
abbrev pub Image : ℕ → (ℕ → ℕ) → (ℕ → ℤ) → (ℕ → ℕ) → (ℕ → ℕ) → Type 0
Image n p off x y = (a : ℕ) → a < n → y a + under (off a) ≡ x (p a) + over (off a)

-- p and off take the solutions of d, of n₀ variables, to values of n variables: variable 0 stays, and no value falls below 0
pub record Map (d : ℕ → ℕ → ℤ) (n₀ n : ℕ) (p : ℕ → ℕ) (off : ℕ → ℤ) : Type 0 where
  pub some : 0 < n
  pub into : (a : ℕ) → a < n → p a < n₀
  pub zero : p 0 ≡ 0
  pub still : off 0 ≡ pos 0
  pub stays : (x : ℕ → ℕ) → Sol d n₀ x → (a : ℕ) → a < n → under (off a) ≤ x (p a) + over (off a)

-- m is closed over some variables, and p and off, as they are stored, take its solutions to values of n variables; every sum is in range
pub record Maps (m : List ℤ) (n : ℕ) (p : List ℕ) (off : List ℤ) : Type 0 where
  pub n₀ : ℕ
  pub few : n₀ ≤ 17
  pub closed : Closed (at m) n₀
  pub map : Map (at m) n₀ n (var p) (ent off)
  pub size : (a : ℕ) → a < n → Size (ent off a) 100000000
