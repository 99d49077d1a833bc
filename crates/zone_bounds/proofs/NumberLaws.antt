-- Laws of differences: what the machine makes of them, and their size.
-- Assumes nothing.
use mathlib.Core.Path.{◌≡◌, ◌∙◌, ap}
use Prim.Native.Nat.{ℕ, ◌≤◌}
use native.Mathlib.Omega.{arith}
use lib.IntN.{ℤ, sub_ℕ}
use mir.Syntax.{w32}
use mir.Val.{SFits}
use Rattle.meaning.proofs.Numbers.{sub_size}
use Rattle.bounds.specs.Matrix.{Size}
use Rattle.bounds.proofs.Signed.{rd, back, fits_make}
use Rattle.zone_bounds.specs.Narrowed.{bound_size}

pub sub_sized : (a b : ℕ) → a ≤ 400000 → b ≤ 400000 → Size (sub_ℕ a b) 400000
sub_sized a b h k = let s = sub_size a b in record { high = omega arith; low = omega arith }

pub size_more : (c : ℤ) → Size c 400000 → Size c bound_size
size_more c s = record { high = omega (arith, s.high); low = omega (arith, s.low) }

pub sub_small : (a b : ℕ) → a ≤ 400000 → b ≤ 400000 → Size (sub_ℕ a b) bound_size
sub_small a b h k = size_more (sub_ℕ a b) (sub_sized a b h k)

-- what the machine reads back of a result
pub read : (z y : ℤ) → SFits w32 z → z ≡ y → rd z ≡ y
read z y f e = back z f ∙ e

-- and of a difference, the first of whose numbers is x
pub less_read : (z : ℤ) (a b x : ℕ) → SFits w32 z → z ≡ sub_ℕ a b → a ≡ x → rd z ≡ sub_ℕ x b
less_read z a b x f e q = read z (sub_ℕ x b) f (e ∙ ap (λ (n : ℕ). sub_ℕ n b) q)

-- a bound is read back as it is
pub size_fits : (c : ℤ) → Size c 400000 → SFits w32 c
size_fits c s = fits_make (omega (arith, s.high)) (omega (arith, s.low))

pub bound_fits : (c : ℤ) → Size c bound_size → SFits w32 c
bound_fits c s = fits_make (omega (arith, s.high)) (omega (arith, s.low))
