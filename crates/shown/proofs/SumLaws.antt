-- Laws of the bound between two variables as it stood before the step, as the machine sums it up.
-- Assumes nothing.
use mathlib.Core.Path.{◌≡◌}
use Prim.Native.Nat.{◌+◌}
use native.Mathlib.Omega.{arith}
use lib.IntN.{ℤ, neg_ℤ, ◌-ℤ◌}
use mir.Syntax.{w32}
use mir.Val.{SFits}
use Rattle.meaning.specs.Numbers.{over, under}
use Rattle.meaning.specs.Inner.Words.{shift}
use Rattle.meaning.proofs.Numbers.{shift_parts, over_neg, under_neg, parts_one}
use Rattle.bounds.specs.Matrix.{Size}
use Rattle.bounds.proofs.Signed.{rd, at, diff_law, fits_make}
use Rattle.zone_bounds.specs.Narrowed.{bound_size}

pub small_fits : (c : ℤ) → Size c 100000 → SFits w32 c
small_fits c s = fits_make (omega (arith, s.high)) (omega (arith, s.low))

-- ---- the bound before the step

-- a − b − c
module _ (a b c : ℤ) (sa : Size a 100000) (sb : Size b 100000) (sc : Size c 100000) where
  first_is : over (rd a -ℤ rd b) + under a + over b ≡ over a + under b + under (rd a -ℤ rd b)
  first_is = omega (arith, at (small_fits a sa), at (small_fits b sb), diff_law (rd a) (rd b))

  pub first_fits : SFits w32 (rd a -ℤ rd b)
  first_fits = fits_make (omega (arith, first_is, sa.high, sb.low)) (omega (arith, first_is, sa.low, sb.high))

  both_is : over (rd (rd a -ℤ rd b) -ℤ rd c) + under a + over b + over c ≡ over a + under b + under c + under (rd (rd a -ℤ rd b) -ℤ rd c)
  both_is = omega (arith, first_is, at first_fits, at (small_fits c sc), diff_law (rd (rd a -ℤ rd b)) (rd c))

  pub both_fits : SFits w32 (rd (rd a -ℤ rd b) -ℤ rd c)
  both_fits = fits_make (omega (arith, both_is, sa.high, sb.low, sc.low)) (omega (arith, both_is, sa.low, sb.high, sc.high))

  -- is "at least c apart" the other way round
  pub both_back : rd (rd (rd a -ℤ rd b) -ℤ rd c) ≡ neg_ℤ (shift c b a)
  both_back =
      parts_one (rd (rd (rd a -ℤ rd b) -ℤ rd c)) (neg_ℤ (shift c b a))
      (omega (arith, at both_fits, both_is, shift_parts c b a, over_neg (shift c b a), under_neg (shift c b a)))

  pub both_small : Size (neg_ℤ (shift c b a)) bound_size
  both_small =
      let e = shift_parts c b a in
      record {
        high = omega (arith, over_neg (shift c b a), under_neg (shift c b a), sa.high, sb.low, sc.low);
        low = omega (arith, over_neg (shift c b a), under_neg (shift c b a), sa.low, sb.high, sc.high);
      }
