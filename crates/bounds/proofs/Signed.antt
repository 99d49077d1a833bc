-- The bridge from i32 to arithmetic: z is over z − under z, two naturals of which one is 0. A law has no condition where it can, so that a list of them is all that `omega` wants.
-- Assumes nothing.
use mathlib.Core.Path.{◌≡◌, refl, sym, subst}
use mathlib.Core.Bool.{Bool, true, false, not}
use Prim.Native.Nat.{◌+◌, ◌^◌, ◌<◌, ◌≤◌}
use native.Mathlib.Omega.{arith}
use lib.Dec.{T, ltb→lt, nltb→le, leb→le, nleb→lt, le→leb}
use lib.IntN.{ℤ, pos, negsuc, neg_ℤ, ◌+ℤ◌, ◌-ℤ◌}
use lib.Signed.{◌≤ℤ◌, le_z, lt_z, mag, le_z_yes}
use mir.Syntax.{w32}
use mir.Val.{SFits, to_z, of_z}
use mir.Facts.{to_z-of_z}
use Rattle.meaning.specs.Numbers.{over, under}
use Rattle.meaning.proofs.Numbers.{sum_parts, over_neg, under_neg}

-- ---- the sum
pub sum_law : (a b : ℤ) → over (a +ℤ b) + under a + under b ≡ over a + over b + under (a +ℤ b)
sum_law a b = omega (arith, sum_parts a b)

pub diff_law : (a b : ℤ) → over (a -ℤ b) + under a + over b ≡ over a + under b + under (a -ℤ b)
diff_law a b = omega (arith, sum_law a (neg_ℤ b), over_neg b, under_neg b)

-- ---- the order: each is a rule for `omega`, `le_read` of a hypothesis and `le_make` of a goal
le_read' : (a b : ℤ) → T (le_z a b) → over a + under b ≤ over b + under a
le_read' (pos a) (pos b) t = omega (arith, leb→le a b t)
le_read' (pos a) (negsuc b) t = absurd t
le_read' (negsuc a) (pos b) t = omega arith
le_read' (negsuc a) (negsuc b) t = omega (arith, leb→le b a t)

pub le_read : {a b : ℤ} → a ≤ℤ b → over a + under b ≤ over b + under a
le_read {a} {b} h = le_read' a b h.le

le_make' : (a b : ℤ) → over a + under b ≤ over b + under a → T (le_z a b)
le_make' (pos a) (pos b) h = le→leb a b (omega arith)
le_make' (pos a) (negsuc b) h = absurd (omega arith)
le_make' (negsuc a) (pos b) h = tt
le_make' (negsuc a) (negsuc b) h = le→leb b a (omega arith)

pub le_make : {a b : ℤ} → over a + under b ≤ over b + under a → a ≤ℤ b
le_make {a} {b} h = le_z_yes (le_make' a b h)

-- a test, as a branch leaves it
lt_true' : (a b : ℤ) → T (lt_z a b) → over a + under b < over b + under a
lt_true' (pos a) (pos b) t = omega (arith, ltb→lt a b t)
lt_true' (pos a) (negsuc b) t = absurd t
lt_true' (negsuc a) (pos b) t = omega arith
lt_true' (negsuc a) (negsuc b) t = omega (arith, ltb→lt b a t)

lt_false' : (a b : ℤ) → T (not (lt_z a b)) → over b + under a ≤ over a + under b
lt_false' (pos a) (pos b) t = omega (arith, nltb→le a b t)
lt_false' (pos a) (negsuc b) t = omega arith
lt_false' (negsuc a) (pos b) t = absurd t
lt_false' (negsuc a) (negsuc b) t = omega (arith, nltb→le b a t)

pub lt_true : (a b : ℤ) → lt_z a b ≡ true → over a + under b < over b + under a
lt_true a b e = lt_true' a b (subst T (sym e) tt)

pub lt_false : (a b : ℤ) → lt_z a b ≡ false → over b + under a ≤ over a + under b
lt_false a b e = lt_false' a b (subst (λ (t : Bool). T (not t)) (sym e) tt)

le_z_false' : (a b : ℤ) → T (not (le_z a b)) → over b + under a < over a + under b
le_z_false' (pos a) (pos b) t = omega (arith, nleb→lt a b t)
le_z_false' (pos a) (negsuc b) t = omega arith
le_z_false' (negsuc a) (pos b) t = absurd t
le_z_false' (negsuc a) (negsuc b) t = omega (arith, nleb→lt b a t)

pub le_true : (a b : ℤ) → le_z a b ≡ true → over a + under b ≤ over b + under a
le_true a b e = le_read' a b (subst T (sym e) tt)

pub le_false : (a b : ℤ) → le_z a b ≡ false → over b + under a < over a + under b
le_false a b e = le_z_false' a b (subst (λ (t : Bool). T (not t)) (sym e) tt)

-- ---- equality
pub eq_read : {a b : ℤ} → a ≡ b → over a + under b ≡ over b + under a
eq_read {a} {b} e = subst (λ (z : ℤ). over a + under z ≡ over z + under a) e refl

-- ---- the range of an i32
below' : (z : ℤ) → mag z < 2 ^ 31 → (over z < 2 ^ 31) × (under z ≤ 2 ^ 31)
below' (pos n) h = omega arith
below' (negsuc n) h = omega arith

pub fits_over : {z : ℤ} → SFits w32 z → over z < 2 ^ 31
fits_over {z} f = (below' z f.sfits).0

pub fits_under : {z : ℤ} → SFits w32 z → under z ≤ 2 ^ 31
fits_under {z} f = (below' z f.sfits).1

within' : (z : ℤ) → over z < 2 ^ 31 + under z → under z ≤ 2 ^ 31 + over z → mag z < 2 ^ 31
within' (pos n) h k = omega arith
within' (negsuc n) h k = omega arith

pub fits_make : {z : ℤ} → over z < 2 ^ 31 + under z → under z ≤ 2 ^ 31 + over z → SFits w32 z
fits_make {z} h k = record { sfits = within' z h k }

-- what the machine reads back from the bits of z
abbrev pub rd : ℤ → ℤ
rd z = to_z w32 (of_z w32 z)

pub back : (z : ℤ) → SFits w32 z → rd z ≡ z
back z f = to_z-of_z f

-- facts for `omega`'s list: of a number that fits, and of the sum of two that fit, as the machine makes them
pub at : {z : ℤ} → SFits w32 z → over (rd z) + under z ≡ over z + under (rd z)
at {z} f = eq_read (back z f)

pub sum_at : {a b : ℤ} → SFits w32 a → SFits w32 b → over (rd a +ℤ rd b) + under a + under b ≡ over a + over b + under (rd a +ℤ rd b)
sum_at {a} {b} f g = omega (arith, at f, at g, sum_law (rd a) (rd b))

pub diff_at : {a b : ℤ} → SFits w32 a → SFits w32 b → over (rd a -ℤ rd b) + under a + over b ≡ over a + under b + under (rd a -ℤ rd b)
diff_at {a} {b} f g = omega (arith, at f, at g, diff_law (rd a) (rd b))

-- that the machine's sum fits, from bounds on the two
pub sum_fits : {a b : ℤ} → SFits w32 a → SFits w32 b → over a + over b < 2 ^ 31 + under a + under b → under a + under b ≤ 2 ^ 31 + over a + over b → SFits w32 (rd a +ℤ rd b)
sum_fits f g h k = fits_make (omega (arith, sum_at f g)) (omega (arith, sum_at f g))

pub diff_fits : {a b : ℤ} → SFits w32 a → SFits w32 b → over a + under b < 2 ^ 31 + under a + over b → under a + over b ≤ 2 ^ 31 + over a + under b → SFits w32 (rd a -ℤ rd b)
diff_fits f g h k = fits_make (omega (arith, diff_at f g)) (omega (arith, diff_at f g))

pub ruleset signed = (arith, le_read, lt_true, lt_false, le_true, le_false, le_make)
