-- Laws of tests: what a `Bool` that is true or false says.
-- Assumes nothing.
use mathlib.Core.Path.{◌≡◌, refl, sym, ◌∙◌, ap}
use mathlib.Core.Bool.{Bool, true, false, not, ◌&&◌, ◌||◌, true≢false}
use Prim.Native.Nat.{ℕ, ◌≤◌, ◌<◌}
use native.Mathlib.Omega.{arith}
use native.Mathlib.Decide.{dec_le}
use lib.Dec.{leb}
use borrow.Author.Tests.{leb-true, leb-false, le-leb, lt-leb}

pub and_left : (a b : Bool) → (a && b) ≡ true → a ≡ true
and_left true b e = refl
and_left false b e = e

pub and_right : (a b : Bool) → (a && b) ≡ true → b ≡ true
and_right true b e = e
and_right false b e = absurd (true≢false (sym e))

pub and_both : (a b : Bool) → a ≡ true → b ≡ true → (a && b) ≡ true
and_both true b e h = h
and_both false b e h = e

pub or_left : (a b : Bool) → (a || b) ≡ false → a ≡ false
or_left true b e = e
or_left false b e = refl

pub or_right : (a b : Bool) → (a || b) ≡ false → b ≡ false
or_right true b e = absurd (true≢false e)
or_right false b e = e

pub not_of_false : {b : Bool} → b ≡ false → not b ≡ true
not_of_false e = ap not e

pub false_of_not : (b : Bool) → not b ≡ true → b ≡ false
false_of_not true e = sym e
false_of_not false e = refl

-- a test that is both true and false
pub never : {b : Bool} → b ≡ true → b ≡ false → ⊥
never e h = true≢false (sym e ∙ h)

-- two orders that say the same have the same test
pub leb_same : (a b c d : ℕ) → (a ≤ b → c ≤ d) → (c ≤ d → a ≤ b) → leb a b ≡ leb c d
leb_same a b c d f g = go (leb c d) refl
  where
    go : (x : Bool) → leb c d ≡ x → leb a b ≡ x
    go true e = le-leb a b (g (leb-true c d e))
    go false e = lt-leb a b (go2 (dec_le a b))
      where
        go2 : Dec (a ≤ b) → b < a
        go2 (yes h) = absurd (let k = f h in let r = leb-false c d e in omega arith)
        go2 (no h) = omega arith
