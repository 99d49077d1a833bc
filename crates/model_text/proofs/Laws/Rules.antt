-- Priorities that are used, task by task.
-- Assumes nothing.
use Prim.Native.Nat.{ℕ, zero, suc, ◌+◌, ◌-◌, ◌*◌, ◌<◌}
use mathlib.Core.Path.{◌≡◌, refl, ◌∙◌}
use mathlib.Core.List.{List}
use mathlib.Core.Bool.{Bool, true, false, ◌||◌}
use native.Mathlib.Omega.{arith}
use native.Mathlib.Numerals.{add-one}
use lib.Dec.{eqb}
use lib.ListN.{get_or}
use borrow.Author.Tests.{eq-eqb, ne_eqb}
use Rattle.meaning.specs.Text.ModelReader.{used}

used_step : (t : List ℕ) (p k : ℕ) (b : Bool) → eqb (get_or t (2 + 3 * k + 2) 0) (p + 1) ≡ b → used t p (k + 1) ≡ (used t p k || b)
unfolding used
used_step t p k b e = rw (add-one, e)

used_more : (t : List ℕ) (p k d : ℕ) → used t p k ≡ true → used t p (k + d) ≡ true
unfolding used
used_more t p k zero e = let z : k + 0 ≡ k = omega arith in rw z e
used_more t p k (suc d) e = let z : k + suc d ≡ suc (k + d) = omega arith in rw (z, used_more t p k d e)

or_true : (a : Bool) → (a || true) ≡ true
or_true true = refl
or_true false = refl

pub used_none : (t : List ℕ) (p : ℕ) → used t p 0 ≡ false
unfolding used
used_none t p = refl

-- not the priority of the next task either
pub used_not : (t : List ℕ) (p k : ℕ) → (get_or t (4 + 3 * k) 0 ≡ p + 1 → ⊥) → used t p k ≡ false → used t p (k + 1) ≡ false
used_not t p k n f =
    let z : 4 + 3 * k ≡ 2 + 3 * k + 2 = omega arith in
    used_step t p k false (ne_eqb _ _ (rw z at n)) ∙ rw f

-- the priority of one of six
pub used_there : (t : List ℕ) (p k : ℕ) → k < 6 → get_or t (4 + 3 * k) 0 ≡ p + 1 → used t p 6 ≡ true
used_there t p k h e =
    let z : 4 + 3 * k ≡ 2 + 3 * k + 2 = omega arith in
    let u : used t p (k + 1) ≡ true = used_step t p k true (eq-eqb _ _ (rw z at e)) ∙ or_true (used t p k) in
    let y : k + 1 + (5 - k) ≡ 6 = omega arith in
    rw y at (used_more t p (k + 1) (5 - k) u)

pub ruleset used_laws = (used_none, used_not, used_there)
