-- A test that is true exactly where something holds.
-- Assumes nothing.
use Prim.Native.Nat.{ℕ, ◌≤◌}
use mathlib.Core.Path.{◌≡◌, refl, sym, ◌∙◌}
use mathlib.Core.Logic.{◌↔◌}
use mathlib.Core.Bool.{Bool, true, false, true≢false}
use lib.Dec.{leb}
use borrow.Author.Tests.{leb-true, le-leb}

pub yes : {P : Type 0} → P → (true ≡ true) ↔ P
yes p = (λ e. p, λ q. refl)

pub no : {P : Type 0} → (P → ⊥) → (false ≡ true) ↔ P
no f = (λ e. absurd (true≢false (sym e)), λ p. absurd (f p))

-- a test that fails
pub failed : {P : Type 0} (r : Bool) → r ≡ false → (P → ⊥) → (r ≡ true) ↔ P
failed r e f = rw e (no f)

-- what a test that fails rules out
pub ruled_out : {P : Type 0} (r : Bool) → (r ≡ true) ↔ P → r ≡ false → P → ⊥
ruled_out r d e p = true≢false (sym (d.1 p) ∙ e)

-- the same test of the same
pub same_test : {P Q : Type 0} (r : Bool) → (r ≡ true) ↔ P → (P → Q) → (Q → P) → (r ≡ true) ↔ Q
same_test r d f g = (λ e. f (d.0 e), λ q. d.1 (g q))

-- any two such tests coincide
pub test_once : {P : Type 0} (r s : Bool) → (r ≡ true) ↔ P → (s ≡ true) ↔ P → r ≡ s
test_once true s d e = sym (e.1 (d.0 refl))
test_once false true d e = d.1 (e.0 refl)
test_once false false d e = refl

pub at_most : (a b : ℕ) → (leb a b ≡ true) ↔ (a ≤ b)
at_most a b = (leb-true a b, le-leb a b)
