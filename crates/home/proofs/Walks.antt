-- What a test shows, and what is left of a list.
-- Assumes nothing.
use Prim.Native.Nat.{ℕ, suc, ◌+◌, ◌<◌}
use mathlib.Core.Path.{◌≡◌, refl, sym, ◌∙◌, ap}
use mathlib.Core.Logic.{◌↔◌}
use mathlib.Core.Bool.{true, false, true≢false}
use mathlib.Core.List.{List, ◌∷◌}
use native.Mathlib.Numerals.{add-one}
use lib.ListN.{length, get_or, drop}
use lib.Seq.{drop-cons}

-- what a test shows of what it tests
pub is_so : {P : Type 0} → P → (true ≡ true) ↔ P
is_so p = (λ e. p, λ q. refl)

pub is_not : {P : Type 0} → (P → ⊥) → (false ≡ true) ↔ P
is_not f = (λ e. absurd (true≢false (sym e)), λ p. absurd (f p))

-- what is left of a list at i
pub rest_at : (l : List ℕ) (i x : ℕ) → i < length l → x ≡ get_or l i 0 → drop i l ≡ x ∷ drop (i + 1) l
rest_at l i x h e = drop-cons l i 0 h ∙ ap (λ (y : ℕ). y ∷ drop (suc i) l) (sym e) ∙ ap (λ (j : ℕ). x ∷ drop j l) (sym (add-one i))
