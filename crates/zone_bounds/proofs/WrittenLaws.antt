-- Laws of the bounds that are written in an array: which are, and their loop.
-- Assumes nothing.
use mathlib.Core.Path.{◌≡◌, refl, ap}
use mathlib.Core.Bool.{Bool, true, false, not}
use mathlib.Core.List.{List, [], ◌∷◌}
use Prim.Native.Nat.{ℕ, ◌+◌, ◌/◌, ◌%◌, ◌≤◌, ◌<◌}
use native.Mathlib.Omega.{arith}
use lib.IntN.{ℤ}
use borrow.Author.Tests.{ne_eqb}
use Rattle.std.specs.Prelude.{Option, Some}
use Rattle.meaning.specs.Numbers.{over, under}
use Rattle.meaning.specs.Model.{Bound}
use Rattle.meaning.specs.Text.ModelTable.{collect}
use Rattle.meaning.specs.Inner.Bounds.{bound}
use Rattle.bounds.specs.Matrix.{Size}
use Rattle.zone_bounds.specs.Narrowed.{bound_size, Workable, Narrows}
use Rattle.zone_bounds.specs.Entries.{is_bound, entry_in, bounds_in}
use Rattle.zone_bounds.proofs.LoopLaws.{table_first, table_next, table_same}

-- the bound at place k
abbrev pub written : List ℤ → ℕ → Bound
written l k = bound (k / 17) (k % 17) (entry_in l k)

-- those of the first k places
abbrev pub written_to : List ℤ → ℕ → List Bound
written_to l k = collect k (λ q. is_bound (entry_in l q)) (written l)

-- a bound is below "no bound"
pub is_below : (c : ℤ) → over c < 1000000000 + under c → is_bound c ≡ true
is_below c h = ap not (ne_eqb (over c) 1000000000 (λ e. absurd (top c e h)))
  where
    top : (c : ℤ) → over c ≡ 1000000000 → over c < 1000000000 + under c → ⊥
    top (lib.IntN.pos n) e h = omega arith
    top (lib.IntN.negsuc n) e h = omega arith

pub not_below : (c : ℤ) → (is_bound c ≡ true → Size c bound_size) → 1000000000 + under c ≤ over c → is_bound c ≡ false
not_below c s h = go (is_bound c) refl
  where
    go : (b : Bool) → is_bound c ≡ b → b ≡ false
    go true e = absurd (omega (arith, (s e).high))
    go false e = refl

module _ (l : List ℤ) where
  pub written_first : (m : List ℤ) → Workable m → Narrows (written_to l 0) (Some m) (Some m)
  written_first m u = table_first (λ (x : List Bound). x) (λ x. x ∷ []) refl (λ xs ys. refl) (λ x. refl) (λ q. is_bound (entry_in l q)) (written l) m u

  pub written_next : (k : ℕ) (m : List ℤ) (r s : Option (List ℤ)) → is_bound (entry_in l k) ≡ true → Narrows (written_to l k) (Some m) r → Narrows (written l k ∷ []) r s
      → Narrows (written_to l (k + 1)) (Some m) s
  written_next k m r s e a b =
      table_next (λ (x : List Bound). x) (λ x. x ∷ []) refl (λ xs ys. refl) (λ x. refl) (λ q. is_bound (entry_in l q)) (written l) k m r s e a b

  pub written_same : (k : ℕ) (m : List ℤ) (r : Option (List ℤ)) → is_bound (entry_in l k) ≡ false → Narrows (written_to l k) (Some m) r → Narrows (written_to l (k + 1)) (Some m) r
  written_same k m r e a =
      table_same (λ (x : List Bound). x) (λ x. x ∷ []) refl (λ xs ys. refl) (λ x. refl) (λ q. is_bound (entry_in l q)) (written l) k m r e a

pub written_all : (l m : List ℤ) (r : Option (List ℤ)) → Narrows (written_to l 289) (Some m) r → Narrows (bounds_in l) (Some m) r
unfolding bounds_in
written_all l m r a = a
