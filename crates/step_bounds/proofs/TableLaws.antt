-- Laws of the loops over a location's limits and over an edge's guard.
-- Assumes nothing.
use mathlib.Core.Path.{◌≡◌, refl, ap, subst}
use mathlib.Core.List.{List, [], ◌∷◌, ◌++◌}
use Prim.Native.Nat.{ℕ, suc, ◌+◌, ◌-◌, ◌/◌, ◌%◌, ◌<◌}
use native.Mathlib.Omega.{arith}
use borrow.Author.Tests.{lt-ltb}
use lib.Dec.{ltb}
use lib.IntN.{ℤ, sub_ℕ}
use Rattle.std.specs.Prelude.{Option, Some}
use Rattle.meaning.specs.Model.{Limit, Bound, location_at}
use Rattle.model_table.specs.Right.{RightTable}
use Rattle.meaning.specs.Text.ModelTable.{collect, decode, lowered}
use Rattle.meaning.specs.Inner.Bounds.{bound}
use Rattle.meaning.specs.Inner.StepBounds.{limit_bounds}
use Rattle.model_table.specs.Parts.{limit_in, bound_in}
use Rattle.model_table.proofs.PartLaws.{limits_is}
use Rattle.zone_bounds.specs.Narrowed.{Workable, Narrows}
use Rattle.zone_bounds.proofs.LoopLaws.{table_first, table_next, table_same}

limits_more : (xs ys : List Limit) → limit_bounds (xs ++ ys) ≡ limit_bounds xs ++ limit_bounds ys
limits_more [] ys = refl
limits_more (x ∷ xs) ys = ap (λ (l : List Bound). limit_bounds (x ∷ []) ++ l) (limits_more xs ys)

-- the limits of the first x clocks
abbrev pub limits_to : List ℕ → ℕ → ℕ → List Limit
limits_to t l x = collect x (λ k. ltb 0 (limit_in t l (1 + k))) (λ k. record { clock = 1 + k; most = limit_in t l (1 + k) - 1 })

module _ (t : List ℕ) (l : ℕ) where
  pub limits_first : (a : List ℤ) → Workable a → Narrows (limit_bounds (limits_to t l 0)) (Some a) (Some a)
  limits_first a u =
      table_first limit_bounds (λ x. limit_bounds (x ∷ [])) refl limits_more (λ x. refl) (λ k. ltb 0 (limit_in t l (1 + k)))
      (λ k. record { clock = 1 + k; most = limit_in t l (1 + k) - 1 }) a u

  pub limits_next : (x k most : ℕ) (a : List ℤ) (r s : Option (List ℤ)) → k ≡ 1 + x → limit_in t l k ≡ suc most → Narrows (limit_bounds (limits_to t l x)) (Some a) r
      → Narrows (bound k 0 (sub_ℕ most 1) ∷ []) r s → Narrows (limit_bounds (limits_to t l (x + 1))) (Some a) s
  limits_next x k most a r s e h p q =
      let c : limit_in t l (1 + x) ≡ suc most = rw e at h in
      let m : limit_in t l (1 + x) - 1 ≡ most = omega (arith, c) in
      let o = lt-ltb 0 (limit_in t l (1 + x)) (omega (arith, c)) in
      table_next limit_bounds (λ x. limit_bounds (x ∷ [])) refl limits_more (λ x. refl) (λ k. ltb 0 (limit_in t l (1 + k)))
      (λ k. record { clock = 1 + k; most = limit_in t l (1 + k) - 1 }) x a r s o p (rw m (rw e at q))

  pub limits_same : (x k : ℕ) (a : List ℤ) (r : Option (List ℤ)) → k ≡ 1 + x → limit_in t l k ≡ 0 → Narrows (limit_bounds (limits_to t l x)) (Some a) r
      → Narrows (limit_bounds (limits_to t l (x + 1))) (Some a) r
  limits_same x k a r e h p =
      let c : limit_in t l (1 + x) ≡ 0 = rw e at h in
      table_same limit_bounds (λ x. limit_bounds (x ∷ [])) refl limits_more (λ x. refl) (λ k. ltb 0 (limit_in t l (1 + k)))
      (λ k. record { clock = 1 + k; most = limit_in t l (1 + k) - 1 }) x a r (rw c refl) p

  pub limits_all : RightTable t → (a : List ℤ) (r : Option (List ℤ)) → Narrows (limit_bounds (limits_to t l 4)) (Some a) r → Narrows (limit_bounds (location_at (decode t) l).limits) (Some a) r
  limits_all g a r p = subst (λ (y : List Limit). Narrows (limit_bounds y) (Some a) r) (limits_is t g l) p

-- the bound of cell x of an edge's guard, and those of the first x
abbrev pub guard_bound : List ℕ → ℕ → ℕ → Bound
guard_bound t e x = bound (x / 5) (x % 5) (lowered (bound_in t e (x / 5) (x % 5) - 1))

abbrev pub guard_to : List ℕ → ℕ → ℕ → List Bound
guard_to t e x = collect x (λ k. ltb 0 (bound_in t e (k / 5) (k % 5))) (guard_bound t e)

module _ (t : List ℕ) (e : ℕ) where
  pub guard_first : (a : List ℤ) → Workable a → Narrows (guard_to t e 0) (Some a) (Some a)
  guard_first a u =
      table_first (λ (x : List Bound). x) (λ x. x ∷ []) refl (λ xs ys. refl) (λ x. refl) (λ k. ltb 0 (bound_in t e (k / 5) (k % 5))) (guard_bound t e) a u

  pub guard_next : (x : ℕ) (c : ℤ) (a : List ℤ) (r s : Option (List ℤ)) → 0 < bound_in t e (x / 5) (x % 5) → c ≡ lowered (bound_in t e (x / 5) (x % 5) - 1)
      → Narrows (guard_to t e x) (Some a) r → Narrows (bound (x / 5) (x % 5) c ∷ []) r s → Narrows (guard_to t e (x + 1)) (Some a) s
  guard_next x c a r s h i p q =
      table_next (λ (x : List Bound). x) (λ x. x ∷ []) refl (λ xs ys. refl) (λ x. refl) (λ k. ltb 0 (bound_in t e (k / 5) (k % 5))) (guard_bound t e) x a r s
      (lt-ltb 0 (bound_in t e (x / 5) (x % 5)) h) p (rw i at q)

  pub guard_same : (x : ℕ) (a : List ℤ) (r : Option (List ℤ)) → bound_in t e (x / 5) (x % 5) ≡ 0 → Narrows (guard_to t e x) (Some a) r → Narrows (guard_to t e (x + 1)) (Some a) r
  guard_same x a r h p =
      table_same (λ (x : List Bound). x) (λ x. x ∷ []) refl (λ xs ys. refl) (λ x. refl) (λ k. ltb 0 (bound_in t e (k / 5) (k % 5))) (guard_bound t e) x a r (rw h refl) p
