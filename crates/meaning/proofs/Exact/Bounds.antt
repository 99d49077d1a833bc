-- Bounds over a valuation of the variables, and lists of bounds: met by a valuation, and among the first n variables.
-- Assumes nothing.
use mathlib.Core.Path.{◌≡◌, refl, sym, subst}
use mathlib.Core.Logic.{◌↔◌}
use mathlib.Core.Bool.{Bool, true, false, true≢false}
use mathlib.Core.List.{List, [], ◌∷◌, ◌++◌, Memᴰ}
use Prim.Native.Nat.{ℕ, zero, suc, ◌≤◌, ◌<◌}
use native.Mathlib.Omega.{arith}
use lib.IntN.{ℤ, neg_ℤ}
use lib.ListN.{length, get_or}
use Rattle.meaning.specs.Lists.{nth1D}
use Rattle.meaning.specs.Model.{Bound}
use Rattle.meaning.specs.Machine.Edge.{bound_test}
use Rattle.meaning.specs.Inner.Bounds.{bound, Meets, Met, Apart, Ranged, impossible, only_if}
use Rattle.meaning.proofs.Numbers.{over_neg, under_neg, within_true, within_make}

-- as a bound the other way round
pub apart_meets : (x : ℕ → ℕ) (i j : ℕ) (c : ℤ) → Apart x i j c ↔ Meets x (bound j i (neg_ℤ c))
apart_meets x i j c = (λ h. omega (arith, over_neg c, under_neg c), λ h. omega (arith, over_neg c, under_neg c))

pub never_met : (x : ℕ → ℕ) → Met x (impossible ∷ []) → ⊥
never_met x h = omega (arith, h.0)

pub only_if_met : (x : ℕ → ℕ) (b : Bool) (bs : List Bound) → Met x (only_if b bs) ↔ ((b ≡ true) × Met x bs)
only_if_met x true bs = (λ h. (refl, h), λ h. h.1)
only_if_met x false bs = (λ h. absurd (never_met x h), λ h. absurd (true≢false (sym h.0)))

pub met_append : (x : ℕ → ℕ) (l r : List Bound) → Met x (l ++ r) ↔ (Met x l × Met x r)
met_append x [] r = (λ h. (tt, h), λ h. h.1)
met_append x (b ∷ l) r =
    let e = met_append x l r in
    (λ h. ((h.0, (e.0 h.1).0), (e.0 h.1).1), λ h. (h.0.0, e.1 (h.0.1, h.1)))

pub met_mem : (x : ℕ → ℕ) (bs : List Bound) → Met x bs → (b : Bound) → Memᴰ b bs → Meets x b
met_mem x [] h b x3 = elim x3 [ ]
met_mem x (c ∷ bs) h b (Memᴰ.head e) = subst (Meets x) (sym e) h.0
met_mem x (c ∷ bs) h b (Memᴰ.tail w) = met_mem x bs h.1 b w

-- a list of bounds is met exactly if each is: what a loop over a table of bounds shows
pub at_met : (x : ℕ → ℕ) (b₀ : Bound) (bs : List Bound) → ((i : ℕ) → i < length bs → Meets x (get_or bs i b₀)) → Met x bs
at_met x b₀ [] h = tt
at_met x b₀ (b ∷ bs) h = (h 0 (omega arith), at_met x b₀ bs (λ i k. h (suc i) (omega arith)))

pub met_at : (x : ℕ → ℕ) (b₀ : Bound) (bs : List Bound) → Met x bs → (i : ℕ) → i < length bs → Meets x (get_or bs i b₀)
met_at x b₀ [] h i k = absurd (omega arith)
met_at x b₀ (b ∷ bs) h zero k = h.0
met_at x b₀ (b ∷ bs) h (suc i) k = met_at x b₀ bs h.1 i (omega arith)

pub ranged_append : (n : ℕ) (l r : List Bound) → Ranged n l → Ranged n r → Ranged n (l ++ r)
ranged_append n [] r h k = k
ranged_append n (b ∷ l) r h k = (h.0, h.1, ranged_append n l r h.2 k)

pub ranged_wider : (n k : ℕ) (l : List Bound) → n ≤ k → Ranged n l → Ranged k l
ranged_wider n k [] e h = tt
ranged_wider n k (b ∷ l) e h = (omega (arith, h.0), omega (arith, h.1), ranged_wider n k l e h.2)

pub ranged_mem : (n : ℕ) (l : List Bound) → Ranged n l → (b : Bound) → Memᴰ b l → (b.i < n) × (b.j < n)
ranged_mem n (c ∷ l) h b (Memᴰ.head e) = subst (λ (y : Bound). (y.i < n) × (y.j < n)) (sym e) (h.0, h.1)
ranged_mem n [] h b x'' = elim x'' [ ]
ranged_mem n (c ∷ l) h b (Memᴰ.tail w) = ranged_mem n l h.2 b w

-- the tests of the definitions, of a valuation that has the values vs in the first n variables
pub met_tests : (x : ℕ → ℕ) (vs : List ℕ) (n : ℕ) (bs : List Bound) → ((i : ℕ) → i < n → x i ≡ nth1D vs i 0) → Ranged n bs → Met x bs
    → (b : Bound) → Memᴰ b bs → bound_test vs b ≡ true
met_tests x vs n [] e r h b x5 = elim x5 [ ]
met_tests x vs n (c ∷ bs) e r h b (Memᴰ.head q) =
    subst (λ (y : Bound). bound_test vs y ≡ true) (sym q)
    (within_make (nth1D vs c.i 0) (nth1D vs c.j 0) c.c (omega (arith, h.0, e c.i r.0, e c.j r.1)))
met_tests x vs n (c ∷ bs) e r h b (Memᴰ.tail q) = met_tests x vs n bs e r.2 h.1 b q

pub tests_met : (vs : List ℕ) (bs : List Bound) → ((b : Bound) → Memᴰ b bs → bound_test vs b ≡ true) → Met (λ i. nth1D vs i 0) bs
tests_met vs [] h = tt
tests_met vs (b ∷ bs) h =
    (within_true (nth1D vs b.i 0) (nth1D vs b.j 0) b.c (h b (Memᴰ.head refl)), tests_met vs bs (λ c q. h c (Memᴰ.tail q)))
