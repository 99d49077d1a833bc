-- Laws of the clocks: limits, growing, guards, resets.
-- Assumes nothing.
use Prim.Native.Nat.{ℕ, zero, suc, ◌+◌, ◌-◌, ◌≤◌, ◌<◌}
use mathlib.Core.Path.{◌≡◌, refl, sym, ◌∙◌, ap}
use mathlib.Core.Bool.{true, false}
use mathlib.Core.List.{List, [], ◌∷◌, ◌++◌, map}
use native.Mathlib.Omega.{arith}
use native.Mathlib.Numerals.{add-one}
use lib.ListN.{length, get_or, take, set, length-set}
use Rattle.meaning.specs.Lists.{nth1D, set1}
use Rattle.meaning.specs.Machine.Edge.{reset_all}
use Rattle.meaning.specs.Text.Choice.{pick}
use Rattle.meaning.specs.Text.ModelTable.{collect}
use Rattle.model_table.specs.Parts.{reset_in, resets_of}
use Rattle.machine.specs.Stands.{padded}
use Rattle.machine.proofs.Arrays.{mapped_more}

-- ---- growing

-- one more of the clocks has grown
pub grown_more : (cs r : List ℕ) (k : ℕ) → k < length cs → k < 4 → r ≡ padded 0 4 (map suc (take k cs))
    → set r k (get_or cs k 0 + 1) ≡ padded 0 4 (map suc (take (k + 1) cs))
grown_more cs r k h b e = mapped_more suc 0 0 4 cs r k (get_or cs k 0 + 1) h b e (add-one (get_or cs k 0))

-- ---- resets

reset_all_append : (a b cs : List ℕ) → reset_all (a ++ b) cs ≡ reset_all b (reset_all a cs)
reset_all_append [] b cs = refl
reset_all_append (x ∷ a) b cs = reset_all_append a b (set1 cs x 0)

-- the first k clocks are reset, where they are to be
pub record Reset (t : List ℕ) (e : ℕ) (cs r : List ℕ) (k : ℕ) : Type 0 where
  pub upto : k ≤ 4
  pub long : length r ≡ 4
  pub is : r ≡ reset_all (collect k (λ x. reset_in t e (1 + x)) (λ x. 1 + x)) cs

pub reset_start : (t : List ℕ) (e : ℕ) (cs : List ℕ) → length cs ≡ 4 → Reset t e cs cs 0
unfolding collect
reset_start t e cs l = record { upto = omega arith; long = l; is = refl }

reset_step : (t : List ℕ) (e : ℕ) (cs r : List ℕ) (k : ℕ) → r ≡ reset_all (collect k (λ x. reset_in t e (1 + x)) (λ x. 1 + x)) cs
    → (q : List ℕ) → q ≡ reset_all (pick (reset_in t e (k + 1)) ((1 + k) ∷ []) []) r → q ≡ reset_all (collect (k + 1) (λ x. reset_in t e (1 + x)) (λ x. 1 + x)) cs
unfolding collect
reset_step t e cs r k w q h =
    let z : k + 1 ≡ 1 + k = omega arith in
    h ∙ ap (λ (i : ℕ). reset_all (pick (reset_in t e i) ((1 + k) ∷ []) []) r) z ∙ ap (reset_all (pick (reset_in t e (1 + k)) ((1 + k) ∷ []) [])) w
    ∙ sym (reset_all_append (collect k (λ x. reset_in t e (1 + x)) (λ x. 1 + x)) (pick (reset_in t e (1 + k)) ((1 + k) ∷ []) []) cs)
    ∙ ap (λ (j : ℕ). reset_all (collect j (λ x. reset_in t e (1 + x)) (λ x. 1 + x)) cs) (sym (add-one k))

pub reset_taken : (t : List ℕ) (e : ℕ) (cs r : List ℕ) (k : ℕ) → Reset t e cs r k → k < 4 → reset_in t e (k + 1) ≡ true → Reset t e cs (set r k 0) (k + 1)
reset_taken t e cs r k w h b = record {
  upto = omega arith;
  long = length-set r k 0 ∙ w.long;
  is = reset_step t e cs r k w.is (set r k 0) (let z : 1 + k ≡ suc k = omega arith in rw (b, z));
}

pub reset_passed : (t : List ℕ) (e : ℕ) (cs r : List ℕ) (k : ℕ) → Reset t e cs r k → k < 4 → reset_in t e (k + 1) ≡ false → Reset t e cs r (k + 1)
reset_passed t e cs r k w h b = record { upto = omega arith; long = w.long; is = reset_step t e cs r k w.is r (rw b) }

pub reset_end : (t : List ℕ) (e : ℕ) (cs r : List ℕ) (k : ℕ) → Reset t e cs r k → 4 ≤ k → r ≡ reset_all (resets_of t e) cs
reset_end t e cs r k w h = let u = w.upto in let z : k ≡ 4 = omega arith in w.is ∙ ap (λ (j : ℕ). reset_all (collect j (λ x. reset_in t e (1 + x)) (λ x. 1 + x)) cs) z

-- ---- the value of a variable

pub value_at : (cs : List ℕ) (i : ℕ) → (i ≡ 0 → ⊥) → get_or cs (i - 1) 0 ≡ nth1D cs i 0
value_at cs zero h = absurd (h refl)
value_at cs (suc i) h = let z : suc i - 1 ≡ i = omega arith in rw z

pub value_small : (cs : List ℕ) (n : ℕ) → ((k : ℕ) → get_or cs k 0 ≤ n) → (i : ℕ) → nth1D cs i 0 ≤ n
value_small cs n h zero = omega arith
value_small cs n h (suc i) = h i
