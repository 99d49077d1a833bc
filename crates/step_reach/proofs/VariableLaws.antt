-- Laws of where a variable comes from, and of what is added to it, case by case.
-- Assumes nothing.
use mathlib.Core.Path.{◌≡◌, refl, sym, ◌∙◌, ap}
use mathlib.Core.Bool.{Bool, true, false, cond, ◌||◌}
use mathlib.Core.List.{List, [], ◌∷◌, ◌++◌}
use Prim.Native.Nat.{ℕ, zero, suc, ◌+◌, ◌-◌, ◌/◌, ◌%◌, ◌≤◌, ◌<◌}
use native.Mathlib.Omega.{arith}
use native.Mathlib.Decide.{dec_lt, ℕ_discrete}
use lib.Dec.{ltb, eqb}
use lib.IntN.{ℤ, pos}
use lib.ListN.{length, get_or}
use borrow.Author.Tests.{eq-eqb, ne_eqb, lt-ltb, le-ltb}
use Rattle.meaning.specs.Lists.{elem}
use Rattle.meaning.specs.Text.Choice.{pick}
use Rattle.meaning.specs.Text.ModelTable.{decode, collect}
use Rattle.meaning.specs.Inner.Slots.{Slot}
use Rattle.meaning.specs.Inner.Plans.{slot_vars, from, off}
use Rattle.meaning.specs.Inner.Plans as M
use Rattle.meaning.proofs.Lists.{length_tab, get_d_tab}
use Rattle.meaning.proofs.Exact.Moves.{from_clock, off_clock, from_slot}
use Rattle.meaning.proofs.Exact.Ranges.{off_sum, off_age}
use Rattle.model_table.specs.Parts.{of_edge, reset_in, resets_of}
use Rattle.slots.specs.declared.standing.Slots.{Slots}
use Rattle.slots.specs.Stands.{no_slot, slot_in}
use Rattle.step_reach.specs.Plans.{slots_in, plan_in, Adds}

-- ---- the variables of the slots

vars_sum : (ss : List Slot) (k : ℕ) → k < length ss → get_or (slot_vars ss) (k + k) 0 ≡ (get_or ss k no_slot).sum
vars_sum [] k h = absurd (omega arith)
vars_sum (s ∷ ss) zero h = refl
vars_sum (s ∷ ss) (suc k) h =
    let e : suc k + suc k ≡ suc (suc (k + k)) = omega arith in
    ap (λ (i : ℕ). get_or (slot_vars (s ∷ ss)) i 0) e ∙ vars_sum ss k (omega arith)

vars_age : (ss : List Slot) (k : ℕ) → k < length ss → get_or (slot_vars ss) (suc (k + k)) 0 ≡ (get_or ss k no_slot).age
vars_age [] k h = absurd (omega arith)
vars_age (s ∷ ss) zero h = refl
vars_age (s ∷ ss) (suc k) h =
    let e : suc (suc k + suc k) ≡ suc (suc (suc (k + k))) = omega arith in
    ap (λ (i : ℕ). get_or (slot_vars (s ∷ ss)) i 0) e ∙ vars_age ss k (omega arith)

module _ (s : Slots) where
  many_in : length (slots_in s) ≡ s.count
  many_in = length_tab 0 (slot_in s) s.count

  slot_at_lem : (k : ℕ) → k < s.count → get_or (slots_in s) k no_slot ≡ slot_in s k
  slot_at_lem k h = let e : 0 + k ≡ k = omega arith in get_d_tab 0 (slot_in s) s.count k no_slot h ∙ ap (slot_in s) e

  pub slot_sum : (i : ℕ) → i < s.count + s.count → i % 2 ≡ 0 → (slot_in s (i / 2)).sum ≡ get_or (slot_vars (slots_in s)) i 0
  slot_sum i h e =
      let q : i / 2 + i / 2 ≡ i = omega arith in
      ap (λ (x : Slot). x.sum) (sym (slot_at_lem (i / 2) (omega arith))) ∙ sym (vars_sum (slots_in s) (i / 2) (omega (arith, many_in)))
      ∙ ap (λ (x : ℕ). get_or (slot_vars (slots_in s)) x 0) q

  pub slot_age : (i : ℕ) → i < s.count + s.count → (i % 2 ≡ 0 → ⊥) → (slot_in s (i / 2)).age ≡ get_or (slot_vars (slots_in s)) i 0
  slot_age i h e =
      let q : suc (i / 2 + i / 2) ≡ i = omega arith in
      ap (λ (x : Slot). x.age) (sym (slot_at_lem (i / 2) (omega arith))) ∙ sym (vars_age (slots_in s) (i / 2) (omega (arith, many_in)))
      ∙ ap (λ (x : ℕ). get_or (slot_vars (slots_in s)) x 0) q

-- ---- resets

or_right : (a b : Bool) → b ≡ false → (a || b) ≡ a
or_right true b e = refl
or_right false b e = e

elem_append : (x : ℕ) (l r : List ℕ) → elem x (l ++ r) ≡ (elem x l || elem x r)
elem_append x [] r = refl
elem_append x (y ∷ l) r = ap (λ (b : Bool). eqb x y || b) (elem_append x l r) ∙ assoc (eqb x y) (elem x l) (elem x r)
  where
    assoc : (a b c : Bool) → (a || (b || c)) ≡ ((a || b) || c)
    assoc true b c = refl
    assoc false b c = refl

-- a clock is among the resets exactly if it is reset
elem_resets : (n : ℕ) (q : ℕ → Bool) (x : ℕ) → elem (suc x) (collect n (λ k. q (1 + k)) (λ k. 1 + k)) ≡ pick (ltb x n) (q (suc x)) false
unfolding collect
elem_resets zero q x = rw (le-ltb x 0 (omega arith)) refl
elem_resets (suc n) q x =
    elem_append (suc x) (collect n (λ k. q (1 + k)) (λ k. 1 + k)) (pick (q (1 + n)) ((1 + n) ∷ []) [])
    ∙ ap (λ (b : Bool). b || elem (suc x) (pick (q (1 + n)) ((1 + n) ∷ []) [])) (elem_resets n q x) ∙ go (dec_lt x n) (ℕ_discrete x n)
  where
    last : (b : Bool) → (x ≡ n → ⊥) → elem (suc x) (pick b ((1 + n) ∷ []) []) ≡ false
    last true h = rw (ne_eqb (suc x) (1 + n) (λ e. h (omega arith))) refl
    last false h = refl

    here : (b : Bool) → x ≡ n → elem (suc x) (pick b ((1 + n) ∷ []) []) ≡ b
    here true h = rw (eq-eqb (suc x) (1 + n) (omega arith)) refl
    here false h = refl

    go : Dec (x < n) → Dec (x ≡ n) → (pick (ltb x n) (q (suc x)) false || elem (suc x) (pick (q (1 + n)) ((1 + n) ∷ []) [])) ≡ pick (ltb x (suc n)) (q (suc x)) false
    go (yes h) e = rw (lt-ltb x n h, lt-ltb x (suc n) (omega arith)) (or_right (q (suc x)) (elem (suc x) (pick (q (1 + n)) ((1 + n) ∷ []) [])) (last (q (1 + n)) (λ w. absurd (omega arith))))
    go (no h) (yes e) =
        let w : 1 + n ≡ suc x = omega arith in
        rw (le-ltb x n (omega arith), lt-ltb x (suc n) (omega arith)) (here (q (1 + n)) e ∙ ap q w)
    go (no h) (no e) = rw (le-ltb x n (omega arith), le-ltb x (suc n) (omega arith)) (last (q (1 + n)) e)

module _ (t : List ℕ) (e : ℕ) where
  reset_is : (x : ℕ) → x < 4 → elem (suc x) (resets_of t e) ≡ reset_in t e (suc x)
  reset_is x h = elem_resets 4 (reset_in t e) x ∙ ap (λ (b : Bool). pick b (reset_in t e (suc x)) false) (lt-ltb x 4 h)

-- no edge, no reset
pub resets_none : (t : List ℕ) → resets_of t 0 ≡ []
unfolding reset_in of_edge collect
resets_none t = refl

-- ---- where a variable comes from

module _ (t : List ℕ) (n edge : ℕ) (s : Slots) (i : ℕ) (w : n ≡ (decode t).clocks) where
  abbrev comes : M.Plan
  comes = plan_in t edge s (pos 0) (pos 0)

  pub comes_slot : n < i → get_or (slot_vars (slots_in s)) (i - (n + 1)) 0 ≡ from (decode t) comes i
  comes_slot h =
      let j : ℕ = i - (n + 1) in
      let e : suc ((decode t).clocks + j) ≡ i = omega arith in
      sym (from_slot (decode t) comes j) ∙ ap (from (decode t) comes) e

  clock_at : (i : ℕ) → i ≤ n → n ≤ 4 → (b : Bool) → reset_in t edge i ≡ b → cond b 0 i ≡ from (decode t) comes i
  clock_at zero l f true e = refl
  clock_at zero l f false e = refl
  clock_at (suc x) l f b e =
      ap (λ (c : Bool). cond c 0 (suc x)) (sym e ∙ sym (reset_is t edge x (omega arith))) ∙ sym (from_clock (decode t) comes x (omega arith))

  pub comes_reset : i ≤ n → n ≤ 4 → reset_in t edge i ≡ true → 0 ≡ from (decode t) comes i
  comes_reset l f e = clock_at i l f true e

  pub comes_kept : i ≤ n → n ≤ 4 → reset_in t edge i ≡ false → i ≡ from (decode t) comes i
  comes_kept l f e = clock_at i l f false e

-- ---- what is added

module _ (n : ℕ) (time sum : ℤ) (i : ℕ) where
  pub added_clock : 0 < i → i ≤ n → Adds n time sum i time
  added_clock h g = record {
    is = λ m p c a b d l.
        let e : suc (i - 1) ≡ i = omega arith in
        sym a ∙ sym (off_clock m p (i - 1) (omega arith)) ∙ ap (off m p) e;
  }

  pub added_sum : n < i → (i - (n + 1)) % 2 ≡ 0 → Adds n time sum i sum
  added_sum h g = record {
    is = λ m p c a b d l.
        let k : ℕ = (i - (n + 1)) / 2 in
        let e : suc (m.clocks + (k + k)) ≡ i = omega arith in
        sym b ∙ sym (off_sum m p k (omega arith)) ∙ ap (off m p) e;
  }

  pub added_age : n < i → ((i - (n + 1)) % 2 ≡ 0 → ⊥) → Adds n time sum i time
  added_age h g = record {
    is = λ m p c a b d l.
        let k : ℕ = (i - (n + 1)) / 2 in
        let e : suc (m.clocks + suc (k + k)) ≡ i = omega arith in
        sym d ∙ sym (off_age m p k (omega arith)) ∙ ap (off m p) e;
  }

-- the same numbers
pub adds_same : {n k : ℕ} {a b c d : ℤ} {i : ℕ} {z : ℤ} → n ≡ k → a ≡ c → b ≡ d → Adds n a b i z → Adds k c d i z
adds_same e f g w = record { is = λ m p x y u v l. w.is m p (x ∙ sym e) (y ∙ sym f) (u ∙ sym g) (v ∙ sym f) l }
