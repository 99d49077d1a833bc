-- What stands at a place of a text, and a field that is read and written there.
-- Assumes nothing.
use Prim.Native.Nat.{◌+◌, ◌<◌, ◌≤◌, suc, ℕ}
use mathlib.Core.Bool.{Bool, ◌&&◌, false, true}
use mathlib.Core.List.{List, [], ◌++◌, ◌∷◌}
use mathlib.Core.Path.{◌∙◌, ◌≡◌, ap, sym}
use native.Mathlib.Nat.{add-zero}
use native.Mathlib.Numerals.{add-one}
use native.Mathlib.Omega.{arith}
use lib.Dec.{eqb}
use lib.ListN.{get_or-eq_default, drop, get_or, length, length-append, length-drop}
use lib.Seq.{drop-append_seam, drop-cons, drop-drop, get_or-drop}
use borrow.Author.Tests.{eq-eqb, eqb-true, ne_eqb}
use Rattle.meaning.proofs.Text.Choices.{and_true, by_lt, by_pick, nonsense}
use Rattle.meaning.proofs.Text.NumeralLaws.{number_next}
use Rattle.meaning.proofs.Text.NumeralRound.{Stops, number_inv, number_read}
use Rattle.meaning.specs.Text.Lines.{field}
use Rattle.meaning.specs.Text.Numerals.{num, num_text, number, stuck, too_large}

-- a byte that is not 0 stands within the text
pub in_text : (s : List ℕ) (at b : ℕ) → 0 < b → eqb (get_or s at 0) b ≡ true → at < length s
in_text s at b h e =
    by_lt at (length s) (λ k. k)
    (λ k. absurd (omega (arith, eqb-true (get_or s at 0) b e, get_or-eq_default s 0 {n = at} k)))

pub past_text : (s : List ℕ) (at b : ℕ) → 0 < b → length s ≤ at → eqb (get_or s at 0) b ≡ false
past_text s at b h k = ne_eqb (get_or s at 0) b (λ e. omega (arith, get_or-eq_default s 0 {n = at} k))

pub field_next : (m : Bool) (s : List ℕ) (at : ℕ) (n : Bool) (w k : ℕ) → field m s at ≡ num n w k → (at < k) × (k ≤ length s)
unfolding field
field_next m s at n w k e =
    by_pick (eqb (get_or s at 0) 32) (number m (drop (at + 1) s) (at + 1)) (stuck at) (num n w k) e
    (λ t q.
    let i = in_text s at 32 (omega arith) t in
    let h = number_next m (drop (at + 1) s) (at + 1) n w k q in
    omega (arith, length-drop (at + 1) s))
    (λ t q. nonsense (cc))

module _ (s : List ℕ) (at : ℕ) where
  pub here_head : (x : ℕ) (l : List ℕ) → drop at s ≡ x ∷ l → get_or s at 0 ≡ x
  here_head x l e = rw (add-zero at) at (sym (get_or-drop at s 0 0) ∙ ap (λ (r : List ℕ). get_or r 0 0) e)

  pub here_past : (xs l : List ℕ) → drop at s ≡ xs ++ l → drop (at + length xs) s ≡ l
  here_past xs l e = sym (drop-drop (length xs) at s) ∙ ap (drop (length xs)) e ∙ drop-append_seam xs l

  pub here_tail : (x : ℕ) (l : List ℕ) → drop at s ≡ x ∷ l → drop (at + 1) s ≡ l
  here_tail x l e = here_past (x ∷ []) l e

  pub here_cons : (b : ℕ) → 0 < b → eqb (get_or s at 0) b ≡ true → drop at s ≡ b ∷ drop (at + 1) s
  here_cons b p e =
      let h = in_text s at b p e in
      rw (add-one) (drop-cons s at 0 h ∙ ap (λ (y : ℕ). y ∷ drop (suc at) s) (eqb-true (get_or s at 0) b e))

-- "a two-byte mark" that stands here, and the rest of its line
module _ (s : List ℕ) (at a b : ℕ) where
  pub mark_here : 0 < a → 0 < b → eqb (get_or s at 0) a && eqb (get_or s (at + 1) 0) b ≡ true → drop at s ≡ a ∷ b ∷ drop (at + 2) s
  mark_here p q e =
      let h = and_true (eqb (get_or s at 0) a) (eqb (get_or s (at + 1) 0) b) e in
      let r : at + 1 + 1 ≡ at + 2 = omega arith in
      rw (here_cons s at a p h.0, here_cons s (at + 1) b q h.1, r)

  pub here_mark : (l : List ℕ) → drop at s ≡ a ∷ b ∷ l → (get_or s at 0 ≡ a) × (get_or s (at + 1) 0 ≡ b) × (drop (at + 2) s ≡ l)
  here_mark l e =
      let t = here_tail s at a (b ∷ l) e in
      let r : at + 1 + 1 ≡ at + 2 = omega arith in
      (here_head s at a (b ∷ l) e, here_head s (at + 1) b l t, rw r at (here_tail s (at + 1) b l t))

-- what has an end that is not empty stands within the text
pub here_in : (s : List ℕ) (at : ℕ) (l e : List ℕ) → 0 < length e → drop at s ≡ l ++ e → at ≤ length s
here_in s at l e h q = omega (arith, sym (length-drop at s) ∙ ap length q, length-append l e)

-- ---- reading what was written

pub field_read : (m n : Bool) (v : ℕ) (r s : List ℕ) (at : ℕ) → drop at s ≡ 32 ∷ (num_text n v ++ r) → (n ≡ true → (m ≡ true) × (0 < v)) → v < too_large → Stops r
    → (field m s at ≡ num n v (at + 1 + length (num_text n v))) × (drop (at + 1 + length (num_text n v)) s ≡ r)
unfolding field
field_read m n v r s at e g h t =
    let e₁ = here_tail s at 32 (num_text n v ++ r) e in (
      rw (eq-eqb (get_or s at 0) 32 (here_head s at 32 _ e), e₁) (number_read m n v r (at + 1) g h t),
      here_past s (at + 1) (num_text n v) r e₁,
    )

-- ---- writing what was read

pub field_inv : (m : Bool) (s : List ℕ) (at : ℕ) (n : Bool) (v k : ℕ) → field m s at ≡ num n v k → v < too_large → drop at s ≡ 32 ∷ (num_text n v ++ drop k s)
unfolding field
field_inv m s at n v k e h =
    by_pick (eqb (get_or s at 0) 32) _ _ _ e
    (λ t q.
    let w = number_inv m (drop (at + 1) s) (at + 1) n v k q h in
    let d : drop k s ≡ w.rest = ap (λ (x : ℕ). drop x s) w.next ∙ here_past s (at + 1) (num_text n v) w.rest w.is in
    here_cons s at 32 (omega arith) t ∙ ap (λ (l : List ℕ). 32 ∷ l) (w.is ∙ ap (λ (l : List ℕ). num_text n v ++ l) (sym d)))
    (λ t q. nonsense (cc))
