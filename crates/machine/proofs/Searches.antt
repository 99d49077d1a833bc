-- Laws of a search down a list: the first that passes a test.
-- Assumes nothing.
use Prim.Native.Nat.{ℕ, zero, suc, ◌+◌, ◌-◌, ◌≤◌}
use mathlib.Core.Path.{◌≡◌, refl, sym, ◌∙◌, ap, ap₂}
use mathlib.Core.Bool.{Bool, true, false, cond, not}
use mathlib.Core.List.{List, [], ◌∷◌, map}
use native.Mathlib.Omega.{arith}
use lib.Dec.{ltb}
use lib.ListN.{length, take, drop, length-drop}
use lib.Seq.{take_all}
use borrow.Author.Tests.{lt-ltb, le-ltb}
use Rattle.std.proofs.Common.{Option, Some, None}
use Rattle.std.specs.Option.{MatchOption, unwrap_or}
use Rattle.std.specs.List.{position_or_len, position}
use Rattle.meaning.specs.Lists.{next, first}
use Rattle.meaning.specs.Machine.Place.{place, place_from}
use Rattle.meaning.proofs.Text.Choices.{by_lt}

module _ {A : Type 0} (f : A → Bool) where
  place_is : (l : List A) → place f l ≡ position_or_len f l
  place_is [] = refl
  place_is (x ∷ l) = go (f x) (place_is l)
    where
      go : (b : Bool) → place f l ≡ position_or_len f l → cond b zero (suc (place f l)) ≡ cond (not b) (1 + position_or_len f l) 0
      go true e = refl
      go false e = omega arith

  -- the place of a new job is where the search ends: at the first that it beats, or behind the last
  pub place_from_is : (k : ℕ) (l : List A) → k ≤ length l → place_from k f l ≡ k + position_or_len f (drop k l)
  place_from_is zero l h = let e = place_is l in omega arith
  place_from_is (suc k) [] h = absurd (omega arith)
  place_from_is (suc k) (x ∷ l) h = let e = place_from_is k l (omega arith) in omega arith

  first_is : (l : List A) → first f l ≡ cond (ltb (position_or_len f l) (length l)) (suc (position_or_len f l)) 0
  first_is [] = refl
  first_is (x ∷ l) = go (f x) (first_is l)
    where
      more : (b : Bool) (k : ℕ) → next (cond b (suc k) 0) ≡ cond b (suc (1 + k)) 0
      more true k = let z : suc k ≡ 1 + k = omega arith in ap suc z
      more false k = refl

      less : (k n : ℕ) → ltb (1 + k) (suc n) ≡ ltb k n
      less k n = by_lt k n (λ h. lt-ltb (1 + k) (suc n) (omega arith) ∙ sym (lt-ltb k n h)) (λ h. le-ltb (1 + k) (suc n) (omega arith) ∙ sym (le-ltb k n h))

      go : (b : Bool) → first f l ≡ cond (ltb (position_or_len f l) (length l)) (suc (position_or_len f l)) 0
          → cond b 1 (next (first f l)) ≡ cond (ltb (cond (not b) (1 + position_or_len f l) 0) (suc (length l))) (suc (cond (not b) (1 + position_or_len f l) 0)) 0
      go true e = ap (λ (b : Bool). cond b 1 0) (sym (lt-ltb 0 (suc (length l)) (omega arith)))
      go false e =
          ap next e ∙ more (ltb (position_or_len f l) (length l)) (position_or_len f l)
          ∙ ap (λ (b : Bool). cond b (suc (1 + position_or_len f l)) 0) (sym (less (position_or_len f l) (length l)))

  -- what `position` finds, as a number from 1 on, or 0
  pub first_found : (l : List A) (r : Option ℕ) → r ≡ position f l → MatchOption r (first f l ≡ 0) (λ k. first f l ≡ suc k)
  first_found l r e = rw e (go (ltb (position_or_len f l) (length l)) (first_is l))
    where
      go : (b : Bool) → first f l ≡ cond b (suc (position_or_len f l)) 0
          → MatchOption (cond b (Some (position_or_len f l)) None) (first f l ≡ 0) (λ k. first f l ≡ suc k)
      go true h = h
      go false h = h

  place_short : (l : List A) → position_or_len f l ≤ length l
  place_short [] = omega arith
  place_short (x ∷ l) = go (f x) (place_short l)
    where
      go : (b : Bool) → position_or_len f l ≤ length l → cond (not b) (1 + position_or_len f l) 0 ≤ suc (length l)
      go true h = omega arith
      go false h = omega arith

  -- what `position` finds, or else the length
  pub found_or : (l : List A) (r : Option ℕ) → r ≡ position f l → unwrap_or r (length l) ≡ position_or_len f l
  found_or l r e =
      rw e
      (by_lt (position_or_len f l) (length l) (λ h. rw (lt-ltb (position_or_len f l) (length l) h))
      (λ h. let b = place_short l in rw (le-ltb (position_or_len f l) (length l) h) (omega arith)))

  -- the search in what stands behind the first k
  pub ahead_is : (l : List A) (k : ℕ) → k ≤ length l → (r : Option ℕ) → r ≡ position f (take (length l - k) (drop k l)) → (u : ℕ)
      → u ≡ unwrap_or r (length (take (length l - k) (drop k l))) → k + u ≡ place_from k f l
  ahead_is l k b r e u z =
      let v = length-drop k l in
      let y : take (length l - k) (drop k l) ≡ drop k l = take_all (length l - k) (drop k l) (omega arith) in
      ap (λ (i : ℕ). k + i) (z ∙ found_or (take (length l - k) (drop k l)) r e ∙ ap (position_or_len f) y) ∙ sym (place_from_is k l b)

-- a test of each element is one of what h makes of it
module _ {A B : Type 0} (f : A → Bool) (g : B → Bool) (h : A → B) (e : (x : A) → f x ≡ g (h x)) where
  pub position_mapped : (l : List A) → position_or_len f l ≡ position_or_len g (map h l)
  position_mapped [] = refl
  position_mapped (x ∷ l) = ap₂ (λ (b : Bool) (k : ℕ). cond (not b) (1 + k) 0) (e x) (position_mapped l)

  pub first_mapped : (l : List A) → first f l ≡ first g (map h l)
  first_mapped [] = refl
  first_mapped (x ∷ l) = ap₂ (λ (b : Bool) (k : ℕ). cond b 1 (next k)) (e x) (first_mapped l)
