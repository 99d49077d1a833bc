-- Laws of a row with one put in, and of one without its first.
-- Assumes nothing.
use Prim.Native.Nat.{ℕ, zero, suc, ◌+◌, ◌-◌, ◌≤◌, ◌<◌}
use mathlib.Core.Path.{◌≡◌, refl, sym, ◌∙◌, ap}
use mathlib.Core.List.{List, [], ◌∷◌, ◌++◌, append_assoc}
use native.Mathlib.Omega.{arith}
use lib.ListN.{length, take, drop, set, replicate}
use borrow.Rule.Slice.PartMut.{put_mid}
use Rattle.std.proofs.lemmas.List.{take_at, drop_at, set_at, take-take, drop-take, drop-replicate, length-take-le, length-append}
use Rattle.meaning.specs.Lists.{insert_at}

module _ {A : Type 0} where
  pub length_insert : (at : ℕ) (x : A) (q : List A) → length (insert_at at x q) ≡ suc (length q)
  length_insert zero x q = refl
  length_insert (suc k) x [] = refl
  length_insert (suc k) x (y ∷ q) = ap suc (length_insert k x q)

  insert_cut : (at : ℕ) (x : A) (q : List A) → at ≤ length q → insert_at at x q ≡ take at q ++ x ∷ drop at q
  insert_cut zero x q h = refl
  insert_cut (suc k) x [] h = absurd (omega arith)
  insert_cut (suc k) x (y ∷ q) h = ap (λ (l : List A). y ∷ l) (insert_cut k x q (omega arith))

  -- the two parts copied round the new one
  pub inserted_is : (items front back : List A) (n at count : ℕ) (new blank : A) → length items ≡ n → at ≤ count → count < n → front ≡ take at items → back ≡ take (count - at) (drop at items)
      → put_mid (at + 1) (count + 1 - (at + 1)) (set (front ++ drop at (replicate n blank)) at new) back ≡ insert_at at new (take count items) ++ replicate (n - suc count) blank
  inserted_is items front back n at count new blank len h l f b =
      let blanks = replicate (n - suc at) blank in
      let e : n - at ≡ suc (n - suc at) = omega arith in
      let short : length front ≡ at = ap length f ∙ length-take-le at items (omega arith) in
      let long : length (front ++ new ∷ []) ≡ at + 1 = length-append front (new ∷ []) ∙ omega arith in
      let whole : set (front ++ drop at (replicate n blank)) at new ≡ (front ++ new ∷ []) ++ blanks =
      ap (λ (l : List A). set (front ++ l) at new) (drop-replicate at n blank ∙ ap (λ (m : ℕ). replicate m blank) e) ∙ set_at front blank blanks new at short ∙ sym (append_assoc front (new ∷ []) blanks) in
      let rest : drop (count + 1 - (at + 1)) blanks ≡ replicate (n - suc count) blank =
      drop-replicate (count + 1 - (at + 1)) (n - suc at) blank ∙ ap (λ (m : ℕ). replicate m blank) (omega arith) in
      let full : length (take count items) ≡ count = length-take-le count items (omega arith) in
      let same : at + (count - at) ≡ count = omega arith in
      let cut : insert_at at new (take count items) ≡ front ++ new ∷ back =
      rw (insert_cut at new (take count items) (omega arith), take-take at count items h, ← same, drop-take at (count - at) items, f, b) in
      let tail = replicate (n - suc count) blank in
      rw (whole, take_at (front ++ new ∷ []) blanks (at + 1) long, drop_at (front ++ new ∷ []) blanks (at + 1) long, rest, cut)
      (append_assoc front (new ∷ []) (back ++ tail) ∙ sym (append_assoc front (new ∷ back) tail))

  -- the first comes last, and blank in its place
  pub without_first_is : (items turned : List A) (n : ℕ) (blank : A) → length items ≡ n → 0 < n → turned ≡ drop 1 items ++ take 1 items → set turned (n - 1) blank ≡ drop 1 items ++ blank ∷ []
  without_first_is [] turned n blank len h e = absurd (omega arith)
  without_first_is (x ∷ xs) turned n blank len h e = rw e (set_at xs x [] blank (n - 1) (omega arith))
