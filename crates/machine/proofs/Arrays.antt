-- Laws of arrays that hold a list: cell by cell, and filled from the first cell on.
-- Assumes nothing.
use Prim.Native.Nat.{ℕ, zero, suc, ◌+◌, ◌-◌, ◌≤◌, ◌<◌}
use mathlib.Core.Path.{◌≡◌, refl, sym, ◌∙◌, ap, ap₂}
use mathlib.Core.Bool.{Bool, true}
use mathlib.Core.List.{List, [], ◌∷◌, ◌++◌, map}
use native.Mathlib.Omega.{arith}
use lib.ListN.{length, get_or, take, drop, set, replicate, length-map}
use lib.Seq.{ext_get_or, length-take-le}
use Rattle.std.proofs.lemmas.List.{get_or-map, map_more}
use Rattle.std.specs.List.{list_all}
use Rattle.meaning.proofs.Tests.{and_left, and_right}
use Rattle.machine.specs.Stands.{padded}

module _ {A : Type 0} where
  pub take_out : (n : ℕ) (l : List A) (k : ℕ) (d : A) → n ≤ k → get_or (take n l) k d ≡ d
  take_out zero l k d h = refl
  take_out (suc n) [] k d h = refl
  take_out (suc n) (x ∷ l) zero d h = absurd (omega arith)
  take_out (suc n) (x ∷ l) (suc k) d h = take_out n l k d (omega arith)

module _ {A : Type 0} (d : A) where
  pub padded_length : (n : ℕ) (l : List A) → length (padded d n l) ≡ n
  padded_length zero l = refl
  padded_length (suc n) [] = ap suc (padded_length n [])
  padded_length (suc n) (x ∷ l) = ap suc (padded_length n l)

  pub padded_at : (n : ℕ) (l : List A) (k : ℕ) → k < n → get_or (padded d n l) k d ≡ get_or l k d
  padded_at zero l k h = absurd (omega arith)
  padded_at (suc n) [] zero h = refl
  padded_at (suc n) [] (suc k) h = padded_at n [] k (omega arith)
  padded_at (suc n) (x ∷ l) zero h = refl
  padded_at (suc n) (x ∷ l) (suc k) h = padded_at n l k (omega arith)

  -- the cells of a list that has room read as the list does, also past its end
  pub padded_read : (n : ℕ) (l : List A) (k : ℕ) → length l ≤ n → get_or (padded d n l) k d ≡ get_or l k d
  padded_read zero [] k h = refl
  padded_read zero (x ∷ l) k h = absurd (omega arith)
  padded_read (suc n) [] zero h = refl
  padded_read (suc n) [] (suc k) h = padded_read n [] k (omega arith)
  padded_read (suc n) (x ∷ l) zero h = refl
  padded_read (suc n) (x ∷ l) (suc k) h = padded_read n l k (omega arith)

  pub padded_is : (n : ℕ) (a l : List A) → length a ≡ n → ((k : ℕ) → k < n → get_or a k d ≡ get_or l k d) → a ≡ padded d n l
  padded_is n a l e h =
      ext_get_or d a (padded d n l) (e ∙ sym (padded_length n l))
      (λ k b. let g : k < n = omega arith in h k g ∙ sym (padded_at n l k g))

  -- cells that are d from place n on
  pub padded_rest : (f : A → Bool) → ((x : A) → f x ≡ true → x ≡ d) → (n : ℕ) (l : List A) → list_all f (drop n l) ≡ true → l ≡ padded d (length l) (take n l)
  padded_rest f h zero [] e = refl
  padded_rest f h zero (x ∷ l) e =
      ap₂ (λ (y : A) (r : List A). y ∷ r) (h x (and_left (f x) (list_all f l) e)) (padded_rest f h zero l (and_right (f x) (list_all f l) e))
  padded_rest f h (suc n) [] e = refl
  padded_rest f h (suc n) (x ∷ l) e = ap (λ (r : List A). x ∷ r) (padded_rest f h n l e)

  -- the next unused cell is filled
  pub padded_put : (n : ℕ) (l : List A) (x : A) → length l < n → set (padded d n l) (length l) x ≡ padded d n (l ++ x ∷ [])
  padded_put zero l x h = absurd (omega arith)
  padded_put (suc n) [] x h = refl
  padded_put (suc n) (y ∷ l) x h = ap (λ (r : List A). y ∷ r) (padded_put n l x (omega arith))

  pub padded_snoc : (n : ℕ) (l : List A) → length l ≤ n → padded d n l ++ d ∷ [] ≡ padded d (suc n) l
  padded_snoc zero [] h = refl
  padded_snoc zero (x ∷ l) h = absurd (omega arith)
  padded_snoc (suc n) [] h = ap (λ (r : List A). d ∷ r) (padded_snoc n [] (omega arith))
  padded_snoc (suc n) (x ∷ l) h = ap (λ (r : List A). x ∷ r) (padded_snoc n l (omega arith))

  pub padded_rep : (n : ℕ) (l : List A) → length l ≤ n → padded d n l ≡ l ++ replicate (n - length l) d
  padded_rep zero [] h = refl
  padded_rep zero (x ∷ l) h = absurd (omega arith)
  padded_rep (suc n) [] h = let z : suc (n - 0) ≡ suc n - 0 = omega arith in ap (λ (r : List A). d ∷ r) (padded_rep n [] (omega arith)) ∙ ap (λ (k : ℕ). replicate k d) z
  padded_rep (suc n) (x ∷ l) h =
      let z : n - length l ≡ suc n - suc (length l) = omega arith in
      ap (λ (r : List A). x ∷ r) (padded_rep n l (omega arith) ∙ ap (λ (k : ℕ). l ++ replicate k d) z)

-- cells that have f of what stands in a list
module _ {A B : Type 0} (f : A → B) (e : A) (d : B) where
  pub mapped_each : (n : ℕ) (l : List A) (r : List B) → length l ≡ n → length r ≡ n → ((i : ℕ) → i < n → get_or r i d ≡ f (get_or l i e)) → r ≡ map f l
  mapped_each n l r a b h =
      ext_get_or d r (map f l) (b ∙ sym (length-map l f ∙ a)) (λ i c. let g : i < n = omega arith in h i g ∙ sym (get_or-map f l i e d (omega arith)))

  pub mapped_more : (n : ℕ) (l : List A) (r : List B) (k : ℕ) (x : B) → k < length l → k < n → r ≡ padded d n (map f (take k l)) → x ≡ f (get_or l k e)
      → set r k x ≡ padded d n (map f (take (k + 1) l))
  mapped_more n l r k x h b w z =
      let m : length (map f (take k l)) ≡ k = length-map (take k l) f ∙ length-take-le k l (omega arith) in
      ap (λ (q : List B). set q k x) w ∙ ap (λ (i : ℕ). set (padded d n (map f (take k l))) i x) (sym m)
      ∙ padded_put d n (map f (take k l)) x (omega arith)
      ∙ ap (padded d n) (ap (λ (v : B). map f (take k l) ++ v ∷ []) z ∙ sym (map_more f l k e h))
