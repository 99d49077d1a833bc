-- Laws of a test of each element of a list, and of each number below n.
-- Assumes nothing.
use Prim.Native.Nat.{ℕ, zero, suc, ◌+◌, ◌≤◌}
use mathlib.Core.Path.{◌≡◌, refl, sym, ◌∙◌, ap, ap₂}
use mathlib.Core.Bool.{Bool, true, false, ◌&&◌}
use mathlib.Core.List.{List, [], ◌∷◌, ◌++◌}
use native.Mathlib.Omega.{arith}
use lib.ListN.{length, get_or, drop}
use Rattle.std.specs.List.{range_with_len, list_all}
use Rattle.meaning.specs.Lists.{every}
use Rattle.meaning.specs.Text.Choice.{pick}
use Rattle.meaning.specs.Text.ModelTable.{collect}
use Rattle.meaning.proofs.Tests.{and_left, and_right, and_both}
use Rattle.machine.specs.Stands.{padded}

and_true : (b : Bool) → b ≡ (b && true)
and_true true = refl
and_true false = refl

and_and : (a b c : Bool) → ((a && b) && c) ≡ (a && (b && c))
and_and true b c = refl
and_and false b c = refl

module _ {A : Type 0} (f : A → Bool) where
  pub all_is : (l : List A) → list_all f l ≡ every f l
  all_is [] = refl
  all_is (x ∷ l) = ap (λ (b : Bool). f x && b) (all_is l)

  -- also past the end, if what is read there passes
  pub all_at : (d : A) → f d ≡ true → (l : List A) → list_all f l ≡ true → (k : ℕ) → f (get_or l k d) ≡ true
  all_at d e [] h k = e
  all_at d e (x ∷ l) h zero = and_left (f x) (list_all f l) h
  all_at d e (x ∷ l) h (suc k) = all_at d e l (and_right (f x) (list_all f l) h) k

  pub all_make : (d : A) (l : List A) → ((k : ℕ) → f (get_or l k d) ≡ true) → list_all f l ≡ true
  all_make d [] h = refl
  all_make d (x ∷ l) h = and_both (f x) (list_all f l) (h 0) (all_make d l (λ k. h (suc k)))

  -- ---- cells with a list in them

  pub all_padded : (d : A) → f d ≡ true → (n : ℕ) (l : List A) → length l ≤ n → list_all f (padded d n l) ≡ every f l
  all_padded d e zero [] h = refl
  all_padded d e zero (x ∷ l) h = absurd (omega arith)
  all_padded d e (suc n) [] h = ap₂ (λ (a b : Bool). a && b) e (all_padded d e n [] (omega arith))
  all_padded d e (suc n) (x ∷ l) h = ap (λ (b : Bool). f x && b) (all_padded d e n l (omega arith))

  -- the cells behind a list pass, if an unused one does
  pub rest_padded : (d : A) → f d ≡ true → (n k : ℕ) (l : List A) → length l ≤ k → list_all f (drop k (padded d n l)) ≡ true
  rest_padded d e zero zero l h = refl
  rest_padded d e zero (suc k) l h = refl
  rest_padded d e (suc n) zero [] h = and_both (f d) (list_all f (padded d n [])) e (rest_padded d e n 0 [] (omega arith))
  rest_padded d e (suc n) zero (x ∷ l) h = absurd (omega arith)
  rest_padded d e (suc n) (suc k) [] h = rest_padded d e n k [] (omega arith)
  rest_padded d e (suc n) (suc k) (x ∷ l) h = rest_padded d e n k l (omega arith)

-- ---- every one of what is collected

range_snoc : (a n : ℕ) → range_with_len a (suc n) ≡ range_with_len a n ++ (a + n) ∷ []
range_snoc a zero = let z : a ≡ a + 0 = omega arith in ap (λ (x : ℕ). x ∷ []) z
range_snoc a (suc n) =
    let z : (a + 1) + n ≡ a + suc n = omega arith in
    ap (λ (l : List ℕ). a ∷ l) (range_snoc (a + 1) n ∙ ap (λ (x : ℕ). range_with_len (a + 1) n ++ x ∷ []) z)

module _ {A : Type 0} (f : A → Bool) where
  pub every_append : (a b : List A) → every f (a ++ b) ≡ (every f a && every f b)
  every_append [] b = refl
  every_append (x ∷ a) b = ap (λ (y : Bool). f x && y) (every_append a b) ∙ sym (and_and (f x) (every f a) (every f b))

  all_append : (a b : List A) → list_all f (a ++ b) ≡ (list_all f a && list_all f b)
  all_append a b = all_is f (a ++ b) ∙ every_append a b ∙ sym (ap₂ (λ (x y : Bool). x && y) (all_is f a) (all_is f b))

module _ {A : Type 0} (f : A → Bool) where
  -- a test of each number below n is one of all that is collected of them
  pub every_collect : (n : ℕ) (p : ℕ → Bool) (g : ℕ → A) → list_all (λ x. pick (p x) (f (g x)) true) (range_with_len 0 n) ≡ every f (collect n p g)
  unfolding collect
  every_collect zero p g = refl
  every_collect (suc n) p g =
      let z : 0 + n ≡ n = omega arith in
      let h : ℕ → Bool = λ x. pick (p x) (f (g x)) true in
      ap (list_all h) (range_snoc 0 n ∙ ap (λ (x : ℕ). range_with_len 0 n ++ x ∷ []) z) ∙ all_append h (range_with_len 0 n) (n ∷ [])
      ∙ ap₂ (λ (x y : Bool). x && y) (every_collect n p g) (sym (and_true (h n)) ∙ go (p n))
      ∙ sym (every_append f (collect n p g) (pick (p n) (g n ∷ []) []))
    where
      go : (b : Bool) → pick b (f (g n)) true ≡ every f (pick b (g n ∷ []) [])
      go true = and_true (f (g n))
      go false = refl
