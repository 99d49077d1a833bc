-- Laws of what is collected from the numbers below n: each is so, they stand in order, how many there are, and which.
-- Assumes nothing.
use Prim.Native.Nat.{◌*◌, ◌+◌, ◌<◌, suc, zero, ℕ}
use mathlib.Core.Bool.{Bool, false, true}
use mathlib.Core.List.Memᴰ
use mathlib.Core.List.{List, [], ◌++◌, ◌∷◌, append-nil, Memᴰ}
use mathlib.Core.Logic.{⊎_elim}
use mathlib.Core.Path.{◌∙◌, ◌≡◌, refl, subst, sym}
use native.Mathlib.Decide.{ℕ_discrete}
use native.Mathlib.Omega.{arith}
use lib.ListN.{length, length-append}
use Rattle.meaning.specs.Text.Choice.{pick}
use Rattle.meaning.specs.Text.ModelTable.{collect, count, there}
use Rattle.meaning.specs.Text.RightModel.{Each, Ordered}

pub each_append : {A : Type 0} (P : A → Type 0) (xs ys : List A) → Each P xs → Each P ys → Each P (xs ++ ys)
each_append P [] ys a b = b
each_append P (x ∷ xs) ys a b = (a.0, each_append P xs ys a.1 b)

pub each_collect : {A : Type 0} (P : A → Type 0) (n : ℕ) (p : ℕ → Bool) (f : ℕ → A) → ((x : ℕ) → x < n → p x ≡ true → P (f x)) → Each P (collect n p f)
unfolding collect
each_collect P zero p f h = tt
each_collect P (suc n) p f h = each_append P (collect n p f) (pick (p n) (f n ∷ []) []) (each_collect P n p f (λ x l. h x (omega arith))) (go (p n) refl)
  where
    go : (t : Bool) → p n ≡ t → Each P (pick t (f n ∷ []) [])
    go true e = (h n (omega arith) e, tt)
    go false e = tt

pub collect_length : {A : Type 0} (m : List ℕ) (at step n : ℕ) (f : ℕ → A) → length (collect n (λ x. there m (at + step * x)) f) ≡ count m at step n
unfolding collect count
collect_length m at step zero f = refl
collect_length m at step (suc n) f =
    length-append (collect n (λ x. there m (at + step * x)) f) (pick (there m (at + step * n)) (f n ∷ []) []) ∙ rw (collect_length m at step n f) (go (there m (at + step * n)))
  where
    go : (t : Bool) → count m at step n + length (pick t (f n ∷ []) []) ≡ count m at step n + pick t 1 0
    go true = refl
    go false = refl

pub ordered_snoc : {A : Type 0} (R : A → A → Type 0) (xs : List A) (y : A) → Ordered R xs → Each (λ (x : A). R x y) xs → Ordered R (xs ++ y ∷ [])
ordered_snoc R [] y d e = (tt, tt)
ordered_snoc R (x ∷ xs) y d e = (each_append (R x) xs (y ∷ []) d.0 (e.0, tt), ordered_snoc R xs y d.1 e.1)

pub ordered_collect : {A : Type 0} (R : A → A → Type 0) (n : ℕ) (p : ℕ → Bool) (f : ℕ → A) → ((x y : ℕ) → x < y → y < n → p x ≡ true → p y ≡ true → R (f x) (f y))
    → Ordered R (collect n p f)
unfolding collect
ordered_collect R zero p f h = tt
ordered_collect {A} R (suc n) p f h = go (p n) refl (ordered_collect R n p f (λ x y l k. h x y l (omega arith)))
  where
    go : (t : Bool) → p n ≡ t → Ordered R (collect n p f) → Ordered R (collect n p f ++ pick t (f n ∷ []) [])
    go true e d = ordered_snoc R (collect n p f) (f n) d (each_collect (λ (x : A). R x (f n)) n p f (λ x l a. h x n l (omega arith) a e))
    go false e d = rw append-nil d

-- what each of a list is, any of them is
pub each_mem : {A : Type 0} (P : A → Type 0) (xs : List A) → Each P xs → (a : A) → Memᴰ a xs → P a
each_mem {A = A} P [] d a x'' = elim x'' [ ]
each_mem P (x ∷ xs) d a (Memᴰ.head e) = subst P (sym e) d.0
each_mem P (x ∷ xs) d a (Memᴰ.tail h) = each_mem P xs d.1 a h

-- which are collected
pub mem_collect : {A : Type 0} (n : ℕ) (p : ℕ → Bool) (f : ℕ → A) (x : ℕ) → x < n → p x ≡ true → Memᴰ (f x) (collect n p f)
unfolding collect
mem_collect zero p f x l e = absurd (omega arith)
mem_collect {A} (suc n) p f x l e = go (ℕ_discrete x n) (mem_collect n p f x)
  where
    here : (k : ℕ) → p k ≡ true → Memᴰ (f k) (pick (p k) (f k ∷ []) [])
    here k q = rw q (Memᴰ.head refl)

    go : Dec (x ≡ n) → (x < n → p x ≡ true → Memᴰ (f x) (collect n p f)) → Memᴰ (f x) (collect n p f ++ pick (p n) (f n ∷ []) [])
    go (yes q) ih = Memᴰ.append_right (collect n p f) (subst (λ (k : ℕ). Memᴰ (f x) (pick (p k) (f k ∷ []) [])) q (here x e))
    go (no q) ih = Memᴰ.append_left _ (ih (omega arith) e)

pub mem_collect_inv : {A : Type 0} (n : ℕ) (p : ℕ → Bool) (f : ℕ → A) (b : A) → Memᴰ b (collect n p f) → (x : ℕ) × (x < n) × (p x ≡ true) × (b ≡ f x)
unfolding collect
mem_collect_inv zero p f b h = absurd (Memᴰ.not-nil h)
mem_collect_inv {A} (suc n) p f b h =
    ⊎_elim
    (λ g. let r = mem_collect_inv n p f b g in (r.0, omega arith, r.2, r.3))
    (λ g. last (p n) refl g)
    (Memᴰ.append_cases (collect n p f) h)
  where
    last : (t : Bool) → p n ≡ t → Memᴰ b (pick t (f n ∷ []) []) → (x : ℕ) × (x < suc n) × (p x ≡ true) × (b ≡ f x)
    last true e g = (n, omega arith, e, Memᴰ.eq_of_singleton g)
    last false e g = absurd (Memᴰ.not-nil g)
