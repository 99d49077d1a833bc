-- Laws of the count of cells that have something in them.
-- Assumes nothing.
use Prim.Native.Nat.{ℕ, zero, suc, ◌+◌, ◌*◌, ◌≤◌, ◌<◌}
use mathlib.Core.Path.{◌≡◌, refl}
use mathlib.Core.List.{List}
use native.Mathlib.Numerals.{add-one}
use native.Mathlib.Omega.{arith}
use lib.ListN.{get_or}
use borrow.Author.Tests.{lt-ltb, le-ltb}
use Rattle.meaning.specs.Text.ModelTable.{count}
use Rattle.meaning.proofs.Text.Choices.{by_lt}
use Rattle.meaning.proofs.Text.ModelCells.{count_is}

pub count_none : (t : List ℕ) (at step : ℕ) → count t at step 0 ≡ 0
unfolding count
count_none t at step = refl

pub count_there : (t : List ℕ) (at step k : ℕ) → 0 < get_or t (at + step * k) 0 → count t at step (k + 1) ≡ count t at step k + 1
unfolding count
count_there t at step k h = rw (add-one k, lt-ltb 0 (get_or t (at + step * k) 0) h)

pub count_not : (t : List ℕ) (at step k : ℕ) → get_or t (at + step * k) 0 ≤ 0 → count t at step (k + 1) ≡ count t at step k
unfolding count
count_not t at step k h = rw (add-one k, le-ltb 0 (get_or t (at + step * k) 0) h) (omega arith)

-- a longer row has no fewer
pub count_more : (t : List ℕ) (at step n m : ℕ) → n ≤ m → count t at step n ≤ count t at step m
unfolding count
count_more t at step n zero h = let z : n ≡ 0 = omega arith in rw z (omega arith)
count_more t at step n (suc m) h =
    by_lt m n (λ l. let z : n ≡ suc m = omega arith in rw z (omega arith)) (λ l. let r = count_more t at step n m l in omega arith)

-- all of a row that is full
pub count_full : (t : List ℕ) (at step n : ℕ) → ((x : ℕ) → x < n → 0 < get_or t (at + step * x) 0) → count t at step n ≡ n
count_full t at step n f = count_is t at step n n (omega arith) f (λ x a b. absurd (omega arith))
