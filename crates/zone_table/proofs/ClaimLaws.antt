-- Claims that are kept in a row of cells, of which none is above the last.
-- Assumes nothing.
use Prim.Native.Nat.{ℕ, zero, suc, ◌+◌, ◌-◌, ◌≤◌, ◌<◌}
use mathlib.Core.Path.{◌≡◌}
use mathlib.Core.Logic.{◌↔◌}
use mathlib.Core.Bool.{Bool, true}
use mathlib.Core.List.{List}
use native.Mathlib.Omega.{arith}
use native.Mathlib.Nat.{add-zero}
use lib.ListN.{get_or}
use borrow.Author.Tests.{le-leb, lt-leb}
use Rattle.meaning.specs.Text.ModelReader.{words}
use Rattle.meaning.proofs.Text.Choices.{by_lt}
use Rattle.zone_list.specs.Counted.{numbers_in}
use Rattle.zone_table.specs.Read.{none_above}
use Rattle.zone_table.proofs.Deciding.{yes, no, same_test, test_once}

module _ (t : List ℕ) (last : ℕ) where
  -- so many cells from `from` on keep nothing above the last
  abbrev KeptBelow : ℕ → ℕ → Type 0
  KeptBelow from n = (x : ℕ) → x < n → get_or t (from + x) 0 - 1 ≤ last

  one_more : (from n : ℕ) → get_or t from 0 - 1 ≤ last → KeptBelow (suc from) n → KeptBelow from (suc n)
  one_more from n q h zero l = rw (add-zero from) q
  one_more from n q h (suc x) l = let z : from + suc x ≡ suc from + x = omega arith in rw z (h x (omega arith))

  kept_below : (from n : ℕ) → (none_above last (numbers_in t from n) ≡ true) ↔ KeptBelow from n
  unfolding none_above numbers_in words
  kept_below from zero = yes (λ x h. absurd (omega arith))
  kept_below from (suc n) =
      let first = (λ (h : KeptBelow from (suc n)). rw (add-zero from) at (h 0 (omega arith))) in
      let rest = (λ (h : KeptBelow from (suc n)) (x : ℕ) (l : x < n). let z : from + suc x ≡ suc from + x = omega arith in rw z at (h (suc x) (omega arith))) in
      by_lt last (get_or t from 0 - 1) (λ q. rw (lt-leb (get_or t from 0 - 1) last q) (no (λ h. let w = first h in omega arith)))
      (λ q. rw (le-leb (get_or t from 0 - 1) last q) (same_test _ (kept_below (suc from) n) (one_more from n q) rest))

  pub up_to_last : (from n : ℕ) (r : Bool) → (r ≡ true) ↔ ((x : ℕ) → x < n → get_or t (from + x) 0 - 1 ≤ last) → r ≡ none_above last (numbers_in t from n)
  up_to_last from n r d = test_once _ _ d (kept_below from n)
