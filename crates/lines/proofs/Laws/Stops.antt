-- The first comma or full stop by the library's words.
-- Assumes nothing.
use Prim.Native.Nat.{ℕ, suc, ◌+◌}
use mathlib.Core.Path.{◌≡◌, refl, ◌∙◌}
use mathlib.Core.List.{List}
use mathlib.Core.Bool.{Bool, true, false, cond, not}
use native.Mathlib.Omega.{arith}
use lib.Dec.{ltb}
use borrow.Author.Tests.{ltb-false}
use lib.ListN.{length}
use Rattle.std.specs.List.{position, position_or_len}
use Rattle.std.specs.Option.{unwrap_or}
use Rattle.std.proofs.lemmas.List.Sums.{prefix_len-le-length}
use Rattle.std.proofs.lemmas.List.Recursion.{is_position_or_len}
use Rattle.meaning.specs.Text.Choice.{pick}
use Rattle.meaning.specs.Text.Records.{is_stop, first_stop}

or_len : (s : List ℕ) → first_stop s ≡ position_or_len is_stop s
unfolding first_stop
or_len s = is_position_or_len first_stop is_stop refl (λ x xs. go (is_stop x) (first_stop xs)) s
  where
    go : (t : Bool) (n : ℕ) → pick t 0 (suc n) ≡ cond t 0 (1 + n)
    go true n = refl
    go false n = omega arith

pub first_stop_is : (s : List ℕ) → first_stop s ≡ unwrap_or (position is_stop s) (length s)
first_stop_is s = or_len s ∙ go (ltb (position_or_len is_stop s) (length s)) refl
  where
    go : (t : Bool) → ltb (position_or_len is_stop s) (length s) ≡ t → position_or_len is_stop s ≡ unwrap_or (position is_stop s) (length s)
    go true e = rw e
    go false e = rw e (omega (arith, ltb-false _ _ e, prefix_len-le-length (λ (x : ℕ). not (is_stop x)) s))
