-- `all` over the numbers below n, said of these numbers.
-- Assumes nothing.
use Prim.Native.Nat.{ℕ, ◌<◌}
use mathlib.Core.Path.{◌≡◌, refl, sym, subst}
use mathlib.Core.Logic.{◌↔◌}
use mathlib.Core.Bool.{Bool, true, false}
use mathlib.Core.List.{List}
use native.Mathlib.Omega.{arith}
use lib.ListN.{length, get_or}
use denote.Param.Members.{Mut}
use Rattle.std.specs.declared.ops.Range.{Range}
use Rattle.std.specs.declared.option.Option.{Option}
use Rattle.std.specs.Bool.{MatchBool}
use Rattle.std.specs.Fn.{Called}
use Rattle.std.specs.Iterator.{YieldsThen}
use Rattle.std.specs.List.{FoldsTo, AllWithin, HoldsAt, range_with_len}
use Rattle.std.specs.Option.{MatchOption}
use Rattle.std.proofs.iter.Yields.{nat_range_steps}
use Rattle.std.proofs.lemmas.Iterator.{YieldsList-from_range, cases_from_all}
use Rattle.std.proofs.lemmas.List.FromFn.{length-range_with_len, get_or-range_with_len}
use Rattle.zone_table.proofs.Deciding.{yes, no}

-- the numbers below n
abbrev below : ℕ → List ℕ
below n = range_with_len 0 n

at : (n k : ℕ) → k < n → get_or (below n) k 0 ≡ k
at n k h = omega (arith, get_or-range_with_len 0 n k 0 h)

decided : (n : ℕ) (r : Bool) (P : ℕ → Type 0) → MatchBool r (AllWithin P (below n) 0 (length (below n))) ((k : ℕ) × (k < length (below n)) × HoldsAt (λ x. P x → ⊥) (below n) k) → (r ≡ true) ↔ ((x : ℕ) → x < n → P x)
decided n true P m = let l = length-range_with_len 0 n in yes (λ x h. subst P (at n x h) (m x 0 (omega arith) (omega (arith, l))))
decided n false P m = let l = length-range_with_len 0 n in no (λ h. let k : m.0 < n = omega (arith, l, m.1) in m.2 0 (subst P (sym (at n m.0 k)) (h m.0 k)))

pub all_below : {F : Type 0} {g : Mut F (ℕ × Unit {0}) Bool} (u : Range ℕ) (f : F) (r : Bool) (n : ℕ) (P : ℕ → Type 0)
    → (xs : List ℕ) × (o : Option ℕ) × (j : F) × YieldsThen nat_range_steps (record { start = 0; end = n }) xs o u × FoldsTo (λ p x q. Called g p (x, tt) true q) f xs j × MatchOption o (r ≡ true) (λ x. (r ≡ false) × ((h : F) × Called g j (x, tt) false h))
    → ((x : ℕ) (q : F) → Called g f (x, tt) true q → (q ≡ f) × P x) → ((x : ℕ) (q : F) → Called g f (x, tt) false q → P x → ⊥) → (r ≡ true) ↔ ((x : ℕ) → x < n → P x)
all_below u f r n P d yes' no' = decided n r P (cases_from_all u f r P (λ x. P x → ⊥) d (YieldsList-from_range 0 n n refl (omega arith)) yes' no')
