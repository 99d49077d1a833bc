-- The entry of a bound from its cell, and entries stored one after the other.
-- Assumes nothing.
use Prim.Native.Nat.{ℕ, ◌+◌, ◌-◌, ◌≤◌, ◌<◌}
use mathlib.Core.Path.{◌≡◌, sym, subst}
use mathlib.Core.List.{List}
use native.Mathlib.Omega.{arith}
use native.Mathlib.Decide.{ℕ_discrete}
use lib.IntN.{ℤ, pos, negsuc}
use lib.ListN.{length, get_or, set}
use lib.Seq.{get_or-set_same, get_or-set_other}
use mir.Syntax.{w32}
use mir.Val.{SFits}
use borrow.Author.Tests.{eq-eqb, ne_eqb}
use Rattle.meaning.specs.Numbers.{over, under}
use Rattle.meaning.specs.Text.Ranges.{bound_most}
use Rattle.meaning.specs.Text.Lines.{lowered_by}
use Rattle.meaning.proofs.Text.BoundLaws.{over_of, under_of}
use Rattle.meaning.proofs.Text.Choices.{by_eq}
use Rattle.zone_bounds.specs.Entries.{no_bound}
use Rattle.zone_table.specs.Read.{entry_of_kept}

small : (z : ℤ) → over z ≤ 2000000000 → under z ≤ 2000000000 → SFits w32 z
small (pos n) a b = record { sfits = omega arith }
small (negsuc n) a b = record { sfits = omega arith }

pub entry_fits : (v : ℕ) → v ≤ 64001 → SFits w32 (entry_of_kept v)
entry_fits v h =
    by_eq v 0 (λ e. rw (eq-eqb v 0 e) (small no_bound (omega arith) (omega arith)))
    (λ e. rw (ne_eqb v 0 e) (small (lowered_by bound_most (v - 1)) (omega (arith, over_of bound_most (v - 1))) (omega (arith, under_of bound_most (v - 1)))))

-- ---- stored one after the other

module _ {A : Type 0} (d : A) (P : ℕ → A → Type 0) (r : List A) (k : ℕ) (v : A) where
  pub stored : k < length r → ((q : ℕ) → q < k → P q (get_or r q d)) → P k v → (q : ℕ) → q < k + 1 → P q (get_or (set r k v) q d)
  stored l all here q h = go (ℕ_discrete q k)
    where
      go : Dec (q ≡ k) → P q (get_or (set r k v) q d)
      go (yes e) = subst (λ (p : ℕ). P p (get_or (set r k v) p d)) (sym e) (subst (P k) (sym (get_or-set_same r k v d l)) here)
      go (no f) = subst (P q) (sym (get_or-set_other r k q v d f)) (all q (omega arith))
