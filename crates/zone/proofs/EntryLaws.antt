-- Laws of the bounds of a zone as it is lent: its entries one by one.
-- Assumes nothing.
use Prim.Native.Nat.{ℕ, ◌-◌, ◌/◌, ◌%◌, ◌<◌}
use mathlib.Core.Path.{◌≡◌, sym, ◌∙◌, ap}
use mathlib.Core.Bool.{true, not, true≢false}
use native.Mathlib.Omega.{arith}
use lib.IntN.{ℤ}
use borrow.Author.Tests.{eq-eqb, ne_eqb, lt-ltb, le-ltb}
use Rattle.meaning.specs.Numbers.{over}
use Rattle.meaning.specs.Model.{Model}
use Rattle.meaning.specs.Zones.Variables.{variables}
use Rattle.meaning.specs.Text.RightModel.{RightBound, before}
use Rattle.meaning.specs.Text.RightProposal.{RightBounds}
use Rattle.meaning.proofs.Text.Choices.{by_lt}
use Rattle.meaning.proofs.Text.Collects.{each_collect, ordered_collect, each_mem, mem_collect}
use Rattle.zone.specs.declared.Zone.{Zone}
use Rattle.zone_bounds.specs.Entries.{is_bound, entry_in, bounds_in}
use Rattle.zone.specs.Stands.{order_of, bounds_of}
use Rattle.zone.specs.ByCell.{RightAt, RightEntries}

-- ---- what stands at a place

pub bound_yes : (c : ℤ) → (over c ≡ 1000000000 → ⊥) → is_bound c ≡ true
bound_yes c h = rw (ne_eqb (over c) 1000000000 h)

pub bound_no : (c : ℤ) → over c ≡ 1000000000 → is_bound c ≡ true → ⊥
bound_no c h e = true≢false (sym e ∙ ap not (eq-eqb (over c) 1000000000 h))

-- ---- row by row

-- a place before another is of a row before, or before it in its row
pub row_by_row : (a b : ℕ) (c d : ℤ) → a < b → before (record { i = a / 17; j = a % 17; c = c }) (record { i = b / 17; j = b % 17; c = d }) ≡ true
row_by_row a b c d h =
    by_lt (a / 17) (b / 17)
    (λ l. rw (lt-ltb (a / 17) (b / 17) l))
    (λ l.
    let e : a / 17 ≡ b / 17 = omega arith in
    let f : a % 17 < b % 17 = omega arith in
    rw (le-ltb (a / 17) (b / 17) l, eq-eqb (a / 17) (b / 17) e, lt-ltb (a % 17) (b % 17) f))

module _ (m : Model) (z : Zone) where
  -- a bound from its entry, and back
  right_of : (k : ℕ) (c : ℤ) → RightAt (variables m (order_of z)) k c → RightBound (variables m (order_of z) - 1) 32000 (record { i = k / 17; j = k % 17; c = c })
  right_of k c r = record { i = omega arith; j = omega arith; two = r.two; least = r.range.least; most = r.range.most }

  pub right_to : (k : ℕ) (c : ℤ) → RightBound (variables m (order_of z) - 1) 32000 (record { i = k / 17; j = k % 17; c = c }) → RightAt (variables m (order_of z)) k c
  right_to k c r = record { two = r.two; i = omega arith; j = omega arith; range = record { least = r.least; most = r.most } }

  pub entries_read : RightEntries (variables m (order_of z)) z.bounds → RightBounds m (order_of z) (bounds_of z)
  unfolding bounds_in
  entries_read r = record {
    each = each_collect _ 289 _ _ (λ k h e. right_of k (entry_in z.bounds k) ((r.each k h).bound e));
    rising = ordered_collect _ 289 _ _ (λ a b l h e f. row_by_row a b (entry_in z.bounds a) (entry_in z.bounds b) l);
  }

  pub entries_make : RightBounds m (order_of z) (bounds_of z) → RightEntries (variables m (order_of z)) z.bounds
  unfolding bounds_in
  entries_make r = record {
    each = λ k h. record { bound = λ e. right_to k (entry_in z.bounds k) (each_mem _ (bounds_of z) r.each _ (mem_collect 289 (λ k. is_bound (entry_in z.bounds k)) (λ k. record { i = k / 17; j = k % 17; c = entry_in z.bounds k }) k h e)) };
  }
