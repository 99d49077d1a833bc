-- A zone that may be lent is one whose order and whose entries are right.
-- Assumes nothing.
use Prim.Native.Nat.{ℕ, suc, ◌-◌}
use mathlib.Core.Path.{◌≡◌, sym, subst}
use mathlib.Core.List.{List, [], ◌∷◌}
use native.Mathlib.Omega.{arith}
use Rattle.meaning.specs.Model.{Bound, Model}
use Rattle.meaning.specs.Zones.Variables.{variables}
use Rattle.meaning.specs.Text.RightModel.{Each, RightBound}
use Rattle.meaning.specs.Inner.Bounds.{Ranged}
use Rattle.meaning.specs.Inner.Slots.{RangedZone}
use Rattle.home.specs.Stands.{RightHome}
use Rattle.zone_bounds.specs.Entries.{Takable}
use Rattle.zone.specs.declared.Zone.{Zone}
use Rattle.zone.specs.Stands.{order_of, bounds_of, zone_of, Lendable}
use Rattle.zone.specs.ByCell.{RightEntries}
use Rattle.zone.proofs.EntryLaws.{entries_read, entries_make}

module _ (m : Model) (z : Zone) where
  pub lent_entries : (n : ℕ) → n ≡ variables m (order_of z) → Lendable m z → RightEntries n z.bounds
  lent_entries n e l = subst (λ (k : ℕ). RightEntries k z.bounds) (sym e) (entries_make m z l.bounds)

  pub lent_make : (n : ℕ) → n ≡ variables m (order_of z) → RightHome m z.home → RightEntries n z.bounds → Lendable m z
  lent_make n e h r = record { home = h; bounds = entries_read m z (subst (λ (k : ℕ). RightEntries k z.bounds) e r) }

-- ---- what it says to those who take it

ranged : (n end : ℕ) (bs : List Bound) → Each (RightBound n end) bs → Ranged (suc n) bs
ranged n end [] h = tt
ranged n end (b ∷ bs) h = (omega (arith, h.0.i), omega (arith, h.0.j), ranged n end bs h.1)

module _ (m : Model) (z : Zone) (l : Lendable m z) where
  -- its bounds speak of its variables
  pub lent_ranged : RangedZone m (zone_of z)
  lent_ranged =
      let n = variables m (order_of z) in
      let e : suc (n - 1) ≡ n = omega arith in
      record { bounds = subst (λ (k : ℕ). Ranged k (bounds_of z)) e (ranged (n - 1) 32000 (bounds_of z) l.bounds.each); fit = l.home.order.fit }

  -- and a matrix takes them
  pub lent_takable : Takable z.bounds
  lent_takable = record {
    each = λ k h e.
        let r = (((entries_make m z l.bounds).each k h).bound e).range in
        record { high = omega (arith, r.most); low = omega (arith, r.least) };
  }
