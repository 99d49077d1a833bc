-- Obligation 1: it holds, or it fails by kind 4 or 5, with the start state.
-- Assumes nothing.
use mathlib.Core.Path.{◌≡◌, refl, sym, subst}
use mathlib.Core.Logic.{◌⊎◌, inl, inr}
use mathlib.Core.Option.{Option, some}
use Prim.Native.Nat.{ℕ, ◌<◌}
use native.Mathlib.Omega.{arith}
use Rattle.meaning.specs.Lists.{nth1}
use Rattle.meaning.specs.Model.{Model}
use Rattle.meaning.specs.Machine.State.{State}
use Rattle.meaning.specs.Machine.Run.{start}
use Rattle.meaning.specs.Zones.Proper.{Proper}
use Rattle.meaning.specs.Zones.Zone.{Zone, Proposal}
use Rattle.meaning.specs.Zones.Reached.{home_of, home_of_zone}
use Rattle.meaning.specs.Check.Obligations.{starts, InNumber, Holds}
use Rattle.meaning.specs.Check.Faults.{Fault, late_at, over, unclaimed, elsewhere, breaks, kind_of, row_of, column_of, Elsewhere, BreaksZone, Breaks, AtFault, Below, Fails}
use Rattle.meaning.proofs.Machine.Proper.{WellFormed, start_proper}
use Rattle.meaning.proofs.Check.Faults.{inside_zone, not_late, RowByRow, at_start}

module _ (m : Model) (p : Proposal) (wf : WellFormed m) (y : Zone) (e : nth1 p.zones 1 ≡ some y) where
  -- "For obligation 1 only kinds 4 and 5 occur."
  start_kinds : (g : Fault) → kind_of g < 4 → (u : State) → AtFault m p starts g u → ⊥
  start_kinds (late_at k) b u a = not_late m u k (subst (Proper m) (sym a.0) (start_proper m wf)) a.1
  start_kinds over b u a = a
  start_kinds unclaimed b u a = omega (arith, a.1)
  start_kinds elsewhere b u a = omega arith
  start_kinds (breaks i j) b u a = omega arith

  -- the start lies elsewhere than zone 1
  pub start_elsewhere : (home_of (start m) ≡ home_of_zone y → ⊥) → Fails m p starts elsewhere (start m)
  start_elsewhere h = record {
    at = (refl, subst (λ (x : Option Zone). Elsewhere x (start m)) (sym e) h);
    least = λ u a. subst (Below (start m)) (sym a.0) (λ i. omega arith);
    first = first;
  }
    where
      first : (g : Fault) → (kind_of g < 4) ⊎ ((kind_of g ≡ 4) × RowByRow (row_of g) (column_of g) 0 0) → (u : State) → AtFault m p starts g u → ⊥
      first g (inl k) u a = start_kinds g k u a
      first g (inr (k, inl r)) u a = omega arith
      first g (inr (k, inr r)) u a = omega (arith, r.1)

  -- the start breaks a bound of zone 1, and none before it
  pub start_breaks : (i j : ℕ) → home_of (start m) ≡ home_of_zone y → BreaksZone y i j (start m)
      → ((a b : ℕ) → RowByRow a b i j → BreaksZone y a b (start m) → ⊥) → Fails m p starts (breaks i j) (start m)
  start_breaks i j h b k = record {
    at = (refl, subst (λ (x : Option Zone). Breaks x i j (start m)) (sym e) b);
    least = λ u a. subst (Below (start m)) (sym a.0) (λ q. omega arith);
    first = first;
  }
    where
      broken : (g : Fault) → (kind_of g < 5) ⊎ ((kind_of g ≡ 5) × RowByRow (row_of g) (column_of g) i j) → (u : State) → u ≡ start m
          → AtFault m p starts g u → ⊥
      broken (late_at q) w u t a = start_kinds (late_at q) (omega arith) u a
      broken over w u t a = a
      broken unclaimed w u t a = omega (arith, a.1)
      broken elsewhere w u t a =
          subst (λ (x : Option Zone). Elsewhere x (start m)) e (subst (λ (v : State). Elsewhere (nth1 p.zones 1) v) t a.1) h
      broken (breaks q r) (inl w) u t a = omega arith
      broken (breaks q r) (inr w) u t a =
          k q r w.1 (subst (λ (x : Option Zone). Breaks x q r (start m)) e (subst (λ (v : State). Breaks (nth1 p.zones 1) q r v) t a.1))

      first : (g : Fault) → (kind_of g < 5) ⊎ ((kind_of g ≡ 5) × RowByRow (row_of g) (column_of g) i j) → (u : State) → AtFault m p starts g u → ⊥
      first g w u a = broken g w u (at_start m p g u a) a

  -- it is in zone 1
  pub start_holds : home_of (start m) ≡ home_of_zone y → ((i j : ℕ) → BreaksZone y i j (start m) → ⊥) → Holds m p starts
  start_holds h k = subst (λ (x : Option Zone). InNumber m x (start m)) (sym e) (inside_zone m y (start m) (start_proper m wf) (λ w. w h) k)
