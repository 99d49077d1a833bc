-- The bounds of a claimed zone where they stand in the proposal's table: a state breaks one there exactly if it breaks the zone's.
-- Assumes nothing.
use mathlib.Core.Path.{◌≡◌, refl, sym, ◌∙◌, ap, subst}
use mathlib.Core.List.{List, [], ◌∷◌, Memᴰ}
use Prim.Native.Nat.{ℕ, suc, ◌+◌, ◌-◌, ◌*◌, ◌/◌, ◌%◌, ◌≤◌, ◌<◌}
use native.Mathlib.Omega.{arith}
use lib.IntN.{ℤ}
use lib.ListN.{get_or}
use borrow.Author.Tests.{lt-ltb, ltb-true}
use Rattle.meaning.specs.Numbers.{over, under}
use Rattle.meaning.specs.Model.{Bound, Model}
use Rattle.meaning.specs.Machine.State.{State}
use Rattle.meaning.specs.Zones.Variables.{var, variables}
use Rattle.meaning.specs.Check.Faults.{BreaksZone}
use Rattle.meaning.specs.Text.Ranges.{bound_most}
use Rattle.meaning.specs.Text.Lines.{lowered_by}
use Rattle.meaning.specs.Text.RightModel.{Each, RightBound, RightModel}
use Rattle.meaning.specs.Text.ModelTable.{there}
use Rattle.meaning.specs.Text.ProposalReader.{Given}
use Rattle.meaning.specs.Text.ProposalTable.{bounds_slot, order_in, bounds_in, zone_in}
use Rattle.meaning.specs.Inner.Bounds.{bound, Ranged}
use Rattle.meaning.proofs.Numbers.{within_false, within_break}
use Rattle.meaning.proofs.Text.Collects.{mem_collect, mem_collect_inv}
use Rattle.meaning.proofs.Text.BoundLaws.{over_of, under_of}
use Rattle.meaning.proofs.Exact.Faulty.{Writes}
use Rattle.bounds.specs.Claims.{cell, Breaks, Cells}
use Rattle.zone_table.specs.Sound.{zones_in}
use Rattle.zone_table.proofs.SoundGiven.{zones_few}
use Rattle.zone_table.proofs.ZoneParts.{given_is_sound, given_small}

-- where the bounds of zone n stand
abbrev pub start_of : ℕ → ℕ
start_of n = bounds_slot (n - 1)

-- the bound that a cell holds
abbrev pub kept : ℕ → ℤ
kept v = lowered_by bound_most (v - 1)

-- a bound that is written between i and j, from the place where it stands
module _ (t : List ℕ) (k i j : ℕ) (hi : i < 17) (hj : j < 17) where
  at_place : i * 17 + j < 289
  at_place = omega arith

  row_of : (i * 17 + j) / 17 ≡ i
  row_of = omega arith

  column_of : (i * 17 + j) % 17 ≡ j
  column_of = omega arith

  -- something stands there: it is written
  pub written_at : 0 < cell t (384 + 289 * k) i j → Memᴰ (bound i j (kept (cell t (384 + 289 * k) i j))) (bounds_in t k)
  unfolding bounds_in
  written_at h =
      let f : ℕ → Bound = λ x. record { i = x / 17; j = x % 17; c = lowered_by bound_most (get_or t (bounds_slot k + x) 0 - 1) } in
      subst (λ (b : Bound). Memᴰ b (bounds_in t k))
      (ap (λ (r : ℕ). bound r ((i * 17 + j) % 17) (kept (cell t (384 + 289 * k) i j))) row_of ∙ ap (λ (r : ℕ). bound i r (kept (cell t (384 + 289 * k) i j))) column_of)
      (mem_collect 289 (λ x. there t (bounds_slot k + x)) f (i * 17 + j) at_place (lt-ltb 0 (cell t (384 + 289 * k) i j) h))

  -- and nothing else is
  pub only_at : (b : Bound) → Memᴰ b (bounds_in t k) → b.i ≡ i → b.j ≡ j → (0 < cell t (384 + 289 * k) i j) × (b.c ≡ kept (cell t (384 + 289 * k) i j))
  unfolding bounds_in
  only_at b h p q =
      let f : ℕ → Bound = λ x. record { i = x / 17; j = x % 17; c = lowered_by bound_most (get_or t (bounds_slot k + x) 0 - 1) } in
      let r = mem_collect_inv 289 (λ x. there t (bounds_slot k + x)) f b h in
      let x = r.0 in
      let e : x / 17 ≡ i = sym (ap (λ (u : Bound). u.i) r.3) ∙ p in
      let g : x % 17 ≡ j = sym (ap (λ (u : Bound). u.j) r.3) ∙ q in
      let z : x ≡ i * 17 + j = omega arith in
      let w : 0 < get_or t (bounds_slot k + x) 0 = ltb-true 0 (get_or t (bounds_slot k + x) 0) r.2 in
      (subst (λ (y : ℕ). 0 < get_or t (bounds_slot k + y) 0) z w, ap (λ (u : Bound). u.c) r.3 ∙ ap (λ (y : ℕ). lowered_by bound_most (get_or t (bounds_slot k + y) 0 - 1)) z)

module _ (m : Model) (r : RightModel m) (t : List ℕ) (g : Given m t) (n : ℕ) (a : 1 ≤ n) (b : n ≤ zones_in t) where
  -- every cell is in the table, and in range
  pub cells_of : Cells t (start_of n)
  cells_of = record {
    long = let s = given_is_sound m r t g in omega (arith, s.long, zones_few t);
    small = λ q h. omega (arith, given_small m r t g n a b q h);
  }

  -- its bounds are of its own variables
  pub zone_ranged : Ranged (variables m (zone_in t (n - 1)).order) (zone_in t (n - 1)).bounds
  unfolding zone_in
  zone_ranged =
      let s = ((given_is_sound m r t g).zones (n - 1) (omega arith)).bounds in
      let e : suc (variables m (order_in t (n - 1)) - 1) ≡ variables m (order_in t (n - 1)) = omega arith in
      subst (λ (k : ℕ). Ranged k (bounds_in t (n - 1))) e (spans (variables m (order_in t (n - 1)) - 1) 32000 (bounds_in t (n - 1)) s.each)
    where
      spans : (last end : ℕ) (bs : List Bound) → Each (RightBound last end) bs → Ranged (suc last) bs
      spans last end [] h = tt
      spans last end (x ∷ bs) h = (omega (arith, h.0.i), omega (arith, h.0.j), spans last end bs h.1)

  -- the cell between i and j
  module _ (i j : ℕ) (hi : i < 17) (hj : j < 17) where
    abbrev here : ℕ
    here = cell t (start_of n) i j

    pub writes_at : 0 < here → Writes (zone_in t (n - 1)) i j (kept here)
    unfolding zone_in
    writes_at h = record {
      written = written_at t (n - 1) i j hi hj h;
      tightest = λ x w p q. let e = (only_at t (n - 1) i j hi hj x w p q).1 in omega (arith, ap over e, ap under e);
    }

    pub broken_there : (s : State) → BreaksZone (zone_in t (n - 1)) i j s → Breaks t (start_of n) i j (var s)
    unfolding zone_in
    broken_there s w =
        let o = only_at t (n - 1) i j hi hj w.bound w.written w.row w.column in
        let f = within_false (var s w.bound.i) (var s w.bound.j) w.bound.c w.broken in
        let g : var s j + over w.bound.c < var s i + under w.bound.c =
        subst (λ (x : ℕ). var s x + over w.bound.c < var s i + under w.bound.c) w.column
        (subst (λ (x : ℕ). var s w.bound.j + over w.bound.c < var s x + under w.bound.c) w.row f) in
        record {
          there = o.0;
          above = omega (arith, o.0, ap over o.1, ap under o.1, over_of bound_most (here - 1), under_of bound_most (here - 1));
        }

    pub there_broken : (s : State) → Breaks t (start_of n) i j (var s) → BreaksZone (zone_in t (n - 1)) i j s
    unfolding zone_in
    there_broken s w = record {
      bound = bound i j (kept here);
      written = written_at t (n - 1) i j hi hj w.there;
      row = refl;
      column = refl;
      broken = within_break (var s i) (var s j) (kept here) (omega (arith, w.there, w.above, over_of bound_most (here - 1), under_of bound_most (here - 1)));
    }
