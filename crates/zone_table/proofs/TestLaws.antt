-- The tests of a zone's bounds and of its head, cell by cell.
-- Assumes nothing.
use Prim.Native.Nat.{ℕ, ◌+◌, ◌-◌, ◌*◌, ◌/◌, ◌%◌, ◌≤◌, ◌<◌}
use mathlib.Core.Path.{◌≡◌, refl, sym, ◌∙◌, ap}
use mathlib.Core.Bool.{true, ◌&&◌, ◌||◌}
use mathlib.Core.List.{List, map}
use native.Mathlib.Omega.{arith}
use lib.Dec.{ltb, eqb}
use lib.ListN.{length, get_or}
use borrow.Author.Tests.{lt-ltb, le-ltb, eq-eqb, ltb-true}
use Rattle.meaning.specs.Model.{Bound, Model}
use Rattle.meaning.specs.Zones.Variables.{variables}
use Rattle.meaning.specs.Zones.Proper.{fits}
use Rattle.meaning.specs.Text.Ranges.{bound_most}
use Rattle.meaning.specs.Text.ModelTable.{there, count}
use Rattle.meaning.specs.Text.ModelReader.{words}
use Rattle.meaning.specs.Text.RightModel.{RightBound, before}
use Rattle.meaning.specs.Text.RightProposal.{RightBounds}
use Rattle.meaning.specs.Text.ProposalTable.{order_in, bounds_in, zone_in, decode}
use Rattle.meaning.proofs.Text.BoundLaws.{over_of, under_of}
use Rattle.meaning.proofs.Text.Choices.{by_lt}
use Rattle.meaning.proofs.Text.Collects.{collect_length, each_collect, ordered_collect}
use Rattle.meaning.proofs.Text.Keyed.{collect_same}
use Rattle.zone_table.specs.Kept.{kept_bound}
use Rattle.zone_table.specs.Sound.{zones_in, queue_in, TaskFits, BoundFits, SoundOrder}
use Rattle.zone_table.proofs.RowLaws.{words_collect}
use Rattle.zone_table.proofs.Dense.{collect_each}
use Rattle.zone_table.proofs.SoundGiven.{queue_few, order_dense}

-- ---- bounds

-- row by row: 17 to a row
row_rising : (x y : ℕ) → x < y → (ltb (x / 17) (y / 17) || (eqb (x / 17) (y / 17) && ltb (x % 17) (y % 17))) ≡ true
row_rising x y h =
    by_lt (x / 17) (y / 17) (λ l. rw (lt-ltb (x / 17) (y / 17) l))
    (λ l.
    let e : x / 17 ≡ y / 17 = omega arith in
    let k : x % 17 < y % 17 = omega arith in
    rw (le-ltb (x / 17) (y / 17) l, eq-eqb (x / 17) (y / 17) e, lt-ltb (x % 17) (y % 17) k))

module _ (t : List ℕ) (k last : ℕ) where
  abbrev kept : ℕ → ℕ
  kept x = get_or t (384 + 289 * k + x) 0

  right_bound : (x : ℕ) → BoundFits last x (kept x) → there t (384 + 289 * k + x) ≡ true → RightBound last bound_most (kept_bound (x / 17) (x % 17) (kept x - 1))
  right_bound x f e =
      let h = ltb-true 0 (kept x) e in
      let w = f.most in
      record {
        i = f.row h;
        j = f.column h;
        two = f.two h;
        least = omega (arith, under_of bound_most (kept x - 1));
        most = omega (arith, over_of bound_most (kept x - 1));
      }

  bound_right : (x : ℕ) → (0 < kept x → RightBound last bound_most (kept_bound (x / 17) (x % 17) (kept x - 1))) → BoundFits last x (kept x)
  bound_right x r = record {
    row = λ h. (r h).i;
    column = λ h. (r h).j;
    two = λ h. (r h).two;
    most = by_lt 0 (kept x) (λ h. let b = (r h).most in omega (arith, over_of bound_most (kept x - 1))) (λ h. omega arith);
  }

  pub bounds_right : (m : Model) → last ≡ variables m (order_in t k) - 1 → ((x : ℕ) → x < 289 → BoundFits last x (kept x)) → RightBounds m (order_in t k) (bounds_in t k)
  unfolding bounds_in
  bounds_right m e h = record {
    each = rw (sym e) (each_collect (RightBound last bound_most) 289 (λ x. there t (384 + 289 * k + x)) (λ x. kept_bound (x / 17) (x % 17) (kept x - 1)) (λ x l q. right_bound x (h x l) q));
    rising = ordered_collect (λ (a b : Bound). before a b ≡ true) 289 (λ x. there t (384 + 289 * k + x)) (λ x. kept_bound (x / 17) (x % 17) (kept x - 1)) (λ x y l i a b. row_rising x y l);
  }

  pub bounds_fit : (m : Model) → last ≡ variables m (order_in t k) - 1 → RightBounds m (order_in t k) (bounds_in t k) → (x : ℕ) → x < 289 → BoundFits last x (kept x)
  unfolding bounds_in
  bounds_fit m e b x l =
      bound_right x (λ h. collect_each (RightBound last bound_most) 289 (λ x. there t (384 + 289 * k + x)) (λ x. kept_bound (x / 17) (x % 17) (kept x - 1)) (rw (sym e) at b.each) x l (lt-ltb 0 (kept x) h))

-- ---- the head of a zone

module _ (t : List ℕ) (k : ℕ) where
  abbrev task : ℕ → ℕ
  task x = get_or t (8 * k + 1 + x) 0

  -- the tasks of a queue without a gap stand in a row
  pub order_row : (m : Model) → ((x : ℕ) → x < 6 → TaskFits (length m.tasks) (queue_in t k) x (task x)) → order_in t k ≡ map (λ (x : ℕ). x - 1) (words t (8 * k + 1) (queue_in t k))
  order_row m h = order_dense m t k h ∙ sym (words_collect t (8 * k + 1) (queue_in t k))

  pub order_right : (m : Model) → 2 ≤ get_or t (8 * k) 0 → get_or t (8 * k) 0 ≤ length m.locations + 1
      → ((x : ℕ) → x < 6 → TaskFits (length m.tasks) (queue_in t k) x (task x)) → fits m (map (λ (x : ℕ). x - 1) (words t (8 * k + 1) (queue_in t k))) ≡ true → SoundOrder m t k
  order_right m a b h f = record {
    here = omega arith;
    queue = h;
    order = record {
      low = omega arith;
      high = omega arith;
      few = queue_few t k;
      tasks = rw (order_dense m t k h) (each_collect (λ (v : ℕ). (1 ≤ v) × (v ≤ length m.tasks)) (queue_in t k) (λ x. true) (λ x. task x - 1) (λ x l e.
          let w = (h x (let q = queue_few t k in omega arith)).inside l in
          (omega arith, omega arith)));
      fit = rw (order_row m h) f;
    };
  }

-- ---- how many

pub zones_count : (t : List ℕ) → count t 0 8 48 ≡ zones_in t
unfolding decode
zones_count t =
    sym (ap length (collect_same 48 (λ x. there t (8 * x)) (λ x. there t (0 + 8 * x)) (zone_in t) (zone_in t) (λ k l. let z : 0 + 8 * k ≡ 8 * k = omega arith in (rw z, refl)))
    ∙ collect_length t 0 8 48 (zone_in t))

pub queue_count : (t : List ℕ) (k : ℕ) → count t (8 * k + 1) 1 6 ≡ queue_in t k
unfolding order_in
queue_count t k =
    sym (ap length (collect_same 6 (λ x. there t (8 * k + 1 + x)) (λ x. there t (8 * k + 1 + 1 * x)) (λ x. get_or t (8 * k + 1 + x) 0 - 1) (λ x. get_or t (8 * k + 1 + x) 0 - 1)
    (λ x l. let z : 8 * k + 1 + 1 * x ≡ 8 * k + 1 + x = omega arith in (rw z, refl)))
    ∙ collect_length t (8 * k + 1) 1 6 (λ x. get_or t (8 * k + 1 + x) 0 - 1))
