-- One turn of the loops that narrow a matrix: over the queue, and over a table of bounds or limits.
-- Assumes nothing.
use mathlib.Core.Path.{◌≡◌, refl, sym, ◌∙◌, ap, subst}
use mathlib.Core.Bool.{Bool, true, false}
use mathlib.Core.List.{List, [], ◌∷◌, ◌++◌, append-nil}
use Prim.Native.Nat.{ℕ, zero, suc, ◌+◌, ◌≤◌, ◌<◌}
use native.Mathlib.Omega.{arith}
use native.Mathlib.Numerals.{add-one}
use lib.IntN.{ℤ}
use lib.ListN.{length, get_or, take}
use lib.Seq.{get_or-take}
use Rattle.std.specs.Prelude.{Option, None, Some}
use Rattle.meaning.specs.Model.{Bound}
use Rattle.meaning.specs.Text.ModelTable.{clocks, collect}
use Rattle.meaning.specs.Inner.Slots.{Slot, slot, slots, slot_at, sum_ahead, slots_flat}
use Rattle.meaning.proofs.Exact.Loops.{flat_step, flat_done}
use Rattle.model_table.specs.Right.{RightTable}
use Rattle.model_table.proofs.PartLaws.{clocks_is}
use Rattle.zone_bounds.specs.Narrowed.{Workable, Narrows}
use Rattle.zone_bounds.proofs.NarrowLaws.{narrows_no, narrows_then, narrows_rest}

-- ---- over the queue: the bounds g of each of the first k positions

module _ (g : ℕ → Slot → List Bound) (v : ℕ) (o : List ℕ) where
  pub queue_next : (k : ℕ) (m r : List ℤ) (s : Option (List ℤ)) → k < length o → Narrows (slots_flat g 0 (take k (slots v o))) (Some m) (Some r)
      → Narrows (g (sum_ahead 0 v k) (slot_at v o k)) (Some r) s → Narrows (slots_flat g 0 (take (k + 1) (slots v o))) (Some m) s
  queue_next k m r s h a b =
      subst (λ (l : List Bound). Narrows l (Some m) s) (sym (ap (λ (n : ℕ). slots_flat g 0 (take n (slots v o))) (add-one k) ∙ flat_step g 0 v o k h))
      (narrows_then (slots_flat g 0 (take k (slots v o))) (g (sum_ahead 0 v k) (slot_at v o k)) (Some m) (Some r) s a b)

  pub queue_done : (k : ℕ) (m : List ℤ) (r : Option (List ℤ)) → k ≡ length o → Narrows (slots_flat g 0 (take k (slots v o))) (Some m) r → Narrows (slots_flat g 0 (slots v o)) (Some m) r
  queue_done k m r e a =
      subst (λ (l : List Bound). Narrows l (Some m) r) (ap (λ (n : ℕ). slots_flat g 0 (take n (slots v o))) e ∙ flat_done g 0 v o) a

  -- none is left on the way
  pub queue_stop : (k : ℕ) (m : List ℤ) → k ≤ length o → Narrows (slots_flat g 0 (take k (slots v o))) (Some m) None → Narrows (slots_flat g 0 (slots v o)) (Some m) None
  queue_stop k m h a =
      queue_done (length o) m None refl
      (narrows_rest (λ n. slots_flat g 0 (take n (slots v o))) (λ n. g (sum_ahead 0 v n) (slot_at v o n)) 0 (length o) (λ n i l. flat_step g 0 v o n l) (Some m) k (omega arith) h a)

-- the slot of a position, from the array of tasks
pub slot_at_lem : (v n k : ℕ) (tasks : List ℕ) → k < n → slot_at v (take n tasks) k ≡ slot (get_or tasks k 0) (v + (k + k)) (suc (v + (k + k)))
slot_at_lem v n k tasks h = ap (λ (u : ℕ). slot u (v + (k + k)) (suc (v + (k + k)))) (get_or-take n tasks k 0 h)

-- a right model has few clocks, so the variables of the queue are among the 17
pub clocks_small : (t : List ℕ) → RightTable t → clocks t ≤ 4
clocks_small t g = let w = g.right.clocks in omega (arith, clocks_is t g)

pub ahead_below : (v k : ℕ) → v ≤ 5 → k ≤ 5 → sum_ahead 0 v k < 17
ahead_below v zero h l = omega arith
ahead_below v (suc k) h l = omega arith

-- ---- over a table: those of the first k numbers that are taken

module _ {A : Type 0} (f : List A → List Bound) (one : A → List Bound) (nothing : f [] ≡ [])
    (more : (xs ys : List A) → f (xs ++ ys) ≡ f xs ++ f ys) (single : (x : A) → f (x ∷ []) ≡ one x) (p : ℕ → Bool) (e : ℕ → A) where
  pub table_first : (m : List ℤ) → Workable m → Narrows (f (collect 0 p e)) (Some m) (Some m)
  unfolding collect
  table_first m u = rw nothing (narrows_no m u)

  taken : (k : ℕ) → p k ≡ true → f (collect (suc k) p e) ≡ f (collect k p e) ++ one (e k)
  unfolding collect
  taken k h = rw h (more (collect k p e) (e k ∷ []) ∙ ap (λ (l : List Bound). f (collect k p e) ++ l) (single (e k)))

  passed : (k : ℕ) → p k ≡ false → f (collect (suc k) p e) ≡ f (collect k p e)
  unfolding collect
  passed k h = rw (h, append-nil) refl

  pub table_next : (k : ℕ) (m : List ℤ) (r s : Option (List ℤ)) → p k ≡ true → Narrows (f (collect k p e)) (Some m) r → Narrows (one (e k)) r s
      → Narrows (f (collect (k + 1) p e)) (Some m) s
  table_next k m r s h a b = rw (add-one, taken k h) (narrows_then (f (collect k p e)) (one (e k)) (Some m) r s a b)

  pub table_same : (k : ℕ) (m : List ℤ) (r : Option (List ℤ)) → p k ≡ false → Narrows (f (collect k p e)) (Some m) r → Narrows (f (collect (k + 1) p e)) (Some m) r
  table_same k m r h a = rw (add-one, passed k h) a
