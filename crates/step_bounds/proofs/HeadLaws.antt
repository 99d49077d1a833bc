-- Laws of the head: its slot, and the bound by which it goes on or finishes.
-- Assumes nothing.
use mathlib.Core.Path.{◌≡◌, refl, sym, subst}
use mathlib.Core.List.{List, [], ◌∷◌}
use Prim.Native.Nat.{ℕ, zero, suc, ◌<◌}
use native.Mathlib.Omega.{arith}
use lib.IntN.{ℤ, sub_ℕ}
use lib.ListN.{length, get_or, take}
use Rattle.std.specs.Prelude.{Option, None, Some}
use Rattle.meaning.specs.Model.{Model, task_at}
use Rattle.meaning.specs.Inner.Bounds.{bound}
use Rattle.meaning.specs.Inner.Slots.{slots_of}
use Rattle.meaning.specs.Inner.StepBounds.{head_goes_on, head_finishes}
use Rattle.zone_bounds.specs.Narrowed.{Narrows}
use Rattle.step_bounds.proofs.TestLaws.{narrows_impossible}

-- a queue that has jobs has a head
pub head_of : (n : ℕ) (tasks : List ℕ) → 0 < n → 0 < length tasks → (o : List ℕ) × (take n tasks ≡ get_or tasks 0 0 ∷ o)
head_of zero tasks h l = absurd (omega arith)
head_of (suc n) [] h l = absurd (omega arith)
head_of (suc n) (t ∷ ts) h l = (take n ts, refl)

module _ (m : Model) (n : ℕ) (tasks : List ℕ) (t : List ℤ) (r : Option (List ℤ)) where
  pub on_none : n ≡ 0 → Narrows [] (Some t) r → Narrows (head_goes_on m (slots_of m (take n tasks))) (Some t) r
  on_none e w = rw e w

  pub finish_none : n ≡ 0 → Narrows (head_finishes m (slots_of m (take n tasks))) (Some t) None
  finish_none e = rw e (narrows_impossible t)

  pub on_head : 0 < n → 0 < length tasks → Narrows (bound (suc m.clocks) 0 (sub_ℕ (task_at m (get_or tasks 0 0)).C 2) ∷ []) (Some t) r
      → Narrows (head_goes_on m (slots_of m (take n tasks))) (Some t) r
  on_head h l w = let q = head_of n tasks h l in subst (λ (o : List ℕ). Narrows (head_goes_on m (slots_of m o)) (Some t) r) (sym q.1) w

  pub finish_head : 0 < n → 0 < length tasks → Narrows (bound 0 (suc m.clocks) (sub_ℕ 1 (task_at m (get_or tasks 0 0)).C) ∷ []) (Some t) r
      → Narrows (head_finishes m (slots_of m (take n tasks))) (Some t) r
  finish_head h l w = let q = head_of n tasks h l in subst (λ (o : List ℕ). Narrows (head_finishes m (slots_of m o)) (Some t) r) (sym q.1) w
