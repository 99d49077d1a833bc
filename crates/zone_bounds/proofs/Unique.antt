-- The contracts of the matrix determine it: where the bounds are given, any two matrices narrowed by them coincide.
-- Assumes nothing.
use mathlib.Core.Path.{◌≡◌, refl, sym, ◌∙◌, ap}
use mathlib.Core.List.{List, ◌++◌}
use Prim.Native.Nat.{ℕ, ◌+◌, ◌*◌, ◌≤◌}
use native.Mathlib.Omega.{arith}
use mathlib.Core.Logic.{⊎_elim}
use lib.IntN.{ℤ, pos}
use lib.ListN.{length, get_or-eq_default}
use Rattle.std.specs.Prelude.{Option, None, Some, IfSome}
use Rattle.meaning.specs.Model.{Bound}
use Rattle.bounds.specs.Matrix.{ent}
use Rattle.bounds.proofs.Points.{low_sol}
use Rattle.bounds.proofs.Unique.{matrix_same}
use Rattle.zone_bounds.specs.Narrowed.{Narrowed, Narrows}

module _ (bs : List Bound) where
  -- one that there is has a solution, so there can't be none too
  one_of : (m : List ℤ) → Narrowed bs (Some m) → Narrowed bs None → ⊥
  one_of m w none =
      let s = low_sol _ 17 w.ready.closed in
      none _ (w.solves.origin _ s) (w.solves.sound _ s)

  both : (m r : List ℤ) → length m ≡ 289 → length r ≡ 289 → Narrowed bs (Some m) → Narrowed bs (Some r) → m ≡ r
  both m r l k a b =
      let v = a.solves in
      let w = b.solves in
      matrix_same 17 m r (omega arith) l k a.ready.closed b.ready.closed
      (λ i j hi hj. (a.ready.entries (i * 17 + j) (omega arith)).most) (λ i j hi hj. (b.ready.entries (i * 17 + j) (omega arith)).most)
      (λ x s. w.whole x (v.origin x s) (v.sound x s)) (λ x s. v.whole x (w.origin x s) (w.sound x s))
      (λ q o. ⊎_elim (λ h. beyond m q (omega arith) ∙ sym (beyond r q (omega arith))) (λ h. absurd (omega arith)) o)
    where
      -- nothing stands behind 289 entries
      beyond : (m : List ℤ) (q : ℕ) → length m ≤ q → ent m q ≡ pos 0
      beyond m q h = get_or-eq_default m (pos 0) h

pub narrowed_once : (bs : List Bound) (t r : Option (List ℤ)) → IfSome t (λ m. length m ≡ 289) → IfSome r (λ m. length m ≡ 289) → Narrowed bs t → Narrowed bs r → t ≡ r
narrowed_once bs None None l k a b = refl
narrowed_once bs None (Some r) l k a b = absurd (one_of bs r b a)
narrowed_once bs (Some m) None l k a b = absurd (one_of bs m a b)
narrowed_once bs (Some m) (Some r) l k a b = ap Some (both bs m r l k a b)

-- narrowed by more bounds, from a matrix that some bounds give
pub narrows_once : (bs cs : List Bound) (t r s : Option (List ℤ)) → IfSome r (λ t. length t ≡ 289) → IfSome s (λ t. length t ≡ 289)
    → Narrowed cs t → Narrows bs t r → Narrows bs t s → r ≡ s
narrows_once bs cs t r s l k w a b = narrowed_once (cs ++ bs) r s l k (a.more cs w) (b.more cs w)
