-- Laws of narrowed matrices: the first, one bound more, and one narrowing after the other, as far as a matrix is left.
-- Assumes nothing.
use mathlib.Core.Path.{◌≡◌, subst}
use mathlib.Core.List.{List, [], ◌∷◌, ◌++◌, append_assoc, append-nil}
use Prim.Native.Nat.{ℕ, zero, suc, ◌≤◌, ◌<◌}
use native.Mathlib.Omega.{arith}
use native.Mathlib.Decide.{dec_le}
use lib.IntN.{ℤ}
use Rattle.std.specs.Prelude.{Option, None, Some}
use Rattle.meaning.specs.Model.{Bound}
use Rattle.meaning.specs.Inner.Bounds.{bound}
use Rattle.meaning.specs.Inner.Smallest.{NoneMeet}
use Rattle.meaning.proofs.Exact.Bounds.{met_append}
use Rattle.meaning.proofs.Exact.Solved.{solves_first, solves_more, none_more}
use Rattle.bounds.specs.Matrix.{at, Sol, Size}
use Rattle.bounds.specs.Results.{Widest, Tightened}
use Rattle.bounds.proofs.Ranges.{ready_top, ready_tighten, room}
use Rattle.zone_bounds.specs.Narrowed.{bound_size, Workable, Narrowed, Narrows}

-- nothing is known: no bound
pub narrowed_first : (m : List ℤ) → Widest m → Narrowed [] (Some m)
narrowed_first m w = record {
  ready = ready_top m 17 bound_size w (omega arith) (omega arith);
  solves = solves_first (Sol (at m) 17) (λ x s. s.zero) w.all;
}

-- one bound more, as `tighten` makes of it
pub narrows_one : (m : List ℤ) (i j : ℕ) (c : ℤ) (r : Option (List ℤ)) → Workable m → i < 17 → j < 17 → Size c bound_size → Tightened m 17 i j c r
    → Narrows (bound i j c ∷ []) (Some m) r
narrows_one m i j c None u hi hj s h = record {
  usable = tt;
  more = λ cs w. none_more (Sol (at m) 17) cs [] (bound i j c) w.solves h;
}
narrows_one m i j c (Some r) u hi hj s x =
    let y : Workable r = ready_tighten m 17 i j c r 17 bound_size hi hj u (room 17 bound_size (omega arith) (omega arith)) s x in
    record {
      usable = y;
      more = λ cs w. record { ready = y; solves = solves_more (Sol (at m) 17) (Sol (at r) 17) cs (bound i j c) w.solves (record { sound = x.sound; whole = x.whole }) };
    }

-- ---- bounds one after the other

pub narrows_no : (m : List ℤ) → Workable m → Narrows [] (Some m) (Some m)
narrows_no m u = record { usable = u; more = λ cs w. rw append-nil w }

pub narrows_then : (bs cs : List Bound) (t r s : Option (List ℤ)) → Narrows bs t r → Narrows cs r s → Narrows (bs ++ cs) t s
narrows_then bs cs t r s a b = record {
  usable = b.usable;
  more = λ ds w. subst (λ (l : List Bound). Narrowed l s) (append_assoc ds bs cs) (b.more (ds ++ bs) (a.more ds w));
}

none_append : (bs cs : List Bound) → NoneMeet bs → NoneMeet (bs ++ cs)
none_append bs cs h x z w = h x z ((met_append x bs cs).0 w).0

-- where none is left, more bounds leave none
pub narrows_none : (bs : List Bound) → Narrows bs None None
narrows_none bs = record { usable = tt; more = λ cs w. none_append cs bs w }

pub narrows_stop : (bs cs : List Bound) (t : Option (List ℤ)) → Narrows bs t None → Narrows (bs ++ cs) t None
narrows_stop bs cs t a = narrows_then bs cs t None None a (narrows_none cs)

-- and so at the end of a loop that counts from a up to n and adds some a turn
pub narrows_rest : (l g : ℕ → List Bound) (a n : ℕ) → ((k : ℕ) → a ≤ k → k < n → l (suc k) ≡ l k ++ g k) → (t : Option (List ℤ)) (k : ℕ) → a ≤ k → k ≤ n → Narrows (l k) t None → Narrows (l n) t None
narrows_rest l g a zero e t k i h w = let z : k ≡ 0 = omega arith in subst (λ (n : ℕ). Narrows (l n) t None) z w
narrows_rest l g a (suc n) e t k i h w = go (dec_le k n) (narrows_rest l g a n (λ j p q. e j p (omega arith)) t k i)
  where
    go : Dec (k ≤ n) → (k ≤ n → Narrows (l k) t None → Narrows (l n) t None) → Narrows (l (suc n)) t None
    go (yes p) r = rw (e n (omega arith) (omega arith)) (narrows_stop (l n) (g n) t (r p w))
    go (no p) r = let z : k ≡ suc n = omega arith in subst (λ (j : ℕ). Narrows (l j) t None) z w

-- from what is narrowed already
pub narrowed_then : (bs cs : List Bound) (t r : Option (List ℤ)) → Narrowed bs t → Narrows cs t r → Narrowed (bs ++ cs) r
narrowed_then bs cs t r w a = a.more bs w

pub narrowed_stop : (bs cs : List Bound) → Narrowed bs None → Narrowed (bs ++ cs) None
narrowed_stop bs cs w = none_append bs cs w
