-- The reader's loop over a text of records that are put one behind the other: what holds before each record, and one law for each way out of a turn.
-- Assumes nothing.
use Prim.Native.Nat.{◌+◌, ◌-◌, ◌<◌, ◌≤◌, suc, ℕ}
use mathlib.Core.List.{List}
use mathlib.Core.Path.{◌∙◌, ◌≡◌, ap, refl, sym}
use native.Mathlib.Omega.{arith}
use lib.ListN.{length}
use Rattle.meaning.proofs.Text.RecordRowLaws.{Lawful}
use Rattle.meaning.specs.Text.RecordRow.{Row, closed, next, read, run, turn, wrong}
use Rattle.meaning.specs.Text.Records.{done, refused}

module _ {M W : Type 0} (R : Row M W) (L : Lawful R) (room : (s : List ℕ) (at : ℕ) (m : M) (w : W) (k : ℕ) → R.look s at m ≡ next w k → (at < k) × (k ≤ length s)) where
  -- the text s is read up to `at`, and m is what was read
  pub record Reading (s : List ℕ) (at : ℕ) (m : M) : Type 0 where
    pub fuel : ℕ
    pub enough : length s < at + fuel
    pub within : at ≤ length s
    pub good : L.Good m
    pub same : run R fuel s at m ≡ read R s

  pub reading_first : (s : List ℕ) → Reading s 0 R.start
  unfolding read
  reading_first s = record { fuel = length s + 1; enough = omega arith; within = omega arith; good = L.good_start; same = refl }

  module _ (s : List ℕ) (at : ℕ) (m : M) (r : Reading s at m) where
    one_turn : (f : ℕ) → r.fuel ≡ suc f → turn R (run R f s) m (R.look s at m) ≡ read R s
    unfolding run
    one_turn f e = ap (λ (x : ℕ). run R x s at m) (sym e) ∙ r.same

    last_turn : turn R (run R (r.fuel - 1) s) m (R.look s at m) ≡ read R s
    last_turn = let a = r.enough in let b = r.within in one_turn (r.fuel - 1) (omega arith)

    pub reading_more : (w : W) (k : ℕ) → R.look s at m ≡ next w k → Reading s k (R.put m w)
    unfolding turn
    reading_more w k e =
        let n = room s at m w k e in
        let a = r.enough in
        let b = r.within in
        record { fuel = r.fuel - 1; enough = omega arith; within = n.1; good = L.good_put m w r.good (L.next_inv s at m w k r.good e).0; same = rw e at last_turn }

    pub reading_closed : R.look s at m ≡ closed → read R s ≡ done m
    unfolding turn
    reading_closed e = sym (rw e at last_turn)

    pub reading_wrong : (k p : ℕ) → R.look s at m ≡ wrong k p → read R s ≡ refused k p
    unfolding turn
    reading_wrong k p e = sym (rw e at last_turn)
