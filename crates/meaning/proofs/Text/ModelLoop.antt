-- The reader's loop: what holds before each record, and one law for each way out of a turn.
-- Assumes nothing.
use Prim.Native.Nat.{◌+◌, ◌-◌, ◌<◌, ◌≤◌, suc, ℕ}
use mathlib.Core.Bool.{◌&&◌}
use mathlib.Core.List.{List}
use mathlib.Core.Path.{◌∙◌, ◌≡◌, ap, refl, sym}
use native.Mathlib.Omega.{arith}
use lib.Dec.{leb}
use lib.ListN.{get_or, length, length-replicate, replicate}
use lib.Seq.{sets}
use Rattle.meaning.proofs.Text.Choices.{by_pick, nonsense}
use Rattle.meaning.proofs.Text.LineLaws.{fields_next}
use Rattle.meaning.proofs.Text.ModelLaws.{Good, good_put, judge_rec, ok_inside, rec_inv, zeros}
use Rattle.meaning.specs.Text.Lines.{fields}
use Rattle.meaning.specs.Text.ModelReader.{format, look, look_for, mark_of, rule}
use Rattle.meaning.specs.Text.ModelTable.{size}
use Rattle.meaning.specs.Text.ModelText.{Mark}
use Rattle.meaning.specs.Text.Records.{done, end, fault, read, rec, refused, run, turn}

pub rec_next : (s : List ℕ) (at i : ℕ) (m : List ℕ) (j : ℕ) (v : List ℕ) (next : ℕ) → look s at i m ≡ rec j v next → (at < next) × (next ≤ length s)
unfolding look look_for
rec_next s at i m j v next e =
    by_pick ((rule q m).due && leb i (rule q m).latest) _ _ _ e
    (λ _ e. by_pick (rule q m).room _ _ _ e
    (λ _ e.
    let h = judge_rec q s at i m (fields (rule q m).ends s (at + 2)) j v next e in
    let n = fields_next (rule q m).ends s (at + 2) h.0 next h.1 in
    omega arith)
    (λ _ e. nonsense (cc)))
    (λ _ e. nonsense (cc))
  where
    q : Mark
    q = mark_of (get_or s at 0) (get_or s (at + 1) 0)

-- the text s is read up to `at`, the cursor is at i and the table is m
pub record Reading (s : List ℕ) (at i : ℕ) (m : List ℕ) : Type 0 where
  pub fuel : ℕ
  pub enough : length s < at + fuel
  pub within : at ≤ length s
  pub good : Good m i
  pub same : run format fuel s at i m ≡ read format s

pub reading_first : (s : List ℕ) → Reading s 0 0 (replicate size 0)
unfolding read
reading_first s =
    record {
      fuel = length s + 1;
      enough = omega arith;
      within = omega arith;
      good = record { long = length-replicate {A = ℕ} size 0; upto = omega arith; few = rw (zeros 1) (omega arith) };
      same = refl;
    }

module _ (s : List ℕ) (at i : ℕ) (m : List ℕ) (r : Reading s at i m) where
  one_turn : (f : ℕ) → r.fuel ≡ suc f → turn format (run format f s) m (look s at i m) ≡ read format s
  unfolding run
  one_turn f e = ap (λ (x : ℕ). run format x s at i m) (sym e) ∙ r.same

  last_turn : turn format (run format (r.fuel - 1) s) m (look s at i m) ≡ read format s
  last_turn = let a = r.enough in let b = r.within in one_turn (r.fuel - 1) (omega arith)

  pub reading_more : (j : ℕ) (v : List ℕ) (next : ℕ) → look s at i m ≡ rec j v next → Reading s next (suc j) (sets m j v)
  unfolding turn
  reading_more j v next e =
      let w = rec_inv s at i m j v next r.good e in
      let n = rec_next s at i m j v next e in
      let a = r.enough in
      let b = r.within in
      record { fuel = r.fuel - 1; enough = omega arith; within = n.1; good = good_put m i j v r.good w.0 w.1; same = rw e at last_turn }

  -- the cells of the record lie within the table
  pub reading_room : (j : ℕ) (v : List ℕ) (next : ℕ) → look s at i m ≡ rec j v next → j + length v ≤ length m
  reading_room j v next e =
      let w = rec_inv s at i m j v next r.good e in
      omega (arith, ok_inside m j v w.0, r.good.long)

  pub reading_end : look s at i m ≡ end → read format s ≡ done m
  unfolding turn
  reading_end e = sym (rw e at last_turn)

  pub reading_fault : (k p : ℕ) → look s at i m ≡ fault k p → read format s ≡ refused k p
  unfolding turn
  reading_fault k p e = sym (rw e at last_turn)
