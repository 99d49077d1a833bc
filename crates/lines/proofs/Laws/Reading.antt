-- A line of numbers that is read field by field: what is left to read, and what came before it.
-- Assumes nothing.
use Prim.Native.Nat.{ℕ, ◌+◌, ◌≤◌, ◌<◌}
use mathlib.Core.Path.{◌≡◌, refl, sym, ap, ◌∙◌}
use mathlib.Core.List.{List, [], ◌∷◌, ◌++◌, append_assoc, append-nil, map}
use mathlib.Core.Bool.{Bool, true, false}
use native.Mathlib.Omega.{arith}
use native.Mathlib.Numerals.{add-one}
use lib.Dec.{ltb, eqb}
use lib.ListN.{length, get_or, set, drop, drop_of_length-le, length-append}
use lib.Seq.{sets, drop-cons}
use Rattle.std.proofs.Common.{Option, Some, None}
use Rattle.meaning.specs.Text.Choice.{pick}
use Rattle.meaning.specs.Text.Numerals.{num, stuck}
use Rattle.meaning.specs.Text.Lines as meaning
use Rattle.meaning.specs.Text.Lines.{field, outside, kept, Fields, ok, bad, out, join, fields_then, fields}
use Rattle.meaning.proofs.Text.WriteLaws.{sets_append}
use Rattle.lines.specs.declared.ranges.Range.{Range}
use Rattle.lines.specs.Meant.{range_of, first_out, no_numbers}

-- ---- what came before

-- o is the place of the first number out of its range, where there is one
unfoldable pub after : List ℕ → Option ℕ → Fields → Fields
after vs None (ok ws next) = ok (vs ++ ws) next
after vs None (bad p) = bad p
after vs None (out q) = out q
after vs (Some o) (ok ws next) = out o
after vs (Some o) (bad p) = bad p
after vs (Some o) (out q) = out o

pub after_none : (x : Fields) → x ≡ after [] None x
unfolding after
after_none (ok vs k) = refl
after_none (bad k) = refl
after_none (out k) = refl

pub after_join : (vs : List ℕ) (o : Option ℕ) (e : meaning.Range) (p w : ℕ) (x : Fields) → after vs o (join e p w x) ≡ after (vs ++ w ∷ []) (first_out o (outside e w) p) x
unfolding join after first_out
after_join vs o e p w x = go o (outside e w) refl x
  where
    go : (o : Option ℕ) (t : Bool) → outside e w ≡ t → (x : Fields) → after vs o (join e p w x) ≡ after (vs ++ w ∷ []) (first_out o t p) x
    go None true t (ok ws n) = rw t
    go None false t (ok ws n) = rw t (ap (λ (l : List ℕ). ok l n) (sym (append_assoc vs (w ∷ []) ws)))
    go (Some a) true t (ok ws n) = rw t
    go (Some a) false t (ok ws n) = rw t
    go None true t (bad k) = refl
    go None false t (bad k) = refl
    go (Some a) b t (bad k) = refl
    go None true t (out k) = rw t
    go None false t (out k) = rw t
    go (Some a) b t (out k) = refl

-- ---- the loop

module _ (s : List ℕ) (at : ℕ) (rs : List Range) where
  pub record Reading (v : List ℕ) (k p : ℕ) (o : Option ℕ) : Type 0 where
    pub vals : List ℕ
    pub many : length vals ≡ k
    pub here : v ≡ sets no_numbers 0 vals
    pub same : fields (map range_of rs) s at ≡ after vals o (fields (map range_of (drop k rs)) s p)

  pub reading_first : Reading no_numbers 0 at None
  reading_first = record {
    vals = [];
    many = refl;
    here = refl;
    same = after_none (fields (map range_of rs) s at);
  }

  module _ (v : List ℕ) (k p : ℕ) (o : Option ℕ) (r : Reading v k p o) (i : k < length rs) (e : Range) (here : e ≡ get_or rs k e) where
    left_more : fields (map range_of (drop k rs)) s p ≡ fields_then (range_of e) p (λ q. fields (map range_of (drop (k + 1) rs)) s q) (field (ltb 0 e.below) s p)
    unfolding fields
    left_more = rw (drop-cons rs k e i, sym here, add-one)

    pub reading_more : (g : Bool) (w next : ℕ) → field (ltb 0 e.below) s p ≡ num g w next
        → Reading (set v k (kept e.below g w)) (k + 1) next (first_out o (outside (range_of e) (kept e.below g w)) (p + 1))
    unfolding fields_then
    reading_more g w next f =
        let u = r.many in
        let y : k ≡ 0 + length r.vals = omega arith in
        let q : fields (map range_of (drop k rs)) s p ≡ join (range_of e) (p + 1) (kept e.below g w) (fields (map range_of (drop (k + 1) rs)) s next) = left_more ∙ rw f in
        record {
          vals = r.vals ++ kept e.below g w ∷ [];
          many = length-append r.vals (kept e.below g w ∷ []) ∙ omega arith;
          here = ap (λ (x : List ℕ). set x k (kept e.below g w)) r.here ∙ ap (λ (x : ℕ). set (sets no_numbers 0 r.vals) x (kept e.below g w)) y
              ∙ sym (sets_append no_numbers 0 r.vals (kept e.below g w ∷ []));
          same = r.same ∙ ap (after r.vals o) q ∙ after_join r.vals o (range_of e) (p + 1) (kept e.below g w) (fields (map range_of (drop (k + 1) rs)) s next);
        }

    pub reading_bad : (q : ℕ) → field (ltb 0 e.below) s p ≡ stuck q → fields (map range_of rs) s at ≡ bad q
    unfolding fields_then after
    reading_bad q f = r.same ∙ ap (after r.vals o) (left_more ∙ rw f) ∙ go o
      where
        go : (o : Option ℕ) → after r.vals o (bad q) ≡ bad q
        go None = refl
        go (Some a) = refl

  module _ (v : List ℕ) (k p : ℕ) (o : Option ℕ) (r : Reading v k p o) (i : length rs ≤ k) where
    left_none : (x : Fields) → pick (eqb (get_or s p 0) 10) (ok [] (p + 1)) (bad p) ≡ x → fields (map range_of rs) s at ≡ after r.vals o x
    unfolding fields
    left_none x e = r.same ∙ ap (after r.vals o) (rw (drop_of_length-le rs i) e)

    pub line_ends : eqb (get_or s p 0) 10 ≡ true → o ≡ None → fields (map range_of rs) s at ≡ ok r.vals (p + 1)
    unfolding after
    line_ends e z = left_none (ok [] (p + 1)) (rw e) ∙ rw (z, append-nil)

    pub line_out : (q : ℕ) → eqb (get_or s p 0) 10 ≡ true → o ≡ Some q → fields (map range_of rs) s at ≡ out q
    unfolding after
    line_out q e z = left_none (ok [] (p + 1)) (rw e) ∙ rw z

    pub line_open : eqb (get_or s p 0) 10 ≡ false → fields (map range_of rs) s at ≡ bad p
    unfolding after
    line_open e = left_none (bad p) (rw e) ∙ go o
      where
        go : (o : Option ℕ) → after r.vals o (bad p) ≡ bad p
        go None = refl
        go (Some a) = refl
