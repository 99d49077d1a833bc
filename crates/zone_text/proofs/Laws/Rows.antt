-- A row of numbers that is read field by field into the table: what holds before each field, and a law for each way out.
-- Assumes nothing.
use Prim.Native.Nat.{ℕ, zero, suc, ◌+◌, ◌-◌, ◌≤◌, ◌<◌}
use mathlib.Core.Path.{◌≡◌, refl, sym, ap, ◌∙◌}
use mathlib.Core.Bool.{Bool, true, false}
use mathlib.Core.List.{List, [], ◌∷◌, ◌++◌, append-nil, map}
use native.Mathlib.Omega.{arith}
use native.Mathlib.Numerals.{add-one}
use lib.Dec.{eqb}
use lib.ListN.{length, get_or, take, drop, set, length-append, length-map, length-set, length-drop}
use lib.Seq.{sets, take-length, drop-length, length-take-le}
use Rattle.std.proofs.lemmas.List.{set-append_left, take-append-drop}
use Rattle.std.proofs.lemmas.Result.{IfOk-weaker}
use Rattle.meaning.specs.Text.Numerals.{num, stuck}
use Rattle.meaning.specs.Text.Lines.{field, Range, between, around, outside, kept, Fields, ok, bad, out, join, fields_then, fields_up_to, fields_more, fields}
use Rattle.meaning.specs.Text.Choice.{pick}
use Rattle.meaning.specs.Text.Ranges.{bound_most, queue_most}
use Rattle.meaning.proofs.Text.LineLaws.{fields_inv}
use Rattle.meaning.proofs.Text.ModelLaws.{by_three}
use Rattle.meaning.proofs.Text.WriteLaws.{sets_append}
use Rattle.meaning.proofs.Text.NumeralSmall.{field_plain}
use Rattle.std.specs.Prelude.{Option, Some, None, Result, Ok, Err, IfOk}
use Rattle.meaning.proofs.Text.Choices.{nonsense}
use Rattle.refusals.specs.declared.Reason.TheVariants.{BrokenLine, OutOfRange}
use Rattle.refusals.specs.declared.Refusal.{Refusal}
use Rattle.lines.specs.Meant.{first_out, no_numbers, Told}
use Rattle.lines.specs.declared.fields.Line.{Line}
use Rattle.lines.proofs.Laws.Reading.{after, after_none, after_join}
use Rattle.zone_text.specs.declared.reading_rows.Row.{Row}
use Rattle.zone_text.specs.declared.reading_rows.Bound.{Bound}
use Rattle.zone_text.specs.Rows.{led, RowTold, HeadTold, BoundTold, BoundSmall}

map_snoc : (xs : List ℕ) (x : ℕ) → map suc (xs ++ x ∷ []) ≡ map suc xs ++ suc x ∷ []
map_snoc [] x = refl
map_snoc (y ∷ xs) x = ap (λ (l : List ℕ). suc y ∷ l) (map_snoc xs x)

led_is : (o : Option ℕ) (x : Fields) → led o x ≡ after [] o x
unfolding after
led_is None x = after_none x
led_is (Some o) (ok vs k) = refl
led_is (Some o) (bad k) = refl
led_is (Some o) (out k) = refl

module _ (s : List ℕ) (at : ℕ) (o₀ : Option ℕ) (most low high : ℕ) (t₀ : List ℕ) where
  abbrev e : Range
  e = between low high

  -- k numbers were read, up to the place p; o is the place of the first of them out of its range, where there is one
  pub record Taking (t : List ℕ) (k p : ℕ) (o : Option ℕ) : Type 0 where
    pub upto : k ≤ most
    pub vals : List ℕ
    pub many : length vals ≡ k
    pub long : length t ≡ length t₀
    pub same : led o₀ (fields_up_to most e s at) ≡ after vals o (fields_up_to (most - k) e s p)
    pub cells : k ≤ length t₀ → t ≡ sets t₀ 0 (map suc vals)

  pub taking_first : Taking t₀ 0 at o₀
  taking_first = record {
    upto = omega arith;
    vals = [];
    many = refl;
    long = refl;
    same = (let z : most ≡ most - 0 = omega arith in ap (λ (n : ℕ). led o₀ (fields_up_to n e s at)) z) ∙ led_is o₀ (fields_up_to (most - 0) e s at);
    cells = λ h. refl;
  }

  module _ (t : List ℕ) (k p : ℕ) (o : Option ℕ) (r : Taking t k p o) where
    -- the line's end
    line_end_lem : eqb (get_or s p 0) 10 ≡ true → (n : ℕ) → fields_up_to n e s p ≡ ok [] (p + 1)
    unfolding fields_up_to fields
    line_end_lem h zero = rw h
    line_end_lem h (suc n) = rw h

    pub taking_ends : eqb (get_or s p 0) 10 ≡ true → o ≡ None → led o₀ (fields_up_to most e s at) ≡ ok r.vals (p + 1)
    unfolding after
    taking_ends h z = r.same ∙ ap (after r.vals o) (line_end_lem h (most - k)) ∙ rw (z, append-nil)

    pub taking_out : (w : ℕ) → eqb (get_or s p 0) 10 ≡ true → o ≡ Some w → led o₀ (fields_up_to most e s at) ≡ out w
    unfolding after
    taking_out w h z = r.same ∙ ap (after r.vals o) (line_end_lem h (most - k)) ∙ rw z

    -- a line that is broken is so whatever its numbers are
    broken : (w : ℕ) → after r.vals o (bad w) ≡ bad w
    unfolding after
    broken w = go o
      where
        go : (o : Option ℕ) → after r.vals o (bad w) ≡ bad w
        go None = refl
        go (Some a) = refl

    module _ (h : eqb (get_or s p 0) 10 ≡ false) where
      pub taking_open : most ≤ k → led o₀ (fields_up_to most e s at) ≡ bad p
      unfolding fields_up_to fields
      taking_open l =
          let z : most - k ≡ 0 = omega arith in
          let y : fields_up_to (most - k) e s p ≡ bad p = rw (z, h) in
          r.same ∙ ap (after r.vals o) y ∙ broken p

      module _ (l : k < most) where
        pub taking_bad : (w : ℕ) → field false s p ≡ stuck w → led o₀ (fields_up_to most e s at) ≡ bad w
        unfolding fields_up_to fields_then
        taking_bad w f =
            let z : most - k ≡ suc (most - (k + 1)) = omega arith in
            let y : fields_up_to (most - k) e s p ≡ bad w = rw (z, h, f) in
            r.same ∙ ap (after r.vals o) y ∙ broken w

        module _ (g : Bool) (v next : ℕ) (f : field false s p ≡ num g v next) where
          goes_on : fields_up_to (most - k) e s p ≡ join e (p + 1) v (fields_up_to (most - (k + 1)) e s next)
          unfolding fields_up_to fields_then kept
          goes_on =
              let z : most - k ≡ suc (most - (k + 1)) = omega arith in
              let y : 0 + v ≡ v = omega arith in
              rw (z, h, f, field_plain s p g v next f, y)

          stored_more : (u : List ℕ) → u ≡ set t k (v + 1) → k ≤ length t₀ → u ≡ sets t₀ 0 (map suc (r.vals ++ v ∷ []))
          stored_more u w b =
              let d = r.many in
              let z : k ≡ 0 + length (map suc r.vals) = omega (arith, length-map r.vals suc) in
              w ∙ ap (λ (y : List ℕ). set y k (v + 1)) (r.cells b) ∙ rw (z, add-one v) (sym (sets_append t₀ 0 (map suc r.vals) (suc v ∷ []))) ∙ ap (sets t₀ 0) (sym (map_snoc r.vals v))

          pub taking_more : (u : List ℕ) (o' : Option ℕ) → length u ≡ length t₀ → (k + 1 ≤ length t₀ → u ≡ set t k (v + 1)) → o' ≡ first_out o (outside e v) (p + 1)
              → Taking u (k + 1) next o'
          taking_more u o' n w x =
              let d = r.many in
              record {
                upto = omega arith;
                vals = r.vals ++ v ∷ [];
                many = length-append r.vals (v ∷ []) ∙ omega arith;
                long = n;
                same = (r.same ∙ ap (after r.vals o) goes_on ∙ after_join r.vals o e (p + 1) v (fields_up_to (most - (k + 1)) e s next) ∙ ap (λ (y : Option ℕ). after (r.vals ++ v ∷ []) y (fields_up_to (most - (k + 1)) e s next)) (sym x));
                cells = λ b. stored_more u (w b) (omega arith);
              }

-- ---- a location and its tasks

module _ (s : List ℕ) (at locations tasks : ℕ) where
  pub head_stuck : (p : ℕ) → field false s at ≡ stuck p → fields_more (between 1 locations ∷ []) queue_most (between 1 tasks) s at ≡ bad p
  unfolding fields_more fields_then
  head_stuck p f = rw f

  pub head_then : (g : Bool) (v next : ℕ) → field false s at ≡ num g v next
      → fields_more (between 1 locations ∷ []) queue_most (between 1 tasks) s at ≡ join (between 1 locations) (at + 1) v (fields_up_to queue_most (between 1 tasks) s next)
  unfolding fields_more fields_then kept
  head_then g v next f = let y : 0 + v ≡ v = omega arith in rw (f, field_plain s at g v next f, y)

-- cells stored behind the first
pub sets_behind : (x : ℕ) (c : List ℕ) (i : ℕ) (ws : List ℕ) → sets (x ∷ c) (suc i) ws ≡ x ∷ sets c i ws
sets_behind x c i [] = refl
sets_behind x c i (w ∷ ws) = sets_behind x (set c i w) (suc i) ws

-- a row behind a location; c are the cells behind the first, b
pub head_told : (g : Range) (p v : ℕ) (x : Fields) (r : Result Row Refusal) (b : ℕ) (c c' : List ℕ) → RowTold (led (first_out None (outside g v) p) x) r c c' → IfOk r (λ row. row.many ≤ length c)
    → HeadTold (join g p v x) r (b ∷ c) ((v + 1) ∷ c')
unfolding join first_out
head_told g p v x r b c c' = go (outside g v) refl x
  where
    go : (t : Bool) → outside g v ≡ t → (x : Fields) → RowTold (led (pick t (Some p) None) x) r c c' → IfOk r (λ row. row.many ≤ length c) → HeadTold (join g p v x) r (b ∷ c) ((v + 1) ∷ c')
    go true t (ok vs k) w f = rw t w
    go true t (bad k) w f = w
    go true t (out k) w f = rw t w
    go false t (ok vs k) w f = let n : length vs ≤ length c = rw w.0 at f in rw t (w.0, rw (w.1 n, add-one v) (sym (sets_behind (suc v) c 0 (map suc vs))))
    go false t (bad k) w f = w
    go false t (out k) w f = rw t w

-- the same where the cells behind the first were lent
pub head_lent : (g : Range) (p v : ℕ) (x : Fields) (r : Result Row Refusal) (c c' : List ℕ) → 7 ≤ length c → IfOk r (λ row. row.many ≤ 6)
    → RowTold (led (first_out None (outside g v) p) x) r (take (length (set c 0 (v + 1)) - 1) (drop 1 (set c 0 (v + 1)))) c'
    → HeadTold (join g p v x) r c (take 1 (set c 0 (v + 1)) ++ (c' ++ drop (length (set c 0 (v + 1)) - 1) (drop 1 (set c 0 (v + 1)))))
head_lent g p v x r [] c' l f w = absurd (omega arith)
head_lent g p v x r (b ∷ c) c' l f w =
    let z : suc (length c) - 1 ≡ length c = omega arith in
    rw (z, drop-length, append-nil) (head_told g p v x r b c c' (rw (z, take-length) at w) (IfOk-weaker r (λ row. row.many ≤ 6) (λ row. row.many ≤ length c) (λ row k. omega arith) f))

-- ---- the numbers of a bound

-- the bound of a line
abbrev pub bound_of : Line → Bound
bound_of r = record { next = r.at; i = get_or r.numbers 0 0; j = get_or r.numbers 1 0; c = get_or r.numbers 2 0 }

module _ (s : List ℕ) (at last : ℕ) (few : last ≤ 16) where
  abbrev bound_ranges : List Range
  bound_ranges = between 0 last ∷ between 0 last ∷ around bound_most ∷ []

  -- a line that is one
  pub bound_told : (r : Line) → Told (fields bound_ranges s at) (Ok r) → BoundTold (fields bound_ranges s at) (Ok (bound_of r)) × BoundSmall (bound_of r)
  bound_told r w = go (fields bound_ranges s at) refl w
    where
      go : (x : Fields) → fields bound_ranges s at ≡ x → Told x (Ok r) → BoundTold x (Ok (bound_of r)) × BoundSmall (bound_of r)
      go (ok vs k) e u =
          let f = fields_inv bound_ranges s at vs k (omega arith) e in
          let a : r.at ≡ k = cc in
          let n : r.numbers ≡ sets no_numbers 0 vs = cc in
          by_three (λ (v : List ℕ). r.numbers ≡ sets no_numbers 0 v → BoundTold (ok v k) (Ok (bound_of r)) × BoundSmall (bound_of r))
          (between 0 last) (between 0 last) (around bound_most) vs f.0
          (λ i j c i₁ i₂ j₁ j₂ c₁ c₂ q. ((i, j, c, rw (a, q), refl), record { i = rw q (omega arith); j = rw q (omega arith); c = rw q (omega arith) }))
          n
      go (bad k) e u = nonsense (cc)
      go (out k) e u = nonsense (cc)

-- ---- cells that were lent out of the table

sets_left : (xs ys : List ℕ) (i : ℕ) (vs : List ℕ) → i + length vs ≤ length xs → sets (xs ++ ys) i vs ≡ sets xs i vs ++ ys
sets_left xs ys i [] h = refl
sets_left xs ys i (v ∷ vs) h =
    let l : i < length xs = omega arith in
    ap (λ (l : List ℕ). sets l (suc i) vs) (set-append_left xs ys i v l) ∙ sets_left (set xs i v) ys (suc i) vs (simp length-set (omega arith))

-- n cells from q on, with numbers stored in the first of them
pub sets_lent : (t : List ℕ) (q n : ℕ) (vs : List ℕ) → q + n ≤ length t → length vs ≤ n → take q t ++ (sets (take n (drop q t)) 0 vs ++ drop n (drop q t)) ≡ sets t q vs
sets_lent t zero n vs h l =
    sym (sets_left (take n t) (drop n t) 0 vs (omega (arith, length-take-le n t (omega arith)))) ∙ ap (λ (r : List ℕ). sets r 0 vs) (take-append-drop n t)
sets_lent [] (suc q) n vs h l = absurd (omega arith)
sets_lent (x ∷ t) (suc q) n vs h l = ap (λ (r : List ℕ). x ∷ r) (sets_lent t q n vs (omega arith) l) ∙ sym (sets_behind x t q vs)

-- what a row leaves in the table t of which it was lent n cells from q on
abbrev pub RowStored : Fields → Result Row Refusal → ℕ → ℕ → List ℕ → List ℕ → Type 0
RowStored (ok vs next) r q n t t' = (r ≡ Ok (record { next = next; many = length vs })) × (length vs ≤ n → t' ≡ sets t q (map suc vs))
RowStored (bad p) r q n t t' = r ≡ Err (record { reason = BrokenLine; place = p })
RowStored (out p) r q n t t' = r ≡ Err (record { reason = OutOfRange; place = p })

-- the same of a location and its tasks
abbrev pub HeadStored : Fields → Result Row Refusal → ℕ → List ℕ → List ℕ → Type 0
HeadStored (ok [] next) r q t t' = ⊥
HeadStored (ok (l ∷ o) next) r q t t' = (r ≡ Ok (record { next = next; many = length o })) × (length o ≤ 7 → t' ≡ sets (set t q (suc l)) (q + 1) (map suc o))
HeadStored (bad p) r q t t' = r ≡ Err (record { reason = BrokenLine; place = p })
HeadStored (out p) r q t t' = r ≡ Err (record { reason = OutOfRange; place = p })

module _ (q n : ℕ) (t c' : List ℕ) (h : q + n ≤ length t) where
  pub row_stored : (x : Fields) (r : Result Row Refusal) → RowTold x r (take n (drop q t)) c' → RowStored x r q n t (take q t ++ (c' ++ drop n (drop q t)))
  row_stored (ok vs k) r w =
      (w.0, λ l. let z = length-take-le n (drop q t) (omega (arith, length-drop q t)) in rw (w.1 (omega (arith, z))) (sets_lent t q n (map suc vs) h (omega (arith, length-map vs suc))))
  row_stored (bad k) r w = w
  row_stored (out k) r w = w

  pub head_stored : n ≡ 8 → (x : Fields) (r : Result Row Refusal) → HeadTold x r (take n (drop q t)) c' → HeadStored x r q t (take q t ++ (c' ++ drop n (drop q t)))
  head_stored e (ok [] k) r w = w
  head_stored e (ok (v ∷ vs) k) r w = (w.0, λ l. rw w.1 (sets_lent t q n (suc v ∷ map suc vs) h (omega (arith, length-map vs suc)) ∙ rw add-one))
  head_stored e (bad k) r w = w
  head_stored e (out k) r w = w
