-- BD: a law for each way out.
-- Assumes nothing.
use Prim.Native.Nat.{ℕ, suc, ◌+◌, ◌-◌, ◌*◌, ◌≤◌, ◌<◌}
use mathlib.Core.Path.{◌≡◌, refl, sym, ap, ap₂, ◌∙◌}
use mathlib.Core.Bool.{Bool, true, false, not, ◌&&◌}
use mathlib.Core.List.{List, [], ◌∷◌}
use native.Mathlib.Omega.{arith}
use native.Mathlib.Numerals.{add-one}
use lib.Dec.{eqb, leb}
use lib.ListN.{length, set}
use borrow.Author.Tests.{eq-eqb, ne_eqb, le-leb, lt-leb}
use Rattle.meaning.specs.Lists.{every}
use Rattle.meaning.specs.Model.{Bound, Model}
use Rattle.meaning.specs.Zones.Zone.{Zone}
use Rattle.meaning.specs.Zones.Variables.{variables}
use Rattle.meaning.specs.Text.Choice.{pick}
use Rattle.meaning.specs.Text.Ranges.{bound_most}
use Rattle.meaning.specs.Text.Refusals.{mark_not_here, not_rising}
use Rattle.meaning.specs.Text.Lines.{Fields, ok, bad, out, between, around, fields}
use Rattle.meaning.specs.Text.RecordRow.{Met, next, wrong}
use Rattle.meaning.specs.Text.RightModel.{RightBound, RightModel, before}
use Rattle.meaning.specs.Text.RightProposal.{RightBounds}
use Rattle.meaning.specs.Text.ProposalTable.{encode}
use Rattle.meaning.specs.Text.ProposalReader.{Entry, whole, begun, bound, bound_of, put, proposal_of, judged, rises, look_bound}
use Rattle.meaning.specs.Text.ProposalReader as reader
use Rattle.meaning.proofs.Text.Choices.{nonsense}
use Rattle.meaning.proofs.Text.Keyed.{each_map, every_each}
use Rattle.meaning.proofs.Text.BoundLaws.{cursor, cursor_last, over_of, raised_of, rising_cursor, under_of}
use Rattle.meaning.proofs.Text.LineLaws.{fields_inv}
use Rattle.meaning.proofs.Text.ProposalStore.{store_bound}
use Rattle.std.specs.Prelude.{Some, None, Ok, Err}
use Rattle.refusals.specs.declared.Reason.TheVariants.{BrokenLine, OutOfRange}
use Rattle.refusals.specs.declared.Refusal.{Refusal}
use Rattle.refusals.specs.Number.{number_of}
use Rattle.zone_text.specs.declared.reading_records.Due.{Due}
use Rattle.zone_text.specs.declared.reading_records.Sofar.{Sofar}
use Rattle.zone_text.specs.declared.reading_rows.Bound as declared
use Rattle.zone_text.specs.Rows.{BoundTold}
use Rattle.zone_text.specs.Held.{Holds, Sound, Stands, Took, behind}
use Rattle.zone_text.proofs.Laws.Orders.{took_next}

behind_is : (bs : List Bound) → behind bs ≡ cursor 17 bs
behind_is [] = refl
behind_is (a ∷ []) = refl
behind_is (a ∷ b ∷ bs) = behind_is (b ∷ bs)

module _ (m : Model) (r : RightModel m) (s : List ℕ) (at : ℕ) (y : reader.Sofar) (x : Sofar) (t : List ℕ) (h : Holds m y x t) where
  pub bound_due : x.due ≡ None → look_bound m s at y ≡ wrong mark_not_here at
  unfolding look_bound
  bound_due d = go y h.stands
    where
      go : (y : reader.Sofar) → Stands y x → look_bound m s at y ≡ wrong mark_not_here at
      go (whole zs) w = refl
      go (begun zs z) w = let e = w.1 in nonsense (cc)

  -- what the line came to
  module _ (o : Due) (d : x.due ≡ Some o) (n : ℕ) (e : n ≡ suc (m.clocks + (o.len + o.len)) - 1) (few : n ≤ 16) where
    abbrev line : Fields
    line = fields (between 0 n ∷ between 0 n ∷ around bound_most ∷ []) s (at + 2)

    abbrev judged_by : Zone → Fields → Met Entry
    judged_by z l = judged l (λ v k. pick (rises z.bounds (bound_of v)) (next (bound (bound_of v)) k) (wrong not_rising at))

    -- the zone that is begun is the one that is due
    due_is : (zs : List Zone) (z : Zone) → Stands (begun zs z) x → o ≡ record { len = length z.order; cursor = behind z.bounds }
    due_is zs z w = let q = w.1 in cc

    look_is : (zs : List Zone) (z : Zone) → Stands (begun zs z) x → look_bound m s at (begun zs z) ≡ judged_by z line
    unfolding look_bound
    look_is zs z w = let q = ap (λ (u : Due). u.len) (due_is zs z w) in let p : variables m z.order - 1 ≡ n = omega arith in rw p

    pub bound_refused : (g : Refusal) → BoundTold line (Err g) → look_bound m s at y ≡ wrong (number_of g.reason) g.place
    unfolding judged
    bound_refused g told = go y h.stands
      where
        by_line : (l : Fields) (z : Zone) → BoundTold l (Err g) → judged_by z l ≡ wrong (number_of g.reason) g.place
        by_line (ok vs k) z w = let a = w.3 in nonsense (cc)
        by_line (bad k) z w = let a : g ≡ record { reason = BrokenLine; place = k } = cc in rw a
        by_line (out k) z w = let a : g ≡ record { reason = OutOfRange; place = k } = cc in rw a

        go : (y : reader.Sofar) → Stands y x → look_bound m s at y ≡ wrong (number_of g.reason) g.place
        go (whole zs) w = let q = w.1 in nonsense (cc)
        go (begun zs z) w = look_is zs z w ∙ by_line line z told

    module _ (b : declared.Bound) (told : BoundTold line (Ok b)) where
      line_is : line ≡ ok (b.i ∷ b.j ∷ b.c ∷ []) b.next
      line_is = go line refl told
        where
          go : (l : Fields) → line ≡ l → BoundTold l (Ok b) → line ≡ ok (b.i ∷ b.j ∷ b.c ∷ []) b.next
          go (ok vs k) q w =
              let a : b ≡ record { next = k; i = w.0; j = w.1; c = w.2 } = (let p = w.3 in cc) in
              q ∙ rw (w.4, a)
          go (bad k) q w = nonsense (cc)
          go (out k) q w = nonsense (cc)

      -- the bound
      abbrev this : Bound
      this = bound_of (b.i ∷ b.j ∷ b.c ∷ [])

      within : (b.i ≤ n) × (b.j ≤ n) × (b.c ≤ 64000)
      within = let f = (fields_inv (between 0 n ∷ between 0 n ∷ around bound_most ∷ []) s (at + 2) (b.i ∷ b.j ∷ b.c ∷ []) b.next (omega arith) line_is).0 in omega arith

      seen : (zs : List Zone) (z : Zone) → Stands (begun zs z) x → look_bound m s at (begun zs z) ≡ pick (rises z.bounds this) (next (bound this) b.next) (wrong not_rising at)
      unfolding judged
      seen zs z w = look_is zs z w ∙ ap (judged_by z) line_is

      rises_is : (zs : List Zone) (z : Zone) → Stands (begun zs z) x → RightBounds m z.order z.bounds → rises z.bounds this ≡ not (eqb b.i b.j) && leb o.cursor (17 * b.i + b.j)
      rises_is zs z w g =
          let i = within in
          let c = ap (λ (u : Due). u.cursor) (due_is zs z w) in
          let l = ap (λ (u : Due). u.len) (due_is zs z w) in
          ap (λ (q : Bool). not (eqb b.i b.j) && q)
          (rising_cursor 17 z.bounds this (each_map z.bounds (λ u v. let k = v.j in omega arith) g.each) g.rising (omega arith)
          ∙ ap (λ (k : ℕ). leb k (17 * b.i + b.j)) (sym (c ∙ behind_is z.bounds)))

      not_risen : not (eqb b.i b.j) && leb o.cursor (17 * b.i + b.j) ≡ false → look_bound m s at y ≡ wrong not_rising at
      not_risen q = go y h.stands h.sound
        where
          go : (y : reader.Sofar) → Stands y x → Sound m y → look_bound m s at y ≡ wrong not_rising at
          go (whole zs) w g = let q = w.1 in nonsense (cc)
          go (begun zs z) w g = seen zs z w ∙ rw (rises_is zs z w g.3, q)

      pub bound_same : b.i ≡ b.j → look_bound m s at y ≡ wrong not_rising at
      bound_same q = not_risen (rw (eq-eqb b.i b.j q))

      pub bound_low : (b.i ≡ b.j → ⊥) → 17 * b.i + b.j < o.cursor → look_bound m s at y ≡ wrong not_rising at
      bound_low q l = not_risen (rw (ne_eqb b.i b.j q, lt-leb o.cursor (17 * b.i + b.j) l))

      -- what was read with the record
      abbrev after : Sofar
      after = record { zones = x.zones; pool = x.pool; due = Some (record { len = o.len; cursor = 17 * b.i + b.j + 1 }) }

      pub bound_taken : (from : ℕ) → from ≡ 384 + 289 * (x.zones + 1 - 1) → (b.i ≡ b.j → ⊥) → o.cursor ≤ 17 * b.i + b.j
          → Took (look_bound m s at y) y (Ok (Some (record { at = b.next; sofar = after }))) t
          (set t (from + (17 * b.i + b.j)) (b.c + 1))
      unfolding put
      bound_taken from first q l = go y h.stands h.sound h.table
        where
          same_zone : x.zones + 1 - 1 ≡ x.zones
          same_zone = omega arith

          go : (y : reader.Sofar) → Stands y x → Sound m y → t ≡ encode (proposal_of y)
              → Took (look_bound m s at y) y (Ok (Some (record { at = b.next; sofar = after }))) t
              (set t (from + (17 * b.i + b.j)) (b.c + 1))
          go (whole zs) w g f = let q = w.1 in nonsense (cc)
          go (begun zs z) w g f =
              let p : not (eqb b.i b.j) && leb o.cursor (17 * b.i + b.j) ≡ true = rw (ne_eqb b.i b.j q, le-leb o.cursor (17 * b.i + b.j) l) in
              let v₁ : rises z.bounds this ≡ true = rises_is zs z w g.3 ∙ p in
              let v : every (λ (c : Bound). before c this) z.bounds ≡ true = rw (ne_eqb b.i b.j q) at v₁ in
              let i = within in
              let f₁ = ap (λ (u : Due). u.len) (due_is zs z w) in
              let n₁ : variables m z.order - 1 ≡ n = omega arith in
              let u₁ = under_of bound_most b.c in
              let u₂ = over_of bound_most b.c in
              let k : RightBound (variables m z.order - 1) bound_most this = record { i = omega arith; j = omega arith; two = q; least = omega arith; most = omega arith } in
              let j = store_bound m r zs z this g (k, every_each (λ (c : Bound). before c this) z.bounds v) in
              took_next (look_bound m s at (begun zs z)) (begun zs z) (bound this) b.next after t
              (set t (from + (17 * b.i + b.j)) (b.c + 1)) (seen zs z w ∙ rw v₁)
              (w.0, ap₂ (λ (l k : ℕ). Some (record { len = l; cursor = k })) f₁ (add-one (17 * b.i + b.j) ∙ sym (behind_is (reader.with_bound z this).bounds ∙ cursor_last 17 z.bounds this)), w.2)
              (rw (f, first, same_zone, w.0, add-one b.c) (sym (j ∙ rw (raised_of bound_most b.c))))
