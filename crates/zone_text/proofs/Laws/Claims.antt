-- GO: a law for each way out.
-- Assumes nothing.
use Prim.Native.Nat.{ℕ, suc, ◌+◌, ◌-◌, ◌*◌, ◌≤◌, ◌<◌}
use mathlib.Core.Path.{◌≡◌, refl, sym, ap, ◌∙◌, subst}
use mathlib.Core.Bool.{true, false}
use mathlib.Core.List.{List, [], ◌∷◌, ◌++◌, map}
use mathlib.Core.Option.{some}
use native.Mathlib.Omega.{arith}
use lib.ListN.{length, get_or, get_elem?, set, take, length-append}
use lib.Seq.{sets}
use borrow.Author.Tests.{eq-eqb, ne_eqb}
use Rattle.meaning.specs.Model.{Model}
use Rattle.meaning.specs.Zones.Zone.{Zone}
use Rattle.meaning.specs.Zones.Reached as R
use Rattle.meaning.specs.Zones.Steps.{steps}
use Rattle.meaning.specs.Text.Choice.{pick}
use Rattle.meaning.specs.Text.Ranges.{text_most, zones_most}
use Rattle.meaning.specs.Text.Refusals.{mark_not_here, wrong_claims}
use Rattle.meaning.specs.Text.Lines.{Fields, ok, bad, out, between, fields_up_to, fields_more}
use Rattle.meaning.specs.Text.RecordRow.{Met, next, wrong}
use Rattle.meaning.specs.Text.RightModel.{RightModel}
use Rattle.meaning.specs.Text.RightProposal.{RightOrder, claims_fit, zero_due, zeros_at}
use Rattle.meaning.specs.Text.ModelReader.{words}
use Rattle.meaning.specs.Text.ProposalTable.{all_claims, encode, pool_size}
use Rattle.meaning.specs.Text.ProposalReader.{Entry, whole, begun, claims, put, proposal_of, judged, look_claims, with_claims}
use Rattle.meaning.specs.Text.ProposalReader as reader
use Rattle.meaning.proofs.Text.Choices.{nonsense}
use Rattle.meaning.proofs.Text.Keyed.{nth_some}
use Rattle.meaning.proofs.Text.ProposalEncode.{encode_length, location_cell_lem, task_cell_lem, nth_past}
use Rattle.meaning.proofs.Text.ProposalStore.{claims_more, store_claims}
use Rattle.meaning.proofs.Text.MoreLaws.{more_long}
use Rattle.home.specs.declared.Home.{Home}
use Rattle.home.specs.Stands.{order_of, home_of}
use Rattle.zone_list.specs.declared.form.Steps.{Steps}
use Rattle.zone_list.specs.Steps.{list_at}
use Rattle.zone_list.specs.Counted.{numbers_in, zeros_kept, StepsAre}
use Rattle.zone_table.specs.Read.{HomeRead}
use Rattle.zone_table.proofs.ReadLaws.{standing}
use Rattle.std.specs.Prelude.{Some, None, Ok, Err}
use Rattle.refusals.specs.declared.Reason.TheVariants.{BrokenLine, OutOfRange}
use Rattle.refusals.specs.declared.Refusal.{Refusal}
use Rattle.refusals.specs.Number.{number_of}
use Rattle.zone_text.specs.declared.reading_records.Due.{Due}
use Rattle.zone_text.specs.declared.reading_records.Sofar.{Sofar}
use Rattle.zone_text.specs.declared.reading_rows.Row.{Row}
use Rattle.zone_text.specs.Held.{Holds, Sound, Stands, Begun, Took, behind}
use Rattle.zone_text.proofs.Laws.Orders.{took_next, stored_numbers}
use Rattle.zone_text.proofs.Laws.Rows.{RowStored}

-- numbers that stand in a row of cells
pub numbers_row : (t cs : List ℕ) (k : ℕ) → ((x v : ℕ) → get_elem? cs x ≡ some v → get_or t (k + x) 0 ≡ suc v) → numbers_in t k (length cs) ≡ cs
unfolding numbers_in words
numbers_row t [] k h = refl
numbers_row t (c ∷ cs) k h =
    let z : k + 0 ≡ k = omega arith in
    let a : get_or t k 0 ≡ suc c = rw z at (h 0 c refl) in
    let b : suc c - 1 ≡ c = omega arith in
    rw (a, b) (ap (λ (l : List ℕ). c ∷ l)
    (numbers_row t cs (suc k) (λ x v e. let y : suc k + x ≡ k + suc x = omega arith in rw y (h (suc x) v e))))

-- the same stores, by other names
same_table : (t t' u : List ℕ) (pool p zones n many k : ℕ) (vs : List ℕ) → t' ≡ sets t (14256 + pool) (map suc vs) → t ≡ u → pool ≡ p → zones ≡ n → many ≡ k
    → set t' (8 * zones + 7) (pool + many) ≡ set (sets u (14256 + p) (map suc vs)) (8 * n + 7) (p + k)
same_table t t' u pool p zones n many k vs a b c d e = rw (a, b, c, d, e)

-- the location and the queue order of a zone that is begun
module _ (zs : List Zone) (z : Zone) (room : length zs < 48) (few : length z.order ≤ 6) (k : ℕ) (e : k ≡ length zs) where
  abbrev table : List ℕ
  table = encode (record { zones = zs ++ z ∷ [] })

  here : get_elem? (zs ++ z ∷ []) (length zs) ≡ some z
  here = let e : length zs + 0 ≡ length zs = omega arith in rw e at (nth_past zs (z ∷ []) 0)

  location_here : get_or table (8 * k) 0 - 1 ≡ z.location
  location_here = let c = location_cell_lem (record { zones = zs ++ z ∷ [] }) (length zs) z room here in rw e (omega arith)

  order_here : (n : ℕ) → n ≡ length z.order → numbers_in table (8 * k + 1) n ≡ z.order
  order_here n f = rw (e, f) (numbers_row table z.order (8 * length zs + 1) (λ x v g.
      let l = nth_some z.order x v g in
      task_cell_lem (record { zones = zs ++ z ∷ [] }) (length zs) z room here x (omega arith) ∙ rw g))

  pub order_right : (m : Model) (n : ℕ) → n ≡ length z.order → RightOrder m z.location z.order → RightOrder m (get_or table (8 * k) 0 - 1) (numbers_in table (8 * k + 1) n)
  order_right m n f r = rw (location_here, order_here n f) r

  pub home_here : (n : ℕ) → n ≡ length z.order → (h : Home) → HomeRead table k n h → home_of h ≡ record { location = z.location; order = z.order }
  home_here n f h w =
      ap (λ (l : ℕ). standing l (order_of h)) (w.location ∙ location_here)
      ∙ ap (standing z.location) (ap (λ (i : ℕ). take i h.tasks) w.count ∙ w.tasks.is ∙ order_here n f)

-- what is asked before GO holds of what was read
pub begun_is : (m : Model) (y : reader.Sofar) (x : Sofar) (t : List ℕ) → Sound m y → Stands y x → t ≡ encode (proposal_of y) → Begun m x t
unfolding proposal_of
begun_is m (whole zs) x t so st tb = record { order = λ o q. nonsense (let p = st.1 in (cc)) }
begun_is m (begun zs z) x t so st tb = record {
  order = λ o q.
      let e : o ≡ record { len = length z.order; cursor = behind z.bounds } = (let p = st.1 in cc) in
      rw tb (order_right zs z so.0 so.2.few x.zones st.0 m o.len (ap (λ (u : Due). u.len) e) so.2);
}

module _ (m : Model) (r : RightModel m) (s : List ℕ) (at : ℕ) (y : reader.Sofar) (x : Sofar) (t : List ℕ) (h : Holds m y x t) where
  pub claims_due : x.due ≡ None → look_claims m s at y ≡ wrong mark_not_here at
  unfolding look_claims
  claims_due d = go y h.stands
    where
      go : (y : reader.Sofar) → Stands y x → look_claims m s at y ≡ wrong mark_not_here at
      go (whole zs) w = refl
      go (begun zs z) w = let e = w.1 in nonsense (cc)

  -- what the line came to; a claim takes two bytes, so the pool has room for what a text can say
  module _ (early : 2 * x.pool ≤ at) (short : length s ≤ text_most) (o : Due) (d : x.due ≡ Some o) (n : ℕ) (cells : n ≡ pool_size - x.pool) (t' : List ℕ) where
    abbrev line : Fields
    line = fields_up_to (length s) (between 0 zones_most) s (at + 2)

    abbrev judged_by : Zone → Fields → Met Entry
    judged_by z l = judged l (λ v k. pick (claims_fit m z v) (next (claims v) k) (wrong wrong_claims at))

    look_is : (zs : List Zone) (z : Zone) → look_claims m s at (begun zs z) ≡ judged_by z line
    unfolding look_claims fields_more
    look_is zs z = refl

    pub claims_refused : (g : Refusal) → RowStored line (Err g) (14256 + x.pool) n t t' → look_claims m s at y ≡ wrong (number_of g.reason) g.place
    unfolding judged
    claims_refused g told = go y h.stands
      where
        by_line : (l : Fields) (z : Zone) → RowStored l (Err g) (14256 + x.pool) n t t' → judged_by z l ≡ wrong (number_of g.reason) g.place
        by_line (ok vs k) z w = let a = w.0 in nonsense (cc)
        by_line (bad k) z w = let a : g ≡ record { reason = BrokenLine; place = k } = cc in rw a
        by_line (out k) z w = let a : g ≡ record { reason = OutOfRange; place = k } = cc in rw a

        go : (y : reader.Sofar) → Stands y x → look_claims m s at y ≡ wrong (number_of g.reason) g.place
        go (whole zs) w = let q = w.1 in nonsense (cc)
        go (begun zs z) w = look_is zs z ∙ by_line line z told

    module _ (b : Row) (told : RowStored line (Ok b) (14256 + x.pool) n t t') where
      -- the claims
      record Read : Type 0 where
        numbers : List ℕ
        many : b.many ≡ length numbers
        room : x.pool + length numbers ≤ pool_size
        stored : t' ≡ sets t (14256 + x.pool) (map suc numbers)
        seen : (zs : List Zone) (z : Zone) → look_claims m s at (begun zs z) ≡ pick (claims_fit m z numbers) (next (claims numbers) b.next) (wrong wrong_claims at)

      read : Read
      unfolding judged
      read = go line refl told look_is
        where
          go : (l : Fields) → line ≡ l → RowStored l (Ok b) (14256 + x.pool) n t t' → ((zs : List Zone) (z : Zone) → look_claims m s at (begun zs z) ≡ judged_by z l) → Read
          go (ok vs k) e w q =
              let l = more_long (between 0 zones_most) (record { below = refl; high = omega arith }) (length s) s (at + 2) vs k e in
              let a = w.0 in
              let f : b.next ≡ k = cc in
              let g : b.many ≡ length vs = cc in
              record {
                numbers = vs;
                many = g;
                room = omega arith;
                stored = w.1 (omega arith);
                seen = λ zs z. q zs z ∙ ap (λ (i : ℕ). pick (claims_fit m z vs) (next (claims vs) i) (wrong wrong_claims at)) (sym f);
              }
          go (bad k) e w q = nonsense (cc)
          go (out k) e w q = nonsense (cc)

      module _ (u : Home) (there : HomeRead t (x.zones + 1 - 1) o.len u) (w : Steps) (steps-are : StepsAre m (home_of u) t' (14256 + x.pool) w) where
        same_zone : x.zones + 1 - 1 ≡ x.zones
        same_zone = omega arith

        -- of a zone that is begun they are the zone's
        module _ (zs : List Zone) (z : Zone) (st : Stands (begun zs z) x) (so : Sound m (begun zs z)) (tb : t ≡ encode (proposal_of (begun zs z))) where
          stored : t' ≡ sets (encode (record { zones = zs ++ z ∷ [] })) (14256 + x.pool) (map suc read.numbers)
          unfolding proposal_of
          stored = read.stored ∙ ap (λ (l : List ℕ). sets l (14256 + x.pool) (map suc read.numbers)) tb

          due_len : (zs : List Zone) (z : Zone) → Stands (begun zs z) x → o.len ≡ length z.order
          due_len zs z st = let e : o ≡ record { len = length z.order; cursor = behind z.bounds } = (let p = st.1 in cc) in ap (λ (v : Due). v.len) e

          home_is : home_of u ≡ record { location = z.location; order = z.order }
          unfolding proposal_of
          home_is =
              home_here zs z so.0 so.2.few x.zones st.0 o.len (due_len zs z st) u
              (subst (λ (l : List ℕ). HomeRead l x.zones o.len u) tb (subst (λ (k : ℕ). HomeRead t k o.len u) same_zone there))

          many_is : w.many ≡ length (steps m z)
          many_is = steps-are.many ∙ ap (λ (v : R.Home). length (list_at m v)) home_is

          zeros_are : b.many ≡ w.many → w.zeros ≡ zeros_at (zero_due m z) (steps m z) read.numbers
          zeros_are q =
              let e = read.many in
              let k = read.room in
              steps-are.zeros ∙ ap (λ (v : R.Home). zeros_kept m v t' (14256 + x.pool)) home_is
              ∙ ap (zeros_at (zero_due m z) (steps m z))
              (ap (λ (l : List ℕ). numbers_in l (14256 + x.pool) (length (steps m z))) stored
              ∙ stored_numbers (encode (record { zones = zs ++ z ∷ [] })) (14256 + x.pool) (length (steps m z)) read.numbers (omega (arith, many_is)) (omega (arith, encode_length (record { zones = zs ++ z ∷ [] }))))

        -- the claims do not fit the zone that is begun
        misfit : ((zs : List Zone) (z : Zone) → Stands (begun zs z) x → Sound m (begun zs z) → t ≡ encode (proposal_of (begun zs z)) → claims_fit m z read.numbers ≡ false)
            → look_claims m s at y ≡ wrong wrong_claims at
        misfit f = go y h.stands h.sound h.table
          where
            go : (v : reader.Sofar) → Stands v x → Sound m v → t ≡ encode (proposal_of v) → look_claims m s at v ≡ wrong wrong_claims at
            go (whole zs) st so tb = let q = st.1 in nonsense (cc)
            go (begun zs z) st so tb = read.seen zs z ∙ rw (f zs z st so tb)

        pub claims_count : (b.many ≡ w.many → ⊥) → look_claims m s at y ≡ wrong wrong_claims at
        claims_count q = misfit (λ zs z st so tb.
            rw (ne_eqb (length read.numbers) (length (steps m z)) (λ f.
            let e = read.many in
            q (omega (arith, many_is zs z st so tb)))))

        pub claims_zeros : b.many ≡ w.many → w.zeros ≡ false → look_claims m s at y ≡ wrong wrong_claims at
        claims_zeros q f = misfit (λ zs z st so tb.
            let e = read.many in
            let k = many_is zs z st so tb in
            let g : zeros_at (zero_due m z) (steps m z) read.numbers ≡ false = sym (zeros_are zs z st so tb q) ∙ f in
            rw (eq-eqb (length read.numbers) (length (steps m z)) (omega arith), g))

        -- what was read with the record
        abbrev after : Sofar
        after = record { zones = x.zones + 1; pool = x.pool + b.many; due = None }

        pub claims_taken : (head : ℕ) → head ≡ 8 * (x.zones + 1 - 1) → b.many ≡ w.many → w.zeros ≡ true
            → Took (look_claims m s at y) y (Ok (Some (record { at = b.next; sofar = after }))) t (set t' (head + 7) (x.pool + b.many))
        unfolding put
        claims_taken head first q f = go y h.stands h.sound h.table
          where
            go : (v : reader.Sofar) → Stands v x → Sound m v → t ≡ encode (proposal_of v)
                → Took (look_claims m s at v) v (Ok (Some (record { at = b.next; sofar = after }))) t (set t' (head + 7) (x.pool + b.many))
            go (whole zs) st so tb = let q = st.1 in nonsense (cc)
            go (begun zs z) st so tb =
                let e = read.many in
                let n = read.room in
                let c = st.2 in
                let k = many_is zs z st so tb in
                let g : zeros_at (zero_due m z) (steps m z) read.numbers ≡ true = sym (zeros_are zs z st so tb q) ∙ f in
                let j : claims_fit m z read.numbers ≡ true = rw (eq-eqb (length read.numbers) (length (steps m z)) (omega arith), g) in
                took_next (look_claims m s at (begun zs z)) (begun zs z) (claims read.numbers) b.next after t
                (set t' (head + 7) (x.pool + b.many)) (read.seen zs z ∙ rw j) (
                  omega (arith, st.0, length-append zs (with_claims z read.numbers ∷ [])),
                  refl,
                  omega (arith, ap length (claims_more zs (with_claims z read.numbers)), length-append (all_claims zs) read.numbers),
                )
                (ap (λ (k : ℕ). set t' (k + 7) (x.pool + b.many)) (first ∙ ap (λ (k : ℕ). 8 * k) same_zone)
                ∙ same_table t t' (encode (proposal_of (begun zs z))) x.pool (length (all_claims zs)) x.zones (length zs) b.many (length read.numbers) read.numbers read.stored tb st.2 st.0 e
                ∙ sym (store_claims m r zs z read.numbers so (omega arith)))
