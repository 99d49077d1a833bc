-- ZN: a law for each way out.
-- Assumes nothing.
use Prim.Native.Nat.{ℕ, suc, ◌+◌, ◌-◌, ◌*◌, ◌≤◌, ◌<◌}
use mathlib.Core.Path.{◌≡◌, refl, sym, ap, ◌∙◌}
use mathlib.Core.Bool.{true, false}
use mathlib.Core.List.{List, [], ◌∷◌, map, tail}
use native.Mathlib.Omega.{arith}
use lib.ListN.{length, get_or, set, take, length-map, length-set}
use lib.Seq.{sets}
use borrow.Author.Tests.{le-ltb, lt-ltb}
use Rattle.meaning.specs.Model.{Model}
use Rattle.meaning.specs.Zones.Proper.{fits}
use Rattle.meaning.specs.Text.Choice.{pick}
use Rattle.meaning.specs.Text.Ranges.{queue_most}
use Rattle.meaning.specs.Text.Refusals.{mark_not_here, too_many, not_rising}
use Rattle.meaning.specs.Text.Lines.{Fields, ok, bad, out, between, fields_more}
use Rattle.meaning.specs.Text.RecordRow.{Met, next, wrong}
use Rattle.meaning.specs.Text.ModelReader.{words}
use Rattle.meaning.specs.Text.ProposalTable.{encode}
use Rattle.meaning.specs.Text.ProposalReader.{Entry, whole, begun, order, put, proposal_of, judged, look_order}
use Rattle.meaning.specs.Text.ProposalReader as reader
use Rattle.meaning.proofs.Text.Choices.{nonsense}
use Rattle.meaning.proofs.Text.ModelCells.{words_sets}
use Rattle.meaning.proofs.Text.ProposalEncode.{encode_length}
use Rattle.meaning.proofs.Text.ProposalStore.{store_order}
use Rattle.home.specs.declared.Home.{Home}
use Rattle.home.specs.Stands.{order_of}
use Rattle.zone_list.specs.Counted.{numbers_in}
use Rattle.zone_table.specs.Read.{HomeRead}
use Rattle.std.specs.Prelude.{Some, None, Ok, Err}
use Rattle.std.specs.Option.{is_some}
use Rattle.refusals.specs.declared.Reason.{Reason}
use Rattle.refusals.specs.declared.Reason.TheVariants.{BrokenLine, OutOfRange}
use Rattle.refusals.specs.declared.Refusal.{Refusal}
use Rattle.refusals.specs.Number.{number_of}
use Rattle.zone_text.specs.declared.reading_records.Due.{Due}
use Rattle.zone_text.specs.declared.reading_records.Sofar.{Sofar}
use Rattle.zone_text.specs.declared.reading_rows.Row.{Row}
use Rattle.zone_text.specs.Held.{Holds, Stands, Took}
use Rattle.zone_text.proofs.Laws.Rows.{HeadStored}

-- a refusal
pub took_wrong : (x : Met Entry) (y : reader.Sofar) (a : Reason) (p : ℕ) (e : Refusal) (t t' : List ℕ) → e ≡ record { reason = a; place = p } → x ≡ wrong (number_of a) p → Took x y (Err e) t t'
took_wrong x y a p e t t' q h = rw h (e, refl, ap (λ (f : Refusal). number_of f.reason) (sym q), ap (λ (f : Refusal). f.place) (sym q))

-- a line that is refused
pub took_line : (x : Met Entry) (y : reader.Sofar) (e : Refusal) (t t' : List ℕ) → x ≡ wrong (number_of e.reason) e.place → Took x y (Err e) t t'
took_line x y e t t' h = took_wrong x y e.reason e.place e t t' refl h

-- a record
pub took_next : (x : Met Entry) (y : reader.Sofar) (w : Entry) (k : ℕ) (c : Sofar) (t t' : List ℕ) → x ≡ next w k → Stands (put y w) c → t' ≡ encode (proposal_of (put y w))
    → Took x y (Ok (Some (record { at = k; sofar = c }))) t t'
took_next x y w k c t t' e s f = rw e (c, refl, s, f)

-- numbers that were stored
pub stored_numbers : (t : List ℕ) (k n : ℕ) (vs : List ℕ) → n ≡ length vs → k + length vs ≤ length t → numbers_in (sets t k (map suc vs)) k n ≡ vs
unfolding numbers_in
stored_numbers t k n vs e h =
    let z : n ≡ length (map suc vs) = e ∙ sym (length-map vs suc) in
    ap (λ (x : ℕ). map (λ (y : ℕ). y - 1) (words (sets t k (map suc vs)) k x)) z
    ∙ ap (map (λ (y : ℕ). y - 1)) (words_sets (map suc vs) t k (omega (arith, length-map vs suc))) ∙ back vs
  where
    back : (l : List ℕ) → map (λ (y : ℕ). y - 1) (map suc l) ≡ l
    back [] = refl
    back (x ∷ l) = let d : suc x - 1 ≡ x = omega arith in rw d (ap (λ (r : List ℕ). x ∷ r) (back l))

module _ (m : Model) (s : List ℕ) (at : ℕ) (y : reader.Sofar) (x : Sofar) (t : List ℕ) (h : Holds m y x t) where
  pub order_due : is_some x.due ≡ true → look_order m s at y ≡ wrong mark_not_here at
  unfolding look_order
  order_due d = go y h.stands
    where
      go : (y : reader.Sofar) → Stands y x → look_order m s at y ≡ wrong mark_not_here at
      go (whole zs) w = let e : is_some {T = Due} None ≡ true = rw w.1 at d in nonsense (cc)
      go (begun zs z) w = refl

  module _ (d : is_some x.due ≡ false) where
    pub order_full : 48 ≤ x.zones → look_order m s at y ≡ wrong too_many at
    unfolding look_order
    order_full f = go y h.stands
      where
        go : (y : reader.Sofar) → Stands y x → look_order m s at y ≡ wrong too_many at
        go (whole zs) w = rw (le-ltb (length zs) 48 (omega (arith, w.0)))
        go (begun zs z) w = let e = rw w.1 at d in nonsense (cc)

    module _ (few : x.zones < 48) (l k : ℕ) (e : l ≡ length m.locations) (f : k ≡ length m.tasks) where
      abbrev line : Fields
      line = fields_more (between 1 l ∷ []) queue_most (between 1 k) s (at + 2)

      -- what stands there, by what the line came to
      abbrev judged_by : Fields → Met Entry
      judged_by z = judged z (λ v k. pick (fits m (tail v)) (next (order (get_or v 0 0) (tail v)) k) (wrong not_rising at))

      look_is : look_order m s at y ≡ judged_by line
      unfolding look_order
      look_is = go y h.stands
        where
          go : (y : reader.Sofar) → Stands y x → look_order m s at y ≡ judged_by line
          go (whole zs) w = rw (lt-ltb (length zs) 48 (omega (arith, w.0)), e, f)
          go (begun zs z) w = let q = rw w.1 at d in nonsense (cc)

      module _ (t' : List ℕ) (q : ℕ) (first : q ≡ 8 * (x.zones + 1 - 1)) where
        pub order_refused : (g : Refusal) → HeadStored line (Err g) q t t' → look_order m s at y ≡ wrong (number_of g.reason) g.place
        unfolding judged
        order_refused g told = look_is ∙ go line told
          where
            go : (z : Fields) → HeadStored z (Err g) q t t' → judged_by z ≡ wrong (number_of g.reason) g.place
            go (ok [] n) w = absurd w
            go (ok (v ∷ vs) n) w = let a = w.0 in nonsense (cc)
            go (bad n) w = let a : g ≡ record { reason = BrokenLine; place = n } = cc in rw a
            go (out n) w = let a : g ≡ record { reason = OutOfRange; place = n } = cc in rw a

        module _ (r : Row) (n : r.many ≤ 6) (told : HeadStored line (Ok r) q t t') where
          -- the line is one, with this location and these tasks
          record Line : Type 0 where
            location : ℕ
            tasks : List ℕ
            many : r.many ≡ length tasks
            stored : t' ≡ sets (set t q (suc location)) (q + 1) (map suc tasks)
            seen : look_order m s at y ≡ pick (fits m tasks) (next (order location tasks) r.next) (wrong not_rising at)

          this : Line
          unfolding judged
          this = go line told look_is
            where
              go : (z : Fields) → HeadStored z (Ok r) q t t' → look_order m s at y ≡ judged_by z → Line
              go (ok [] i) w g = absurd w
              go (ok (v ∷ vs) i) w g =
                  let a = w.0 in
                  let b : r.next ≡ i = cc in
                  let c : r.many ≡ length vs = cc in
                  record {
                    location = v;
                    tasks = vs;
                    many = c;
                    stored = w.1 (omega arith);
                    seen = g ∙ ap (λ (i : ℕ). pick (fits m vs) (next (order v vs) i) (wrong not_rising at)) (sym b);
                  }
              go (bad i) w g = nonsense (cc)
              go (out i) w g = nonsense (cc)

          same_zone : x.zones + 1 - 1 ≡ x.zones
          same_zone = omega arith

          same : numbers_in t' (q + 1) r.many ≡ this.tasks
          same =
              let c = this.many in
              let z = first in
              let g = ap length h.table ∙ encode_length (proposal_of y) in
              ap (λ (u : List ℕ). numbers_in u (q + 1) r.many) this.stored
              ∙ stored_numbers (set t q (suc this.location)) (q + 1) r.many this.tasks this.many (omega (arith, length-set t q (suc this.location)))

          -- the tasks that are read back are those of the line
          module _ (u : Home) (w : HomeRead t' (x.zones + 1 - 1) r.many u) where
            back : order_of u ≡ this.tasks
            back = ap (λ (i : ℕ). take i u.tasks) w.count ∙ w.tasks.is ∙ ap (λ (i : ℕ). numbers_in t' (i + 1) r.many) (sym first) ∙ same

            pub order_twice : fits m (order_of u) ≡ false → look_order m s at y ≡ wrong not_rising at
            order_twice p = let c : fits m this.tasks ≡ false = ap (fits m) (sym back) ∙ p in this.seen ∙ rw c

            -- what was read with the record
            abbrev after : Sofar
            after = record { zones = x.zones; pool = x.pool; due = Some (record { len = r.many; cursor = 0 }) }

            pub order_taken : fits m (order_of u) ≡ true → Took (look_order m s at y) y (Ok (Some (record { at = r.next; sofar = after }))) t (set t' (q + 7) x.pool)
            unfolding put proposal_of
            order_taken p =
                let c : fits m this.tasks ≡ true = ap (fits m) (sym back) ∙ p in
                let g : length this.tasks ≤ 6 = omega (arith, this.many) in
                go y h.stands h.table this.location this.tasks this.many g this.stored (this.seen ∙ rw c)
              where
                go : (y : reader.Sofar) → Stands y x → t ≡ encode (proposal_of y) → (v : ℕ) (vs : List ℕ) → r.many ≡ length vs → length vs ≤ 6
                    → t' ≡ sets (set t q (suc v)) (q + 1) (map suc vs) → look_order m s at y ≡ next (order v vs) r.next
                    → Took (look_order m s at y) y (Ok (Some (record { at = r.next; sofar = after }))) t (set t' (q + 7) x.pool)
                go (begun zs z) w g v vs a i j u = let e = rw w.1 at d in nonsense (cc)
                go (whole zs) w g v vs a i j u =
                    took_next (look_order m s at (whole zs)) (whole zs) (order v vs) r.next after t (set t' (q + 7) x.pool) u (w.0, rw a, w.2)
                    (rw (j, g, first, same_zone, w.2, w.0) (sym (store_order zs v vs (omega (arith, w.0)) i)))
