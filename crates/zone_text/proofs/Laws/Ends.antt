-- EN: a law for each way out.
-- Assumes nothing.
use Prim.Native.Nat.{ℕ, ◌+◌, ◌≤◌, ◌<◌}
use mathlib.Core.Path.{◌≡◌, refl, sym, ap, ◌∙◌}
use mathlib.Core.Bool.{Bool, true, false, ◌&&◌}
use mathlib.Core.List.{List, [], ◌∷◌, ◌++◌}
use native.Mathlib.Omega.{arith}
use lib.Dec.{eqb, leb, ltb}
use lib.ListN.{length, get_or}
use borrow.Author.Tests.{le-ltb, lt-ltb}
use Rattle.meaning.specs.Lists.{every}
use Rattle.meaning.specs.Model.{Model}
use Rattle.meaning.specs.Zones.Zone.{Zone}
use Rattle.meaning.specs.Text.Choice.{pick}
use Rattle.meaning.specs.Text.Refusals.{mark_not_here, broken_line, wrong_claims}
use Rattle.meaning.specs.Text.Lines.{fields}
use Rattle.meaning.specs.Text.RecordRow.{Met, closed, wrong}
use Rattle.meaning.specs.Text.ProposalTable.{all_claims, encode}
use Rattle.meaning.specs.Text.ProposalReader.{Entry, whole, begun, proposal_of, judged, look_end, up_to_last}
use Rattle.meaning.specs.Text.ProposalReader as reader
use Rattle.meaning.proofs.Text.Choices.{nonsense}
use Rattle.meaning.proofs.Text.Keyed.{nth_some}
use Rattle.meaning.proofs.Text.ProposalEncode.{pool_cell}
use Rattle.zone_text.specs.declared.reading_records.Due.{Due}
use Rattle.zone_text.specs.declared.reading_records.Sofar.{Sofar}
use Rattle.std.specs.Prelude.{None, Ok}
use Rattle.std.specs.Option.{is_some}
use Rattle.zone_list.specs.Counted.{numbers_in}
use Rattle.zone_table.specs.Read.{none_above}
use Rattle.zone_text.specs.Held.{Holds, Stands, Took}
use Rattle.zone_text.proofs.Laws.Claims.{numbers_row}

every_append : (f : ℕ → Bool) (xs ys : List ℕ) → every f (xs ++ ys) ≡ (every f xs && every f ys)
every_append f [] ys = refl
every_append f (x ∷ xs) ys = ap (λ (b : Bool). f x && b) (every_append f xs ys) ∙ assoc (f x) (every f xs) (every f ys)
  where
    assoc : (a b c : Bool) → (a && (b && c)) ≡ ((a && b) && c)
    assoc true b c = refl
    assoc false b c = refl

-- zone by zone is claim by claim
all_up : (n : ℕ) (zs : List Zone) → none_above n (all_claims zs) ≡ up_to_last n zs
unfolding none_above
all_up n [] = refl
all_up n (z ∷ zs) = every_append (λ (c : ℕ). leb c n) z.claims (all_claims zs) ∙ ap (λ (b : Bool). every (λ (c : ℕ). leb c n) z.claims && b) (all_up n zs)

-- the end of the text
pub took_closed : (m : Model) (s : List ℕ) (at : ℕ) (y : reader.Sofar) (t : List ℕ) → look_end m s at y ≡ closed → Took (look_end m s at y) y (Ok None) t t
took_closed m s at y t e = rw e (refl, refl)

module _ (m : Model) (s : List ℕ) (at : ℕ) (y : reader.Sofar) (x : Sofar) (t : List ℕ) (h : Holds m y x t) where
  pub end_due : is_some x.due ≡ true → look_end m s at y ≡ wrong mark_not_here at
  unfolding look_end
  end_due d = go y h.stands
    where
      go : (y : reader.Sofar) → Stands y x → look_end m s at y ≡ wrong mark_not_here at
      go (whole zs) w = let e : is_some {T = Due} None ≡ true = rw w.1 at d in nonsense (cc)
      go (begun zs z) w = refl

  module _ (d : is_some x.due ≡ false) where
    pub end_none : x.zones ≡ 0 → look_end m s at y ≡ wrong mark_not_here at
    unfolding look_end
    end_none n = go y h.stands
      where
        go : (y : reader.Sofar) → Stands y x → look_end m s at y ≡ wrong mark_not_here at
        go (whole zs) w = rw (le-ltb 0 (length zs) (omega (arith, w.0)))
        go (begun zs z) w = let e = rw w.1 at d in nonsense (cc)

    module _ (n : x.zones ≡ 0 → ⊥) where
      pub end_open : eqb (get_or s (at + 2) 0) 10 ≡ false → look_end m s at y ≡ wrong broken_line (at + 2)
      unfolding look_end judged fields
      end_open f = go y h.stands
        where
          go : (y : reader.Sofar) → Stands y x → look_end m s at y ≡ wrong broken_line (at + 2)
          go (whole zs) w = rw (lt-ltb 0 (length zs) (some zs w.0), f)
            where
              some : (zs : List Zone) → x.zones ≡ length zs → 0 < length zs
              some [] e = absurd (n e)
              some (z ∷ zs) e = omega arith
          go (begun zs z) w = let e = rw w.1 at d in nonsense (cc)

      module _ (f : eqb (get_or s (at + 2) 0) 10 ≡ true) (p : x.pool ≤ 32767) where
        -- by whether no claim is above the last zone, and whether the text goes on
        ends : (u v : Bool) → none_above x.zones (numbers_in t 14256 x.pool) ≡ u → (u ≡ true → ltb (at + 3) (length s) ≡ v) → look_end m s at y ≡ pick u (pick v (wrong mark_not_here (at + 3)) closed) (wrong wrong_claims at)
        unfolding look_end judged fields proposal_of
        ends u v a b = go y h.stands h.table
          where
            z : at + 2 + 1 ≡ at + 3
            z = omega arith

            some : (zs : List Zone) → x.zones ≡ length zs → 0 < length zs
            some [] e = absurd (n e)
            some (_ ∷ zs) e = omega arith

            by_two : (u : Bool) → (u ≡ true → ltb (at + 3) (length s) ≡ v) → ◌≡◌ {A = Met Entry} (pick u (pick (ltb (at + 3) (length s)) (wrong mark_not_here (at + 3)) closed) (wrong wrong_claims at)) (pick u (pick v (wrong mark_not_here (at + 3)) closed) (wrong wrong_claims at))
            by_two true e = rw (e refl)
            by_two false e = refl

            go : (y : reader.Sofar) → Stands y x → t ≡ encode (proposal_of y) → look_end m s at y ≡ pick u (pick v (wrong mark_not_here (at + 3)) closed) (wrong wrong_claims at)
            go (begun zs z) w tb = let e = rw w.1 at d in nonsense (cc)
            go (whole zs) w tb =
                let q : numbers_in t 14256 x.pool ≡ all_claims zs =
                rw (w.2, tb) (numbers_row (encode (record { zones = zs })) (all_claims zs) 14256 (λ k c e. let l = nth_some (all_claims zs) k c e in let i = w.2 in pool_cell (record { zones = zs }) k (omega arith) ∙ rw e)) in
                let k : up_to_last (length zs) zs ≡ u = sym (all_up (length zs) zs) ∙ (let g : none_above x.zones (all_claims zs) ≡ u = rw q at a in rw w.0 at g) in
                rw (lt-ltb 0 (length zs) (some zs w.0), f, z, k) (by_two u b)

        pub end_claims : none_above x.zones (numbers_in t 14256 x.pool) ≡ false → look_end m s at y ≡ wrong wrong_claims at
        end_claims q = ends false false q (λ e. nonsense (cc))

        pub end_more : none_above x.zones (numbers_in t 14256 x.pool) ≡ true → at + 3 < length s → look_end m s at y ≡ wrong mark_not_here (at + 3)
        end_more q l = ends true true q (λ e. lt-ltb (at + 3) (length s) l)

        pub end_closed : none_above x.zones (numbers_in t 14256 x.pool) ≡ true → length s ≤ at + 3 → look_end m s at y ≡ closed
        end_closed q l = ends true false q (λ e. le-ltb (at + 3) (length s) l)
