-- Laws of the walk over the edges: what holds before each edge, and what follows after the last.
-- Assumes nothing.
use Prim.Native.Nat.{ℕ, zero, suc, ◌+◌, ◌-◌, ◌≤◌, ◌<◌}
use Rattle.std.specs.Prelude as R
use Rattle.std.specs.Prelude.{Some, None, IsSomeAnd}
use mathlib.Core.Path.{◌≡◌, refl, sym, ap, ◌∙◌, subst}
use mathlib.Core.Bool.{Bool, true, false, not, cond, ◌&&◌, ◌||◌}
use mathlib.Core.List.{List, [], ◌∷◌, ◌++◌, map}
use mathlib.Core.Logic.{◌⊎◌, inl, inr, ⊎_elim}
use mathlib.Core.Option.{Option, some}
use native.Mathlib.Omega.{arith}
use Rattle.std.proofs.Math.Bool.{and_assoc, and-true}
use native.Mathlib.Decide.{dec_le}
use lib.Dec.{eqb}
use lib.ListN.{length, get_or, get_elem?, drop, drop_of_length-le, length-map, get_or-map}
use borrow.Author.Tests.{ne_eqb}
use Rattle.meaning.specs.Lists.{nth1}
use Rattle.meaning.specs.Model.{Edge, Model, leaves_at, released}
use Rattle.meaning.specs.Machine.Release.{overflows_any}
use Rattle.meaning.specs.Zones.Zone.{widest}
use Rattle.meaning.specs.Zones.Reached.{Home}
use Rattle.meaning.specs.Zones.Steps.{Step, by_edge, places, leaving_by, leaving}
use Rattle.meaning.specs.Text.ModelTable.{decode, edges}
use Rattle.meaning.specs.Text.ModelReader.{words}
use Rattle.meaning.specs.Text.RightProposal.{empty}
use Rattle.meaning.proofs.Lists.{append_back}
use Rattle.meaning.proofs.Text.ModelCells.{words_at, words_length}
use Rattle.meaning.proofs.Zones.Counting.{places_by, zero_holds, places_from, zeros_from, steps_count, zeros_count, places_by_is, zero_holds_is, zero_place, leaving_by_count, steps_most}
use Rattle.model_table.specs.Right.{RightTable}
use Rattle.model_table.specs.Parts.{edge_of}
use Rattle.home.specs.Asked.{leaves_if, leaves_by, released_if, released_by}
use Rattle.zone_list.specs.declared.share.Share.{Share}
use Rattle.zone_list.specs.declared.walk.Found.{Found}
use Rattle.zone_list.specs.Steps.{list_at}
use Rattle.zone_list.specs.Counted.{numbers_in, ShareIs, PlaceIs, FoundBy, zeros_kept, WalkIs}

-- ---- numbers that are kept

module _ (t : List ℕ) (k n : ℕ) where
  pub numbers_length : length (numbers_in t k n) ≡ n
  unfolding numbers_in
  numbers_length = length-map (words t k n) (λ (x : ℕ). x - 1) ∙ words_length t k n

  pub numbers_at : (x : ℕ) → x < n → get_or (numbers_in t k n) x 0 ≡ get_or t (k + x) 0 - 1
  unfolding numbers_in
  numbers_at x h = get_or-map (λ (y : ℕ). y - 1) (words t k n) x 0 ∙ ap (λ (y : ℕ). y - 1) (words_at t k n x h)

-- ---- lists

empty_is : (o : List ℕ) → empty o ≡ eqb (length o) 0
empty_is [] = refl
empty_is (x ∷ o) = sym (ne_eqb (suc (length o)) 0 (λ e. omega arith))

module _ {A : Type 0} where
  drop_next : (xs : List A) (k : ℕ) (x : A) → get_elem? xs k ≡ some x → drop k xs ≡ x ∷ drop (suc k) xs
  drop_next [] k x e = absurd (cc)
  drop_next (y ∷ xs) zero x e = let q : y ≡ x = cc in ap (λ (z : _). z ∷ xs) q
  drop_next (y ∷ xs) (suc k) x e = drop_next xs k x e

  -- an element of the first list, and of the one behind it
  append_front : (xs ys : List A) (n : ℕ) → n < length xs → get_elem? (xs ++ ys) n ≡ get_elem? xs n
  append_front [] ys n h = absurd (omega arith)
  append_front (x ∷ xs) ys zero h = refl
  append_front (x ∷ xs) ys (suc n) h = append_front xs ys n (omega arith)

  append_behind : (xs ys : List A) (n i : ℕ) → n ≡ length xs + i → get_elem? (xs ++ ys) n ≡ get_elem? ys i
  append_behind xs ys n i e = ap (get_elem? (xs ++ ys)) e ∙ append_back xs ys i

  third : (a b : A) (l : List A) (x : ℕ) → 2 < x → nth1 (a ∷ b ∷ l) x ≡ get_elem? l (x - 2 - 1)
  third a b l zero h = absurd (omega arith)
  third a b l (suc zero) h = absurd (omega arith)
  third a b l (suc (suc zero)) h = absurd (omega arith)
  third a b l (suc (suc (suc n))) h = let z : n ≡ suc (suc (suc n)) - 2 - 1 = omega arith in ap (get_elem? l) z

-- ---- one edge

module _ (m : Model) (h : Home) (k : ℕ) (e : Edge) (here : nth1 m.edges k ≡ some e) (r : Share) (s : ShareIs m h k r) where
  share_places : r.places ≡ places_by m h.location h.order e
  share_places =
      s.places ∙ ap (λ (x : Option Edge). cond {A = ℕ} (leaves_if x h.location) (length (places m (released_if m x) h.order)) 0) here
      ∙ sym (places_by_is m h.location h.order e)

  share_zero : r.zero ≡ cond {A = Bool} (leaves_at e h.location) (overflows_any m (released m e) h.order) false
  share_zero = s.zero ∙ ap (λ (x : Option Edge). cond {A = Bool} (leaves_if x h.location) (overflows_any m (released_if m x) h.order) false) here

  share_length : length (leaving_by m h.location h.order k e) ≡ r.places
  share_length = leaving_by_count m h.order e h.location k ∙ sym share_places

  -- an edge that has a place leaves the location
  share_leaves : 0 < r.places → leaves_by m k h.location ≡ true
  share_leaves q = go (leaves_by m k h.location) refl
    where
      go : (b : Bool) → leaves_by m k h.location ≡ b → b ≡ true
      go true f = refl
      go false f = absurd (let z : r.places ≡ 0 = s.places ∙ rw f in omega arith)

  share_steps : leaves_by m k h.location ≡ true → leaving_by m h.location h.order k e ≡ map (by_edge k) (places m (released_by m k) h.order)
  share_steps f =
      let l : leaves_at e h.location ≡ true = sym (ap (λ (x : Option Edge). leaves_if x h.location) here) ∙ f in
      ap (λ (b : Bool). cond b (map (by_edge k) (places m (released m e) h.order)) []) l
      ∙ sym (ap (λ (x : Option Edge). map (by_edge k) (places m (released_if m x) h.order)) here)

  share_many : leaves_by m k h.location ≡ true → length (places m (released_by m k) h.order) ≡ r.places
  share_many f = sym (s.places ∙ rw f)

-- ---- the walk

module _ (m : Model) (h : Home) (t : List ℕ) (at x : ℕ) where
  -- the first k edges are behind it
  pub record Walking (many : ℕ) (zeros : Bool) (found : R.Option Found) (k : ℕ) : Type 0 where
    pub places : many + places_from m h.location h.order (drop k m.edges) ≡ length (list_at m h)
    pub holds : zeros_kept m h t at
        ≡ (zeros && zeros_from m h.location h.order (numbers_in t at (length (list_at m h))) many (drop k m.edges))
    pub later : many < x → nth1 (list_at m h) x ≡ get_elem? (leaving m h.location h.order (suc k) (drop k m.edges)) (x - many - 1)
    pub met : 3 ≤ x → x ≤ many → IsSomeAnd found (λ f. PlaceIs m h x f.edge f.rest)
    pub low : 2 ≤ many
    pub none : (x ≤ 2) ⊎ (many < x) → found ≡ None

  pub walking_first : (none : Bool) (kept : ℕ) (b : Bool) → none ≡ eqb (length h.order) 0 → kept ≡ get_or t (at + 1) 0 → b ≡ (true && (not none || eqb (kept - 1) 0)) → Walking 2 b None 0
  walking_first none kept b e g q =
      let z = widest h.location h.order in
      let two : 1 < length (list_at m h) = omega (arith, steps_count m z) in
      let c : get_or (numbers_in t at (length (list_at m h))) 1 0 ≡ kept - 1 = numbers_at t at (length (list_at m h)) 1 two ∙ ap (λ (y : ℕ). y - 1) (sym g) in
      record {
        places = sym (steps_count m z);
        holds = zeros_count m z (numbers_in t at (length (list_at m h))) ∙ rw (empty_is h.order, sym e, c, q);
        later = third _ _ _ x;
        met = λ a d. absurd (omega arith);
        low = omega arith;
        none = λ _. refl;
      }

  module _ (many k : ℕ) (zeros : Bool) (found : R.Option Found) (w : Walking many zeros found k) where
    module _ (e : Edge) (here : get_elem? m.edges k ≡ some e) (r : Share) (s : ShareIs m h (suc k) r) where
      rest_is : drop k m.edges ≡ e ∷ drop (suc k) m.edges
      rest_is = drop_next m.edges k e here

      left_places : many + r.places + places_from m h.location h.order (drop (suc k) m.edges) ≡ length (list_at m h)
      unfolding places_from
      left_places =
          let q : places_from m h.location h.order (drop k m.edges) ≡ places_by m h.location h.order e + places_from m h.location h.order (drop (suc k) m.edges) = rw rest_is in
          let p = share_places m h (suc k) e here r s in
          omega (arith, w.places)

      -- the claim is looked at only where it stands
      claim_holds : (kept : ℕ) → kept ≡ get_or t (at + many) 0
          → zero_holds m h.location h.order e (get_or (numbers_in t at (length (list_at m h))) many 0) ≡ (not r.zero || eqb (kept - 1) 0)
      claim_holds kept f =
          let c = get_or (numbers_in t at (length (list_at m h))) many 0 in
          zero_holds_is m h.location h.order e c ∙ ap (λ (b : Bool). not b || eqb c 0) (sym (share_zero m h (suc k) e here r s)) ∙ go r.zero refl
        where
          go : (b : Bool) → r.zero ≡ b → (not b || eqb (get_or (numbers_in t at (length (list_at m h))) many 0) 0) ≡ (not b || eqb (kept - 1) 0)
          go false q = refl
          go true q =
              let p = share_places m h (suc k) e here r s ∙ zero_place m h.location h.order e (sym (share_zero m h (suc k) e here r s) ∙ q) in
              let l = left_places in
              ap (λ (y : ℕ). eqb y 0) (numbers_at t at (length (list_at m h)) many (omega arith) ∙ ap (λ (y : ℕ). y - 1) (sym f))

      more_holds : (kept : ℕ) (b : Bool) → kept ≡ get_or t (at + many) 0 → b ≡ (zeros && (not r.zero || eqb (kept - 1) 0))
          → zeros_kept m h t at ≡ (b && zeros_from m h.location h.order (numbers_in t at (length (list_at m h))) (many + r.places) (drop (suc k) m.edges))
      unfolding zeros_from
      more_holds kept b f q =
          let all = numbers_in t at (length (list_at m h)) in
          let a : zeros_from m h.location h.order all many (drop k m.edges)
          ≡ (zero_holds m h.location h.order e (get_or all many 0) && zeros_from m h.location h.order all (many + places_by m h.location h.order e) (drop (suc k) m.edges)) = rw rest_is in
          w.holds ∙ ap (λ (y : Bool). zeros && y) a
          ∙ rw (claim_holds kept f, sym (share_places m h (suc k) e here r s)) (sym (and_assoc zeros (not r.zero || eqb (kept - 1) 0) _) ∙ rw (sym q))

      here_is : many < x → nth1 (list_at m h) x
          ≡ get_elem? (leaving_by m h.location h.order (suc k) e ++ leaving m h.location h.order (suc (suc k)) (drop (suc k) m.edges)) (x - many - 1)
      here_is l = w.later l ∙ ap (λ (es : List Edge). get_elem? (leaving m h.location h.order (suc k) es) (x - many - 1)) rest_is

      more_later : many + r.places < x
          → nth1 (list_at m h) x ≡ get_elem? (leaving m h.location h.order (suc (suc k)) (drop (suc k) m.edges)) (x - (many + r.places) - 1)
      more_later l =
          here_is (omega arith)
          ∙ append_behind (leaving_by m h.location h.order (suc k) e) _ (x - many - 1) (x - (many + r.places) - 1) (omega (arith, share_length m h (suc k) e here r s))

      -- the place is one of this edge's
      more_here : many < x → x ≤ many + r.places → PlaceIs m h x (suc k) (x - many - 1)
      more_here l u =
          let f = share_leaves m h (suc k) e here r s (omega arith) in
          record {
            leaves = f;
            inside = omega (arith, share_many m h (suc k) e here r s f);
            is =
                here_is l ∙ append_front (leaving_by m h.location h.order (suc k) e) _ (x - many - 1) (omega (arith, share_length m h (suc k) e here r s))
                ∙ ap (λ (l : List Step). get_elem? l (x - many - 1)) (share_steps m h (suc k) e here r s f);
          }

      more_met : (f : R.Option Found) → FoundBy found (suc k) many r.places x f → 3 ≤ x → x ≤ many + r.places → IsSomeAnd f (λ y. PlaceIs m h x y.edge y.rest)
      more_met f q a b = go (dec_le x many)
        where
          go : Dec (x ≤ many) → IsSomeAnd f (λ y. PlaceIs m h x y.edge y.rest)
          go (yes l) = rw (q.before l) (w.met a l)
          go (no l) = rw (q.here (omega arith) b) (more_here (omega arith) b)

      more_none : (f : R.Option Found) → FoundBy found (suc k) many r.places x f → (x ≤ 2) ⊎ (many + r.places < x) → f ≡ None
      more_none f q (inl l) = q.before (omega (arith, w.low)) ∙ w.none (inl l)
      more_none f q (inr l) = q.behind l ∙ w.none (inr (omega arith))

      pub walking_more : (kept : ℕ) (b : Bool) (f : R.Option Found) → kept ≡ get_or t (at + many) 0 → b ≡ (zeros && (not r.zero || eqb (kept - 1) 0))
          → FoundBy found (suc k) many r.places x f → Walking (many + r.places) b f (suc k)
      walking_more kept b f g q o = record { places = left_places; holds = more_holds kept b g q; later = more_later; met = more_met f o; low = omega (arith, w.low); none = more_none f o }

    pub walking_last : length m.edges ≤ k → WalkIs m h t at x (record { many = many; zeros = zeros; found = found })
    unfolding places_from zeros_from
    walking_last l =
        let d = drop_of_length-le m.edges l in
        let p : many + 0 ≡ length (list_at m h) = rw d at w.places in
        record {
          many = omega arith;
          zeros = sym (w.holds ∙ rw d (and-true zeros));
          place = λ a b. w.met a (omega arith);
          none = λ a. w.none (⊎_elim inl (λ b. inr (omega arith)) a);
        }

-- the same over a model's table: one edge more
module _ (u : List ℕ) (g : RightTable u) (h : Home) (t : List ℕ) (at x many edge : ℕ) (zeros : Bool) (found : R.Option Found) (w : Walking (decode u) h t at x many zeros found (edge - 1)) (low : 1 ≤ edge) (high : edge ≤ edges u) (r : Share) (s : ShareIs (decode u) h edge r) where
  behind_is : edge ≡ suc (edge - 1)
  behind_is = omega arith

  edge_here : get_elem? (decode u).edges (edge - 1) ≡ some (edge_of u edge)
  edge_here = subst (λ (n : ℕ). nth1 (decode u).edges n ≡ some (edge_of u edge)) behind_is (g.edge edge low high)

  share_here : ShareIs (decode u) h (suc (edge - 1)) r
  share_here = subst (λ (n : ℕ). ShareIs (decode u) h n r) behind_is s

  module _ (few : length h.order ≤ 6) where
    -- far below what a machine number holds, however many tasks an edge releases
    pub walking_room : many + r.places ≤ 100000
    walking_room =
        let p = left_places (decode u) h t at x many (edge - 1) zeros found w (edge_of u edge) edge_here r share_here in
        omega (arith, steps_most (decode u) (widest h.location h.order) few g.right.edges_high)

    pub walking_edge : (kept : ℕ) (b : Bool) (f : R.Option Found) → kept ≡ get_or t (at + many) 0 → b ≡ (zeros && (not r.zero || eqb (kept - 1) 0))
        → FoundBy found edge many r.places x f → (many + r.places ≤ 100000) × Walking (decode u) h t at x (many + r.places) b f (edge + 1 - 1)
    walking_edge kept b f c q o =
        let n : edge + 1 - 1 ≡ suc (edge - 1) = omega arith in
        let by : FoundBy found (suc (edge - 1)) many r.places x f = subst (λ (n : ℕ). FoundBy found n many r.places x f) behind_is o in
        (walking_room, rw n (walking_more (decode u) h t at x many (edge - 1) zeros found w (edge_of u edge) edge_here r share_here kept b f c q by))
