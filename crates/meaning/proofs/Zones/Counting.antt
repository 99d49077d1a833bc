-- How many steps a zone has, and where a claim 0 is due, counted edge by edge.
-- Assumes nothing.
use Prim.Native.Nat.{ℕ, zero, suc, ◌+◌, ◌*◌, ◌≤◌}
use mathlib.Core.Path.{◌≡◌, refl, sym, ◌∙◌, ap}
use mathlib.Core.Bool.{Bool, true, false, not, cond, ◌&&◌, ◌||◌, true≢false}
use mathlib.Core.List.{List, [], ◌∷◌, ◌++◌, map}
use mathlib.Core.Option.{some}
use native.Mathlib.Omega.{arith}
use lib.Dec.{eqb}
use lib.ListN.{length, get_or, get_elem?, drop, length-append, length-map}
use Rattle.meaning.specs.Lists.{nth1}
use Rattle.meaning.specs.Model.{Edge, Model, leaves_at, released}
use Rattle.meaning.specs.Machine.Release.{overflows_any}
use Rattle.meaning.specs.Text.Ranges.{edges_most, queue_most, places_most}
use Rattle.meaning.specs.Text.RightProposal.{empty, zero_due, zero_due_in, zeros_at}
use Rattle.meaning.specs.Zones.Zone.{Zone}
use Rattle.meaning.specs.Zones.Steps.{Step, go_on, finish, by_edge, places, leaving_by, leaving, steps}
use Rattle.meaning.proofs.Zones.Choices.{places_over}
use Rattle.meaning.proofs.Releases.{released_places}

-- ---- one edge, at a location l, with a queue of the tasks o

-- how many places it has in the list of steps
unfoldable pub places_by : Model → ℕ → List ℕ → Edge → ℕ
places_by m l o e = cond (leaves_at e l) (length (places m (released m e) o)) 0

-- its first claim is 0 where 0 is due
unfoldable pub zero_holds : Model → ℕ → List ℕ → Edge → ℕ → Bool
zero_holds m l o e c = not (cond (leaves_at e l) (overflows_any m (released m e) o) false) || eqb c 0

module _ (m : Model) (l : ℕ) (o : List ℕ) (e : Edge) where
  pub places_by_is : places_by m l o e ≡ cond (leaves_at e l) (length (places m (released m e) o)) 0
  unfolding places_by
  places_by_is = refl

  pub zero_holds_is : (c : ℕ) → zero_holds m l o e c ≡ not (cond (leaves_at e l) (overflows_any m (released m e) o) false) || eqb c 0
  unfolding zero_holds
  zero_holds_is c = refl

  -- where 0 is due, the edge has a place
  pub zero_place : cond (leaves_at e l) (overflows_any m (released m e) o) false ≡ true → places_by m l o e ≡ 1
  unfolding places_by
  zero_place h = go (leaves_at e l) (overflows_any m (released m e) o) refl h
    where
      go : (b d : Bool) → overflows_any m (released m e) o ≡ d → cond b d false ≡ true → cond b (length (places m (released m e) o)) 0 ≡ 1
      go true true w g = ap length (places_over m (released m e) o w)
      go true false w g = absurd (true≢false (sym g))
      go false d w g = absurd (true≢false (sym g))

-- ---- the edges, one after the other

-- how many places they have
unfoldable pub places_from : Model → ℕ → List ℕ → List Edge → ℕ
places_from m l o [] = 0
places_from m l o (e ∷ es) = places_by m l o e + places_from m l o es

-- "0 where 0 is due" of the claims cs, of which the first of these edges has those from p on
unfoldable pub zeros_from : Model → ℕ → List ℕ → List ℕ → ℕ → List Edge → Bool
zeros_from m l o cs p [] = true
zeros_from m l o cs p (e ∷ es) = zero_holds m l o e (get_or cs p 0) && zeros_from m l o cs (p + places_by m l o e) es

-- ---- the laws

module _ (m : Model) (o : List ℕ) where
  pub leaving_by_count : (e : Edge) (l k : ℕ) → length (leaving_by m l o k e) ≡ places_by m l o e
  unfolding places_by
  leaving_by_count e l k = go (leaves_at e l)
    where
      go : (b : Bool) → length (cond b (map (by_edge k) (places m (released m e) o)) []) ≡ cond b (length (places m (released m e) o)) 0
      go true = length-map (places m (released m e) o) (by_edge k)
      go false = refl

  leaving_count : (l k : ℕ) (es : List Edge) → length (leaving m l o k es) ≡ places_from m l o es
  unfolding places_from
  leaving_count l k [] = refl
  leaving_count l k (e ∷ es) =
      length-append (leaving_by m l o k e) (leaving m l o (suc k) es) ∙ rw (leaving_by_count e l k, leaving_count l (suc k) es)

-- the number of a zone's claims: two for the tick, then those of the edges
pub steps_count : (m : Model) (z : Zone) → length (steps m z) ≡ 2 + places_from m z.location z.order m.edges
steps_count m z = ap (λ (n : ℕ). suc (suc n)) (leaving_count m z.order z.location 1 m.edges) ∙ omega arith

-- ---- where 0 is due

-- none is due
zeros_free : (due : Step → Bool) (k : ℕ) (pss : List (List ℕ)) (cs : List ℕ) → ((ps : List ℕ) → due (by_edge k ps) ≡ false) → zeros_at due (map (by_edge k) pss) cs ≡ true
zeros_free due k [] cs h = refl
zeros_free due k (ps ∷ pss) [] h = refl
zeros_free due k (ps ∷ pss) (c ∷ cs) h = rw (h ps) (zeros_free due k pss cs h)

zeros_append : (due : Step → Bool) (xs ys : List Step) (cs : List ℕ) → zeros_at due (xs ++ ys) cs ≡ zeros_at due xs cs && zeros_at due ys (drop (length xs) cs)
zeros_append due [] ys cs = refl
zeros_append due (x ∷ xs) ys [] = none_left ys
  where
    none_left : (l : List Step) → true ≡ zeros_at due l []
    none_left [] = refl
    none_left (y ∷ l) = refl
zeros_append due (x ∷ xs) ys (c ∷ cs) = ap (λ (b : Bool). (not (due x) || eqb c 0) && b) (zeros_append due xs ys cs) ∙ assoc (not (due x) || eqb c 0) _ _
  where
    assoc : (a b d : Bool) → (a && (b && d)) ≡ (a && b) && d
    assoc true b d = refl
    assoc false b d = refl

-- one is due
zeros_one : (due : Step → Bool) (st : Step) (cs : List ℕ) → zeros_at due (st ∷ []) cs ≡ not (due st) || eqb (get_or cs 0 0) 0
zeros_one due st [] = go (due st)
  where
    go : (b : Bool) → true ≡ not b || eqb 0 0
    go true = refl
    go false = refl
zeros_one due st (c ∷ cs) = go (not (due st) || eqb c 0)
  where
    go : (b : Bool) → b && true ≡ b
    go true = refl
    go false = refl

drop_get_d : (cs : List ℕ) (p : ℕ) → get_or (drop p cs) 0 0 ≡ get_or cs p 0
drop_get_d [] zero = refl
drop_get_d [] (suc p) = refl
drop_get_d (c ∷ cs) zero = refl
drop_get_d (c ∷ cs) (suc p) = drop_get_d cs p

drop_drop : (cs : List ℕ) (p n : ℕ) → drop n (drop p cs) ≡ drop (p + n) cs
drop_drop cs zero n = let z : 0 + n ≡ n = omega arith in rw z
drop_drop [] (suc p) n = go n ∙ (let z : suc p + n ≡ suc (p + n) = omega arith in rw z)
  where
    go : (k : ℕ) → drop {A = ℕ} k [] ≡ []
    go zero = refl
    go (suc k) = refl
drop_drop (c ∷ cs) (suc p) n = let z : suc p + n ≡ suc (p + n) = omega arith in rw z (drop_drop cs p n)

module _ (m : Model) (l : ℕ) (o : List ℕ) where
  -- an edge of the model
  leaving_by_zeros : (k : ℕ) (e : Edge) (cs : List ℕ) → nth1 m.edges k ≡ some e → zeros_at (zero_due_in m o) (leaving_by m l o k e) cs ≡ zero_holds m l o e (get_or cs 0 0)
  unfolding zero_holds
  leaving_by_zeros k e cs h = go (leaves_at e l) (overflows_any m (released m e) o) refl
    where
      go : (b d : Bool) → overflows_any m (released m e) o ≡ d
          → zeros_at (zero_due_in m o) (cond b (map (by_edge k) (places m (released m e) o)) []) cs ≡ not (cond b d false) || eqb (get_or cs 0 0) 0
      go false d w = refl
      go true true w = rw (places_over m (released m e) o w) (zeros_one (zero_due_in m o) (by_edge k []) cs ∙ rw (h, w))
      go true false w = zeros_free (zero_due_in m o) k (places m (released m e) o) cs (λ ps. rw (h, w))

  leaving_zeros : (es : List Edge) (k p : ℕ) (cs : List ℕ) → ((i : ℕ) → get_elem? es i ≡ nth1 m.edges (k + i))
      → zeros_at (zero_due_in m o) (leaving m l o k es) (drop p cs) ≡ zeros_from m l o cs p es
  unfolding zeros_from
  leaving_zeros [] k p cs h = refl
  leaving_zeros (e ∷ es) k p cs h =
      let z : k + 0 ≡ k = omega arith in
      let here : nth1 m.edges k ≡ some e = ap (λ (i : ℕ). nth1 m.edges i) (sym z) ∙ sym (h 0) in
      zeros_append (zero_due_in m o) (leaving_by m l o k e) (leaving m l o (suc k) es) (drop p cs)
      ∙ rw (leaving_by_zeros k e (drop p cs) here, drop_get_d cs p, leaving_by_count m o e l k, drop_drop cs p (places_by m l o e))
      (ap (λ (b : Bool). zero_holds m l o e (get_or cs p 0) && b)
      (leaving_zeros es (suc k) (p + places_by m l o e) cs (λ i. let y : k + suc i ≡ suc k + i = omega arith in h (suc i) ∙ ap (λ (x : ℕ). nth1 m.edges x) y)))

-- "0 where 0 is due": of the finish at an empty queue, and of the edges
pub zeros_count : (m : Model) (z : Zone) (cs : List ℕ) → zeros_at (zero_due m z) (steps m z) cs
    ≡ (not (empty z.order) || eqb (get_or cs 1 0) 0) && zeros_from m z.location z.order cs 2 m.edges
zeros_count m z cs =
    zeros_append (zero_due m z) (go_on ∷ finish ∷ []) (leaving m z.location z.order 1 m.edges) cs
    ∙ rw (first cs, leaving_zeros m z.location z.order m.edges 1 2 cs (λ i. let y : 1 + i ≡ suc i = omega arith in rw y))
  where
    or_zero : (b : Bool) → true ≡ not b || true
    or_zero true = refl
    or_zero false = refl

    and_one : (b : Bool) → b && true ≡ b
    and_one true = refl
    and_one false = refl

    first : (l : List ℕ) → zeros_at (zero_due m z) (go_on ∷ finish ∷ []) l ≡ not (empty z.order) || eqb (get_or l 1 0) 0
    first [] = or_zero (empty z.order)
    first (c ∷ []) = or_zero (empty z.order)
    first (c ∷ d ∷ l) = and_one (not (empty z.order) || eqb d 0)

-- ---- how many there can be

places_most_lem : (m : Model) (l : ℕ) (o : List ℕ) (e : Edge) → length o ≤ queue_most → places_by m l o e ≤ places_most
unfolding places_by
places_most_lem m l o e h = go (leaves_at e l)
  where
    go : (b : Bool) → cond b (length (places m (released m e) o)) 0 ≤ places_most
    go true = released_places m e o h
    go false = omega arith

pub places_from_most : (m : Model) (l : ℕ) (o : List ℕ) (es : List Edge) → length o ≤ queue_most → places_from m l o es ≤ places_most * length es
unfolding places_from
places_from_most m l o [] h = omega arith
places_from_most m l o (e ∷ es) h = omega (arith, places_most_lem m l o e h, places_from_most m l o es h)

-- a tick that goes on, one that finishes, and the places of each edge
pub steps_most : (m : Model) (z : Zone) → length z.order ≤ queue_most → length m.edges ≤ edges_most → length (steps m z) ≤ 2 + places_most * edges_most
steps_most m z h n = omega (arith, steps_count m z, places_from_most m z.location z.order m.edges h)
