-- Laws of the steps in the list: which edges are in it, with which positions, and that a step has one form.
-- Assumes nothing.
use mathlib.Core.Path.{◌≡◌, refl, sym, ◌∙◌, ap, subst}
use mathlib.Core.Bool.{Bool, true, false, cond}
use mathlib.Core.List.Memᴰ
use mathlib.Core.List.{List, [], ◌∷◌, map, Memᴰ}
use mathlib.Core.Logic.{◌⊎◌, inl, inr, ◌↔◌}
use mathlib.Core.Option.{Option, none, some}
use Prim.Native.Nat.{ℕ, zero, suc, ◌+◌}
use native.Mathlib.Omega.{arith}
use lib.Dec.{eqb}
use lib.ListN.{length, get_elem?}
use borrow.Author.Tests.{eqb-true}
use Rattle.meaning.specs.Lists.{nth1}
use Rattle.meaning.specs.Model.{Edge, Model, leaves_at, released}
use Rattle.meaning.specs.Machine.Release.{overflows_any}
use Rattle.meaning.specs.Zones.Reached.{Home}
use Rattle.meaning.specs.Zones.Steps.{go_on, finish, by_edge, choices, places, leaving_by, leaving}
use Rattle.meaning.proofs.Tests.{never}
use Rattle.meaning.proofs.Lists.{mem_map_inv}
use Rattle.meaning.proofs.Zones.Listed.{leaving_listed}
use Rattle.meaning.proofs.Zones.Choices.{places_over, places_free}
use Rattle.home.specs.Asked.{leaves_if, leaves_by, released_if, released_by}
use Rattle.zone_list.specs.declared.form.Kind.TheVariants.{GoOn, Finish}
use Rattle.zone_list.specs.declared.form.Step as L
use Rattle.zone_list.specs.Steps.{step_of, list_at}
use Rattle.zone_list.specs.Chosen.{jobs_ahead}

-- ---- an edge in the list

-- edge number i of the list es is in the list with the positions ps
record Out (m : Model) (l : ℕ) (o : List ℕ) (es : List Edge) (i : ℕ) (ps : List ℕ) : Type 0 where
  edge : Edge
  is : get_elem? es i ≡ some edge
  leaves : leaves_at edge l ≡ true
  place : Memᴰ ps (places m (released m edge) o)

same_edge : (a b : ℕ) (ps qs : List ℕ) → by_edge a ps ≡ by_edge b qs → (a ≡ b) × (ps ≡ qs)
same_edge a b ps qs e = (cc, cc)

leaving_by_lem : (m : Model) (l : ℕ) (o : List ℕ) (k : ℕ) (e : Edge) (n : ℕ) (ps : List ℕ) → Memᴰ (by_edge n ps) (leaving_by m l o k e)
    → (n ≡ k) × (leaves_at e l ≡ true) × Memᴰ ps (places m (released m e) o)
leaving_by_lem m l o k e n ps h = go (leaves_at e l) h
  where
    go : (b : Bool) → Memᴰ (by_edge n ps) (cond b (map (by_edge k) (places m (released m e) o)) [])
        → (n ≡ k) × (b ≡ true) × Memᴰ ps (places m (released m e) o)
    go true w =
        let r = mem_map_inv (by_edge k) (places m (released m e) o) w in
        let q = same_edge n k ps r.0 r.2 in
        (q.0, refl, subst (λ (x : List ℕ). Memᴰ x (places m (released m e) o)) (sym q.1) r.1)
    go false w = absurd (Memᴰ.not-nil w)

leaving_of : (m : Model) (l : ℕ) (o : List ℕ) (k : ℕ) (es : List Edge) (n : ℕ) (ps : List ℕ) → Memᴰ (by_edge n ps) (leaving m l o k es)
    → (i : ℕ) × (n ≡ k + i) × Out m l o es i ps
leaving_of m l o k [] n ps h = absurd (Memᴰ.not-nil h)
leaving_of m l o k (e ∷ es) n ps h = go (Memᴰ.append_cases (leaving_by m l o k e) h) (leaving_of m l o (suc k) es n ps)
  where
    go : Memᴰ (by_edge n ps) (leaving_by m l o k e) ⊎ Memᴰ (by_edge n ps) (leaving m l o (suc k) es)
        → (Memᴰ (by_edge n ps) (leaving m l o (suc k) es) → (i : ℕ) × (n ≡ suc k + i) × Out m l o es i ps)
        → (i : ℕ) × (n ≡ k + i) × Out m l o (e ∷ es) i ps
    go (inl w) ih =
        let r = leaving_by_lem m l o k e n ps w in
        (0, omega (arith, r.0), record { edge = e; is = refl; leaves = r.1; place = r.2 })
    go (inr w) ih =
        let r = ih w in
        let q = r.2 in
        (suc r.0, omega (arith, r.1), record { edge = q.edge; is = q.is; leaves = q.leaves; place = q.place })

edge_not_tick : (k : ℕ) (ps : List ℕ) → (by_edge k ps ≡ go_on) ⊎ (by_edge k ps ≡ finish) → ⊥
edge_not_tick k ps (inl e) = cc
edge_not_tick k ps (inr e) = cc

module _ (m : Model) (h : Home) where
  edge_of : (k : ℕ) (ps : List ℕ) → Memᴰ (by_edge k ps) (list_at m h) → Memᴰ (by_edge k ps) (leaving m h.location h.order 1 m.edges)
  edge_of k ps (Memᴰ.head e) = absurd (edge_not_tick k ps (inl e))
  edge_of k ps (Memᴰ.tail (Memᴰ.head e)) = absurd (edge_not_tick k ps (inr e))
  edge_of k ps (Memᴰ.tail (Memᴰ.tail w)) = w

  -- an edge is in the list if it leaves the location, with each of its places
  pub listed_edge : (k : ℕ) (ps : List ℕ) → Memᴰ (by_edge k ps) (list_at m h)
      ↔ ((leaves_by m k h.location ≡ true) × Memᴰ ps (places m (released_by m k) h.order))
  listed_edge k ps = (there, back)
    where
      there : Memᴰ (by_edge k ps) (list_at m h) → (leaves_by m k h.location ≡ true) × Memᴰ ps (places m (released_by m k) h.order)
      there w =
          let r = leaving_of m h.location h.order 1 m.edges k ps (edge_of k ps w) in
          let q = r.2 in
          let n : k ≡ suc r.0 = omega (arith, r.1) in
          let i : nth1 m.edges k ≡ some q.edge = ap (nth1 m.edges) n ∙ q.is in (
            ap (λ (x : Option Edge). leaves_if x h.location) i ∙ q.leaves,
            subst (λ (x : Option Edge). Memᴰ ps (places m (released_if m x) h.order)) (sym i) q.place,
          )

      at : (j : ℕ) (x : Option Edge) → nth1 m.edges j ≡ x → leaves_if x h.location ≡ true → Memᴰ ps (places m (released_if m x) h.order)
          → Memᴰ (by_edge j ps) (list_at m h)
      at j none e l w = absurd (never l refl)
      at zero (some d) e l w = absurd (cc)
      at (suc i) (some d) e l w =
          Memᴰ.tail (Memᴰ.tail (leaving_listed m h.location h.order ps d m.edges 1 i (suc i) (omega arith) e l w))

      back : (leaves_by m k h.location ≡ true) × Memᴰ ps (places m (released_by m k) h.order) → Memᴰ (by_edge k ps) (list_at m h)
      back w = at k (nth1 m.edges k) refl w.0 w.1

  module _ (k : ℕ) (ps : List ℕ) where
    -- an edge of another location is not
    pub listed_other : leaves_by m k h.location ≡ false → Memᴰ (by_edge k ps) (list_at m h) → ⊥
    listed_other e w = never ((listed_edge k ps).0 w).0 e

    -- releases that overflow have no position
    pub listed_over : leaves_by m k h.location ≡ true → overflows_any m (released_by m k) h.order ≡ true → Memᴰ (by_edge k ps) (list_at m h) ↔ (ps ≡ [])
    listed_over l e =
        let p = places_over m (released_by m k) h.order e in (
          λ w. Memᴰ.eq_of_singleton (subst (λ (x : List (List ℕ)). Memᴰ ps x) p ((listed_edge k ps).0 w).1),
          λ q. (listed_edge k ps).1 (l, subst (λ (x : List (List ℕ)). Memᴰ ps x) (sym p) (Memᴰ.head q)),
        )

    -- others have a choice of positions
    pub listed_free : leaves_by m k h.location ≡ true → overflows_any m (released_by m k) h.order ≡ false
        → Memᴰ (by_edge k ps) (list_at m h) ↔ Memᴰ ps (choices m (released_by m k) h.order)
    listed_free l e =
        let p = places_free m (released_by m k) h.order e in (
          λ w. subst (λ (x : List (List ℕ)). Memᴰ ps x) p ((listed_edge k ps).0 w).1,
          λ q. (listed_edge k ps).1 (l, subst (λ (x : List (List ℕ)). Memᴰ ps x) (sym p) q),
        )

-- no position
pub jobs_ahead_none : (ps : List ℕ) → (eqb (length ps) 0 ≡ true) ↔ (jobs_ahead ps ≡ [])
jobs_ahead_none [] = (λ e. refl, λ e. refl)
jobs_ahead_none (p ∷ ps) = (λ e. absurd (let z = eqb-true (suc (length ps)) 0 e in omega arith), λ e. absurd (let z = ap length e in omega arith))

-- a tick is in each list
pub listed_tick : (m : Model) (h : Home) (s : L.Step) → (s.kind ≡ GoOn) ⊎ (s.kind ≡ Finish) → Memᴰ (step_of s) (list_at m h)
listed_tick m h s (inl e) = rw e (Memᴰ.head refl)
listed_tick m h s (inr e) = rw e (Memᴰ.tail (Memᴰ.head refl))
