-- An edge of the list of steps: its number, what it releases, and its bounds.
-- Assumes nothing.
use mathlib.Core.Path.{◌≡◌, refl, sym, ◌∙◌, ap, ap₂, subst}
use mathlib.Core.Bool.{Bool, true, false, cond, true≢false}
use mathlib.Core.List.Memᴰ
use mathlib.Core.List.{List, [], ◌∷◌, ◌++◌, map, append-nil, Memᴰ}
use mathlib.Core.Option.{Option, none, some}
use Prim.Native.Nat.{ℕ, zero, suc, ◌+◌, ◌-◌, ◌≤◌, ◌<◌}
use native.Mathlib.Omega.{arith}
use native.Mathlib.Decide.{dec_le}
use lib.IntN.{ℤ}
use lib.ListN.{length, get_or, take, length-map}
use lib.Seq.{length-take-le}
use Rattle.meaning.specs.Lists.{nth1, same_list}
use Rattle.meaning.specs.Model.{Bound, Edge, Model, leaves_at, released}
use Rattle.meaning.specs.Machine.Release.{overflows_any}
use Rattle.meaning.specs.Zones.Steps.{by_edge, choices, places}
use Rattle.meaning.specs.Zones.Reached.{Home}
use Rattle.meaning.specs.Text.ModelTable.{decode, edges}
use Rattle.meaning.specs.Text.Ranges.{queue_most}
use Rattle.meaning.specs.Text.RightProposal.{RightOrder}
use Rattle.meaning.specs.Inner.Bounds.{only_if}
use Rattle.meaning.specs.Inner.Slots.{slots_of}
use Rattle.meaning.specs.Inner.Places.{position_bounds, release_bounds}
use Rattle.meaning.specs.Inner.StepBounds.{edge_bounds, step_bounds}
use Rattle.meaning.proofs.Hooks.{releases_room}
use Rattle.meaning.proofs.Zones.Choices.{choices_length, places_over, places_free}
use Rattle.model_table.specs.Right.{RightTable}
use Rattle.model_table.specs.Parts.{guard_of, edge_of}
use Rattle.home.specs.Asked.{leaves_if, released_if, released_by}
use Rattle.home.proofs.HomeLaws.{released_right}
use Rattle.home.specs.declared.Home as M
use Rattle.home.specs.declared.Releases.{Releases}
use Rattle.home.specs.Stands.{order_of, home_of, tasks_of, Lists, RightHome}
use Rattle.zone_list.specs.Steps.{ahead_of, list_at}
use Rattle.zone_list.specs.declared.form.Step as L
use Rattle.zone_list.proofs.ListedLaws.{listed_edge}
use Rattle.std.specs.Prelude as Std
use Rattle.zone_bounds.specs.Narrowed.{Narrows}
use Rattle.zone_bounds.proofs.NarrowLaws.{narrows_then, narrows_stop}
use Rattle.step_bounds.specs.Places.{PlacesIn, EdgeIn}

-- ---- an edge that is in the list

-- edge k leaves the location, and its release may take the positions ps
pub record Leaving (m : Model) (h : Home) (k : ℕ) (ps : List ℕ) : Type 0 where
  pub edge : Edge
  pub is : nth1 m.edges k ≡ some edge
  pub leaves : leaves_at edge h.location ≡ true
  pub place : Memᴰ ps (places m (released m edge) h.order)

pub listed_leaving : (m : Model) (h : Home) (k : ℕ) (ps : List ℕ) → Memᴰ (by_edge k ps) (list_at m h) → Leaving m h k ps
listed_leaving m h k ps w = go (nth1 m.edges k) refl ((listed_edge m h k ps).0 w)
  where
    go : (x : Option Edge) → nth1 m.edges k ≡ x → (leaves_if x h.location ≡ true) × Memᴰ ps (places m (released_if m x) h.order) → Leaving m h k ps
    go none e p = absurd (true≢false (sym p.0))
    go (some d) e p = record { edge = d; is = e; leaves = p.0; place = p.1 }

-- ---- its number, releases and bounds

module _ (t : List ℕ) (g : RightTable t) (h : Home) (k : ℕ) (ps : List ℕ) (w : Leaving (decode t) h k ps) where
  edge_range : (1 ≤ k) × (k ≤ edges t)
  edge_range = go (dec_le 1 k) (dec_le k (edges t))
    where
      no_edge : (1 ≤ k → edges t < k) → ⊥
      no_edge f = let n = g.no_edge k f in let e = w.is in let z : ◌≡◌ {A = ℕ} 0 1 = cc in omega arith

      go : Dec (1 ≤ k) → Dec (k ≤ edges t) → (1 ≤ k) × (k ≤ edges t)
      go (yes a) (yes b) = (a, b)
      go (yes a) (no b) = absurd (no_edge (λ _. omega arith))
      go (no a) b = absurd (no_edge (λ f. absurd (a f)))

  edge_same : w.edge ≡ edge_of t k
  edge_same =
      let s : some (edge_of t k) ≡ some w.edge = sym (g.edge k edge_range.0 edge_range.1) ∙ w.is in
      cc

  releases_same : released (decode t) w.edge ≡ released_by (decode t) k
  releases_same = ap (released_if (decode t)) (sym w.is)

  -- the guard, and the places of what is released
  edge_bounds_lem : step_bounds (decode t) h (by_edge k ps) ≡ guard_of t k ++ release_bounds (decode t) (released_by (decode t) k) ps h.order (slots_of (decode t) h.order)
  edge_bounds_lem =
      ap (edge_bounds (decode t) h ps) w.is
      ∙ ap (λ (b : Bool). only_if b (w.edge.guard ++ release_bounds (decode t) (released (decode t) w.edge) ps h.order (slots_of (decode t) h.order))) w.leaves
      ∙ ap (λ (e : Edge). e.guard ++ release_bounds (decode t) (released (decode t) w.edge) ps h.order (slots_of (decode t) h.order)) edge_same
      ∙ ap (λ (ts : List ℕ). guard_of t k ++ release_bounds (decode t) ts ps h.order (slots_of (decode t) h.order)) releases_same

  place_by : Memᴰ ps (places (decode t) (released_by (decode t) k) h.order)
  place_by = subst (λ (ts : List ℕ). Memᴰ ps (places (decode t) ts h.order)) releases_same w.place

  -- an overflow asks for the guard alone
  over_bounds : overflows_any (decode t) (released_by (decode t) k) h.order ≡ true → step_bounds (decode t) h (by_edge k ps) ≡ guard_of t k
  over_bounds e =
      let none : ps ≡ [] =
      Memᴰ.eq_of_singleton (subst (λ (l : List (List ℕ)). Memᴰ ps l) (places_over (decode t) (released_by (decode t) k) h.order e) place_by) in
      edge_bounds_lem
      ∙ ap (λ (b : Bool). guard_of t k ++ cond b (only_if (same_list [] ps) []) (position_bounds (decode t) (released_by (decode t) k) ps (slots_of (decode t) h.order))) e
      ∙ ap (λ (l : List ℕ). guard_of t k ++ only_if (same_list [] l) []) none ∙ append-nil (guard_of t k)

  module _ (e : overflows_any (decode t) (released_by (decode t) k) h.order ≡ false) where
    free_bounds : step_bounds (decode t) h (by_edge k ps) ≡ guard_of t k ++ position_bounds (decode t) (released_by (decode t) k) ps (slots_of (decode t) h.order)
    free_bounds =
        edge_bounds_lem
        ∙ ap (λ (b : Bool). guard_of t k ++ cond b (only_if (same_list [] ps) []) (position_bounds (decode t) (released_by (decode t) k) ps (slots_of (decode t) h.order))) e

    free_choice : Memᴰ ps (choices (decode t) (released_by (decode t) k) h.order)
    free_choice = subst (λ (l : List (List ℕ)). Memᴰ ps l) (places_free (decode t) (released_by (decode t) k) h.order e) place_by

    free_many : length ps ≡ length (released_by (decode t) k)
    free_many = choices_length (decode t) (released_by (decode t) k) h.order ps free_choice

    free_room : RightOrder (decode t) h.location h.order → length h.order + length (released_by (decode t) k) ≤ queue_most
    free_room r =
        releases_room (decode t) g.right.tasks_high (released_by (decode t) k) h.order r.fit r.tasks (released_right (decode t) g.right k) e

-- ---- its positions

-- a position has one job fewer ahead of it
ahead_take : (n : ℕ) (ps xs : List ℕ) → length ps ≡ length xs → ((k : ℕ) → get_or xs k 0 ≡ get_or ps k 0 - 1) → map (λ (p : ℕ). p - 1) (take n ps) ≡ take n xs
ahead_take zero ps xs e f = refl
ahead_take (suc n) [] [] e f = refl
ahead_take (suc n) [] (x ∷ xs) e f = absurd (omega arith)
ahead_take (suc n) (p ∷ ps) [] e f = absurd (omega arith)
ahead_take (suc n) (p ∷ ps) (x ∷ xs) e f =
    ap₂ (λ (y : ℕ) (l : List ℕ). y ∷ l) (sym (f 0)) (ahead_take n ps xs (omega arith) (λ k. f (suc k)))

-- ---- the step of the code

module _ (t : List ℕ) (g : RightTable t) (home : M.Home) (k : ℕ) (step : L.Step) (w : EdgeIn (decode t) (home_of home) k step) (r : Releases)
    (ls : Lists (released_by (decode t) k) r) where
  leaving_step : Leaving (decode t) (home_of home) k (ahead_of step)
  leaving_step = listed_leaving (decode t) (home_of home) k (ahead_of step) w.here

  pub step_range : (1 ≤ k) × (k ≤ edges t)
  step_range = edge_range t g (home_of home) k (ahead_of step) leaving_step

  over_same : (b : Bool) → overflows_any (decode t) (tasks_of r) (order_of home) ≡ b → overflows_any (decode t) (released_by (decode t) k) (order_of home) ≡ b
  over_same b e = ap (λ (ts : List ℕ). overflows_any (decode t) ts (order_of home)) (sym ls.is) ∙ e

  -- an overflow: the guard alone
  pub narrows_over : (a : List ℤ) (q : Std.Option (List ℤ)) → overflows_any (decode t) (tasks_of r) (order_of home) ≡ true → Narrows (guard_of t k) (Std.Some a) q
      → Narrows (step_bounds (decode t) (home_of home) (by_edge k (ahead_of step))) (Std.Some a) q
  narrows_over a q e p = subst (λ (l : List Bound). Narrows l (Std.Some a) q) (sym (over_bounds t g (home_of home) k (ahead_of step) leaving_step (over_same true e))) p

  -- where the guard leaves none, either way
  pub narrows_guard : (a : List ℤ) → Narrows (guard_of t k) (Std.Some a) Std.None → Narrows (step_bounds (decode t) (home_of home) (by_edge k (ahead_of step))) (Std.Some a) Std.None
  narrows_guard a p = rw (edge_bounds_lem t g (home_of home) k (ahead_of step) leaving_step) (narrows_stop (guard_of t k) _ (Std.Some a) p)

  -- none: the places too
  module _ (e : overflows_any (decode t) (tasks_of r) (order_of home) ≡ false) (ahead : List ℕ) (six : length home.tasks ≡ 6) (four : length r.tasks ≡ 4)
      (far : length step.positions ≡ 4) (as-far : length ahead ≡ 4) (f : (i : ℕ) → get_or ahead i 0 ≡ get_or step.positions i 0 - 1) where
    free : overflows_any (decode t) (released_by (decode t) k) (order_of home) ≡ false
    free = over_same false e

    tasks_many : length (tasks_of r) ≡ r.count
    tasks_many = length-take-le r.count r.tasks (omega (arith, ls.few))

    same_count : step.count ≡ r.count
    same_count =
        let a = free_many t g (home_of home) k (ahead_of step) leaving_step free in
        let b = length-map (take step.count step.positions) (λ (p : ℕ). p - 1) in
        let c = length-take-le step.count step.positions (omega (arith, w.formed.few)) in
        let d = ap length ls.is in
        omega (arith, a, b, c, d, tasks_many)

    pub same_ahead : ahead_of step ≡ take r.count ahead
    same_ahead = ahead_take step.count step.positions ahead (far ∙ sym as-far) f ∙ ap (λ (n : ℕ). take n ahead) same_count

    pub step_places : RightHome (decode t) home → PlacesIn (decode t) home r ahead
    step_places h =
        let n = length-take-le home.count home.tasks (omega (arith, h.few)) in
        let d = ap length ls.is in
        record {
          few = ls.few;
          room = omega (arith, n, d, tasks_many, free_room t g (home_of home) k (ahead_of step) leaving_step free h.order);
          here = rw (same_ahead, sym ls.is) at (free_choice t g (home_of home) k (ahead_of step) leaving_step free);
        }

    pub narrows_placed : (a q : List ℤ) (s : Std.Option (List ℤ)) → Narrows (guard_of t k) (Std.Some a) (Std.Some q) → Narrows (position_bounds (decode t) (tasks_of r) (take r.count ahead) (slots_of (decode t) (order_of home))) (Std.Some q) s
        → Narrows (step_bounds (decode t) (home_of home) (by_edge k (ahead_of step))) (Std.Some a) s
    narrows_placed a q s p u =
        subst (λ (l : List Bound). Narrows l (Std.Some a) s) (sym (free_bounds t g (home_of home) k (ahead_of step) leaving_step free))
        (narrows_then _ _ (Std.Some a) (Std.Some q) s p (rw (sym same_ahead, ls.is) at u))
