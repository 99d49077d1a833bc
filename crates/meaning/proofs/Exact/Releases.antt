-- The places that released jobs take: a state's queue has them there exactly if its valuation meets the bounds of these places; and where
-- the new queue then stands in the valuation from before. For any number of releases.
-- Assumes nothing.
use mathlib.Core.Path.{◌≡◌, refl, sym, ◌∙◌, ap, ap₂, subst}
use mathlib.Core.Logic.{◌↔◌}
use mathlib.Core.Bool.{Bool, true, false, cond, true≢false}
use mathlib.Core.List.{List, [], ◌∷◌, nil≢cons, head-eq_of_cons-eq, tail-eq_of_cons-eq}
use Prim.Native.Nat.{ℕ, zero, suc}
use native.Mathlib.Omega.{arith}
use Rattle.meaning.specs.Lists.{same_list, insert_at}
use Rattle.meaning.specs.Model.{Model}
use Rattle.meaning.specs.Machine.State.{Job, order}
use Rattle.meaning.specs.Machine.Place.{beats, place, place_from, behind, place_of}
use Rattle.meaning.specs.Machine.Release.{overflows_any, new_job, put, put_all, positions}
use Rattle.meaning.specs.Zones.Steps.{place_taken}
use Rattle.meaning.specs.Inner.Bounds.{Met, only_if}
use Rattle.meaning.specs.Inner.Slots.{Slot, tasks_in, Reads}
use Rattle.meaning.specs.Inner.Tests.{Test, test_met, test_at}
use Rattle.meaning.specs.Inner.Places.{no_at, place_bounds, insert_slot, insert_slots, position_bounds, release_bounds}
use Rattle.meaning.proofs.Lists.{same_list_refl, same_list_eq}
use Rattle.meaning.proofs.Exact.Bounds.{never_met, only_if_met, met_append}
use Rattle.meaning.proofs.Exact.Tests.{Stands, true_met, false_met, beats_test}
use Rattle.meaning.proofs.Exact.Valuations.{reads_order}

-- ── the place of one new job ───────────────────────────────────────────────────────────────────

front_iff : (c : Bool) (n : ℕ) → (cond c zero (suc n) ≡ zero) ↔ (c ≡ true)
front_iff true n = (λ e. refl, λ e. refl)
front_iff false n = (λ e. absurd (omega arith), λ e. absurd (true≢false (sym e)))

later_iff : (c : Bool) (n p : ℕ) → (cond c zero (suc n) ≡ suc p) ↔ ((c ≡ false) × (n ≡ p))
later_iff true n p = (λ e. absurd (omega arith), λ e. absurd (true≢false e.0))
later_iff false n p = (λ e. (refl, omega arith), λ e. ap suc e.1)

-- f tests of a job, where it stands, what b says of it
module _ (x : ℕ → ℕ) (z : x 0 ≡ 0) (f : ℕ → Slot → Test) (b : Job → Bool) (ok : (a : ℕ) (s : Slot) (j : Job) → Stands x a s j → test_met x (f a s) ≡ b j) where
  place_met : (k p a : ℕ) (ss : List Slot) (q : List Job) → Reads x a ss q → (place_from k b q ≡ p) ↔ Met x (place_bounds f k p a ss)
  place_met zero zero a [] [] h = (λ e. tt, λ w. refl)
  place_met (suc k) zero a [] [] h = (λ e. tt, λ w. refl)
  place_met zero (suc p) a [] [] h = (λ e. absurd (omega arith), λ w. absurd (never_met x w))
  place_met (suc k) (suc p) a [] [] h = (λ e. absurd (omega arith), λ w. absurd (never_met x w))
  place_met k p a [] (j ∷ q) h = absurd h
  place_met k p a (s ∷ ss) [] h = absurd h
  place_met zero zero a (s ∷ ss) (j ∷ q) h =
      let e = front_iff (b j) (place b q) in
      let y = true_met x (f a s) in
      let o = ok a s j (record { origin = z; task = h.0; sum = h.1; age = h.2 }) in
      (λ t. y.0 (o ∙ e.0 t), λ w. e.1 (sym o ∙ y.1 w))
  place_met zero (suc p) a (s ∷ ss) (j ∷ q) h =
      let e = later_iff (b j) (place b q) p in
      let y = false_met x (f a s) in
      let o = ok a s j (record { origin = z; task = h.0; sum = h.1; age = h.2 }) in
      let i = place_met zero p s.sum ss q h.3 in
      let c = met_append x (no_at f a s) (place_bounds f zero p s.sum ss) in
      (λ t. c.1 (y.0 (o ∙ (e.0 t).0), i.0 (e.0 t).1), λ w. e.1 (sym o ∙ y.1 (c.0 w).0, i.1 (c.0 w).1))
  place_met (suc k) zero a (s ∷ ss) (j ∷ q) h = (λ e. absurd (omega arith), λ w. absurd (never_met x w))
  place_met (suc k) (suc p) a (s ∷ ss) (j ∷ q) h =
      let i = place_met k p s.sum ss q h.3 in
      (λ e. i.0 (omega arith), λ w. ap suc (i.1 w))

-- ── where a new job stands ─────────────────────────────────────────────────────────────────────

reads_insert : (x : ℕ → ℕ) (k a t : ℕ) (ss : List Slot) (q : List Job) → x 0 ≡ 0 → Reads x a ss q
    → Reads x a (insert_slot k a t ss) (insert_at k (new_job t) q)
reads_insert x zero a t ss q z h = (refl, omega arith, z, h)
reads_insert x (suc k) a t [] [] z h = (refl, omega arith, z, tt)
reads_insert x (suc k) a t [] (j ∷ q) z h = absurd h
reads_insert x (suc k) a t (s ∷ ss) [] z h = absurd h
reads_insert x (suc k) a t (s ∷ ss) (j ∷ q) z h = (h.0, h.1, h.2, reads_insert x k s.sum t ss q z h.3)

-- ── releases, one after the other ──────────────────────────────────────────────────────────────

module _ (m : Model) (x : ℕ → ℕ) (z : x 0 ≡ 0) where
  place_of_met : (t p : ℕ) (ss : List Slot) (q : List Job) → Reads x 0 ss q
      → (place_of m t q ≡ p) ↔ Met x (place_bounds (test_at m t) (behind m t (tasks_in ss)) p 0 ss)
  place_of_met t p ss q h =
      subst (λ (o : List ℕ). (place_of m t q ≡ p) ↔ Met x (place_bounds (test_at m t) (behind m t o) p 0 ss)) (reads_order x 0 ss q h)
      (place_met x z (test_at m t) (beats m t) (λ a s j w. beats_test m t a s j x w) (behind m t (order q)) p 0 ss q h)

  reads_put : (t p : ℕ) (ss : List Slot) (q : List Job) → Reads x 0 ss q → place_of m t q ≡ p → Reads x 0 (insert_slot p 0 t ss) (put m t q)
  reads_put t p ss q h e =
      subst (λ (k : ℕ). Reads x 0 (insert_slot k 0 t ss) (put m t q)) e (reads_insert x (place_of m t q) 0 t ss q z h)

  -- the released jobs take these positions
  positions_met : (ts ps : List ℕ) (ss : List Slot) (q : List Job) → Reads x 0 ss q → (positions m ts q ≡ ps) ↔ Met x (position_bounds m ts ps ss)
  positions_met [] [] ss q h = (λ e. tt, λ w. refl)
  positions_met [] (p ∷ ps) ss q h = (λ e. absurd (nil≢cons e), λ w. absurd (never_met x w))
  positions_met (t ∷ ts) [] ss q h = (λ e. absurd (nil≢cons (sym e)), λ w. absurd (never_met x w))
  positions_met (t ∷ ts) (p ∷ ps) ss q h =
      let c = met_append x (place_bounds (test_at m t) (behind m t (tasks_in ss)) p 0 ss) (position_bounds m ts ps (insert_slot p 0 t ss)) in
      let f = place_of_met t p ss q h in
      let i = positions_met ts ps (insert_slot p 0 t ss) (put m t q) in (
        λ e.
            let a : place_of m t q ≡ p = head-eq_of_cons-eq e in
            c.1 (f.0 a, (i (reads_put t p ss q h a)).0 (tail-eq_of_cons-eq e)),
        λ w.
            let a : place_of m t q ≡ p = f.1 (c.0 w).0 in
            ap₂ (λ (k : ℕ) (l : List ℕ). k ∷ l) a ((i (reads_put t p ss q h a)).1 (c.0 w).1),
      )

  -- and where they do, the queue stands in the slots with theirs put in
  pub reads_put_all : (ts ps : List ℕ) (ss : List Slot) (q : List Job) → Reads x 0 ss q → positions m ts q ≡ ps
      → Reads x 0 (insert_slots ts ps ss) (put_all m ts q)
  reads_put_all [] ps ss q h e = h
  reads_put_all (t ∷ ts) [] ss q h e = absurd (nil≢cons (sym e))
  reads_put_all (t ∷ ts) (p ∷ ps) ss q h e =
      reads_put_all ts ps (insert_slot p 0 t ss) (put m t q) (reads_put t p ss q h (head-eq_of_cons-eq e)) (tail-eq_of_cons-eq e)

-- the release takes this place exactly if the valuation meets these bounds
pub release_met : (m : Model) (x : ℕ → ℕ) (ts ps o : List ℕ) (ss : List Slot) (q : List Job) → x 0 ≡ 0 → Reads x 0 ss q → order q ≡ o
    → (same_list (place_taken m ts q) ps ≡ true) ↔ Met x (release_bounds m ts ps o ss)
release_met m x ts ps o ss q z h e =
    subst (λ (l : List ℕ). (same_list (place_taken m ts q) ps ≡ true) ↔ Met x (release_bounds m ts ps l ss)) e (go (overflows_any m ts (order q)))
  where
    go : (b : Bool) → (same_list (cond b [] (positions m ts q)) ps ≡ true) ↔ Met x (cond b (only_if (same_list [] ps) []) (position_bounds m ts ps ss))
    go true = let f = only_if_met x (same_list [] ps) [] in (λ t. f.1 (t, tt), λ w. (f.0 w).0)
    go false =
        let f = positions_met m x z ts ps ss q h in (
          λ t. f.0 (same_list_eq (positions m ts q) ps t),
          λ w. subst (λ (l : List ℕ). same_list (positions m ts q) l ≡ true) (f.1 w) (same_list_refl (positions m ts q)),
        )
