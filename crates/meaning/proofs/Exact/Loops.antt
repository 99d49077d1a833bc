-- The lists of bounds as a loop over the queue makes them: from the head on, one position after the other.
-- Assumes nothing.
use mathlib.Core.Path.{◌≡◌, refl, sym, ◌∙◌, ap, ap₂}
use mathlib.Core.List.{List, [], ◌∷◌, ◌++◌, append_assoc, append-nil}
use Prim.Native.Nat.{ℕ, zero, suc, ◌+◌, ◌≤◌, ◌<◌}
use native.Mathlib.Omega.{arith}
use lib.ListN.{length, get_or, take, drop}
use lib.Seq.{take-suc, take_all}
use Rattle.meaning.specs.Model.{Bound, Model}
use Rattle.meaning.specs.Inner.Slots.{Slot, slot, slots, slot_at, sum_ahead, last_sum, slots_flat, proper_at, proper_from}
use Rattle.meaning.specs.Inner.Tests.{Test}
use Rattle.meaning.specs.Inner.Places.{no_at, yes_at, place_bounds}
use Rattle.meaning.proofs.Exact.Valuations.{length_slots}

flat_snoc : (g : ℕ → Slot → List Bound) (a : ℕ) (ss : List Slot) (s : Slot) → slots_flat g a (ss ++ (s ∷ [])) ≡ slots_flat g a ss ++ g (last_sum a ss) s
flat_snoc g a [] s = append-nil (g a s)
flat_snoc g a (u ∷ ss) s =
    ap (λ (l : List Bound). g a u ++ l) (flat_snoc g u.sum ss s) ∙ sym (append_assoc (g a u) (slots_flat g u.sum ss) (g (last_sum u.sum ss) s))

pub get_d_slots : (v : ℕ) (o : List ℕ) (k : ℕ) (s : Slot) → k < length o → get_or (slots v o) k s ≡ slot_at v o k
get_d_slots v [] k s h = absurd (omega arith)
get_d_slots v (t ∷ o) zero s h = let e : v ≡ v + (0 + 0) = omega arith in ap (λ (u : ℕ). slot t u (suc u)) e
get_d_slots v (t ∷ o) (suc k) s h =
    let e : suc (suc v) + (k + k) ≡ v + (suc k + suc k) = omega arith in
    get_d_slots (suc (suc v)) o k s (omega arith) ∙ ap (λ (u : ℕ). slot (get_or o k 0) u (suc u)) e

pub last_take : (a v : ℕ) (o : List ℕ) (k : ℕ) → k ≤ length o → last_sum a (take k (slots v o)) ≡ sum_ahead a v k
last_take a v o zero h = refl
last_take a v [] (suc k) h = absurd (omega arith)
last_take a v (t ∷ o) (suc zero) h = omega (arith, last_take v (suc (suc v)) o zero (omega arith))
last_take a v (t ∷ o) (suc (suc k)) h = omega (arith, last_take v (suc (suc v)) o (suc k) (omega arith))

-- one turn of the loop: position k is done
pub flat_step : (g : ℕ → Slot → List Bound) (a v : ℕ) (o : List ℕ) (k : ℕ) → k < length o
    → slots_flat g a (take (suc k) (slots v o)) ≡ slots_flat g a (take k (slots v o)) ++ g (sum_ahead a v k) (slot_at v o k)
flat_step g a v o k h =
    ap (slots_flat g a) (take-suc (slots v o) k (slot 0 0 0) (omega (arith, length_slots v o))) ∙ flat_snoc g a (take k (slots v o)) (get_or (slots v o) k (slot 0 0 0))
    ∙ ap₂ (λ (u : ℕ) (s : Slot). slots_flat g a (take k (slots v o)) ++ g u s) (last_take a v o k (omega arith)) (get_d_slots v o k (slot 0 0 0) h)

pub flat_done : (g : ℕ → Slot → List Bound) (a v : ℕ) (o : List ℕ) → slots_flat g a (take (length o) (slots v o)) ≡ slots_flat g a (slots v o)
flat_done g a v o = ap (slots_flat g a) (take_all (length o) (slots v o) (omega (arith, length_slots v o)))

-- ── properness ─────────────────────────────────────────────────────────────────────────────────

pub proper_flat : (m : Model) (a : ℕ) (ss : List Slot) → proper_from m a ss ≡ slots_flat (proper_at m) a ss
proper_flat m a [] = refl
proper_flat m a (s ∷ ss) = ap (λ (l : List Bound). proper_at m a s ++ l) (proper_flat m s.sum ss)

-- ── the place of a new job ─────────────────────────────────────────────────────────────────────

pub place_flat : (f : ℕ → Slot → Test) (p a : ℕ) (ss : List Slot) → p ≤ length ss
    → place_bounds f 0 p a ss ≡ slots_flat (no_at f) a (take p ss) ++ yes_at f (last_sum a (take p ss)) (drop p ss)
place_flat f zero a ss h = refl
place_flat f (suc p) a [] h = absurd (omega arith)
place_flat f (suc p) a (s ∷ ss) h =
    ap (λ (l : List Bound). no_at f a s ++ l) (place_flat f p s.sum ss (omega arith))
    ∙ sym (append_assoc (no_at f a s) (slots_flat (no_at f) s.sum (take p ss)) (yes_at f (last_sum s.sum (take p ss)) (drop p ss)))

-- passing over the first k is a place in what is behind them
pub place_behind : (f : ℕ → Slot → Test) (k p a : ℕ) (ss : List Slot) → k ≤ length ss
    → place_bounds f k (k + p) a ss ≡ place_bounds f 0 p (last_sum a (take k ss)) (drop k ss)
place_behind f zero p a ss h = let e : 0 + p ≡ p = omega arith in ap (λ (q : ℕ). place_bounds f 0 q a ss) e
place_behind f (suc k) p a [] h = absurd (omega arith)
place_behind f (suc k) p a (s ∷ ss) h =
    let e : suc k + p ≡ suc (k + p) = omega arith in
    ap (λ (q : ℕ). place_bounds f (suc k) q a (s ∷ ss)) e ∙ place_behind f k p s.sum ss (omega arith)
