-- The place of a new job: in front of the first that it beats, and no other; and every release takes a place of the list.
-- Assumes nothing.
use mathlib.Core.Path.{◌≡◌, refl, sym, ◌∙◌, ap}
use mathlib.Core.Bool.{Bool, true, false, cond, true≢false}
use mathlib.Core.List.{List, [], ◌∷◌, map, Memᴰ}
use mathlib.Core.Option.{some}
use Prim.Native.Nat.{ℕ, zero, suc, ◌-◌, ◌≤◌, ◌<◌}
use native.Mathlib.Omega.{arith}
use native.Mathlib.Decide.{dec_lt}
use lib.ListN.{length, get_or, get_elem?, length-map}
use Rattle.meaning.specs.Lists.{insert_at}
use Rattle.meaning.specs.Model.{Model}
use Rattle.meaning.specs.Machine.State.{Job, order}
use Rattle.meaning.specs.Machine.Place.{place, place_from, behind, beats, place_of}
use Rattle.meaning.specs.Machine.Release.{overflows_any, new_job, put, positions}
use Rattle.meaning.specs.Zones.Steps.{choices, places, place_taken}
use Rattle.meaning.proofs.Lists.{mem_map, mem_flat, mem_up_to, map_insert_at}
use Rattle.meaning.proofs.Hooks.{behind_le}

module _ {A : Type 0} where
  pub place_le : (b : A → Bool) (q : List A) → place b q ≤ length q
  place_le b [] = omega arith
  place_le b (j ∷ js) = go (b j) (place_le b js)
    where
      go : (x : Bool) → place b js ≤ length js → cond x zero (suc (place b js)) ≤ suc (length js)
      go true h = omega arith
      go false h = omega arith

  pub place_from_high : (k : ℕ) (b : A → Bool) (q : List A) → place_from k b q ≤ length q
  place_from_high zero b q = place_le b q
  place_from_high (suc k) b [] = omega arith
  place_from_high (suc k) b (j ∷ js) = let h = place_from_high k b js in omega arith

  pub place_from_low : (k : ℕ) (b : A → Bool) (q : List A) → k ≤ length q → k ≤ place_from k b q
  place_from_low zero b q h = omega arith
  place_from_low (suc k) b [] h = omega arith
  place_from_low (suc k) b (j ∷ js) h = let g = place_from_low k b js (omega arith) in omega arith

  -- where the test picks none of those passed over, it comes to the same as to pass over none
  pub place_from_place : (k : ℕ) (b : A → Bool) (q : List A) → ((i : ℕ) → i < k → (a : A) → get_elem? q i ≡ some a → b a ≡ false) → place_from k b q ≡ place b q
  place_from_place zero b q h = refl
  place_from_place (suc k) b [] h = refl
  place_from_place (suc k) b (j ∷ js) h =
      ap suc (place_from_place k b js (λ i g a e. h (suc i) (omega arith) a e)) ∙ sym (ap (λ (x : Bool). cond x zero (suc (place b js))) (h 0 (omega arith) j refl))

  -- p is the first place from k on: it beats none of those from k on that stay ahead, and it beats the next, or is last
  pub record FirstFit (d : A) (k : ℕ) (b : A → Bool) (q : List A) (p : ℕ) : Type 0 where
    pub from : k ≤ p
    pub within : p ≤ length q
    pub ahead : (i : ℕ) → k ≤ i → i < p → b (get_or q i d) ≡ false
    pub at : p < length q → b (get_or q p d) ≡ true

  pub place_fits : (d : A) (b : A → Bool) (q : List A) → FirstFit d 0 b q (place b q)
  place_fits d b [] = record { from = omega arith; within = omega arith; ahead = λ i h g. absurd (omega arith); at = λ h. absurd (omega arith) }
  place_fits d b (j ∷ js) = go (b j) refl (place_fits d b js)
    where
      go : (x : Bool) → b j ≡ x → FirstFit d 0 b js (place b js) → FirstFit d 0 b (j ∷ js) (cond x zero (suc (place b js)))
      go true e r = record { from = omega arith; within = omega arith; ahead = λ i h g. absurd (omega arith); at = λ h. e }
      go false e r = record { from = omega arith; within = omega arith; ahead = ah; at = λ h. r.at (omega arith) }
        where
          ah : (i : ℕ) → 0 ≤ i → i < suc (place b js) → b (get_or (j ∷ js) i d) ≡ false
          ah zero h g = e
          ah (suc i) h g = r.ahead i (omega arith) (omega arith)

  -- the place is a first fit
  pub place_from_fits : (d : A) (k : ℕ) (b : A → Bool) (q : List A) → k ≤ length q → FirstFit d k b q (place_from k b q)
  place_from_fits d zero b q h = place_fits d b q
  place_from_fits d (suc k) b [] h = absurd (omega arith)
  place_from_fits d (suc k) b (j ∷ js) h = go (place_from_fits d k b js (omega arith))
    where
      go : FirstFit d k b js (place_from k b js) → FirstFit d (suc k) b (j ∷ js) (suc (place_from k b js))
      go r = record { from = omega arith; within = omega arith; ahead = ah; at = λ g. r.at (omega arith) }
        where
          ah : (i : ℕ) → suc k ≤ i → i < suc (place_from k b js) → b (get_or (j ∷ js) i d) ≡ false
          ah zero f g = absurd (omega arith)
          ah (suc i) f g = r.ahead i (omega arith) (omega arith)

  -- and there is no other
  pub fits_unique : (d : A) (k : ℕ) (b : A → Bool) (q : List A) (p p' : ℕ) → FirstFit d k b q p → FirstFit d k b q p' → p ≡ p'
  fits_unique d k b q p p' r r' = go (dec_lt p p') (dec_lt p' p)
    where
      clash : (x y : ℕ) → FirstFit d k b q x → FirstFit d k b q y → x < y → ⊥
      clash x y f g h = true≢false (sym (f.at (omega (arith, g.within))) ∙ g.ahead x f.from h)

      go : Dec (p < p') → Dec (p' < p) → p ≡ p'
      go (yes h) w = absurd (clash p p' r r' h)
      go (no h) (yes g) = absurd (clash p' p r' r g)
      go (no h) (no g) = omega arith

-- the place of a new job of task t is the first, from the first allowed one on, in front of a job that it beats, else last
pub place_is : (m : Model) (t : ℕ) (d : Job) (q : List Job) → FirstFit d (behind m t (order q)) (beats m t) q (place_of m t q)
place_is m t d q =
    place_from_fits d (behind m t (order q)) (beats m t) q (rw (← length-map q (λ (j : Job). j.task)) (behind_le m t (order q)))

pub place_of_high : (m : Model) (t : ℕ) (q : List Job) → place_of m t q ≤ length q
place_of_high m t q = place_from_high (behind m t (order q)) (beats m t) q

pub place_of_low : (m : Model) (t : ℕ) (q : List Job) → behind m t (order q) ≤ place_of m t q
place_of_low m t q =
    place_from_low (behind m t (order q)) (beats m t) q
    (rw (← length-map q (λ (j : Job). j.task)) (behind_le m t (order q)))

pub order_put : (m : Model) (t : ℕ) (q : List Job) → order (put m t q) ≡ insert_at (place_of m t q) t (order q)
order_put m t q = map_insert_at (λ (j : Job). j.task) (place_of m t q) (new_job t) q

-- every release takes one of its places
pub positions_listed : (m : Model) (ts : List ℕ) (q : List Job) → Memᴰ (positions m ts q) (choices m ts (order q))
positions_listed m [] q = Memᴰ.head refl
positions_listed m (t ∷ ts) q =
    mem_flat (λ (p : ℕ). map (λ (ps : List ℕ). p ∷ ps) (choices m ts (insert_at p t (order q))))
    (mem_up_to (length (order q) - behind m t (order q)) (behind m t (order q)) (place_of m t q) (place_of_low m t q) (omega (arith, place_of_high m t q, behind_le m t (order q), length-map q (λ (j : Job). j.task))))
    (mem_map (λ (ps : List ℕ). place_of m t q ∷ ps) (rw (order_put m t q) at (positions_listed m ts (put m t q))))

pub place_listed : (m : Model) (ts : List ℕ) (q : List Job) → Memᴰ (place_taken m ts q) (places m ts (order q))
place_listed m ts q = go (overflows_any m ts (order q))
  where
    go : (x : Bool) → Memᴰ (cond x [] (positions m ts q)) (cond x ([] ∷ []) (choices m ts (order q)))
    go true = Memᴰ.head refl
    go false = positions_listed m ts q
