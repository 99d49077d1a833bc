-- The choices of positions, by the position of the first new job: how many there are, which stands where, and what they have in common.
-- Assumes nothing.
use Prim.Native.Nat.{ℕ, zero, suc, ◌+◌, ◌-◌, ◌≤◌}
use mathlib.Core.Path.{◌≡◌, refl, sym, ◌∙◌, ap, subst}
use mathlib.Core.Logic.{◌↔◌}
use mathlib.Core.Bool.{true, false}
use mathlib.Core.List.Memᴰ
use mathlib.Core.List.{List, [], ◌∷◌, ◌++◌, append_assoc, map, Memᴰ}
use mathlib.Core.Option.{some}
use native.Mathlib.Omega.{arith}
use lib.ListN.{length, get_elem?, length-append, length-map}
use Rattle.meaning.specs.Lists.{insert_at, up_to, flat}
use Rattle.meaning.specs.Model.{Model}
use Rattle.meaning.specs.Machine.Place.{behind}
use Rattle.meaning.specs.Machine.Release.{overflows_any}
use Rattle.meaning.specs.Zones.Steps.{choices, places}
use Rattle.meaning.proofs.Lists.{mem_map, mem_map_inv, mem_flat, mem_up_to, append_back, append_front, map_at}
use Rattle.meaning.proofs.Distinct.{mem_flat_inv, up_to_from, up_to_upto}
use Rattle.meaning.proofs.Hooks.{behind_le}

-- the choices with p jobs ahead of the first new one
abbrev pub choices_at : Model → ℕ → List ℕ → List ℕ → ℕ → List (List ℕ)
choices_at m t ts o p = map (λ (ps : List ℕ). p ∷ ps) (choices m ts (insert_at p t o))

-- those of n positions, from p on
abbrev pub choices_from : Model → ℕ → List ℕ → List ℕ → ℕ → ℕ → List (List ℕ)
choices_from m t ts o p zero = []
choices_from m t ts o p (suc n) = choices_at m t ts o p ++ choices_from m t ts o (suc p) n

-- how many stand before those with p jobs ahead
abbrev pub choices_before : Model → ℕ → List ℕ → List ℕ → ℕ → ℕ
choices_before m t ts o p = length (choices_from m t ts o (behind m t o) (p - behind m t o))

module _ (m : Model) (t : ℕ) (ts o : List ℕ) where
  -- ---- position by position

  flat_from : (n p : ℕ) → flat (choices_at m t ts o) (up_to p n) ≡ choices_from m t ts o p (suc n)
  flat_from zero p = refl
  flat_from (suc n) p = ap (λ (l : List (List ℕ)). choices_at m t ts o p ++ l) (flat_from n (suc p))

  -- all choices: from the first allowed position to the last
  pub choices_from_lem : choices m (t ∷ ts) o ≡ choices_from m t ts o (behind m t o) (suc (length o - behind m t o))
  choices_from_lem = flat_from (length o - behind m t o) (behind m t o)

  -- the first a positions, and the others
  pub from_split : (a b n p q : ℕ) → n ≡ a + b → q ≡ p + a → choices_from m t ts o p n ≡ choices_from m t ts o p a ++ choices_from m t ts o q b
  from_split zero b n p q e h = let x : n ≡ b = omega arith in let y : q ≡ p = omega arith in rw (x, y) refl
  from_split (suc a) b zero p q e h = absurd (omega arith)
  from_split (suc a) b (suc n) p q e h =
      ap (λ (l : List (List ℕ)). choices_at m t ts o p ++ l) (from_split a b n (suc p) q (omega arith) (omega arith))
      ∙ sym (append_assoc (choices_at m t ts o p) (choices_from m t ts o (suc p) a) (choices_from m t ts o q b))

  count_at : (p : ℕ) → length (choices_at m t ts o p) ≡ length (choices m ts (insert_at p t o))
  count_at p = length-map (choices m ts (insert_at p t o)) (λ (ps : List ℕ). p ∷ ps)

  -- one position more
  pub count_more : (p n : ℕ) → length (choices_from m t ts o p (suc n)) ≡ length (choices m ts (insert_at p t o)) + length (choices_from m t ts o (suc p) n)
  count_more p n = length-append (choices_at m t ts o p) (choices_from m t ts o (suc p) n) ∙ ap (λ (k : ℕ). k + length (choices_from m t ts o (suc p) n)) (count_at p)

  -- ---- a loop over the positions

  -- before the first position there are none
  pub before_first : choices_before m t ts o (behind m t o) ≡ 0
  before_first = let z : behind m t o - behind m t o ≡ 0 = omega arith in ap (λ (n : ℕ). length (choices_from m t ts o (behind m t o) n)) z

  -- one turn: those with p ahead
  pub before_turn : (p : ℕ) → behind m t o ≤ p → choices_before m t ts o (p + 1) ≡ choices_before m t ts o p + length (choices m ts (insert_at p t o))
  before_turn p h =
      let s = from_split (p - behind m t o) 1 (p + 1 - behind m t o) (behind m t o) p (omega arith) (omega arith) in
      let n = ap length s ∙ length-append (choices_from m t ts o (behind m t o) (p - behind m t o)) (choices_from m t ts o p 1) in
      omega (arith, count_more p 0)

  -- after the last position: all
  pub before_all : choices_before m t ts o (length o + 1) ≡ length (choices m (t ∷ ts) o)
  before_all =
      let z : length o + 1 - behind m t o ≡ suc (length o - behind m t o) = omega (arith, behind_le m t o) in
      ap (λ (n : ℕ). length (choices_from m t ts o (behind m t o) n)) z ∙ sym (ap length choices_from_lem)

  -- the choices from position p on come behind those before it
  pub choices_split : (p : ℕ) → behind m t o ≤ p → p ≤ length o
      → choices m (t ∷ ts) o ≡ choices_from m t ts o (behind m t o) (p - behind m t o) ++ choices_from m t ts o p (suc (length o - p))
  choices_split p h g =
      choices_from_lem
      ∙ from_split (p - behind m t o) (suc (length o - p)) (suc (length o - behind m t o)) (behind m t o) p (omega arith) (omega arith)

  -- choice r of those with p ahead, at its place among all
  pub choice_at_lem : (p r : ℕ) (ps : List ℕ) → behind m t o ≤ p → p ≤ length o → get_elem? (choices m ts (insert_at p t o)) r ≡ some ps
      → get_elem? (choices m (t ∷ ts) o) (choices_before m t ts o p + r) ≡ some (p ∷ ps)
  choice_at_lem p r ps h g e =
      ap (λ (l : List (List ℕ)). get_elem? l (choices_before m t ts o p + r)) (choices_split p h g)
      ∙ append_back (choices_from m t ts o (behind m t o) (p - behind m t o)) (choices_from m t ts o p (suc (length o - p))) r
      ∙ append_front (choices_at m t ts o p) (choices_from m t ts o (suc p) (length o - p)) r (p ∷ ps)
      (map_at (λ (qs : List ℕ). p ∷ qs) (choices m ts (insert_at p t o)) r ps e)

  -- ---- which there are

  -- p and the positions behind it: p is allowed, and the others are a choice in the queue with the first new job
  pub choice_in : (p : ℕ) (ps : List ℕ) → Memᴰ (p ∷ ps) (choices m (t ∷ ts) o)
      ↔ ((behind m t o ≤ p) × (p ≤ length o) × Memᴰ ps (choices m ts (insert_at p t o)))
  choice_in p ps = (there, back)
    where
      there : Memᴰ (p ∷ ps) (choices m (t ∷ ts) o) → (behind m t o ≤ p) × (p ≤ length o) × Memᴰ ps (choices m ts (insert_at p t o))
      there h =
          let r = mem_flat_inv (choices_at m t ts o) (p ∷ ps) (up_to (behind m t o) (length o - behind m t o)) h in
          let q = mem_map_inv (λ (qs : List ℕ). r.0 ∷ qs) (choices m ts (insert_at r.0 t o)) r.2 in
          let e : ◌≡◌ {A = List ℕ} (p ∷ ps) (r.0 ∷ q.0) = q.2 in
          let x : r.0 ≡ p = cc in
          let y : q.0 ≡ ps = cc in
          let a = up_to_from (length o - behind m t o) (behind m t o) r.0 r.1 in
          let b = up_to_upto (length o - behind m t o) (behind m t o) r.0 r.1 in (
            omega arith,
            omega (arith, behind_le m t o),
            subst (λ (k : ℕ). Memᴰ ps (choices m ts (insert_at k t o))) x (subst (λ (qs : List ℕ). Memᴰ qs (choices m ts (insert_at r.0 t o))) y q.1),
          )

      back : (behind m t o ≤ p) × (p ≤ length o) × Memᴰ ps (choices m ts (insert_at p t o)) → Memᴰ (p ∷ ps) (choices m (t ∷ ts) o)
      back h =
          mem_flat (choices_at m t ts o) (mem_up_to (length o - behind m t o) (behind m t o) p h.0 (omega arith)) (mem_map (λ (qs : List ℕ). p ∷ qs) h.2)

-- without a release the one choice has no position
pub choice_none : (m : Model) (o ps : List ℕ) → Memᴰ ps (choices m [] o) ↔ (ps ≡ [])
choice_none m o ps = (λ h. Memᴰ.eq_of_singleton h, λ e. Memᴰ.head e)

-- a choice has a position for each task
pub choices_length : (m : Model) (ts o ps : List ℕ) → Memᴰ ps (choices m ts o) → length ps ≡ length ts
choices_length m [] o ps h = ap length ((choice_none m o ps).0 h)
choices_length m (t ∷ ts) o ps h =
    let r = mem_flat_inv (choices_at m t ts o) ps (up_to (behind m t o) (length o - behind m t o)) h in
    let q = mem_map_inv (λ (qs : List ℕ). r.0 ∷ qs) (choices m ts (insert_at r.0 t o)) r.2 in
    ap length q.2 ∙ ap suc (choices_length m ts (insert_at r.0 t o) q.0 q.1)

-- there is one
pub choices_some : (m : Model) (ts o : List ℕ) → 1 ≤ length (choices m ts o)
choices_some m [] o = omega arith
choices_some m (t ∷ ts) o =
    let n = ap length (choices_from_lem m t ts o) ∙ count_more m t ts o (behind m t o) (length o - behind m t o) in
    omega (arith, choices_some m ts (insert_at (behind m t o) t o))

-- ---- the places

-- a release overflows: one place
pub places_over : (m : Model) (ts o : List ℕ) → overflows_any m ts o ≡ true → places m ts o ≡ [] ∷ []
places_over m ts o e = rw e

-- none does: a place for each choice
pub places_free : (m : Model) (ts o : List ℕ) → overflows_any m ts o ≡ false → places m ts o ≡ choices m ts o
places_free m ts o e = rw e

-- ---- one release

from_one : (m : Model) (t : ℕ) (o : List ℕ) (n p : ℕ) → length (choices_from m t [] o p n) ≡ n
from_one m t o zero p = refl
from_one m t o (suc n) p = ap suc (from_one m t o n (suc p))

-- as many choices as allowed positions
pub choices_one : (m : Model) (t : ℕ) (o : List ℕ) → length (choices m (t ∷ []) o) ≡ suc (length o - behind m t o)
choices_one m t o = ap length (choices_from_lem m t [] o) ∙ from_one m t o (suc (length o - behind m t o)) (behind m t o)

-- and as many before position p as are allowed before it
pub before_one : (m : Model) (t : ℕ) (o : List ℕ) (p : ℕ) → choices_before m t [] o p ≡ p - behind m t o
before_one m t o p = from_one m t o (p - behind m t o) (behind m t o)
