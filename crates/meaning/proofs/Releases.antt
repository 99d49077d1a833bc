-- What comes of a list of releases: how many places they have, and the queue after them.
-- Of the shut definitions it opens what an edge releases, and only to count its places.
-- Assumes nothing.
use Prim.Native.Nat.{ℕ, zero, suc, ◌+◌, ◌≤◌}
use mathlib.Core.Path.{◌≡◌, ◌∙◌}
use mathlib.Core.Bool.{Bool, true, false, cond}
use mathlib.Core.List.{List, [], ◌∷◌, Memᴰ}
use native.Mathlib.Omega.{arith}
use lib.Dec.{eqb}
use lib.ListN.{length}
use Rattle.meaning.specs.Lists.{insert_at}
use Rattle.meaning.specs.Model.{Edge, Model, location_at, released}
use Rattle.meaning.specs.Machine.Release.{overflows, overflows_any}
use Rattle.meaning.specs.Zones.Proper.{fits}
use Rattle.meaning.specs.Zones.Reached.{insert_all}
use Rattle.meaning.specs.Zones.Steps.{choices, places}
use Rattle.meaning.specs.Text.Ranges.{queue_most, places_most}
use Rattle.meaning.specs.Text.RightModel.{Each}
use Rattle.meaning.proofs.Tests.{or_left, or_right}
use Rattle.meaning.proofs.Lists.{length_insert_at}
use Rattle.meaning.proofs.Hooks.{OfModel, released_is}
use Rattle.meaning.proofs.Machine.Proper.{fits_insert_at, overflows_any_insert_at}
use Rattle.meaning.proofs.Zones.Choices.{choices_one, choices_length}

-- ---- how many places

one_few : (m : Model) (t : ℕ) (o : List ℕ) → length (places m (t ∷ []) o) ≤ suc (length o)
one_few m t o = go (overflows_any m (t ∷ []) o)
  where
    go : (b : Bool) → length (cond b ([] ∷ []) (choices m (t ∷ []) o)) ≤ suc (length o)
    go true = omega arith
    go false = omega (arith, choices_one m t o)

-- an edge has at most as many places as a queue has positions, and one more
pub released_places : (m : Model) (e : Edge) (o : List ℕ) → length o ≤ queue_most → length (places m (released m e) o) ≤ places_most
released_places m e o h = rw (released_is m e) (go (eqb (location_at m e.to).task 0))
  where
    go : (b : Bool) → length (places m (cond b [] ((location_at m e.to).task ∷ [])) o) ≤ places_most
    go true = omega arith
    go false = omega (arith, one_few m (location_at m e.to).task o)

-- ---- the queue after them

-- it has one task more for each
pub length_insert_all : (ts ps o : List ℕ) → length ps ≡ length ts → length (insert_all ts ps o) ≡ length o + length ts
length_insert_all [] ps o e = omega arith
length_insert_all (t ∷ ts) [] o e = absurd (omega arith)
length_insert_all (t ∷ ts) (p ∷ ps) o e = let n = length_insert_all ts ps (insert_at p t o) (omega arith) in omega (arith, length_insert_at p t o)

-- it fits if none of them overflows
pub fits_insert_all : (m : Model) (ts ps o : List ℕ) → fits m o ≡ true → overflows_any m ts o ≡ false → length ps ≡ length ts
    → fits m (insert_all ts ps o) ≡ true
fits_insert_all m [] ps o fit free e = fit
fits_insert_all m (t ∷ ts) [] o fit free e = fit
fits_insert_all m (t ∷ ts) (p ∷ ps) o fit free e =
    fits_insert_all m ts ps (insert_at p t o) (fits_insert_at m p t o fit (or_left (overflows m t o) (overflows_any m ts (t ∷ o)) free))
    (overflows_any_insert_at m ts p t o ∙ or_right (overflows m t o) (overflows_any m ts (t ∷ o)) free) (omega arith)

each_insert_at : (P : ℕ → Type 0) (k t : ℕ) (o : List ℕ) → P t → Each P o → Each P (insert_at k t o)
each_insert_at P zero t o h os = (h, os)
each_insert_at P (suc k) t [] h os = (h, tt)
each_insert_at P (suc k) t (x ∷ o) h os = (os.0, each_insert_at P k t o h os.1)

-- its tasks are of the model if theirs are
pub tasks_insert_all : (m : Model) (ts ps o : List ℕ) → OfModel m ts → OfModel m o → OfModel m (insert_all ts ps o)
tasks_insert_all m [] ps o rs os = os
tasks_insert_all m (t ∷ ts) [] o rs os = os
tasks_insert_all m (t ∷ ts) (p ∷ ps) o rs os =
    tasks_insert_all m ts ps (insert_at p t o) rs.1 (each_insert_at (λ (u : ℕ). (1 ≤ u) × (u ≤ length m.tasks)) p t o rs.0 os)

-- every choice of positions gives a queue that fits
pub choice_fits : (m : Model) (ts o ps : List ℕ) → fits m o ≡ true → overflows_any m ts o ≡ false → Memᴰ ps (choices m ts o)
    → fits m (insert_all ts ps o) ≡ true
choice_fits m ts o ps fit free h = fits_insert_all m ts ps o fit free (choices_length m ts o ps h)
