-- The bounds of the places that released jobs take, and where they then stand. For any number of releases.
-- Assumes nothing.
use Rattle.std.specs.Prelude.{cond, List, [], ◌∷◌, ◌++◌, ℕ, zero, suc}
use Rattle.meaning.specs.Lists.{same_list}
use Rattle.meaning.specs.Model.{Bound, Model}
use Rattle.meaning.specs.Machine.Place.{behind}
use Rattle.meaning.specs.Machine.Release.{overflows_any}
use Rattle.meaning.specs.Inner.Bounds.{impossible, only_if}
use Rattle.meaning.specs.Inner.Slots.{Slot, slot, tasks_in}
use Rattle.meaning.specs.Inner.Tests.{Test, when_true, when_false, test_at}

-- the job in slot s stays ahead, behind the running sum in variable a: f tests whether the new job beats it
abbrev pub no_at : (ℕ → Slot → Test) → ℕ → Slot → List Bound
no_at f a s = when_false (f a s)

-- the first of the slots is beaten, if there is one
abbrev pub yes_at : (ℕ → Slot → Test) → ℕ → List Slot → List Bound
yes_at f a [] = []
yes_at f a (s ∷ ss) = when_true (f a s)

-- the new job passes over the first k, then beats none before position p, and the one at p
abbrev pub place_bounds : (ℕ → Slot → Test) → ℕ → ℕ → ℕ → List Slot → List Bound
place_bounds f zero zero a ss = yes_at f a ss
place_bounds f zero (suc p) a [] = impossible ∷ []
place_bounds f zero (suc p) a (s ∷ ss) = no_at f a s ++ place_bounds f zero p s.sum ss
place_bounds f (suc k) zero a [] = []
place_bounds f (suc k) zero a (s ∷ ss) = impossible ∷ []
place_bounds f (suc k) (suc p) a [] = impossible ∷ []
place_bounds f (suc k) (suc p) a (s ∷ ss) = place_bounds f k p s.sum ss

-- a new job has the running sum of the job just ahead, in variable a, and age 0, as variable 0 has
abbrev pub insert_slot : ℕ → ℕ → ℕ → List Slot → List Slot
insert_slot zero a t ss = slot t a 0 ∷ ss
insert_slot (suc k) a t [] = slot t a 0 ∷ []
insert_slot (suc k) a t (s ∷ ss) = s ∷ insert_slot k s.sum t ss

-- releases, one after the other
abbrev pub insert_slots : List ℕ → List ℕ → List Slot → List Slot
insert_slots [] ps ss = ss
insert_slots (t ∷ ts) [] ss = ss
insert_slots (t ∷ ts) (p ∷ ps) ss = insert_slots ts ps (insert_slot p 0 t ss)

-- jobs of the tasks ts take the positions ps
abbrev pub position_bounds : Model → List ℕ → List ℕ → List Slot → List Bound
position_bounds m [] [] ss = []
position_bounds m [] (p ∷ ps) ss = impossible ∷ []
position_bounds m (t ∷ ts) [] ss = impossible ∷ []
position_bounds m (t ∷ ts) (p ∷ ps) ss =
    place_bounds (test_at m t) (behind m t (tasks_in ss)) p 0 ss ++ position_bounds m ts ps (insert_slot p 0 t ss)

-- an overflow has no position
abbrev pub release_bounds : Model → List ℕ → List ℕ → List ℕ → List Slot → List Bound
release_bounds m ts ps o ss = cond (overflows_any m ts o) (only_if (same_list [] ps) []) (position_bounds m ts ps ss)
