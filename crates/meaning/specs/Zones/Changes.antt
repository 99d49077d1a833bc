-- How the variables change with a step.
-- Assumes nothing.
use mathlib.Core.List.{List, [], ◌∷◌, map, tail}
use Rattle.std.specs.Prelude.{ℕ, zero, suc, ◌-◌}

-- "On a tick all variables but 0 grow by 1."
abbrev pub grown : List ℕ → List ℕ
grown v = map suc v

-- "its C is taken from every other running sum, and ages are kept": of the variables of the jobs behind the head
abbrev pub less_c : ℕ → List ℕ → List ℕ
less_c c [] = []
less_c c (x ∷ []) = (x - c) ∷ []
less_c c (x ∷ y ∷ v) = (x - c) ∷ y ∷ less_c c v

-- "When the head finishes": of the variables of a queue, without the head's two
abbrev pub without_head : ℕ → List ℕ → List ℕ
without_head c v = less_c c (tail (tail v))

-- "A new job gets the running sum of the job just ahead, or 0 as head, and age 0": behind k jobs of a queue whose variables are v;
-- a is the running sum just ahead of them
abbrev pub with_new : ℕ → ℕ → List ℕ → List ℕ
with_new zero a v = a ∷ 0 ∷ v
with_new (suc k) a [] = a ∷ 0 ∷ []
with_new (suc k) a (x ∷ []) = a ∷ 0 ∷ x ∷ []
with_new (suc k) a (x ∷ y ∷ v) = x ∷ y ∷ with_new k x v
