-- The release of tasks into a queue.
-- Assumes nothing.
use Rattle.std.specs.Prelude.{Bool, false, ◌||◌, List, [], ◌∷◌, ℕ}
use Rattle.meaning.specs.Lists.{elem, insert_at}
use Rattle.meaning.specs.Model.{Model}
use Rattle.meaning.specs.Machine.State.{Job}
use Rattle.meaning.specs.Machine.Place.{place_of}

-- "A release of a queued task is an overflow": task t may not be released into a queue of the tasks o
unfoldable pub overflows : Model → ℕ → List ℕ → Bool
overflows m t o = elem t o

-- one of these tasks, released one after the other, may not be
abbrev pub overflows_any : Model → List ℕ → List ℕ → Bool
overflows_any m [] o = false
overflows_any m (t ∷ ts) o = overflows m t o || overflows_any m ts (t ∷ o)

-- "(done 0, age 0)"
abbrev pub new_job : ℕ → Job
new_job t = record { task = t; done = 0; age = 0 }

-- the queue with a new job of task t at its place
abbrev pub put : Model → ℕ → List Job → List Job
put m t q = insert_at (place_of m t q) (new_job t) q

-- the tasks released one after the other
abbrev pub put_all : Model → List ℕ → List Job → List Job
put_all m [] q = q
put_all m (t ∷ ts) q = put_all m ts (put m t q)

-- the position that each of them takes: how many jobs are ahead of it as it comes in
abbrev pub positions : Model → List ℕ → List Job → List ℕ
positions m [] q = []
positions m (t ∷ ts) q = place_of m t q ∷ positions m ts (put m t q)
