-- What the ranges of a right model say of its numbers.
-- Assumes nothing.
use mathlib.Core.Path.{◌≡◌}
use mathlib.Core.Bool.{Bool, true}
use mathlib.Core.List.{List, [], ◌∷◌}
use mathlib.Core.Option.{some}
use Prim.Native.Nat.{ℕ, zero, suc, ◌+◌, ◌-◌, ◌/◌, ◌%◌, ◌≤◌, ◌<◌}
use native.Mathlib.Omega.{arith}
use borrow.Author.Tests.{lt-ltb}
use lib.Dec.{ltb}
use lib.IntN.{ℤ}
use lib.ListN.{length, get_or, get_elem?}
use Rattle.meaning.specs.Lists.{nth1, nth1D}
use Rattle.meaning.specs.Model.{Task, Limit, Bound, Location, Edge, Model, no_task, no_location, task_at, location_at}
use Rattle.model_table.specs.Right.{RightTable}
use Rattle.meaning.specs.Text.ModelTable.{decode, edges, collect, lowered}
use Rattle.meaning.specs.Text.RightModel.{Each, RightLimit, RightBound, RightEdge, RightModel}
use Rattle.meaning.specs.Inner.Bounds.{Ranged}
use Rattle.meaning.specs.Inner.StepBounds.{Clocked, GuardRanged, RangedModel}
use Rattle.meaning.proofs.Text.Collects.{each_mem, mem_collect}
use Rattle.meaning.proofs.Text.Keyed.{each_map, each_nth}
use Rattle.model_table.specs.Parts.{limit_in, bound_in, guard_of, edge_of}
use Rattle.model_table.proofs.PartLaws.{limits_is, edge_is}
use Rattle.bounds.specs.Matrix.{Size}
use Rattle.zone_bounds.specs.Narrowed.{bound_size}

-- ---- each of a list

-- what holds of each that is collected holds of each number that is taken
collect_each : {A : Type 0} (P : A → Type 0) (n : ℕ) (p : ℕ → Bool) (f : ℕ → A) → Each P (collect n p f) → (k : ℕ) → k < n → p k ≡ true → P (f k)
collect_each P n p f h k l e = each_mem P (collect n p f) h (f k) (mem_collect n p f k l e)

each_at : {A : Type 0} (P : A → Type 0) (d : A) → P d → (xs : List A) → Each P xs → (k : ℕ) → P (get_or xs k d)
each_at P d z [] h k = z
each_at P d z (x ∷ xs) h zero = h.0
each_at P d z (x ∷ xs) h (suc k) = each_at P d z xs h.1 k

each_nth1 : {A : Type 0} (P : A → Type 0) (d : A) → P d → (xs : List A) → Each P xs → (k : ℕ) → P (nth1D xs k d)
each_nth1 P d z xs h zero = z
each_nth1 P d z xs h (suc k) = each_at P d z xs h k

-- ---- a right model's numbers

module _ (m : Model) (w : RightModel m) where
  -- no task has more than 10,000; also one that the model lacks
  abbrev Timed : Task → Type 0
  Timed x = (x.C ≤ 10000) × (x.D ≤ 10000)

  pub task_times : (n : ℕ) → ((task_at m n).C ≤ 10000) × ((task_at m n).D ≤ 10000)
  task_times n = each_nth1 Timed no_task (omega arith, omega arith) m.tasks (each_map m.tasks (λ x r. (omega (arith, r.enough, r.high), r.high)) w.tasks) n

  limits_each : (l : ℕ) → Each (RightLimit m.clocks) (location_at m l).limits
  limits_each l =
      each_nth1 (λ (x : Location). Each (RightLimit m.clocks) x.limits) no_location tt m.locations (each_map m.locations (λ x r. r.limits) w.locations) l

  -- limits and guards speak of the model's clocks
  clocked : (n : ℕ) (ls : List Limit) → Each (RightLimit n) ls → Clocked n ls
  clocked n [] h = tt
  clocked n (l ∷ ls) h = (omega (arith, h.0.low), h.0.high, clocked n ls h.1)

  ranged : (n end : ℕ) (bs : List Bound) → Each (RightBound n end) bs → Ranged (suc n) bs
  ranged n end [] h = tt
  ranged n end (b ∷ bs) h = (omega (arith, h.0.i), omega (arith, h.0.j), ranged n end bs h.1)

  guard_ranged : (es : List Edge) → Each (RightEdge m.clocks (length m.locations)) es → (k : ℕ) → GuardRanged (suc m.clocks) (get_elem? es k)
  guard_ranged [] h k = tt
  guard_ranged (e ∷ es) h zero = ranged m.clocks 10000 e.guard h.0.guard
  guard_ranged (e ∷ es) h (suc k) = guard_ranged es h.1 k

  pub right_ranged : RangedModel m
  right_ranged = record { limits = λ l. clocked m.clocks (location_at m l).limits (limits_each l); guards = guards }
    where
      guards : (k : ℕ) → GuardRanged (suc m.clocks) (nth1 m.edges k)
      guards zero = tt
      guards (suc k) = guard_ranged m.edges w.edges k

  edge_guard : (k : ℕ) (e : Edge) → nth1 m.edges k ≡ some e → Each (RightBound m.clocks 10000) e.guard
  edge_guard zero e q = absurd (let z : ◌≡◌ {A = ℕ} 0 1 = cc in omega arith)
  edge_guard (suc k) e q = (each_nth (RightEdge m.clocks (length m.locations)) m.edges k e w.edges q).guard

-- ---- the numbers of a right table

module _ (t : List ℕ) (g : RightTable t) where
  limit_small : (l x : ℕ) → x < 4 → ltb 0 (limit_in t l (1 + x)) ≡ true → limit_in t l (1 + x) - 1 ≤ 10000
  limit_small l x h e =
      (collect_each (RightLimit (decode t).clocks) 4 (λ k. ltb 0 (limit_in t l (1 + k))) (λ k. record { clock = 1 + k; most = limit_in t l (1 + k) - 1 })
      (rw (limits_is t g l) (limits_each (decode t) g.right l)) x h e).most

  -- a clock's limit, where it has one
  pub limit_most : (l k most : ℕ) → 1 ≤ k → k < 5 → limit_in t l k ≡ suc most → most ≤ 10000
  limit_most l k most a b e =
      let o : k ≡ 1 + (k - 1) = omega arith in
      let c : limit_in t l (1 + (k - 1)) ≡ suc most = rw o at e in
      omega (arith, limit_small l (k - 1) (omega arith) (lt-ltb 0 (limit_in t l (1 + (k - 1))) (omega (arith, c))), c)

  guard_right : (n : ℕ) → 1 ≤ n → n ≤ edges t → Each (RightBound (decode t).clocks 10000) (guard_of t n)
  guard_right n a b = edge_guard (decode t) g.right n (edge_of t n) (edge_is t g n a b)

  bound_right : (n x : ℕ) → 1 ≤ n → n ≤ edges t → x < 25 → ltb 0 (bound_in t n (x / 5) (x % 5)) ≡ true
      → RightBound (decode t).clocks 10000 (record { i = x / 5; j = x % 5; c = lowered (bound_in t n (x / 5) (x % 5) - 1) })
  bound_right n x a b h e =
      collect_each (RightBound (decode t).clocks 10000) 25 (λ k. ltb 0 (bound_in t n (k / 5) (k % 5)))
      (λ k. record { i = k / 5; j = k % 5; c = lowered (bound_in t n (k / 5) (k % 5) - 1) }) (guard_right n a b) x h e

  -- a bound of an edge's guard, where there is one
  pub bound_sized : (n x : ℕ) (c : ℤ) → 1 ≤ n → n ≤ edges t → x < 25 → 0 < bound_in t n (x / 5) (x % 5) → c ≡ lowered (bound_in t n (x / 5) (x % 5) - 1) → Size c bound_size
  bound_sized n x c a b h l e =
      let r = bound_right n x a b h (lt-ltb 0 (bound_in t n (x / 5) (x % 5)) l) in
      rw e (record { high = omega (arith, r.most); low = omega (arith, r.least) })
