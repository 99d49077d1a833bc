-- Laws of the cells of a task, a location and an edge by their numbers: where they stand, and that a number that names nothing reads 0.
-- Assumes nothing.
use Prim.Native.Nat.{ℕ, zero, suc, ◌+◌, ◌-◌, ◌*◌, ◌≤◌, ◌<◌}
use mathlib.Core.Path.{◌≡◌, refl}
use mathlib.Core.Bool.{false}
use mathlib.Core.List.{List}
use native.Mathlib.Omega.{arith}
use lib.Dec.{ltb}
use lib.ListN.{get_or}
use borrow.Author.Tests.{lt-ltb, le-ltb}
use Rattle.model_table.specs.Parts.{of_task, of_location, of_edge, limit_in, bound_in, reset_in}

module _ (t : List ℕ) where
  pub task_zero : (n r : ℕ) → n ≡ 0 → of_task t n r ≡ 0
  unfolding of_task
  task_zero zero r e = refl
  task_zero (suc k) r e = absurd (omega arith)

  pub task_out : (n r : ℕ) → 6 < n → of_task t n r ≡ 0
  unfolding of_task
  task_out zero r h = refl
  task_out (suc k) r h = rw (le-ltb k 6 (omega arith))

  pub task_in : (n r : ℕ) → 1 ≤ n → n ≤ 6 → of_task t n r ≡ get_or t (2 + 3 * (n - 1) + r) 0
  unfolding of_task
  task_in zero r a b = absurd (omega arith)
  task_in (suc k) r a b = let z : suc k - 1 ≡ k = omega arith in rw (lt-ltb k 6 (omega arith), z)

  pub location_zero : (n r : ℕ) → n ≡ 0 → of_location t n r ≡ 0
  unfolding of_location
  location_zero zero r e = refl
  location_zero (suc k) r e = absurd (omega arith)

  pub location_out : (n r : ℕ) → 16 < n → of_location t n r ≡ 0
  unfolding of_location
  location_out zero r h = refl
  location_out (suc k) r h = rw (le-ltb k 16 (omega arith))

  pub location_in : (n r : ℕ) → 1 ≤ n → n ≤ 16 → of_location t n r ≡ get_or t (20 + 5 * (n - 1) + r) 0
  unfolding of_location
  location_in zero r a b = absurd (omega arith)
  location_in (suc k) r a b = let z : suc k - 1 ≡ k = omega arith in rw (lt-ltb k 16 (omega arith), z)

  pub edge_zero : (n r : ℕ) → n ≡ 0 → of_edge t n r ≡ 0
  unfolding of_edge
  edge_zero zero r e = refl
  edge_zero (suc k) r e = absurd (omega arith)

  pub edge_out : (n r : ℕ) → 32 < n → of_edge t n r ≡ 0
  unfolding of_edge
  edge_out zero r h = refl
  edge_out (suc k) r h = rw (le-ltb k 32 (omega arith))

  pub edge_in : (n r : ℕ) → 1 ≤ n → n ≤ 32 → of_edge t n r ≡ get_or t (100 + 31 * (n - 1) + r) 0
  unfolding of_edge
  edge_in zero r a b = absurd (omega arith)
  edge_in (suc k) r a b = let z : suc k - 1 ≡ k = omega arith in rw (lt-ltb k 32 (omega arith), z)

  pub limit_zero : (l k : ℕ) → k ≡ 0 → limit_in t l k ≡ 0
  unfolding limit_in
  limit_zero l zero e = refl
  limit_zero l (suc k) e = absurd (omega arith)

  pub limit_out : (l k : ℕ) → 4 < k → limit_in t l k ≡ 0
  unfolding limit_in
  limit_out l zero h = refl
  limit_out l (suc k) h = rw (le-ltb k 4 (omega arith))

  pub limit_in_lem : (l k : ℕ) → 1 ≤ k → k ≤ 4 → limit_in t l k ≡ of_location t l k
  unfolding limit_in
  limit_in_lem l zero a b = absurd (omega arith)
  limit_in_lem l (suc k) a b = rw (lt-ltb k 4 (omega arith))

  pub bound_row : (e i j : ℕ) → 4 < i → bound_in t e i j ≡ 0
  unfolding bound_in
  bound_row e i j h = rw (le-ltb i 5 (omega arith))

  pub bound_column : (e i j : ℕ) → i ≤ 4 → 4 < j → bound_in t e i j ≡ 0
  unfolding bound_in
  bound_column e i j a h = rw (lt-ltb i 5 (omega arith), le-ltb j 5 (omega arith))

  pub bound_in_lem : (e i j : ℕ) → i ≤ 4 → j ≤ 4 → bound_in t e i j ≡ of_edge t e (2 + 5 * i + j)
  unfolding bound_in
  bound_in_lem e i j a b = rw (lt-ltb i 5 (omega arith), lt-ltb j 5 (omega arith))

  pub reset_zero : (e k : ℕ) → k ≡ 0 → reset_in t e k ≡ false
  unfolding reset_in
  reset_zero e zero h = refl
  reset_zero e (suc k) h = absurd (omega arith)

  pub reset_out : (e k : ℕ) → 4 < k → reset_in t e k ≡ false
  unfolding reset_in
  reset_out e zero h = refl
  reset_out e (suc k) h = rw (le-ltb k 4 (omega arith))

  pub reset_in_lem : (e k : ℕ) → 1 ≤ k → k ≤ 4 → reset_in t e k ≡ ltb 0 (of_edge t e (26 + k))
  unfolding reset_in
  reset_in_lem e zero a b = absurd (omega arith)
  reset_in_lem e (suc k) a b = let z : 27 + k ≡ 26 + suc k = omega arith in rw (lt-ltb k 4 (omega arith), z)
