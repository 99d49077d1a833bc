-- The table of a model that a text can say holds that model.
-- Assumes nothing.
use Prim.Native.Nat.{◌%◌, ◌*◌, ◌+◌, ◌-◌, ◌/◌, ◌<◌, ◌≤◌, suc, zero, ℕ}
use mathlib.Core.List.{List}
use mathlib.Core.Option.{none, some}
use mathlib.Core.Path.{◌∙◌, ◌≡◌, ap, refl, sym}
use native.Mathlib.Omega.{arith}
use lib.IntN.{ℤ}
use lib.ListN.{get_or, get_elem?, length}
use borrow.Author.Tests.{le-ltb, lt-ltb, ne_eqb}
use Rattle.meaning.proofs.Text.Keyed.{collect_all, collect_same, each_map, each_nth, keyed_collect, ordered_map}
use Rattle.meaning.proofs.Text.BoundLaws.{key_rising, lowered_of}
use Rattle.meaning.specs.Model.{Bound, Edge, Limit, Location, Model, Task}
use Rattle.meaning.specs.Numbers.{under}
use Rattle.meaning.specs.Text.ModelTable.{cell, collect, decode, edge_cell, edge_in, encode, guard_in, keyed, limits_in, location_cell, location_in, lowered, resets_in, size, tabulate, task_cell, task_in, there}
use Rattle.meaning.specs.Text.ModelText.{policy_number, policy_of, raised}
use Rattle.meaning.proofs.Text.Policies.{policy_back}
use Rattle.meaning.specs.Text.Ranges.{time_most}
use Rattle.meaning.specs.Text.RightModel.{RightModel}

-- ---- a cell of the table

pub tabulate_length : (n : ℕ) (f : ℕ → ℕ) → length (tabulate n f) ≡ n
unfolding tabulate
tabulate_length zero f = refl
tabulate_length (suc n) f = ap suc (tabulate_length n (λ k. f (suc k)))

pub tabulate_at : (n : ℕ) (f : ℕ → ℕ) (k : ℕ) → k < n → get_or (tabulate n f) k 0 ≡ f k
unfolding tabulate
tabulate_at zero f k h = absurd (omega arith)
tabulate_at (suc n) f zero h = refl
tabulate_at (suc n) f (suc k) h = tabulate_at n (λ k. f (suc k)) k (omega arith)

pub encode_length : (m : Model) → length (encode m) ≡ size
unfolding encode
encode_length m = tabulate_length size (cell m)

module _ (m : Model) where
  cell_at : (k : ℕ) → k < size → get_or (encode m) k 0 ≡ cell m k
  unfolding encode
  cell_at k h = tabulate_at size (cell m) k h

  pub policy_cell : get_or (encode m) 0 0 ≡ suc (policy_number m.policy)
  unfolding cell
  policy_cell = cell_at 0 (omega arith)

  pub clocks_cell : get_or (encode m) 1 0 ≡ suc m.clocks
  unfolding cell
  clocks_cell = cell_at 1 (omega arith)

  pub task_cell_lem : (t r : ℕ) → t < 6 → r < 3 → get_or (encode m) (2 + 3 * t + r) 0 ≡ task_cell (get_elem? m.tasks t) r
  unfolding cell
  task_cell_lem t r h l =
      let d : (2 + 3 * t + r - 2) / 3 ≡ t = omega arith in
      let e : (2 + 3 * t + r - 2) % 3 ≡ r = omega arith in
      cell_at (2 + 3 * t + r) (omega arith)
      ∙ rw (le-ltb (2 + 3 * t + r) 1 (omega arith), le-ltb (2 + 3 * t + r) 2 (omega arith), lt-ltb (2 + 3 * t + r) 20 (omega arith), d, e)

  pub location_cell_lem : (l r : ℕ) → l < 16 → r < 5 → get_or (encode m) (20 + 5 * l + r) 0 ≡ location_cell (get_elem? m.locations l) r
  unfolding cell
  location_cell_lem l r h k =
      let d : (20 + 5 * l + r - 20) / 5 ≡ l = omega arith in
      let e : (20 + 5 * l + r - 20) % 5 ≡ r = omega arith in
      cell_at (20 + 5 * l + r) (omega arith)
      ∙ rw (le-ltb (20 + 5 * l + r) 1 (omega arith), le-ltb (20 + 5 * l + r) 2 (omega arith), le-ltb (20 + 5 * l + r) 20 (omega arith), lt-ltb (20 + 5 * l + r) 100 (omega arith), d, e)

  pub edge_cell_lem : (e r : ℕ) → e < 32 → r < 31 → get_or (encode m) (100 + 31 * e + r) 0 ≡ edge_cell (get_elem? m.edges e) r
  unfolding cell
  edge_cell_lem e r h k =
      let d : (100 + 31 * e + r - 100) / 31 ≡ e = omega arith in
      let f : (100 + 31 * e + r - 100) % 31 ≡ r = omega arith in
      cell_at (100 + 31 * e + r) (omega arith)
      ∙ rw (
        le-ltb (100 + 31 * e + r) 1 (omega arith),
        le-ltb (100 + 31 * e + r) 2 (omega arith),
        le-ltb (100 + 31 * e + r) 20 (omega arith),
        le-ltb (100 + 31 * e + r) 100 (omega arith),
        d,
        f,
      )

  -- ---- the cells of a task, a location and an edge that are there, and of those that are not

  pub task_cells : (t : ℕ) (x : Task) → t < 6 → get_elem? m.tasks t ≡ some x
      → (get_or (encode m) (2 + 3 * t) 0 ≡ suc x.C) × (get_or (encode m) (2 + 3 * t + 1) 0 ≡ suc x.D) × (get_or (encode m) (2 + 3 * t + 2) 0 ≡ suc x.prio)
  unfolding task_cell
  task_cells t x h e =
      let z : 2 + 3 * t + 0 ≡ 2 + 3 * t = omega arith in
      let c : get_or (encode m) (2 + 3 * t + 0) 0 ≡ suc x.C = task_cell_lem t 0 h (omega arith) ∙ rw e in
      (rw z at c, task_cell_lem t 1 h (omega arith) ∙ rw e, task_cell_lem t 2 h (omega arith) ∙ rw e)

  pub task_none : (t r : ℕ) → t < 6 → r < 3 → get_elem? m.tasks t ≡ none → get_or (encode m) (2 + 3 * t + r) 0 ≡ 0
  unfolding task_cell
  task_none t r h l e = task_cell_lem t r h l ∙ rw e

  pub location_first : (l : ℕ) (x : Location) → l < 16 → get_elem? m.locations l ≡ some x → get_or (encode m) (20 + 5 * l) 0 ≡ suc x.task
  unfolding location_cell
  location_first l x h e =
      let z : 20 + 5 * l + 0 ≡ 20 + 5 * l = omega arith in
      let c : get_or (encode m) (20 + 5 * l + 0) 0 ≡ suc x.task = location_cell_lem l 0 h (omega arith) ∙ rw e in
      rw z at c

  pub limit_cell : (l r : ℕ) (x : Location) → l < 16 → 1 ≤ r → r < 5 → get_elem? m.locations l ≡ some x
      → get_or (encode m) (20 + 5 * l + r) 0 ≡ keyed (λ (y : Limit). y.clock) (λ (y : Limit). y.most) x.limits r
  unfolding location_cell
  limit_cell l r x h a b e = location_cell_lem l r h b ∙ rw (e, ne_eqb r 0 (omega arith))

  pub location_none : (l r : ℕ) → l < 16 → r < 5 → get_elem? m.locations l ≡ none → get_or (encode m) (20 + 5 * l + r) 0 ≡ 0
  unfolding location_cell
  location_none l r h b e = location_cell_lem l r h b ∙ rw e

  pub edge_firsts : (e : ℕ) (x : Edge) → e < 32 → get_elem? m.edges e ≡ some x
      → (get_or (encode m) (100 + 31 * e) 0 ≡ suc x.from) × (get_or (encode m) (100 + 31 * e + 1) 0 ≡ suc x.to)
  unfolding edge_cell
  edge_firsts e x h q =
      let z : 100 + 31 * e + 0 ≡ 100 + 31 * e = omega arith in
      let c : get_or (encode m) (100 + 31 * e + 0) 0 ≡ suc x.from = edge_cell_lem e 0 h (omega arith) ∙ rw q in
      (rw z at c, edge_cell_lem e 1 h (omega arith) ∙ rw q)

  pub bound_cell_lem : (e r : ℕ) (x : Edge) → e < 32 → 2 ≤ r → r < 27 → get_elem? m.edges e ≡ some x
      → get_or (encode m) (100 + 31 * e + r) 0 ≡ keyed (λ (y : Bound). 5 * y.i + y.j) (λ (y : Bound). raised y.c) x.guard (r - 2)
  unfolding edge_cell
  bound_cell_lem e r x h a b q = edge_cell_lem e r h (omega arith) ∙ rw (q, ne_eqb r 0 (omega arith), ne_eqb r 1 (omega arith), lt-ltb r 27 b)

  pub reset_cell : (e r : ℕ) (x : Edge) → e < 32 → 27 ≤ r → r < 31 → get_elem? m.edges e ≡ some x
      → get_or (encode m) (100 + 31 * e + r) 0 ≡ keyed (λ (y : ℕ). y) (λ (y : ℕ). y) x.resets (r - 26)
  unfolding edge_cell
  reset_cell e r x h a b q = edge_cell_lem e r h b ∙ rw (q, ne_eqb r 0 (omega arith), ne_eqb r 1 (omega arith), le-ltb r 27 a)

  pub edge_none : (e r : ℕ) → e < 32 → r < 31 → get_elem? m.edges e ≡ none → get_or (encode m) (100 + 31 * e + r) 0 ≡ 0
  unfolding edge_cell
  edge_none e r h b q = edge_cell_lem e r h b ∙ rw q

-- ---- the model of the table

pub raised_lowered : (c : ℤ) → under c ≤ time_most → lowered (raised c) ≡ c
unfolding raised lowered
raised_lowered = lowered_of time_most

module _ (m : Model) (w : RightModel m) where
  abbrev table : List ℕ
  table = encode m

  tasks_are : collect 6 (λ x. there table (2 + 3 * x)) (λ x. task_in table (2 + 3 * x)) ≡ m.tasks
  unfolding task_in
  tasks_are =
      collect_all m.tasks (λ x. there table (2 + 3 * x)) (λ x. task_in table (2 + 3 * x)) 6 w.tasks_high
      (λ t x h e.
      let c = task_cells m t x h e in
      let a₁ = c.0 in
      let a₂ = c.1 in
      let a₃ = c.2 in
      let b₁ : get_or table (2 + 3 * t) 0 - 1 ≡ x.C = omega arith in
      let b₂ : get_or table (2 + 3 * t + 1) 0 - 1 ≡ x.D = omega arith in
      let b₃ : get_or table (2 + 3 * t + 2) 0 - 1 ≡ x.prio = omega arith in
      (lt-ltb 0 (get_or table (2 + 3 * t) 0) (omega arith), rw (b₁, b₂, b₃)))
      (λ t h e. let z : 2 + 3 * t + 0 ≡ 2 + 3 * t = omega arith in let c = rw z at (task_none m t 0 h (omega arith) e) in le-ltb 0 (get_or table (2 + 3 * t) 0) (omega arith))

  pub limits_are : (l : ℕ) (x : Location) → l < 16 → get_elem? m.locations l ≡ some x → limits_in table (20 + 5 * l) ≡ x.limits
  unfolding limits_in
  limits_are l x h e =
      let r = each_nth _ m.locations l x w.locations e in
      let few = w.clocks in
      collect_same 4 _ _ _ _ (λ k i.
      let z : 20 + 5 * l + 1 + k ≡ 20 + 5 * l + (1 + k) = omega arith in
      let c = rw (sym z) at (limit_cell m l (1 + k) x h (omega arith) (omega arith) e) in
      (rw c, rw c))
      ∙ keyed_collect (λ (y : Limit). y.clock) (λ (y : Limit). y.most) (λ a b. record { clock = a; most = b }) 1 4 x.limits r.rising
      (each_map x.limits (λ y q. let a = q.low in let b = q.high in (omega arith, omega arith, refl)) r.limits)

  pub guard_is : (e : ℕ) (x : Edge) → e < 32 → get_elem? m.edges e ≡ some x → guard_in table (100 + 31 * e) ≡ x.guard
  unfolding guard_in
  guard_is e x h q =
      let r = each_nth _ m.edges e x w.edges q in
      let few = w.clocks in
      collect_same 25 _ _ _ _ (λ k i.
      let z : 100 + 31 * e + 2 + k ≡ 100 + 31 * e + (2 + k) = omega arith in
      let y : 2 + k - 2 ≡ 0 + k = omega arith in
      let c = rw (sym z, y) at (bound_cell_lem m e (2 + k) x h (omega arith) (omega arith) q) in
      let u : 0 + k ≡ k = omega arith in
      (rw c, rw (c, u)))
      ∙ keyed_collect (λ (y : Bound). 5 * y.i + y.j) (λ (y : Bound). raised y.c) (λ a b. record { i = a / 5; j = a % 5; c = lowered b }) 0 25 x.guard
      (ordered_map x.guard (λ a b p p' o. key_rising 5 m.clocks time_most a b (omega arith) p p' o) r.guard r.guard_rising)
      (each_map x.guard (λ y p.
      let a = p.i in
      let b = p.j in
      let i₁ : (5 * y.i + y.j) / 5 ≡ y.i = omega arith in
      let j₁ : (5 * y.i + y.j) % 5 ≡ y.j = omega arith in
      (omega arith, omega arith, rw (i₁, j₁, raised_lowered y.c p.least)))
      r.guard)

  pub resets_are : (e : ℕ) (x : Edge) → e < 32 → get_elem? m.edges e ≡ some x → resets_in table (100 + 31 * e) ≡ x.resets
  unfolding resets_in
  resets_are e x h q =
      let r = each_nth _ m.edges e x w.edges q in
      let few = w.clocks in
      collect_same 4 _ _ _ _ (λ k i.
      let z : 100 + 31 * e + 27 + k ≡ 100 + 31 * e + (27 + k) = omega arith in
      let y : 27 + k - 26 ≡ 1 + k = omega arith in
      let c = rw (sym z, y) at (reset_cell m e (27 + k) x h (omega arith) (omega arith) q) in
      (rw c, refl))
      ∙ keyed_collect (λ (y : ℕ). y) (λ (y : ℕ). y) (λ a b. a) 1 4 x.resets r.resets_rising
      (each_map x.resets (λ y p. let a = p.0 in let b = p.1 in (omega arith, omega arith, refl)) r.resets)

  locations_are : collect 16 (λ x. there table (20 + 5 * x)) (λ x. location_in table (20 + 5 * x)) ≡ m.locations
  unfolding location_in
  locations_are =
      collect_all m.locations (λ x. there table (20 + 5 * x)) (λ x. location_in table (20 + 5 * x)) 16 w.locations_high
      (λ l x h e.
      let c = location_first m l x h e in
      let b : get_or table (20 + 5 * l) 0 - 1 ≡ x.task = omega arith in
      (lt-ltb 0 (get_or table (20 + 5 * l) 0) (omega arith), rw (b, limits_are l x h e)))
      (λ l h e. let z : 20 + 5 * l + 0 ≡ 20 + 5 * l = omega arith in let c = rw z at (location_none m l 0 h (omega arith) e) in le-ltb 0 (get_or table (20 + 5 * l) 0) (omega arith))

  edges_are : collect 32 (λ x. there table (100 + 31 * x)) (λ x. edge_in table (100 + 31 * x)) ≡ m.edges
  unfolding edge_in
  edges_are =
      collect_all m.edges (λ x. there table (100 + 31 * x)) (λ x. edge_in table (100 + 31 * x)) 32 w.edges_high
      (λ e x h q.
      let c = edge_firsts m e x h q in
      let c₁ = c.0 in
      let c₂ = c.1 in
      let b₁ : get_or table (100 + 31 * e) 0 - 1 ≡ x.from = omega arith in
      let b₂ : get_or table (100 + 31 * e + 1) 0 - 1 ≡ x.to = omega arith in
      (lt-ltb 0 (get_or table (100 + 31 * e) 0) (omega arith), rw (b₁, b₂, guard_is e x h q, resets_are e x h q)))
      (λ e h q. let z : 100 + 31 * e + 0 ≡ 100 + 31 * e = omega arith in let c = rw z at (edge_none m e 0 h (omega arith) q) in le-ltb 0 (get_or table (100 + 31 * e) 0) (omega arith))

  policy_is : policy_of (get_or table 0 0 - 1) ≡ m.policy
  policy_is =
      let c = policy_cell m in
      let n : get_or table 0 0 - 1 ≡ policy_number m.policy = omega arith in
      ap policy_of n ∙ policy_back m.policy

  -- the table of a model holds that model
  pub decode_encode : decode (encode m) ≡ m
  unfolding decode
  decode_encode =
      let c = clocks_cell m in
      let k : get_or table 1 0 - 1 ≡ m.clocks = omega arith in
      rw (policy_is, k, tasks_are, locations_are, edges_are)
