-- A table that a text gives is right: its parts are those of the model that it holds.
-- Assumes nothing.
use Prim.Native.Nat.{ℕ, zero, suc, ◌+◌, ◌-◌, ◌*◌, ◌/◌, ◌%◌, ◌≤◌, ◌<◌}
use mathlib.Core.Path.{◌≡◌, refl, sym, ◌∙◌, ap, subst}
use mathlib.Core.Bool.{Bool, true, false}
use mathlib.Core.List.{List, [], ◌∷◌, ◌++◌}
use mathlib.Core.Option.{none, some}
use native.Mathlib.Omega.{arith}
use lib.Dec.{ltb}
use lib.ListN.{length, get_or, get_elem?}
use borrow.Author.Tests.{lt-ltb}
use Rattle.meaning.specs.Lists.{nth1}
use Rattle.meaning.specs.Model.{Task, Location, Edge, no_task, no_location, task_at, location_at}
use Rattle.meaning.specs.Text.ModelReader.{Given}
use Rattle.meaning.specs.Text.ModelTable.{encode, decode, collect, lowered, limits_in, guard_in, resets_in, tasks, locations, edges}
use Rattle.meaning.specs.Text.ModelText.{policy_number}
use Rattle.meaning.specs.Text.Choice.{pick}
use Rattle.meaning.specs.Text.RightModel.{Each, RightBound}
use Rattle.meaning.proofs.Text.Choices.{by_lt, by_eq}
use Rattle.meaning.proofs.Text.Keyed.{by_nth, collect_same, each_nth, nth_none, nth_in}
use Rattle.meaning.proofs.Text.ModelDecode.{lowered_over}
use Rattle.meaning.proofs.Text.ModelTheorems.{given_proper, given_encode, given_right}
use Rattle.meaning.proofs.Text.ModelRight.{length_tasks, length_locations, length_edges}
use Rattle.meaning.proofs.Text.ModelEncode.{policy_cell, task_cells, task_none, location_first, location_none, edge_firsts, edge_none, limits_are, guard_is, resets_are}
use Rattle.model_table.specs.Right.{RightTable}
use Rattle.model_table.specs.Parts.{of_task, of_location, of_edge, policy_in, released_in, limit_in, bound_in, reset_in, task_of, limits_of, guard_of, resets_of, edge_of}
use Rattle.model_table.proofs.CellLaws.{task_out, task_in, location_out, location_in, edge_out, edge_in, limit_in_lem, bound_in_lem, bound_row, bound_column, reset_in_lem, edge_zero}

pub get_d_some : {A : Type 0} (l : List A) (k : ℕ) (d x : A) → get_elem? l k ≡ some x → get_or l k d ≡ x
get_d_some [] k d x e = absurd (let z : ◌≡◌ {A = ℕ} 0 1 = cc in omega arith)
get_d_some (y ∷ l) zero d x e = cc
get_d_some (y ∷ l) (suc k) d x e = get_d_some l k d x e

pub get_d_none : {A : Type 0} (l : List A) (k : ℕ) (d : A) → get_elem? l k ≡ none → get_or l k d ≡ d
get_d_none [] k d e = refl
get_d_none (y ∷ l) zero d e = absurd (let z : ◌≡◌ {A = ℕ} 0 1 = cc in omega arith)
get_d_none (y ∷ l) (suc k) d e = get_d_none l k d e

collect_nothing : {A : Type 0} (n : ℕ) (p : ℕ → Bool) (f : ℕ → A) → ((k : ℕ) → k < n → p k ≡ false) → collect n p f ≡ []
unfolding collect
collect_nothing zero p f h = refl
collect_nothing (suc n) p f h = rw (collect_nothing n p f (λ k l. h k (omega arith)), h n (omega arith))

each_left : {A : Type 0} (P : A → Type 0) (xs ys : List A) → Each P (xs ++ ys) → Each P xs
each_left P [] ys a = tt
each_left P (x ∷ xs) ys a = (a.0, each_left P xs ys a.1)

each_right : {A : Type 0} (P : A → Type 0) (xs ys : List A) → Each P (xs ++ ys) → Each P ys
each_right P [] ys a = a
each_right P (x ∷ xs) ys a = each_right P xs ys a.1

-- what is so of each that is collected is so of each number for which the test holds
each_collected : {A : Type 0} (P : A → Type 0) (n : ℕ) (p : ℕ → Bool) (f : ℕ → A) → Each P (collect n p f) → (x : ℕ) → x < n → p x ≡ true → P (f x)
unfolding collect
each_collected P zero p f a x h e = absurd (omega arith)
each_collected P (suc n) p f a x h e =
    by_eq x n
    (λ q. let b : Each P (pick (p x) (f x ∷ []) []) = subst (λ (y : ℕ). Each P (pick (p y) (f y ∷ []) [])) (sym q) (each_right P (collect n p f) (pick (p n) (f n ∷ []) []) a) in (rw e at b).0)
    (λ q. each_collected P n p f (each_left P (collect n p f) (pick (p n) (f n ∷ []) []) a) x (omega arith) e)

nth1_at : {A : Type 0} (l : List A) (n : ℕ) (x : A) → nth1 l n ≡ some x → get_elem? l (n - 1) ≡ some x
nth1_at l zero x e = absurd (let z : ◌≡◌ {A = ℕ} 0 1 = cc in omega arith)
nth1_at l (suc k) x e = let z : suc k - 1 ≡ k = omega arith in rw z e

module _ (t : List ℕ) (g : Given t) where
  same : encode (decode t) ≡ t
  same = given_encode t g

  policy_is : policy_in t ≡ policy_number (decode t).policy
  policy_is = let c = rw same at (policy_cell (decode t)) in omega arith

  tasks_is : tasks t ≡ length (decode t).tasks
  tasks_is = sym (length_tasks t (given_proper t g))

  locations_is : locations t ≡ length (decode t).locations
  locations_is = sym (length_locations t (given_proper t g))

  edges_is : edges t ≡ length (decode t).edges
  edges_is = sym (length_edges t (given_proper t g))

  -- ---- tasks

  task_here : (k : ℕ) (x : Task) → k < 6 → get_elem? (decode t).tasks k ≡ some x → task_of t (suc k) ≡ x
  task_here k x h e =
      let c = rw same at (task_cells (decode t) k x h e) in
      let z : suc k - 1 ≡ k = omega arith in
      let y : 2 + 3 * k + 0 ≡ 2 + 3 * k = omega arith in
      let c₀ = c.0 in
      let c₁ = c.1 in
      let c₂ = c.2 in
      let a₀ : of_task t (suc k) 0 - 1 ≡ x.C = rw (task_in t (suc k) 0 (omega arith) (omega arith), z, y) (omega arith) in
      let a₁ : of_task t (suc k) 1 - 1 ≡ x.D = rw (task_in t (suc k) 1 (omega arith) (omega arith), z) (omega arith) in
      let a₂ : of_task t (suc k) 2 - 1 ≡ x.prio = rw (task_in t (suc k) 2 (omega arith) (omega arith), z) (omega arith) in
      rw (a₀, a₁, a₂)

  task_no : (k : ℕ) → (r : ℕ) → k < 6 → r < 3 → get_elem? (decode t).tasks k ≡ none → of_task t (suc k) r ≡ 0
  task_no k r h l e =
      let z : suc k - 1 ≡ k = omega arith in
      task_in t (suc k) r (omega arith) (omega arith) ∙ rw z (rw same at (task_none (decode t) k r h l e))

  -- for every number, also those that name nothing
  task_is : (n : ℕ) → task_at (decode t) n ≡ task_of t n
  unfolding of_task
  task_is zero = refl
  task_is (suc k) =
      by_lt k 6
      (λ h. by_nth (decode t).tasks k
      (λ x e. get_d_some (decode t).tasks k no_task x e ∙ sym (task_here k x h e))
      (λ e. get_d_none (decode t).tasks k no_task e ∙ rw (task_no k 0 h (omega arith) e, task_no k 1 h (omega arith) e, task_no k 2 h (omega arith) e)))
      (λ h. get_d_none (decode t).tasks k no_task (nth_none (decode t).tasks k (let w = (given_right t g).tasks_high in omega arith))
      ∙ rw (task_out t (suc k) 0 (omega arith), task_out t (suc k) 1 (omega arith), task_out t (suc k) 2 (omega arith)))

  -- ---- locations

  location_here : (k : ℕ) (x : Location) → k < 16 → get_elem? (decode t).locations k ≡ some x → (released_in t (suc k) ≡ x.task) × (limits_of t (suc k) ≡ x.limits)
  unfolding limits_in
  location_here k x h e =
      let c = rw same at (location_first (decode t) k x h e) in
      let z : suc k - 1 ≡ k = omega arith in
      let y : 20 + 5 * k + 0 ≡ 20 + 5 * k = omega arith in
      let l = rw same at (limits_are (decode t) (given_right t g) k x h e) in (
        rw (location_in t (suc k) 0 (omega arith) (omega arith), z, y) (omega arith),
        collect_same 4 _ _ _ _ (λ i b.
            let u : 20 + 5 * k + (1 + i) ≡ 20 + 5 * k + 1 + i = omega arith in
            let q : limit_in t (suc k) (1 + i) ≡ get_or t (20 + 5 * k + 1 + i) 0 = limit_in_lem t (suc k) (1 + i) (omega arith) (omega arith) ∙ location_in t (suc k) (1 + i) (omega arith) (omega arith) ∙ rw (z, u) in
            (rw q, rw q))
            ∙ l,
      )

  location_no : (l : ℕ) → ((r : ℕ) → r < 5 → of_location t l r ≡ 0) → (released_in t l ≡ 0) × (limits_of t l ≡ [])
  location_no l h = (
    rw (h 0 (omega arith)),
    collect_nothing 4 _ _ (λ k b. rw (limit_in_lem t l (1 + k) (omega arith) (omega arith), h (1 + k) (omega arith))),
  )

  location_is : (l : ℕ) → (released_in t l ≡ (location_at (decode t) l).task) × (limits_of t l ≡ (location_at (decode t) l).limits)
  unfolding of_location
  location_is zero = location_no zero (λ r h. refl)
  location_is (suc k) =
      by_lt k 16
      (λ h. by_nth (decode t).locations k
      (λ x e. rw (get_d_some (decode t).locations k no_location x e) (location_here k x h e))
      (λ e. rw (get_d_none (decode t).locations k no_location e) (location_no (suc k) (λ r b.
      let z : suc k - 1 ≡ k = omega arith in
      location_in t (suc k) r (omega arith) (omega arith) ∙ rw z (rw same at (location_none (decode t) k r h b e))))))
      (λ h. rw (get_d_none (decode t).locations k no_location (nth_none (decode t).locations k (let w = (given_right t g).locations_high in omega arith)))
      (location_no (suc k) (λ r b. location_out t (suc k) r (omega arith))))

  -- ---- edges

  edge_here : (k : ℕ) (x : Edge) → k < 32 → get_elem? (decode t).edges k ≡ some x → edge_of t (suc k) ≡ x
  unfolding guard_in resets_in
  edge_here k x h e =
      let c = rw same at (edge_firsts (decode t) k x h e) in
      let c₀ = c.0 in
      let c₁ = c.1 in
      let z : suc k - 1 ≡ k = omega arith in
      let y : 100 + 31 * k + 0 ≡ 100 + 31 * k = omega arith in
      let gs = rw same at (guard_is (decode t) (given_right t g) k x h e) in
      let rs = rw same at (resets_are (decode t) (given_right t g) k x h e) in
      let a₀ : of_edge t (suc k) 0 - 1 ≡ x.from = rw (edge_in t (suc k) 0 (omega arith) (omega arith), z, y) (omega arith) in
      let a₁ : of_edge t (suc k) 1 - 1 ≡ x.to = rw (edge_in t (suc k) 1 (omega arith) (omega arith), z) (omega arith) in
      let a₂ : guard_of t (suc k) ≡ x.guard = collect_same 25 _ _ _ _ (λ i b.
      let u : 100 + 31 * k + (2 + 5 * (i / 5) + i % 5) ≡ 100 + 31 * k + 2 + i = omega arith in
      let q : bound_in t (suc k) (i / 5) (i % 5) ≡ get_or t (100 + 31 * k + 2 + i) 0 = bound_in_lem t (suc k) (i / 5) (i % 5) (omega arith) (omega arith) ∙ edge_in t (suc k) (2 + 5 * (i / 5) + i % 5) (omega arith) (omega arith) ∙ rw (z, u) in
      (rw q, rw q))
      ∙ gs in
      let a₃ : resets_of t (suc k) ≡ x.resets = collect_same 4 _ _ _ _ (λ i b.
      let u : 100 + 31 * k + (26 + (1 + i)) ≡ 100 + 31 * k + 27 + i = omega arith in
      let v : of_edge t (suc k) (26 + (1 + i)) ≡ get_or t (100 + 31 * k + 27 + i) 0 = edge_in t (suc k) (26 + (1 + i)) (omega arith) (omega arith) ∙ rw (z, u) in
      let q : reset_in t (suc k) (1 + i) ≡ ltb 0 (get_or t (100 + 31 * k + 27 + i) 0) = reset_in_lem t (suc k) (1 + i) (omega arith) (omega arith) ∙ rw v in
      (q, refl))
      ∙ rs in
      rw (a₀, a₁, a₂, a₃)

  -- an edge of the model
  edge_is : (n : ℕ) → 1 ≤ n → n ≤ edges t → nth1 (decode t).edges n ≡ some (edge_of t n)
  edge_is zero a b = absurd (omega arith)
  edge_is (suc k) a b =
      let w = (given_right t g).edges_high in
      let l = edges_is in
      let r = nth_in (decode t).edges k (omega arith) in
      r.1 ∙ ap some (sym (edge_here k r.0 (omega arith) r.1))

  -- and a number that names none
  edge_no : (n : ℕ) → (1 ≤ n → edges t < n) → nth1 (decode t).edges n ≡ none
  edge_no zero h = refl
  edge_no (suc k) h = let l = edges_is in let b = h (omega arith) in nth_none (decode t).edges k (omega arith)

  -- an edge that is not there has no cells
  edge_cells : (n r : ℕ) → r < 31 → nth1 (decode t).edges n ≡ none → of_edge t n r ≡ 0
  edge_cells zero r h e = edge_zero t 0 r refl
  edge_cells (suc k) r h e =
      by_lt k 32
      (λ l. let z : suc k - 1 ≡ k = omega arith in edge_in t (suc k) r (omega arith) (omega arith) ∙ rw z (rw same at (edge_none (decode t) k r l h e)))
      (λ l. edge_out t (suc k) r (omega arith))

  no_bound : (e i j : ℕ) → i < 5 → j < 5 → nth1 (decode t).edges e ≡ none → bound_in t e i j ≡ 0
  no_bound e i j a b q = bound_in_lem t e i j (omega arith) (omega arith) ∙ edge_cells e (2 + 5 * i + j) (omega arith) q

  -- ---- how large a bound's cell is

  bound_small : (e i j : ℕ) → bound_in t e i j ≤ 20001
  bound_small e i j =
      by_lt i 5 (λ a. by_lt j 5 (λ b. by_lt 0 (bound_in t e i j) (λ h. by_lt 0 e (λ p. by_lt (edges t) e
      (λ q. absurd (let z = no_bound e i j a b (edge_no e (λ w. q)) in omega arith))
      (λ q.
      let x = 5 * i + j in
      let u₁ : x / 5 ≡ i = omega arith in
      let u₂ : x % 5 ≡ j = omega arith in
      let r = each_nth _ (decode t).edges (e - 1) (edge_of t e) (given_right t g).edges (nth1_at (decode t).edges e (edge_of t e) (edge_is e p q)) in
      let s = each_collected (RightBound (decode t).clocks 10000) 25 (λ x. ltb 0 (bound_in t e (x / 5) (x % 5))) (λ x. record { i = x / 5; j = x % 5; c = lowered (bound_in t e (x / 5) (x % 5) - 1) }) r.guard x (omega arith) (rw (u₁, u₂) (lt-ltb 0 (bound_in t e i j) h)) in
      let v = s.most in
      let y = lowered_over (bound_in t e (x / 5) (x % 5) - 1) in
      let k : bound_in t e (x / 5) (x % 5) ≤ 20001 = omega arith in
      rw (u₁, u₂) at k))
      (λ p. let z : e ≡ 0 = omega arith in absurd (let y = no_bound e i j a b (edge_no e (λ w. absurd (omega arith))) in omega arith)))
      (λ h. omega arith))
      (λ b. let z = bound_column t e i j (omega arith) (omega arith) in omega arith))
      (λ a. let z = bound_row t e i j (omega arith) in omega arith)

  -- all that is asked of a table by those who read it where it stands
  pub given_table : RightTable t
  given_table = record {
    right = given_right t g;
    policy = policy_is;
    task_count = tasks_is;
    location_count = locations_is;
    edge_count = edges_is;
    task = task_is;
    location = location_is;
    edge = edge_is;
    no_edge = edge_no;
    bound = bound_small;
  }
