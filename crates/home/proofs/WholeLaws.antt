-- Laws of a location with a queue order as it is lent, and of two that are one.
-- Assumes nothing.
use Prim.Native.Nat.{ℕ, zero, suc, ◌+◌, ◌-◌, ◌≤◌}
use mathlib.Core.Path.{◌≡◌, refl, sym, ◌∙◌, ap}
use mathlib.Core.Bool.{Bool, true, ◌&&◌}
use mathlib.Core.Logic.{◌↔◌}
use mathlib.Core.List.{List, [], ◌∷◌}
use native.Mathlib.Numerals.{add-one}
use native.Mathlib.Omega.{arith}
use lib.Dec.{ltb, leb, eqb}
use lib.ListN.{length, get_or, take, drop}
use lib.Seq.{drop-cons, get_or-drop}
use borrow.Author.Tests.{eqb-true, eq-eqb, leb-true, le-leb, ltb-true, lt-ltb}
use Rattle.std.specs.List.{list_all, range_with_len}
use Rattle.std.proofs.lemmas.List.{drop_all}
use Rattle.meaning.specs.Model.{Model}
use Rattle.meaning.specs.Zones.Proper.{fits}
use Rattle.meaning.specs.Text.RightModel.{Each}
use Rattle.meaning.proofs.Tests.{and_left, and_right, and_both}
use Rattle.home.specs.ByCell.{is_of, all_of, all_zero, RightCells}

-- ---- the tasks of the model

tasks_read : (n : ℕ) (o : List ℕ) → all_of n o ≡ true → Each (λ (t : ℕ). (1 ≤ t) × (t ≤ n)) o
tasks_read n [] e = tt
tasks_read n (t ∷ o) e =
    let a = and_left (is_of n t) (all_of n o) e in
    let l = ltb-true 0 t (and_left (ltb 0 t) (leb t n) a) in
    ((omega arith, leb-true t n (and_right (ltb 0 t) (leb t n) a)), tasks_read n o (and_right (is_of n t) (all_of n o) e))

tasks_make : (n : ℕ) (o : List ℕ) → Each (λ (t : ℕ). (1 ≤ t) × (t ≤ n)) o → all_of n o ≡ true
tasks_make n [] d = refl
tasks_make n (t ∷ o) d =
    let l = d.0.0 in
    and_both (is_of n t) (all_of n o) (and_both (ltb 0 t) (leb t n) (lt-ltb 0 t (omega arith)) (le-leb t n d.0.1)) (tasks_make n o d.1)

-- ---- the unused cells

zeros_read : (l : List ℕ) → all_zero l ≡ true → (i : ℕ) → get_or l i 0 ≡ 0
zeros_read [] e i = refl
zeros_read (x ∷ l) e zero = eqb-true x 0 (and_left (eqb x 0) (all_zero l) e)
zeros_read (x ∷ l) e (suc i) = zeros_read l (and_right (eqb x 0) (all_zero l) e) i

zeros_make : (l : List ℕ) → ((i : ℕ) → get_or l i 0 ≡ 0) → all_zero l ≡ true
zeros_make [] h = refl
zeros_make (x ∷ l) h = and_both (eqb x 0) (all_zero l) (eq-eqb x 0 (h 0)) (zeros_make l (λ i. h (suc i)))

-- each cell from a on is 0: nothing else stands there
pub zeros_between : (ts : List ℕ) (a n : ℕ) → a + n ≡ length ts → list_all (λ (k : ℕ). eqb (get_or ts k 0) 0) (range_with_len a n) ≡ all_zero (drop a ts)
zeros_between ts a zero e = ap all_zero (sym (drop_all a ts (omega arith)))
zeros_between ts a (suc n) e =
    let d : drop a ts ≡ get_or ts a 0 ∷ drop (a + 1) ts = drop-cons ts a 0 (omega arith) ∙ ap (λ (j : ℕ). get_or ts a 0 ∷ drop j ts) (sym (add-one a)) in
    rw d (ap (λ (b : Bool). eqb (get_or ts a 0) 0 && b) (zeros_between ts (a + 1) n (omega arith)))

unused_read : (ts : List ℕ) (n : ℕ) → all_zero (drop n ts) ≡ true → (k : ℕ) → n ≤ k → get_or ts k 0 ≡ 0
unused_read ts n e k h =
    let z : n + (k - n) ≡ k = omega arith in
    ap (λ (j : ℕ). get_or ts j 0) (sym z) ∙ sym (get_or-drop n ts (k - n) 0) ∙ zeros_read (drop n ts) e (k - n)

unused_make : (ts : List ℕ) (n : ℕ) → ((k : ℕ) → n ≤ k → get_or ts k 0 ≡ 0) → all_zero (drop n ts) ≡ true
unused_make ts n h = zeros_make (drop n ts) (λ i. get_or-drop n ts i 0 ∙ h (n + i) (omega arith))

-- ---- the cells of a queue

module _ (m : Model) (ts : List ℕ) (n : ℕ) where
  -- what the three tests say together
  pub cells_told : {both zero : Bool} → both ≡ (all_of (length m.tasks) (take n ts) && fits m (take n ts)) → zero ≡ all_zero (drop n ts) → (both && zero ≡ true) ↔ RightCells m ts n
  cells_told {both} {zero} e z =
      let a = all_of (length m.tasks) (take n ts) in
      let f = fits m (take n ts) in (
        λ q. let h = sym e ∙ and_left both zero q in record {
          tasks = tasks_read (length m.tasks) (take n ts) (and_left a f h);
          fit = and_right a f h;
          unused = unused_read ts n (sym z ∙ and_right both zero q);
        },
        λ r. and_both both zero (e ∙ and_both a f (tasks_make (length m.tasks) (take n ts) r.tasks) r.fit) (z ∙ unused_make ts n r.unused),
      )
