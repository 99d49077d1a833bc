-- The text that a proper table is written as is the text of the model that it holds; so two proper tables with the same model are the same.
-- Assumes nothing.
use Prim.Native.Nat.{◌%◌, ◌*◌, ◌+◌, ◌-◌, ◌/◌, ◌<◌, ◌≤◌, suc, zero, ℕ}
use mathlib.Core.Bool.{Bool, false, true}
use mathlib.Core.List.{List, [], ◌++◌, ◌∷◌, append_assoc, append-nil, map}
use mathlib.Core.Path.{◌∙◌, ◌≡◌, ap, refl, sym}
use native.Mathlib.Omega.{arith}
use lib.ListN.{get_or}
use borrow.Author.Tests.{le-ltb, lt-ltb, ltb-false, ltb-true, ne_eqb}
use Rattle.meaning.proofs.Text.ModelCells.{at_limit, at_location, at_task, in_edge}
use Rattle.meaning.proofs.Text.ModelLaws.{guard_in_lem, lawful, model_write_read, reset_in_lem}
use Rattle.meaning.proofs.Text.ModelShape.{clocks_there, guard_there, location_there, policy_is, policy_there, reset_there, reset_value}
use Rattle.meaning.proofs.Text.BoundLaws.{over_of, raised_of, under_of}
use Rattle.meaning.proofs.Text.RecordLaws.{Proper}
use Rattle.meaning.proofs.Text.Policies.{policy_number_lem}
use Rattle.meaning.specs.Numbers.{over, under}
use Rattle.meaning.specs.Text.Choice.{pick}
use Rattle.meaning.specs.Text.Lines.{fields_text}
use Rattle.meaning.specs.Text.ModelReader.{format, get, keys_at, line, line_of, mark_at, mark_in_edge, width, words}
use Rattle.meaning.specs.Text.ModelTable.{collect, decode, edge_in, guard_in, limits_in, location_in, lowered, resets_in, size, task_in, there}
use Rattle.meaning.specs.Text.ModelText.{Mark, bound_text, ck, ed, edge_text, en, form, gu, iv, limit_text, lo, location_text, model_text, other, po, policy_number, policy_of, raised, record_text, reset_text, rs, task_text, texts, tk}
use Rattle.meaning.specs.Text.Ranges.{time_most}
use Rattle.meaning.specs.Text.Records.{Answer, done, lines_to, read, write}

-- ---- texts of the numbers below n, one after another

unfoldable ups : ℕ → (ℕ → List ℕ) → List ℕ
ups zero g = []
ups (suc n) g = ups n g ++ g n

ups_same : (n : ℕ) (g h : ℕ → List ℕ) → ((x : ℕ) → x < n → g x ≡ h x) → ups n g ≡ ups n h
unfolding ups
ups_same zero g h e = refl
ups_same (suc n) g h e = rw (ups_same n g h (λ x l. e x (omega arith)), e n (omega arith))

ups_none : (n : ℕ) (g : ℕ → List ℕ) → ((x : ℕ) → x < n → g x ≡ []) → ups n g ≡ []
unfolding ups
ups_none zero g e = refl
ups_none (suc n) g e = rw (ups_none n g (λ x l. e x (omega arith)), e n (omega arith))

ups_one : (g : ℕ → List ℕ) → ups 1 g ≡ g 0
unfolding ups
ups_one g = refl

ups_split : (d e : ℕ) (g : ℕ → List ℕ) → ups (d + e) g ≡ ups d g ++ ups e (λ x. g (d + x))
unfolding ups
ups_split d zero g = (let z : d + 0 ≡ d = omega arith in ap (λ (n : ℕ). ups n g) z) ∙ sym (append-nil (ups d g))
ups_split d (suc e) g =
    let z : d + suc e ≡ suc (d + e) = omega arith in
    rw (z, ups_split d e g) (append_assoc (ups d g) (ups e (λ x. g (d + x))) (g (d + e)))

ups_steps : (step n : ℕ) (g : ℕ → List ℕ) → ups (step * n) g ≡ ups n (λ x. ups step (λ y. g (step * x + y)))
unfolding ups
ups_steps step zero g = let z : step * 0 ≡ 0 = omega arith in rw z
ups_steps step (suc n) g =
    let z : step * suc n ≡ step * n + step = omega arith in
    rw (z, ups_split (step * n) step g, ups_steps step n g)

pub texts_append : {A : Type 0} (t : A → List ℕ) (xs ys : List A) → texts t (xs ++ ys) ≡ texts t xs ++ texts t ys
unfolding texts
texts_append t [] ys = refl
texts_append t (x ∷ xs) ys = rw (texts_append t xs ys, append_assoc)

ups_collect : {A : Type 0} (n : ℕ) (p : ℕ → Bool) (f : ℕ → A) (t : A → List ℕ) → ups n (λ x. pick (p x) (t (f x)) []) ≡ texts t (collect n p f)
unfolding ups texts collect
ups_collect zero p f t = refl
ups_collect (suc n) p f t = rw (ups_collect n p f t, texts_append t (collect n p f) (pick (p n) (f n ∷ []) [])) (ap (λ (l : List ℕ). texts t (collect n p f) ++ l) (go (p n)))
  where
    go : (b : Bool) → pick b (t (f n)) [] ≡ texts t (pick b (f n ∷ []) [])
    go true = sym (append-nil (t (f n)))
    go false = refl

-- ---- the line of a slot

abbrev slot_line : List ℕ → ℕ → List ℕ
slot_line m k = line k (get m k)

lines_are : (m : List ℕ) (n : ℕ) → lines_to format m n ≡ ups n (slot_line m)
unfolding lines_to ups
lines_are m zero = refl
lines_are m (suc n) = rw (lines_are m n)

-- no record begins here
slot_inner : (m : List ℕ) (k : ℕ) → mark_at k ≡ other → slot_line m k ≡ []
unfolding get words width form line
slot_inner m k e = rw (ap (λ (t : List ℕ). line k t) (go (there m k)))
  where
    go : (t : Bool) → pick t (words m k (width (mark_at k))) [] ≡ []
    go true = rw e
    go false = refl

slot_line_lem : (m : List ℕ) (k w : ℕ) (q : Mark) → mark_at k ≡ q → width q ≡ suc w → slot_line m k ≡ pick (there m k) (line_of q k (words m k (suc w))) []
unfolding get words line
slot_line_lem m k w q e f = rw (e, f) (go (there m k))
  where
    go : (t : Bool) → line k (pick t (words m k (suc w)) []) ≡ pick t (line_of q k (words m k (suc w))) []
    go true = rw e
    go false = refl

-- the record of a slot, told by its numbers
slot_record : (m : List ℕ) (k w : ℕ) (q : Mark) (v : List ℕ) → mark_at k ≡ q → width q ≡ suc w → keys_at q k ++ map (λ (x : ℕ). x - 1) (words m k (suc w)) ≡ v
    → slot_line m k ≡ pick (there m k) (record_text q v) []
unfolding line_of record_text
slot_record m k w q v e f g = slot_line_lem m k w q e f ∙ ap (λ (l : List ℕ). pick (there m k) ((form q).first ∷ (form q).second ∷ fields_text (form q).below l) []) g

at_inner : (t x : ℕ) → t < 6 → 1 ≤ x → x < 3 → mark_at (2 + 3 * t + x) ≡ other
unfolding mark_at
at_inner t x h a b =
    let e : (2 + 3 * t + x - 2) % 3 ≡ x = omega arith in
    rw (le-ltb (2 + 3 * t + x) 1 (omega arith), le-ltb (2 + 3 * t + x) 2 (omega arith), lt-ltb (2 + 3 * t + x) 20 (omega arith), e, ne_eqb x 0 (omega arith))

at_to : (e : ℕ) → mark_at (100 + 31 * e + 1) ≡ other
unfolding mark_in_edge
at_to e = in_edge e 1 (omega arith)

at_from : (e : ℕ) → mark_at (100 + 31 * e) ≡ ed
unfolding mark_in_edge
at_from e = let z : 100 + 31 * e ≡ 100 + 31 * e + 0 = omega arith in ap mark_at z ∙ in_edge e 0 (omega arith)

pub lowered_raised : (v : ℕ) → raised (lowered v) ≡ v
unfolding lowered raised
lowered_raised = raised_of time_most

pub lowered_over : (v : ℕ) → over (lowered v) ≡ v - time_most
unfolding lowered
lowered_over = over_of time_most

pub lowered_under : (v : ℕ) → under (lowered v) ≡ time_most - v
unfolding lowered
lowered_under = under_of time_most

-- nothing there, nothing under it
beneath : (t : Bool) (x y : List ℕ) → (t ≡ false → y ≡ []) → pick t x [] ++ y ≡ pick t (x ++ y) []
beneath true x y f = refl
beneath false x y f = f refl

module _ (m : List ℕ) where
  -- the lines of d slots from a on
  unfoldable area : ℕ → ℕ → List ℕ
  area a d = ups d (λ x. slot_line m (a + x))

  area_split : (a d e : ℕ) → area a (d + e) ≡ area a d ++ area (a + d) e
  unfolding area
  area_split a d e =
      ups_split d e (λ x. slot_line m (a + x))
      ∙ ap (λ (l : List ℕ). ups d (λ x. slot_line m (a + x)) ++ l) (ups_same e (λ x. slot_line m (a + (d + x))) (λ x. slot_line m (a + d + x)) (λ x h. let z : a + (d + x) ≡ a + d + x = omega arith in ap (slot_line m) z))

  area_one : (a : ℕ) → area a 1 ≡ slot_line m a
  unfolding area
  area_one a = ups_one (λ x. slot_line m (a + x)) ∙ (let z : a + 0 ≡ a = omega arith in ap (slot_line m) z)

  area_steps : (a step n : ℕ) → area a (step * n) ≡ ups n (λ x. area (a + step * x) step)
  unfolding area
  area_steps a step n =
      ups_steps step n (λ x. slot_line m (a + x))
      ∙ ups_same n (λ x. ups step (λ y. slot_line m (a + (step * x + y)))) (λ x. ups step (λ y. slot_line m (a + step * x + y)))
      (λ x h. ups_same step (λ y. slot_line m (a + (step * x + y))) (λ y. slot_line m (a + step * x + y)) (λ y l. let z : a + (step * x + y) ≡ a + step * x + y = omega arith in ap (slot_line m) z))

  area_same : (a d : ℕ) (h : ℕ → List ℕ) → ((x : ℕ) → x < d → slot_line m (a + x) ≡ h x) → area a d ≡ ups d h
  unfolding area
  area_same a d h e = ups_same d (λ x. slot_line m (a + x)) h e

  area_none : (a d : ℕ) → ((x : ℕ) → x < d → slot_line m (a + x) ≡ []) → area a d ≡ []
  unfolding area
  area_none a d e = ups_none d (λ x. slot_line m (a + x)) e

  -- ---- tasks
  task_line : (t : ℕ) → t < 6 → area (2 + 3 * t) 3 ≡ pick (there m (2 + 3 * t)) (task_text (task_in m (2 + 3 * t))) []
  unfolding task_text task_in words keys_at width form
  task_line t h =
      let z₁ : suc (2 + 3 * t) ≡ 2 + 3 * t + 1 = omega arith in
      let z₂ : suc (suc (2 + 3 * t)) ≡ 2 + 3 * t + 2 = omega arith in
      area_split (2 + 3 * t) 1 2
      ∙ rw (area_none (2 + 3 * t + 1) 2 (λ x l. slot_inner m (2 + 3 * t + 1 + x) (let y : 2 + 3 * t + 1 + x ≡ 2 + 3 * t + (1 + x) = omega arith in ap mark_at y ∙ at_inner t (1 + x) h (omega arith) (omega arith))), append-nil, area_one)
      (slot_record m (2 + 3 * t) 2 tk _ (at_task t h) refl (rw (z₂, z₁)))

  task_lines : area 2 18 ≡ texts task_text (decode m).tasks
  unfolding decode
  task_lines =
      area_steps 2 3 6 ∙ ups_same 6 (λ x. area (2 + 3 * x) 3) (λ t. pick (there m (2 + 3 * t)) (task_text (task_in m (2 + 3 * t))) []) (λ t h. task_line t h)
      ∙ ups_collect 6 (λ t. there m (2 + 3 * t)) (λ t. task_in m (2 + 3 * t)) task_text

  -- ---- locations
  limit_line : (l x : ℕ) → l < 16 → x < 4
      → slot_line m (20 + 5 * l + 1 + x) ≡ pick (there m (20 + 5 * l + 1 + x)) (limit_text (record { clock = 1 + x; most = get_or m (20 + 5 * l + 1 + x) 0 - 1 })) []
  unfolding limit_text words keys_at width form
  limit_line l x h a =
      let z : 20 + 5 * l + 1 + x ≡ 20 + 5 * l + (1 + x) = omega arith in
      let k : (20 + 5 * l + 1 + x - 20) % 5 ≡ 1 + x = omega arith in
      slot_record m (20 + 5 * l + 1 + x) 0 iv _ (ap mark_at z ∙ at_limit l (1 + x) h (omega arith) (omega arith)) refl (rw k)

  limit_lines : (l : ℕ) → l < 16 → area (20 + 5 * l + 1) 4 ≡ texts limit_text (limits_in m (20 + 5 * l))
  unfolding limits_in
  limit_lines l h =
      area_same (20 + 5 * l + 1) 4 (λ x. pick (there m (20 + 5 * l + 1 + x)) (limit_text (record { clock = 1 + x; most = get_or m (20 + 5 * l + 1 + x) 0 - 1 })) []) (λ x a. limit_line l x h a)
      ∙ ups_collect 4 (λ x. there m (20 + 5 * l + 1 + x)) (λ x. record { clock = 1 + x; most = get_or m (20 + 5 * l + 1 + x) 0 - 1 }) limit_text

  -- ---- edges
  bound_line : (e x : ℕ) → x < 25
      → slot_line m (100 + 31 * e + 2 + x) ≡ pick (there m (100 + 31 * e + 2 + x)) (bound_text (record { i = x / 5; j = x % 5; c = lowered (get_or m (100 + 31 * e + 2 + x) 0 - 1) })) []
  unfolding bound_text words keys_at width form
  bound_line e x a =
      let z : 100 + 31 * e + 2 + x ≡ 100 + 31 * e + (2 + x) = omega arith in
      let k : (100 + 31 * e + 2 + x - 100) % 31 - 2 ≡ x = omega arith in
      slot_record m (100 + 31 * e + 2 + x) 0 gu _ (ap mark_at z ∙ in_edge e (2 + x) (omega arith) ∙ guard_in_lem (2 + x) (omega arith) (omega arith)) refl (rw (k, lowered_raised))

  bound_lines : (e : ℕ) → area (100 + 31 * e + 2) 25 ≡ texts bound_text (guard_in m (100 + 31 * e))
  unfolding guard_in
  bound_lines e =
      area_same (100 + 31 * e + 2) 25 (λ x. pick (there m (100 + 31 * e + 2 + x)) (bound_text (record { i = x / 5; j = x % 5; c = lowered (get_or m (100 + 31 * e + 2 + x) 0 - 1) })) []) (λ x a. bound_line e x a)
      ∙ ups_collect 25 (λ x. there m (100 + 31 * e + 2 + x)) (λ x. record { i = x / 5; j = x % 5; c = lowered (get_or m (100 + 31 * e + 2 + x) 0 - 1) }) bound_text

last_line : 69 ∷ 78 ∷ 10 ∷ [] ≡ record_text en []
unfolding record_text form fields_text
last_line = refl

module _ (m : List ℕ) (p : Proper format lawful m) where
  reset_line : (e x : ℕ) → e < 32 → x < 4 → slot_line m (100 + 31 * e + 27 + x) ≡ pick (there m (100 + 31 * e + 27 + x)) (reset_text (1 + x)) []
  unfolding reset_text words keys_at width form
  reset_line e x h a =
      let z : 100 + 31 * e + 27 + x ≡ 100 + 31 * e + (27 + x) = omega arith in
      slot_record m (100 + 31 * e + 27 + x) 0 rs _ (ap mark_at z ∙ in_edge e (27 + x) (omega arith) ∙ reset_in_lem (27 + x) (omega arith)) refl refl
      ∙ go (there m (100 + 31 * e + 27 + x)) refl
    where
      go : (t : Bool) → there m (100 + 31 * e + 27 + x) ≡ t → pick t (record_text rs ((get_or m (100 + 31 * e + 27 + x) 0 - 1) ∷ [])) [] ≡ pick t (record_text rs ((1 + x) ∷ [])) []
      go true b =
          let z : 100 + 31 * e + 27 + x ≡ 100 + 31 * e + (27 + x) = omega arith in
          let v = reset_value m p e x h a (rw z at (ltb-true 0 (get_or m (100 + 31 * e + 27 + x) 0) b)) in
          let y : get_or m (100 + 31 * e + 27 + x) 0 - 1 ≡ 1 + x = rw z (omega arith) in
          rw y
      go false b = refl

  reset_lines : (e : ℕ) → e < 32 → area m (100 + 31 * e + 27) 4 ≡ texts reset_text (resets_in m (100 + 31 * e))
  unfolding resets_in
  reset_lines e h =
      area_same m (100 + 31 * e + 27) 4 (λ x. pick (there m (100 + 31 * e + 27 + x)) (reset_text (1 + x)) []) (λ x a. reset_line e x h a)
      ∙ ups_collect 4 (λ x. there m (100 + 31 * e + 27 + x)) (λ x. 1 + x) reset_text

  empty : (k : ℕ) (g : List ℕ) → slot_line m k ≡ pick (there m k) g [] → (0 < get_or m k 0 → ⊥) → slot_line m k ≡ []
  empty k g e n = rw (le-ltb 0 (get_or m k 0) (omega arith)) at e

  location_line : (l : ℕ) → l < 16 → area m (20 + 5 * l) 5 ≡ pick (there m (20 + 5 * l)) (location_text (location_in m (20 + 5 * l))) []
  unfolding location_text location_in words keys_at width form
  location_line l h =
      area_split m (20 + 5 * l) 1 4
      ∙ rw (area_one m (20 + 5 * l), slot_record m (20 + 5 * l) 0 lo ((get_or m (20 + 5 * l) 0 - 1) ∷ []) (at_location l h) refl refl, limit_lines m l h)
      (beneath (there m (20 + 5 * l)) (record_text lo ((get_or m (20 + 5 * l) 0 - 1) ∷ [])) (texts limit_text (limits_in m (20 + 5 * l)))
      (λ f. sym (limit_lines m l h) ∙ area_none m (20 + 5 * l + 1) 4 (λ x a. empty (20 + 5 * l + 1 + x) _ (limit_line m l x h a)
      (λ b.
      let z : 20 + 5 * l + 1 + x ≡ 20 + 5 * l + (1 + x) = omega arith in
      let c = location_there m p l (1 + x) h (omega arith) (omega arith) (rw z at b) in
      let d = ltb-false 0 (get_or m (20 + 5 * l) 0) f in
      omega arith))))

  location_lines : area m 20 80 ≡ texts location_text (decode m).locations
  unfolding decode
  location_lines =
      area_steps m 20 5 16 ∙ ups_same 16 (λ x. area m (20 + 5 * x) 5) (λ l. pick (there m (20 + 5 * l)) (location_text (location_in m (20 + 5 * l))) []) (λ l h. location_line l h)
      ∙ ups_collect 16 (λ l. there m (20 + 5 * l)) (λ l. location_in m (20 + 5 * l)) location_text

  -- what stands under an edge that is not there
  no_edge : (e : ℕ) → e < 32 → there m (100 + 31 * e) ≡ false → texts bound_text (guard_in m (100 + 31 * e)) ++ texts reset_text (resets_in m (100 + 31 * e)) ≡ []
  no_edge e h f =
      rw (
        sym (bound_lines m e) ∙ area_none m (100 + 31 * e + 2) 25 (λ x a. empty (100 + 31 * e + 2 + x) _ (bound_line m e x a)
            (λ b.
            let z : 100 + 31 * e + 2 + x ≡ 100 + 31 * e + (2 + x) = omega arith in
            let c = guard_there m p e (2 + x) h (omega arith) (omega arith) (rw z at b) in
            let d = ltb-false 0 (get_or m (100 + 31 * e) 0) f in
            omega arith)),
        sym (reset_lines e h) ∙ area_none m (100 + 31 * e + 27) 4 (λ x a. empty (100 + 31 * e + 27 + x) _ (reset_line e x h a)
            (λ b.
            let z : 100 + 31 * e + 27 + x ≡ 100 + 31 * e + (27 + x) = omega arith in
            let c = reset_there m p e (27 + x) h (omega arith) (omega arith) (rw z at b) in
            let d = ltb-false 0 (get_or m (100 + 31 * e) 0) f in
            omega arith)),
      )

  edge_line : (e : ℕ) → e < 32 → area m (100 + 31 * e) 31 ≡ pick (there m (100 + 31 * e)) (edge_text (edge_in m (100 + 31 * e))) []
  unfolding edge_text edge_in words keys_at width form
  edge_line e h =
      let z₁ : suc (100 + 31 * e) ≡ 100 + 31 * e + 1 = omega arith in
      let z₂ : 100 + 31 * e + 1 + 1 ≡ 100 + 31 * e + 2 = omega arith in
      let z₃ : 100 + 31 * e + 2 + 25 ≡ 100 + 31 * e + 27 = omega arith in
      let tail : area m (100 + 31 * e + 1) 30 ≡ texts bound_text (guard_in m (100 + 31 * e)) ++ texts reset_text (resets_in m (100 + 31 * e)) =
      area_split m (100 + 31 * e + 1) 1 29 ∙ rw (area_one m (100 + 31 * e + 1), slot_inner m (100 + 31 * e + 1) (at_to e), z₂, area_split m (100 + 31 * e + 2) 25 4, z₃, bound_lines m e, reset_lines e h) in
      area_split m (100 + 31 * e) 1 30
      ∙ rw (area_one m (100 + 31 * e), slot_record m (100 + 31 * e) 1 ed ((get_or m (100 + 31 * e) 0 - 1) ∷ (get_or m (100 + 31 * e + 1) 0 - 1) ∷ []) (at_from e) refl (rw z₁), tail)
      (beneath (there m (100 + 31 * e)) (record_text ed ((get_or m (100 + 31 * e) 0 - 1) ∷ (get_or m (100 + 31 * e + 1) 0 - 1) ∷ []))
      (texts bound_text (guard_in m (100 + 31 * e)) ++ texts reset_text (resets_in m (100 + 31 * e))) (no_edge e h))

  edge_lines : area m 100 992 ≡ texts edge_text (decode m).edges
  unfolding decode
  edge_lines =
      area_steps m 100 31 32 ∙ ups_same 32 (λ x. area m (100 + 31 * x) 31) (λ e. pick (there m (100 + 31 * e)) (edge_text (edge_in m (100 + 31 * e))) []) (λ e h. edge_line e h)
      ∙ ups_collect 32 (λ e. there m (100 + 31 * e)) (λ e. edge_in m (100 + 31 * e)) edge_text

  policy_line : slot_line m 0 ≡ record_text po (policy_number (decode m).policy ∷ [])
  unfolding decode words keys_at width form mark_at policy_number
  policy_line =
      slot_record m 0 0 po ((get_or m 0 0 - 1) ∷ []) refl refl refl
      ∙ rw (lt-ltb 0 (get_or m 0 0) (policy_there m p)) (ap (λ (x : ℕ). record_text po (x ∷ [])) number)
    where
      number : get_or m 0 0 - 1 ≡ policy_number (policy_of (get_or m 0 0 - 1))
      number = let r = policy_is m p in sym (policy_number_lem (get_or m 0 0 - 1) (omega arith) (omega arith))

  clocks_line : slot_line m 1 ≡ record_text ck ((decode m).clocks ∷ [])
  unfolding decode words keys_at width form mark_at
  clocks_line =
      slot_record m 1 0 ck ((get_or m 1 0 - 1) ∷ []) refl refl refl ∙ rw (lt-ltb 0 (get_or m 1 0) (clocks_there m p))

  all_lines : lines_to format m size ≡ area m 0 1092
  unfolding area
  all_lines = lines_are m 1092 ∙ ups_same 1092 (slot_line m) (λ x. slot_line m (0 + x)) (λ x h. let z : x ≡ 0 + x = omega arith in ap (slot_line m) z)

  -- what a proper table is written as is the text of its model
  pub text_is : write format m ≡ model_text (decode m)
  unfolding write model_text
  text_is =
      rw (
        all_lines,
        area_split m 0 1 1091,
        area_split m 1 1 1090,
        area_split m 2 18 1072,
        area_split m 20 80 992,
        area_one m 0,
        area_one m 1,
        policy_line,
        clocks_line,
        task_lines m,
        location_lines,
        edge_lines,
        last_line,
      ) (simp append_assoc)

-- two proper tables with the same model are the same
pub decode_one : (m n : List ℕ) → Proper format lawful m → Proper format lawful n → decode m ≡ decode n → m ≡ n
decode_one m n p q e =
    let t : write format m ≡ write format n = text_is m p ∙ ap model_text e ∙ sym (text_is n q) in
    let r : ◌≡◌ {A = Answer (List ℕ)} (done m) (done n) = sym (model_write_read m p) ∙ ap (read format) t ∙ model_write_read n q in
    cc
