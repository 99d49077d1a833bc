-- Rows written one after another.
-- Assumes nothing.
use Prim.Native.Nat.{ℕ, ◌+◌, ◌-◌, ◌/◌, ◌%◌, ◌≤◌, ◌<◌}
use mathlib.Core.Path.{◌≡◌, refl, sym, ◌∙◌, ap, subst}
use mathlib.Core.Bool.{Bool, true}
use mathlib.Core.List.{List, [], ◌∷◌, ◌++◌, append_assoc, map}
use native.Mathlib.Omega.{arith}
use lib.Dec.{ltb}
use lib.ListN.{length, get_or, take, drop, length-append}
use lib.Seq.{drop-drop}
use Rattle.std.proofs.lemmas.List.Edits.{sets-eq}
use borrow.Author.Tests.{lt-ltb, le-ltb}
use Rattle.meaning.specs.Text.Choice.{pick}
use Rattle.meaning.specs.Text.Lines.{fields_text}
use Rattle.meaning.specs.Text.ModelText.{texts}
use Rattle.meaning.specs.Text.ModelTable.{there}
use Rattle.meaning.specs.Text.ModelReader.{words}
use Rattle.meaning.specs.Text.ProposalTable.{zone_slot, order_slot, bounds_slot, pool_start, start_in, end_in, order_in, bounds_in, claims_in, zone_in, decode}
use Rattle.meaning.specs.Text.ProposalText.{order_text, bound_text, claims_text, zone_text, proposal_text, end_text}
use Rattle.lines.specs.Put.{Put}
use Rattle.lines.proofs.Laws.Putting.{put_length, put_nothing, put_then}
use Rattle.zone_table.specs.Kept.{field_text, kept_bound}
use Rattle.zone_table.proofs.RowLaws.{numbers_texts, row, row_none, row_more, row_room, task_row, bound_row, claim_row, zone_row, tasks_all, bounds_all, claims_all, zones_all}
use Rattle.zone_table.proofs.LengthLaws.{bound_text_lem}

-- what is written is what it is written as
pub put_as : {b : List ℕ} {at : ℕ} {b' : List ℕ} {r : ℕ} (xs ys : List ℕ) → xs ≡ ys → Put b at xs b' r → Put b at ys b' r
put_as {b} {at} {b'} {r} xs ys e p = subst (λ (zs : List ℕ). Put b at zs b' r) e p

-- bytes copied over those from `at` on
pub put_copied : (b : List ℕ) (at : ℕ) (xs : List ℕ) → at + length xs ≤ length b → Put b at xs (take at b ++ (xs ++ drop (length xs) (drop at b))) (at + length xs)
put_copied b at xs h = record { next = refl; text = rw (drop-drop (length xs) at b) (sym (sets-eq xs b at h ∙ append_assoc (take at b) xs (drop (at + length xs) b))) }

-- what stands where a cell has something
pub there_is : (v : ℕ) (xs : List ℕ) → 0 < v → pick (ltb 0 v) xs [] ≡ xs
there_is v xs h = rw (lt-ltb 0 v h)

pub there_not : (v : ℕ) (xs : List ℕ) → v ≤ 0 → pick (ltb 0 v) xs [] ≡ []
there_not v xs h = rw (le-ltb 0 v h)

-- room for the first of two, and then for the second
pub room_front : (b : List ℕ) (at : ℕ) (xs ys : List ℕ) → at + length (xs ++ ys) ≤ length b → at + length xs ≤ length b
room_front b at xs ys h = omega (arith, length-append xs ys)

pub room_next : (b : List ℕ) (at : ℕ) (xs ys c : List ℕ) (i : ℕ) → Put b at xs c i → at + length (xs ++ ys) ≤ length b → i + length ys ≤ length c
room_next b at xs ys c i p h = omega (arith, p.next, put_length b at xs c i p, length-append xs ys)

-- ---- one more of a row

module _ {A : Type 0} (g : A → List ℕ) (p : ℕ → Bool) (f : ℕ → A) where
  pub put_none : (b : List ℕ) (at : ℕ) → Put b at (row g p f 0) b at
  put_none b at = put_as [] (row g p f 0) (sym (row_none g p f)) (put_nothing b at)

  pub put_more : (b : List ℕ) (at : ℕ) (c d : List ℕ) (k l n : ℕ) → Put b at (row g p f n) c k → Put c k (pick (p n) (g (f n)) []) d l → Put b at (row g p f (n + 1)) d l
  put_more b at c d k l n x y =
      put_as (row g p f n ++ pick (p n) (g (f n)) []) (row g p f (n + 1)) (sym (row_more g p f n)) (put_then b at (row g p f n) (pick (p n) (g (f n)) []) c d k l x y)

  pub room_more : (b : List ℕ) (at : ℕ) (c xs : List ℕ) (k n N : ℕ) → Put b at (row g p f n) c k → length c ≡ length b → n < N → xs ≡ row g p f N → at + length xs ≤ length b
      → k + length (pick (p n) (g (f n)) []) ≤ length c
  room_more b at c xs k n N x e h q l = omega (arith, x.next, row_room g p f n N h, ap length q)

-- ---- the lines

module _ (t : List ℕ) where
  pub tasks_put_none : (k : ℕ) (b : List ℕ) (at : ℕ) → Put b at (task_row t k 0) b at
  tasks_put_none k b at = put_none field_text (λ x. there t (order_slot k + x)) (λ x. get_or t (order_slot k + x) 0 - 1) b at

  pub tasks_put : (k : ℕ) (b : List ℕ) (at : ℕ) (c d : List ℕ) (i l x v : ℕ) → v ≡ get_or t (order_slot k + x) 0 → Put b at (task_row t k x) c i
      → Put c i (pick (ltb 0 v) (field_text (v - 1)) []) d l → Put b at (task_row t k (x + 1)) d l
  tasks_put k b at c d i l x v e p q =
      put_more field_text (λ x. there t (order_slot k + x)) (λ x. get_or t (order_slot k + x) 0 - 1) b at c d i l x p
      (subst (λ (w : ℕ). Put c i (pick (ltb 0 w) (field_text (w - 1)) []) d l) e q)

  pub tasks_room : (k : ℕ) (b : List ℕ) (at : ℕ) (c : List ℕ) (i x v : ℕ) → v ≡ get_or t (order_slot k + x) 0 → Put b at (task_row t k x) c i → length c ≡ length b → x < 6
      → at + length (texts field_text (order_in t k)) ≤ length b → i + length (pick (ltb 0 v) (field_text (v - 1)) []) ≤ length c
  tasks_room k b at c i x v e p q h l =
      subst (λ (w : ℕ). i + length (pick (ltb 0 w) (field_text (w - 1)) []) ≤ length c) (sym e)
      (room_more field_text (λ x. there t (order_slot k + x)) (λ x. get_or t (order_slot k + x) 0 - 1) b at c (texts field_text (order_in t k)) i x 6 p q h (tasks_all t k) l)

  pub tasks_put_all : (k : ℕ) (b : List ℕ) (at : ℕ) (c : List ℕ) (i x : ℕ) → x ≡ 6 → Put b at (task_row t k x) c i → Put b at (texts field_text (order_in t k)) c i
  tasks_put_all k b at c i x e p = put_as (task_row t k x) (texts field_text (order_in t k)) (ap (task_row t k) e ∙ sym (tasks_all t k)) p

  pub bounds_put_all : (k : ℕ) (b : List ℕ) (at : ℕ) (c : List ℕ) (i x : ℕ) → x ≡ 289 → Put b at (bound_row t k x) c i → Put b at (texts bound_text (bounds_in t k)) c i
  bounds_put_all k b at c i x e p = put_as (bound_row t k x) (texts bound_text (bounds_in t k)) (ap (bound_row t k) e ∙ sym (bounds_all t k)) p

  pub claims_put_all : (from n : ℕ) (b : List ℕ) (at : ℕ) (c : List ℕ) (i x : ℕ) → x ≡ n → Put b at (claim_row t from x) c i → Put b at (texts field_text (map (λ (x : ℕ). x - 1) (words t (pool_start + from) n))) c i
  claims_put_all from n b at c i x e p =
      put_as (claim_row t from x) (texts field_text (map (λ (x : ℕ). x - 1) (words t (pool_start + from) n))) (ap (claim_row t from) e ∙ sym (claims_all t from n)) p

  pub bounds_put_none : (k : ℕ) (b : List ℕ) (at : ℕ) → Put b at (bound_row t k 0) b at
  bounds_put_none k b at = put_none bound_text (λ x. there t (bounds_slot k + x)) (λ x. kept_bound (x / 17) (x % 17) (get_or t (bounds_slot k + x) 0 - 1)) b at

  pub bounds_put : (k : ℕ) (b : List ℕ) (at : ℕ) (c d : List ℕ) (i l x v : ℕ) → v ≡ get_or t (bounds_slot k + x) 0 → Put b at (bound_row t k x) c i
      → Put c i (pick (ltb 0 v) (bound_text (kept_bound (x / 17) (x % 17) (v - 1))) []) d l → Put b at (bound_row t k (x + 1)) d l
  bounds_put k b at c d i l x v e p q =
      put_more bound_text (λ x. there t (bounds_slot k + x)) (λ x. kept_bound (x / 17) (x % 17) (get_or t (bounds_slot k + x) 0 - 1)) b at c d i l x p
      (subst (λ (w : ℕ). Put c i (pick (ltb 0 w) (bound_text (kept_bound (x / 17) (x % 17) (w - 1))) []) d l) e q)

  pub bounds_room : (k : ℕ) (b : List ℕ) (at : ℕ) (c : List ℕ) (i x v : ℕ) → v ≡ get_or t (bounds_slot k + x) 0 → Put b at (bound_row t k x) c i → length c ≡ length b → x < 289
      → at + length (texts bound_text (bounds_in t k)) ≤ length b → i + length (pick (ltb 0 v) (bound_text (kept_bound (x / 17) (x % 17) (v - 1))) []) ≤ length c
  bounds_room k b at c i x v e p q h l =
      subst (λ (w : ℕ). i + length (pick (ltb 0 w) (bound_text (kept_bound (x / 17) (x % 17) (w - 1))) []) ≤ length c) (sym e)
      (room_more bound_text (λ x. there t (bounds_slot k + x)) (λ x. kept_bound (x / 17) (x % 17) (get_or t (bounds_slot k + x) 0 - 1)) b at c (texts bound_text (bounds_in t k)) i x 289 p q h (bounds_all t k) l)

  pub claims_put_none : (from : ℕ) (b : List ℕ) (at : ℕ) → Put b at (claim_row t from 0) b at
  claims_put_none from b at = put_none field_text (λ x. true) (λ x. get_or t (pool_start + from + x) 0 - 1) b at

  pub claims_put : (from : ℕ) (b : List ℕ) (at : ℕ) (c d : List ℕ) (i l x v w : ℕ) → v ≡ w - 1 → w ≡ get_or t (pool_start + from + x) 0 → Put b at (claim_row t from x) c i → Put c i (field_text v) d l
      → Put b at (claim_row t from (x + 1)) d l
  claims_put from b at c d i l x v w e f p q =
      put_more field_text (λ x. true) (λ x. get_or t (pool_start + from + x) 0 - 1) b at c d i l x p (subst (λ (y : ℕ). Put c i (field_text y) d l) (e ∙ ap (λ (y : ℕ). y - 1) f) q)

  pub claims_room : (from n : ℕ) (b : List ℕ) (at : ℕ) (c : List ℕ) (i x v w : ℕ) → v ≡ w - 1 → w ≡ get_or t (pool_start + from + x) 0 → Put b at (claim_row t from x) c i → length c ≡ length b → x < n
      → at + length (texts field_text (map (λ (x : ℕ). x - 1) (words t (pool_start + from) n))) ≤ length b → i + length (field_text v) ≤ length c
  claims_room from n b at c i x v w e f p q h l =
      subst (λ (y : ℕ). i + length (field_text y) ≤ length c) (sym (e ∙ ap (λ (y : ℕ). y - 1) f))
      (room_more field_text (λ x. true) (λ x. get_or t (pool_start + from + x) 0 - 1) b at c (texts field_text (map (λ (x : ℕ). x - 1) (words t (pool_start + from) n))) i x n p q h (claims_all t from n) l)

  pub zones_put_none : (b : List ℕ) → Put b 0 (zone_row t 0) b 0
  zones_put_none b = put_none zone_text (λ x. there t (zone_slot x)) (zone_in t) b 0

  pub zones_put : (b c d : List ℕ) (i l k : ℕ) → Put b 0 (zone_row t k) c i → Put c i (pick (there t (zone_slot k)) (zone_text (zone_in t k)) []) d l → Put b 0 (zone_row t (k + 1)) d l
  zones_put b c d i l k p q = put_more zone_text (λ x. there t (zone_slot x)) (zone_in t) b 0 c d i l k p q

  text_is : proposal_text (decode t) ≡ zone_row t 48 ++ end_text
  unfolding proposal_text
  text_is = ap (λ (xs : List ℕ). xs ++ end_text) (zones_all t)

  pub zones_room : (b c : List ℕ) (i k : ℕ) → Put b 0 (zone_row t k) c i → length c ≡ length b → k < 48 → length (proposal_text (decode t)) ≤ length b
      → i + length (pick (there t (zone_slot k)) (zone_text (zone_in t k)) []) ≤ length c
  zones_room b c i k p q h l =
      room_more zone_text (λ x. there t (zone_slot x)) (zone_in t) b 0 c (zone_row t 48) i k 48 p q h refl (omega (arith, ap length text_is, length-append (zone_row t 48) end_text))

  pub end_room : (b c : List ℕ) (i k : ℕ) → Put b 0 (zone_row t k) c i → length c ≡ length b → k ≡ 48 → length (proposal_text (decode t)) ≤ length b → i + 3 ≤ length c
  end_room b c i k p q h l = omega (arith, p.next, ap length text_is, length-append (zone_row t 48) end_text, ap (λ (j : ℕ). length (zone_row t j)) h)

  pub end_put : (b c d : List ℕ) (i l k : ℕ) → k ≡ 48 → Put b 0 (zone_row t k) c i → Put c i end_text d l → Put b 0 (proposal_text (decode t)) d l
  end_put b c d i l k h p q =
      put_as (zone_row t 48 ++ end_text) (proposal_text (decode t)) (sym text_is)
      (put_then b 0 (zone_row t 48) end_text c d i l (subst (λ (n : ℕ). Put b 0 (zone_row t n) c i) h p) q)

-- ---- the pieces of a line

pub order_text_lem : (l : ℕ) (o : List ℕ) → order_text l o ≡ (90 ∷ 78 ∷ []) ++ (field_text l ++ (texts field_text o ++ 10 ∷ []))
unfolding order_text texts
order_text_lem l o = ap (λ (xs : List ℕ). 90 ∷ 78 ∷ xs) (numbers_texts (l ∷ o) ∙ append_assoc (field_text l) (texts field_text o) (10 ∷ []))

pub claims_text_lem : (cs : List ℕ) → claims_text cs ≡ (71 ∷ 79 ∷ []) ++ (texts field_text cs ++ 10 ∷ [])
unfolding claims_text
claims_text_lem cs = ap (λ (xs : List ℕ). 71 ∷ 79 ∷ xs) (numbers_texts cs)

pub bound_fields : (i j v : ℕ) → bound_text (kept_bound i j v) ≡ (66 ∷ 68 ∷ []) ++ fields_text (0 ∷ 0 ∷ 32000 ∷ []) (i ∷ j ∷ v ∷ [])
bound_fields i j v = bound_text_lem i j v

pub bound_put : (b c d : List ℕ) (at i j v k l : ℕ) → 0 < v → Put b at (66 ∷ 68 ∷ []) c k → Put c k (fields_text (0 ∷ 0 ∷ 32000 ∷ []) (i ∷ j ∷ (v - 1) ∷ [])) d l
    → Put b at (pick (ltb 0 v) (bound_text (kept_bound i j (v - 1))) []) d l
bound_put b c d at i j v k l h p q =
    put_as _ (pick (ltb 0 v) (bound_text (kept_bound i j (v - 1))) []) (sym (there_is v (bound_text (kept_bound i j (v - 1))) h ∙ bound_fields i j (v - 1)))
    (put_then b at (66 ∷ 68 ∷ []) (fields_text (0 ∷ 0 ∷ 32000 ∷ []) (i ∷ j ∷ (v - 1) ∷ [])) c d k l p q)

pub bound_length_is : (i j v : ℕ) → 0 < v
    → length (pick (ltb 0 v) (bound_text (kept_bound i j (v - 1))) []) ≡ 2 + length (fields_text (0 ∷ 0 ∷ 32000 ∷ []) (i ∷ j ∷ (v - 1) ∷ []))
bound_length_is i j v h = ap length (there_is v (bound_text (kept_bound i j (v - 1))) h ∙ bound_fields i j (v - 1)) ∙ omega arith

-- ---- the line of a zone's location and tasks: its pieces, one after the other

module _ (b : List ℕ) (at l : ℕ) (o : List ℕ) (h : at + length (order_text l o) ≤ length b) where
  abbrev tasks : List ℕ
  tasks = texts field_text o

  order_room : at + length ((90 ∷ 78 ∷ []) ++ (field_text l ++ (tasks ++ 10 ∷ []))) ≤ length b
  order_room = subst (λ (xs : List ℕ). at + length xs ≤ length b) (order_text_lem l o) h

  pub order_mark : at + 2 ≤ length b
  order_mark = room_front b at (90 ∷ 78 ∷ []) (field_text l ++ (tasks ++ 10 ∷ [])) order_room

  module _ (c : List ℕ) (i : ℕ) (p : Put b at (90 ∷ 78 ∷ []) c i) where
    order_room₁ : i + length (field_text l ++ (tasks ++ 10 ∷ [])) ≤ length c
    order_room₁ = room_next b at (90 ∷ 78 ∷ []) (field_text l ++ (tasks ++ 10 ∷ [])) c i p order_room

    pub order_field : i + length (field_text l) ≤ length c
    order_field = room_front c i (field_text l) (tasks ++ 10 ∷ []) order_room₁

    module _ (d : List ℕ) (j : ℕ) (q : Put c i (field_text l) d j) where
      order_room₂ : j + length (tasks ++ 10 ∷ []) ≤ length d
      order_room₂ = room_next c i (field_text l) (tasks ++ 10 ∷ []) d j q order_room₁

      pub order_tasks : j + length tasks ≤ length d
      order_tasks = room_front d j tasks (10 ∷ []) order_room₂

      module _ (e : List ℕ) (k : ℕ) (r : Put d j tasks e k) where
        pub order_feed : k + 1 ≤ length e
        order_feed = room_next d j tasks (10 ∷ []) e k r order_room₂

        pub order_put : (f : List ℕ) (n : ℕ) → Put e k (10 ∷ []) f n → Put b at (order_text l o) f n
        order_put f n y =
            put_as ((90 ∷ 78 ∷ []) ++ (field_text l ++ (tasks ++ 10 ∷ []))) (order_text l o) (sym (order_text_lem l o))
            (put_then b at (90 ∷ 78 ∷ []) (field_text l ++ (tasks ++ 10 ∷ [])) c f i n p
            (put_then c i (field_text l) (tasks ++ 10 ∷ []) d f j n q (put_then d j tasks (10 ∷ []) e f k n r y)))

-- ---- the line of its claims

module _ (b : List ℕ) (at : ℕ) (cs : List ℕ) (h : at + length (claims_text cs) ≤ length b) where
  abbrev numbers : List ℕ
  numbers = texts field_text cs

  claims_line : at + length ((71 ∷ 79 ∷ []) ++ (numbers ++ 10 ∷ [])) ≤ length b
  claims_line = subst (λ (xs : List ℕ). at + length xs ≤ length b) (claims_text_lem cs) h

  pub claims_mark : at + 2 ≤ length b
  claims_mark = room_front b at (71 ∷ 79 ∷ []) (numbers ++ 10 ∷ []) claims_line

  module _ (c : List ℕ) (i : ℕ) (p : Put b at (71 ∷ 79 ∷ []) c i) where
    claims_line₁ : i + length (numbers ++ 10 ∷ []) ≤ length c
    claims_line₁ = room_next b at (71 ∷ 79 ∷ []) (numbers ++ 10 ∷ []) c i p claims_line

    pub claims_numbers : i + length numbers ≤ length c
    claims_numbers = room_front c i numbers (10 ∷ []) claims_line₁

    module _ (d : List ℕ) (j : ℕ) (q : Put c i numbers d j) where
      pub claims_feed : j + 1 ≤ length d
      claims_feed = room_next c i numbers (10 ∷ []) d j q claims_line₁

      pub claims_line_put : (e : List ℕ) (k : ℕ) → Put d j (10 ∷ []) e k → Put b at (claims_text cs) e k
      claims_line_put e k r =
          put_as ((71 ∷ 79 ∷ []) ++ (numbers ++ 10 ∷ [])) (claims_text cs) (sym (claims_text_lem cs))
          (put_then b at (71 ∷ 79 ∷ []) (numbers ++ 10 ∷ []) c e i k p (put_then c i numbers (10 ∷ []) d e j k q r))

-- ---- the lines of a zone

module _ (t b : List ℕ) (at k from n : ℕ) (s : 0 < get_or t (zone_slot k) 0) (e : from ≡ start_in t k) (g : n ≡ end_in t k - start_in t k)
    (h : at + length (pick (there t (zone_slot k)) (zone_text (zone_in t k)) []) ≤ length b) where
  abbrev order : List ℕ
  order = order_text (get_or t (zone_slot k) 0 - 1) (order_in t k)

  abbrev bounds : List ℕ
  bounds = texts bound_text (bounds_in t k)

  abbrev claims : List ℕ
  claims = claims_text (map (λ (x : ℕ). x - 1) (words t (pool_start + from) n))

  zone_text_lem : pick (there t (zone_slot k)) (zone_text (zone_in t k)) [] ≡ order ++ (bounds ++ claims)
  unfolding zone_text zone_in claims_in
  zone_text_lem = there_is (get_or t (zone_slot k) 0) (zone_text (zone_in t k)) s ∙ rw (g, e)

  zone_room : at + length (order ++ (bounds ++ claims)) ≤ length b
  zone_room = subst (λ (xs : List ℕ). at + length xs ≤ length b) zone_text_lem h

  pub zone_order : at + length order ≤ length b
  zone_order = room_front b at order (bounds ++ claims) zone_room

  module _ (c : List ℕ) (i : ℕ) (p : Put b at order c i) where
    zone_room₁ : i + length (bounds ++ claims) ≤ length c
    zone_room₁ = room_next b at order (bounds ++ claims) c i p zone_room

    pub zone_bounds : i + length bounds ≤ length c
    zone_bounds = room_front c i bounds claims zone_room₁

    module _ (d : List ℕ) (j : ℕ) (q : Put c i bounds d j) where
      pub zone_claims : j + length claims ≤ length d
      zone_claims = room_next c i bounds claims d j q zone_room₁

      pub zone_put : (u : List ℕ) (l : ℕ) → Put d j claims u l → Put b at (pick (there t (zone_slot k)) (zone_text (zone_in t k)) []) u l
      zone_put u l r =
          put_as (order ++ (bounds ++ claims)) (pick (there t (zone_slot k)) (zone_text (zone_in t k)) []) (sym zone_text_lem)
          (put_then b at order (bounds ++ claims) c u i l p (put_then c i bounds claims d u j l q r))
