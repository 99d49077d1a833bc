-- A table whose parts are sound holds a proposal that a text can say, and is the table of it.
-- Assumes nothing.
use Prim.Native.Nat.{ℕ, zero, suc, ◌+◌, ◌-◌, ◌*◌, ◌/◌, ◌%◌, ◌≤◌, ◌<◌}
use mathlib.Core.Path.{◌≡◌, refl, sym, ◌∙◌, ap, subst}
use mathlib.Core.Bool.{Bool, true, false}
use mathlib.Core.List.{List, [], ◌∷◌, ◌++◌, map}
use mathlib.Core.Option.{some}
use native.Mathlib.Omega.{arith}
use lib.Dec.{ltb}
use lib.ListN.{length, get_or, get_elem?, take, length-append}
use lib.Seq.{ext_get_or}
use borrow.Author.Tests.{lt-ltb, le-ltb, eq-eqb, ne_eqb}
use Rattle.meaning.specs.Model.{Bound, Model}
use Rattle.meaning.specs.Text.Choice.{pick}
use Rattle.meaning.specs.Text.Lines.{raised_by}
use Rattle.meaning.specs.Text.Ranges.{bound_most}
use Rattle.meaning.specs.Text.ModelTable.{there, collect, keyed}
use Rattle.meaning.specs.Text.ModelReader.{words}
use Rattle.meaning.specs.Text.RightModel.{Each}
use Rattle.meaning.specs.Text.RightProposal.{RightZone, RightProposal}
use Rattle.meaning.specs.Text.ProposalTable.{size, pool_start, pool_size, start_in, end_in, order_in, bounds_in, claims_in, zone_in, decode, encode, all_claims, cell_of, head_cell, bound_cell}
use Rattle.meaning.specs.Zones.Zone.{Zone}
use Rattle.meaning.proofs.Text.BoundLaws.{raised_of}
use Rattle.meaning.proofs.Text.Choices.{by_lt, by_eq}
use Rattle.meaning.proofs.Text.Collects.{each_collect}
use Rattle.meaning.proofs.Text.Keyed.{nth_none}
use Rattle.meaning.proofs.Text.ProposalEncode.{encode_length, head_cell_lem, bound_cell_lem, pool_cell}
use Rattle.zone_table.specs.Kept.{kept_bound}
use Rattle.zone_table.specs.Sound.{zones_in, queue_in, TaskFits, Sound}
use Rattle.zone_table.proofs.Dense.{dense, dense_length, dense_nth, dense_take, collect_dense, words_length, words_nth, claims_front}

-- ---- the cell of a key that is told by its place

module _ {A : Type 0} (key val : A → ℕ) where
  keyed_left : (xs ys : List A) (k : ℕ) → keyed key val ys k ≡ 0 → keyed key val (xs ++ ys) k ≡ keyed key val xs k
  unfolding keyed
  keyed_left [] ys k e = e
  keyed_left (x ∷ xs) ys k e =
      by_eq (key x) k (λ q. rw (eq-eqb (key x) k q)) (λ q. rw (ne_eqb (key x) k q) (keyed_left xs ys k e))

  keyed_right : (xs ys : List A) (k : ℕ) → Each (λ (x : A). key x ≡ k → ⊥) xs → keyed key val (xs ++ ys) k ≡ keyed key val ys k
  unfolding keyed
  keyed_right [] ys k e = refl
  keyed_right (x ∷ xs) ys k e = rw (ne_eqb (key x) k e.0) (keyed_right xs ys k e.1)

  module _ (p : ℕ → Bool) (f : ℕ → A) (own : (x : ℕ) → key (f x) ≡ x) where
    one_here : (b : Bool) (k : ℕ) → keyed key val (pick b (f k ∷ []) []) k ≡ pick b (suc (val (f k))) 0
    unfolding keyed
    one_here true k = rw (eq-eqb (key (f k)) k (own k))
    one_here false k = refl

    one_other : (b : Bool) (n k : ℕ) → (n ≡ k → ⊥) → keyed key val (pick b (f n ∷ []) []) k ≡ 0
    unfolding keyed
    one_other true n k h = rw (ne_eqb (key (f n)) k (λ q. h (sym (own n) ∙ q)))
    one_other false n k h = refl

    keyed_at : (n k : ℕ) → k < n → keyed key val (collect n p f) k ≡ pick (p k) (suc (val (f k))) 0
    unfolding collect
    keyed_at zero k h = absurd (omega arith)
    keyed_at (suc n) k h =
        by_lt k n
        (λ l. keyed_left (collect n p f) (pick (p n) (f n ∷ []) []) k (one_other (p n) n k (λ e. omega arith)) ∙ keyed_at n k l)
        (λ l.
        let z : k ≡ n = omega arith in
        rw z (keyed_right (collect n p f) (pick (p n) (f n ∷ []) []) n (each_collect (λ (x : A). key x ≡ n → ⊥) n p f (λ x i e q. omega (arith, own x))) ∙ one_here (p n) n))

-- ---- how many

collect_few : {A : Type 0} (n : ℕ) (p : ℕ → Bool) (f : ℕ → A) → length (collect n p f) ≤ n
unfolding collect
collect_few zero p f = omega arith
collect_few (suc n) p f = omega (arith, length-append (collect n p f) (pick (p n) (f n ∷ []) []), collect_few n p f, go (p n))
  where
    go : (b : Bool) → length (pick b (f n ∷ []) []) ≤ 1
    go true = omega arith
    go false = omega arith

pub zones_few : (t : List ℕ) → zones_in t ≤ 48
unfolding decode
zones_few t = collect_few 48 (λ x. there t (8 * x)) (zone_in t)

pub queue_few : (t : List ℕ) (k : ℕ) → queue_in t k ≤ 6
unfolding order_in
queue_few t k = collect_few 6 (λ x. there t (8 * k + 1 + x)) (λ x. get_or t (8 * k + 1 + x) 0 - 1)

-- ---- a queue without a gap

module _ (m : Model) (t : List ℕ) (k : ℕ) where
  pub order_dense : ((x : ℕ) → x < 6 → TaskFits (length m.tasks) (queue_in t k) x (get_or t (8 * k + 1 + x) 0))
      → order_in t k ≡ dense (queue_in t k) (λ x. get_or t (8 * k + 1 + x) 0 - 1)
  unfolding order_in
  order_dense h =
      collect_dense 6 (queue_in t k) (λ x. there t (8 * k + 1 + x)) (λ x. get_or t (8 * k + 1 + x) 0 - 1) (queue_few t k)
      (λ x l. lt-ltb 0 (get_or t (8 * k + 1 + x) 0) (let w = (h x (let q = queue_few t k in omega arith)).inside l in omega arith))
      (λ x i l. le-ltb 0 (get_or t (8 * k + 1 + x) 0) (let w = (h x i).behind l in omega arith))

  pub order_cell : ((x : ℕ) → x < 6 → TaskFits (length m.tasks) (queue_in t k) x (get_or t (8 * k + 1 + x) 0)) → (x : ℕ) → x < 6
      → cell_of (get_elem? (order_in t k) x) ≡ get_or t (8 * k + 1 + x) 0
  order_cell h x l =
      by_lt x (queue_in t k)
      (λ i.
      ap cell_of (ap (λ (o : List ℕ). get_elem? o x) (order_dense h) ∙ dense_nth (queue_in t k) (λ x. get_or t (8 * k + 1 + x) 0 - 1) x i)
      ∙ (let w = (h x l).inside i in omega arith))
      (λ i. ap cell_of (nth_none (order_in t k) x i) ∙ (let w = (h x l).behind i in omega arith))

-- ---- the whole table

module _ (m : Model) (t : List ℕ) (s : Sound m t) where
  abbrev n : ℕ
  n = zones_in t

  head_none : (k r : ℕ) → k < 48 → r < 8 → n ≤ k → get_or t (8 * k + r) 0 ≡ 0
  head_none k r h l i =
      let z : 8 * k + r ≡ 8 * n + (8 * (k - n) + r) = omega arith in
      ap (λ (x : ℕ). get_or t x 0) z ∙ s.unused.heads (8 * (k - n) + r) (omega arith)

  bound_none : (k r : ℕ) → k < 48 → r < 289 → n ≤ k → get_or t (384 + 289 * k + r) 0 ≡ 0
  bound_none k r h l i =
      let z : 384 + 289 * k + r ≡ 384 + 289 * n + (289 * (k - n) + r) = omega arith in
      ap (λ (x : ℕ). get_or t x 0) z ∙ s.unused.bounds (289 * (k - n) + r) (omega arith)

  pub zones_dense : (decode t).zones ≡ dense n (zone_in t)
  unfolding decode
  zones_dense =
      collect_dense 48 n (λ x. there t (8 * x)) (zone_in t) (zones_few t)
      (λ k l. lt-ltb 0 (get_or t (8 * k) 0) (s.zones k l).order.here)
      (λ k i l.
      let y : 8 * k + 0 ≡ 8 * k = omega arith in
      le-ltb 0 (get_or t (8 * k) 0) (let w = rw y at (head_none k 0 i (omega arith) l) in omega arith))

  zone_nth : (k : ℕ) → k < n → get_elem? (decode t).zones k ≡ some (zone_in t k)
  zone_nth k h = ap (λ (zs : List Zone). get_elem? zs k) zones_dense ∙ dense_nth n (zone_in t) k h

  ends_rise : (k j : ℕ) → k ≤ j → j < n → end_in t k ≤ end_in t j
  ends_rise k zero h l = let z : k ≡ 0 = omega arith in rw z (omega arith)
  ends_rise k (suc j) h l =
      by_lt k (suc j)
      (λ i. omega (arith, ends_rise k j (omega arith) (omega arith), (s.zones (suc j) l).claims.ends))
      (λ i. let z : k ≡ suc j = omega arith in rw z (omega arith))

  abbrev total : ℕ
  total = end_in t (n - 1)

  start_last : start_in t n ≡ total
  start_last = go n s.some
    where
      go : (i : ℕ) → 1 ≤ i → start_in t i ≡ end_in t (i - 1)
      go zero h = absurd (omega arith)
      go (suc i) h = let z : suc i - 1 ≡ i = omega arith in rw z

  pub claims_all : all_claims (decode t).zones ≡ map (λ (x : ℕ). x - 1) (words t pool_start total)
  claims_all =
      ap all_claims zones_dense ∙ claims_front t n (λ j h. (s.zones j h).claims.ends) ∙ ap (λ (e : ℕ). map (λ (x : ℕ). x - 1) (words t pool_start e)) start_last

  -- ---- the proposal

  each_words : (P : ℕ → Type 0) (k c : ℕ) → ((x : ℕ) → x < c → P (get_or t (k + x) 0 - 1)) → Each P (map (λ (x : ℕ). x - 1) (words t k c))
  unfolding words
  each_words P k zero h = tt
  each_words P k (suc c) h =
      let y : k + 0 ≡ k = omega arith in (
        subst (λ (i : ℕ). P (get_or t i 0 - 1)) y (h 0 (omega arith)),
        each_words P (suc k) c (λ x l. let z : k + suc x ≡ suc k + x = omega arith in subst (λ (i : ℕ). P (get_or t i 0 - 1)) z (h (suc x) (omega arith))),
      )

  right_zone : (k : ℕ) → k < n → RightZone m n (zone_in t k)
  unfolding zone_in claims_in
  right_zone k h =
      let z = s.zones k h in
      let c = z.claims in
      record {
        order = z.order.order;
        bounds = z.bounds;
        claims = record {
          many = words_length t (pool_start + start_in t k) (end_in t k - start_in t k) ∙ c.many;
          zeros = c.zeros;
          each = each_words (λ (v : ℕ). v ≤ n) (pool_start + start_in t k) (end_in t k - start_in t k) (λ x l.
              let y : pool_start + start_in t k + x ≡ pool_start + (start_in t k + x) = omega arith in
              let w = (s.pool.claims (start_in t k + x) (let e = ends_rise k (n - 1) (omega arith) (omega arith) in omega arith)).high in
              rw y (omega arith));
        };
      }

  pub sound_right : RightProposal m (decode t)
  sound_right = record {
    low = s.some;
    high = zones_few t;
    zones = rw zones_dense (subst (λ (c : ℕ). Each (RightZone m c) (dense n (zone_in t))) (sym (dense_length n (zone_in t))) (each_collect (RightZone m n) n (λ x. true) (zone_in t) (λ k h e. right_zone k h)));
  }

  -- ---- its table

  head_same : (k r : ℕ) → k < 48 → r < 8 → get_or (encode (decode t)) (8 * k + r) 0 ≡ get_or t (8 * k + r) 0
  unfolding head_cell zone_in
  head_same k r h l =
      head_cell_lem (decode t) k r h l
      ∙ by_lt k n
      (λ i. rw (zone_nth k i) (by_eq r 0
      (λ e.
      let y : 8 * k + 0 ≡ 8 * k = omega arith in
      rw (e, y) (let w = (s.zones k i).order.here in omega arith))
      (λ e. rw (ne_eqb r 0 e) (by_lt r 7
      (λ j.
      let y : 8 * k + 1 + (r - 1) ≡ 8 * k + r = omega arith in
      rw (lt-ltb r 7 j) (order_cell m t k (s.zones k i).order.queue (r - 1) (omega arith) ∙ ap (λ (x : ℕ). get_or t x 0) y))
      (λ j.
      let y : r ≡ 7 = omega arith in
      rw (le-ltb r 7 j, y)
      (ap (λ (zs : List Zone). length (all_claims (take (suc k) zs))) zones_dense
      ∙ ap (λ (zs : List Zone). length (all_claims zs)) (dense_take n (zone_in t) (suc k) (omega arith))
      ∙ ap length (claims_front t (suc k) (λ x g. (s.zones x (omega arith)).claims.ends))
      ∙ words_length t pool_start (end_in t k)))))))
      (λ i. rw (nth_none (decode t).zones k i) (sym (head_none k r h l i)))

  bound_same : (k r : ℕ) → k < 48 → r < 289 → get_or (encode (decode t)) (384 + 289 * k + r) 0 ≡ get_or t (384 + 289 * k + r) 0
  unfolding bound_cell zone_in bounds_in
  bound_same k r h l =
      bound_cell_lem (decode t) k r h l
      ∙ by_lt k n
      (λ i. rw (zone_nth k i)
      (keyed_at (λ (b : Bound). 17 * b.i + b.j) (λ (b : Bound). raised_by bound_most b.c) (λ x. there t (384 + 289 * k + x))
      (λ x. kept_bound (x / 17) (x % 17) (get_or t (384 + 289 * k + x) 0 - 1)) (λ x. omega arith) 289 r l
      ∙ rw (raised_of bound_most (get_or t (384 + 289 * k + r) 0 - 1)) (back (get_or t (384 + 289 * k + r) 0))))
      (λ i. rw (nth_none (decode t).zones k i) (sym (bound_none k r h l i)))
    where
      back : (v : ℕ) → pick (ltb 0 v) (suc (v - 1)) 0 ≡ v
      back v = by_lt 0 v (λ g. rw (lt-ltb 0 v g) (omega arith)) (λ g. rw (le-ltb 0 v g) (omega arith))

  pool_same : (x : ℕ) → x < pool_size → get_or (encode (decode t)) (pool_start + x) 0 ≡ get_or t (pool_start + x) 0
  pool_same x h =
      pool_cell (decode t) x h
      ∙ ap (λ (cs : List ℕ). cell_of (get_elem? cs x)) claims_all
      ∙ by_lt x total
      (λ l. ap cell_of (words_nth t pool_start total x l) ∙ (let w = (s.pool.claims x l).low in omega arith))
      (λ l.
      let y : pool_start + x ≡ pool_start + total + (x - total) = omega arith in
      ap cell_of (nth_none (map (λ (x : ℕ). x - 1) (words t pool_start total)) x (omega (arith, words_length t pool_start total)))
      ∙ sym (ap (λ (i : ℕ). get_or t i 0) y ∙ s.pool.rest (x - total) (omega arith)))

  cell_same : (i : ℕ) → i < size → get_or (encode (decode t)) i 0 ≡ get_or t i 0
  cell_same i h =
      by_lt i 384
      (λ l. let z : 8 * (i / 8) + i % 8 ≡ i = omega arith in rw z at (head_same (i / 8) (i % 8) (omega arith) (omega arith)))
      (λ l. by_lt i 14256
      (λ j.
      let z : 384 + 289 * ((i - 384) / 289) + (i - 384) % 289 ≡ i = omega arith in
      rw z at (bound_same ((i - 384) / 289) ((i - 384) % 289) (omega arith) (omega arith)))
      (λ j. let z : 14256 + (i - 14256) ≡ i = omega arith in rw z at (pool_same (i - 14256) (omega arith))))

  pub sound_encode : encode (decode t) ≡ t
  sound_encode =
      ext_get_or 0 (encode (decode t)) t (encode_length (decode t) ∙ sym s.long) (λ i h. cell_same i (omega (arith, encode_length (decode t))))
