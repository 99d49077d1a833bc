-- Storing a record: the table of what was read, with the record behind it, is the table before with a few cells set.
-- Assumes nothing.
use Prim.Native.Nat.{◌%◌, ◌*◌, ◌+◌, ◌-◌, ◌/◌, ◌<◌, ◌≤◌, suc, zero, ℕ}
use mathlib.Core.List.{List, [], ◌++◌, ◌∷◌, append_assoc, append-nil, map}
use mathlib.Core.Option.{none, some}
use mathlib.Core.Path.{◌∙◌, ◌≡◌, ap, refl, sym}
use native.Mathlib.Omega.{arith}
use lib.Dec.{eqb}
use lib.ListN.{get_or, get_elem?, length, length-append, length-map, length-set, set, take}
use lib.Seq.{ext_get_or, get_or-set_other, get_or-set_same, length-sets, sets, take_all}
use borrow.Author.Tests.{eq-eqb, lt-ltb, ne_eqb}
use Rattle.meaning.proofs.Text.BoundLaws.{key_rising}
use Rattle.meaning.proofs.Text.Choices.{by_eq, by_lt}
use Rattle.meaning.proofs.Text.Keyed.{each_map, each_map₂, nth_none}
use Rattle.meaning.proofs.Text.ModelCells.{sets_in, sets_other}
use Rattle.meaning.proofs.Text.ProposalEncode.{bound_cell_lem, encode_length, head_cell_lem, nth_before, nth_past, pool_cell}
use Rattle.meaning.proofs.Text.ProposalLaws.{Good, Ok}
use Rattle.meaning.specs.Model.{Bound, Model}
use Rattle.meaning.specs.Text.Choice.{pick}
use Rattle.meaning.specs.Text.Lines.{raised_by}
use Rattle.meaning.specs.Text.ModelTable.{keyed}
use Rattle.meaning.specs.Text.ProposalReader.{begun, bound, claims, order, proposal_of, put, whole, with_bound, with_claims}
use Rattle.meaning.specs.Text.ProposalTable.{all_claims, bound_cell, cell_of, encode, head_cell, pool_size, size}
use Rattle.meaning.specs.Text.Ranges.{bound_most}
use Rattle.meaning.specs.Text.RightModel.{Each, RightModel}
use Rattle.meaning.specs.Zones.Variables.{variables}
use Rattle.meaning.specs.Zones.Zone.{Zone, widest}

-- ---- lists

take_before : {A : Type 0} (xs ys : List A) (k : ℕ) → k ≤ length xs → take k (xs ++ ys) ≡ take k xs
take_before [] ys zero h = refl
take_before [] ys (suc k) h = absurd (omega arith)
take_before (x ∷ xs) ys zero h = refl
take_before (x ∷ xs) ys (suc k) h = ap (λ l. x ∷ l) (take_before xs ys k (omega arith))

sucs_at : (l : List ℕ) (x : ℕ) → get_or (map suc l) x 0 ≡ cell_of (get_elem? l x)
sucs_at [] x = refl
sucs_at (y ∷ l) zero = refl
sucs_at (y ∷ l) (suc x) = sucs_at l x

pub claims_more : (zs : List Zone) (y : Zone) → all_claims (zs ++ y ∷ []) ≡ all_claims zs ++ y.claims
claims_more [] y = append-nil y.claims
claims_more (z ∷ zs) y = ap (λ (l : List ℕ). z.claims ++ l) (claims_more zs y) ∙ sym (append_assoc z.claims (all_claims zs) y.claims)

module _ (key val : Bound → ℕ) where
  keyed_other : (bs : List Bound) (b : Bound) (k : ℕ) → (key b ≡ k → ⊥) → keyed key val (bs ++ b ∷ []) k ≡ keyed key val bs k
  unfolding keyed
  keyed_other [] b k n = rw (ne_eqb (key b) k n)
  keyed_other (x ∷ bs) b k n = ap (λ (y : ℕ). pick (eqb (key x) k) (suc (val x)) y) (keyed_other bs b k n)

  keyed_last : (bs : List Bound) (b : Bound) (k : ℕ) → key b ≡ k → Each (λ (x : Bound). key x ≡ k → ⊥) bs → keyed key val (bs ++ b ∷ []) k ≡ suc (val b)
  unfolding keyed
  keyed_last [] b k e n = rw (eq-eqb (key b) k e)
  keyed_last (x ∷ bs) b k e n = rw (ne_eqb (key x) k n.0) (keyed_last bs b k e n.1)

-- ---- the cells, area by area

pub by_cell {ℓ} : {X : Type ℓ} (k : ℕ) → k < size → ((q r : ℕ) → q < 48 → r < 8 → k ≡ 8 * q + r → X) → ((q r : ℕ) → q < 48 → r < 289 → k ≡ 384 + 289 * q + r → X)
    → ((x : ℕ) → x < pool_size → k ≡ 14256 + x → X) → X
by_cell k h heads bounds pool =
    by_lt k 384 (λ l. heads (k / 8) (k % 8) (omega arith) (omega arith) (omega arith))
    (λ l. by_lt k 14256 (λ i. bounds ((k - 384) / 289) ((k - 384) % 289) (omega arith) (omega arith) (omega arith)) (λ i. pool (k - 14256) (omega arith) (omega arith)))

-- the table of these zones
abbrev pub table_of : List Zone → List ℕ
table_of zs = encode (record { zones = zs })

table_long : (zs : List Zone) → length (table_of zs) ≡ size
table_long zs = encode_length (record { zones = zs })

-- behind the zones there is nothing
head_none : (zs : List Zone) (r : ℕ) → length zs < 48 → r < 8 → get_or (table_of zs) (8 * length zs + r) 0 ≡ 0
unfolding head_cell
head_none zs r h l = head_cell_lem (record { zones = zs }) (length zs) r h l ∙ rw (nth_none zs (length zs) (omega arith))

bound_none : (zs : List Zone) (r : ℕ) → length zs < 48 → r < 289 → get_or (table_of zs) (384 + 289 * length zs + r) 0 ≡ 0
unfolding bound_cell
bound_none zs r h l = bound_cell_lem (record { zones = zs }) (length zs) r h l ∙ rw (nth_none zs (length zs) (omega arith))

-- one zone more
module _ (zs : List Zone) (y : Zone) (room : length zs < 48) where
  abbrev longer : List Zone
  longer = zs ++ y ∷ []

  nth_new : get_elem? longer (length zs) ≡ some y
  nth_new = let e : length zs + 0 ≡ length zs = omega arith in rw e at (nth_past zs (y ∷ []) 0)

  nth_after : (q : ℕ) → length zs < q → get_elem? longer q ≡ none
  nth_after q h = nth_none longer q (omega (arith, length-append zs (y ∷ [])))

  head_old : (q r : ℕ) → q < 48 → r < 8 → (q ≡ length zs → ⊥) → get_or (table_of longer) (8 * q + r) 0 ≡ get_or (table_of zs) (8 * q + r) 0
  unfolding head_cell
  head_old q r h l n =
      head_cell_lem (record { zones = longer }) q r h l
      ∙ by_lt q (length zs)
      (λ a. rw (nth_before zs (y ∷ []) q a, take_before zs (y ∷ []) (suc q) a))
      (λ a. rw (nth_after q (omega arith), nth_none zs q (omega arith)))
      ∙ sym (head_cell_lem (record { zones = zs }) q r h l)

  head_new : (r : ℕ) → r < 8 → get_or (table_of longer) (8 * length zs + r) 0 ≡ head_cell (some y) (length (all_claims zs) + length y.claims) r
  head_new r l =
      let e : length (all_claims (take (suc (length zs)) longer)) ≡ length (all_claims zs) + length y.claims =
      ap (λ (x : List Zone). length (all_claims x)) (take_all (suc (length zs)) longer (omega (arith, length-append zs (y ∷ []))))
      ∙ ap length (claims_more zs y) ∙ length-append (all_claims zs) y.claims in
      head_cell_lem (record { zones = longer }) (length zs) r room l ∙ rw (nth_new, e)

  bound_old : (q r : ℕ) → q < 48 → r < 289 → (q ≡ length zs → ⊥) → get_or (table_of longer) (384 + 289 * q + r) 0 ≡ get_or (table_of zs) (384 + 289 * q + r) 0
  unfolding bound_cell
  bound_old q r h l n =
      bound_cell_lem (record { zones = longer }) q r h l
      ∙ by_lt q (length zs) (λ a. rw (nth_before zs (y ∷ []) q a)) (λ a. rw (nth_after q (omega arith), nth_none zs q (omega arith)))
      ∙ sym (bound_cell_lem (record { zones = zs }) q r h l)

  bound_new : (r : ℕ) → r < 289 → get_or (table_of longer) (384 + 289 * length zs + r) 0 ≡ bound_cell (some y) r
  bound_new r l = bound_cell_lem (record { zones = longer }) (length zs) r room l ∙ rw nth_new

  pool_new : (x : ℕ) → x < pool_size → get_or (table_of longer) (14256 + x) 0 ≡ cell_of (get_elem? (all_claims zs ++ y.claims) x)
  pool_new x h = pool_cell (record { zones = longer }) x h ∙ rw (claims_more zs y)

  -- a table with these cells is that of the zones with one more
  pub table_is : (t : List ℕ) → length t ≡ size → ((q r : ℕ) → q < 48 → r < 8 → (q ≡ length zs → ⊥) → get_or t (8 * q + r) 0 ≡ get_or (table_of zs) (8 * q + r) 0)
      → ((r : ℕ) → r < 8 → get_or t (8 * length zs + r) 0 ≡ head_cell (some y) (length (all_claims zs) + length y.claims) r)
      → ((q r : ℕ) → q < 48 → r < 289 → (q ≡ length zs → ⊥) → get_or t (384 + 289 * q + r) 0 ≡ get_or (table_of zs) (384 + 289 * q + r) 0)
      → ((r : ℕ) → r < 289 → get_or t (384 + 289 * length zs + r) 0 ≡ bound_cell (some y) r)
      → ((x : ℕ) → x < pool_size → get_or t (14256 + x) 0 ≡ cell_of (get_elem? (all_claims zs ++ y.claims) x)) → table_of longer ≡ t
  table_is t long old-head own-head old-bounds own-bounds pool =
      ext_get_or 0 (table_of longer) t (table_long longer ∙ sym long)
      (λ k h. by_cell k (omega (arith, table_long longer))
      (λ q r a b e. rw e (by_eq q (length zs) (λ i. rw i (head_new r b ∙ sym (own-head r b))) (λ i. head_old q r a b i ∙ sym (old-head q r a b i))))
      (λ q r a b e. rw e (by_eq q (length zs) (λ i. rw i (bound_new r b ∙ sym (own-bounds r b))) (λ i. bound_old q r a b i ∙ sym (old-bounds q r a b i))))
      (λ x a e. rw e (pool_new x a ∙ sym (pool x a))))

-- ---- ZN

module _ (zs : List Zone) (l : ℕ) (o : List ℕ) (room : length zs < 48) (few : length o ≤ 6) where
  abbrev placed : List ℕ
  placed = set (table_of zs) (8 * length zs) (suc l)

  abbrev queued : List ℕ
  queued = sets placed (8 * length zs + 1) (map suc o)

  abbrev ordered : List ℕ
  ordered = set queued (8 * length zs + 7) (length (all_claims zs))

  queued_long : length queued ≡ size
  queued_long = length-sets placed (8 * length zs + 1) (map suc o) ∙ length-set (table_of zs) (8 * length zs) (suc l) ∙ table_long zs

  -- outside the head nothing changes
  order_rest : (k : ℕ) → ((r : ℕ) → r < 8 → k ≡ 8 * length zs + r → ⊥) → get_or ordered k 0 ≡ get_or (table_of zs) k 0
  order_rest k h =
      get_or-set_other queued (8 * length zs + 7) k (length (all_claims zs)) 0 (λ e. h 7 (omega arith) (omega arith))
      ∙ sets_other (map suc o) placed (8 * length zs + 1) k (λ x a b. h (1 + x) (omega (arith, length-map o suc)) (omega arith))
      ∙ get_or-set_other (table_of zs) (8 * length zs) k (suc l) 0 (λ e. h 0 (omega arith) (omega arith))

  -- the head's own cells
  order_own : (r : ℕ) → r < 8 → get_or ordered (8 * length zs + r) 0 ≡ head_cell (some (widest l o)) (length (all_claims zs) + 0) r
  unfolding head_cell
  order_own r h =
      let n = table_long zs in
      let n₁ = length-set (table_of zs) (8 * length zs) (suc l) in
      let n₂ = queued_long in
      let m = length-map o suc in
      by_eq r 7
      (λ e.
      let z : length (all_claims zs) + 0 ≡ length (all_claims zs) = omega arith in
      rw (e, z) (get_or-set_same queued (8 * length zs + 7) (length (all_claims zs)) 0 (omega arith)))
      (λ e.
      get_or-set_other queued (8 * length zs + 7) (8 * length zs + r) (length (all_claims zs)) 0 (λ q. omega arith)
      ∙ by_eq r 0
      (λ f.
      let z : 8 * length zs + 0 ≡ 8 * length zs = omega arith in
      rw (f, z) (sets_other (map suc o) placed (8 * length zs + 1) (8 * length zs) (λ x a b. omega arith) ∙ get_or-set_same (table_of zs) (8 * length zs) (suc l) 0 (omega arith)))
      (λ f.
      let z : 8 * length zs + r ≡ 8 * length zs + 1 + (r - 1) = omega arith in
      by_lt (r - 1) (length o)
      (λ a. rw (ne_eqb r 0 f, lt-ltb r 7 (omega arith), z) (sets_in (map suc o) placed (8 * length zs + 1) (r - 1) (omega arith) (omega arith) ∙ sucs_at o (r - 1)))
      (λ a. rw (ne_eqb r 0 f, lt-ltb r 7 (omega arith), nth_none o (r - 1) a)
      (sets_other (map suc o) placed (8 * length zs + 1) (8 * length zs + r) (λ x b c. omega arith)
      ∙ get_or-set_other (table_of zs) (8 * length zs) (8 * length zs + r) (suc l) 0 (λ q. omega arith) ∙ head_none zs r room h))))

  -- ZN sets its location, its tasks, and the end of the claims so far
  pub store_order : encode (proposal_of (put (whole zs) (order l o)))
      ≡ set (sets (set (encode (proposal_of (whole zs))) (8 * length zs) (suc l)) (8 * length zs + 1) (map suc o)) (8 * length zs + 7) (length (all_claims zs))
  unfolding put proposal_of bound_cell keyed
  store_order =
      table_is zs (widest l o) room ordered (length-set queued (8 * length zs + 7) (length (all_claims zs)) ∙ queued_long)
      (λ q r a b i. order_rest (8 * q + r) (λ x c d. i (omega arith)))
      order_own
      (λ q r a b i. order_rest (384 + 289 * q + r) (λ x c d. omega arith))
      (λ r b. order_rest (384 + 289 * length zs + r) (λ x c d. omega arith) ∙ bound_none zs r room b)
      (λ x a. order_rest (14256 + x) (λ y c d. omega arith) ∙ pool_cell (record { zones = zs }) x a ∙ ap (λ (c : List ℕ). cell_of (get_elem? c x)) (sym (append-nil (all_claims zs))))

-- ---- BD

module _ (zs : List Zone) (z : Zone) (b : Bound) (room : length zs < 48) (few : 17 * b.i + b.j < 289) (new : Each (λ (x : Bound). 17 * x.i + x.j ≡ 17 * b.i + b.j → ⊥) z.bounds) where
  abbrev key : ℕ
  key = 384 + 289 * length zs + (17 * b.i + b.j)

  abbrev so_far : List ℕ
  so_far = table_of (zs ++ z ∷ [])

  abbrev bounded : List ℕ
  bounded = set so_far key (suc (raised_by bound_most b.c))

  bound_rest : (k : ℕ) → (k ≡ key → ⊥) → get_or bounded k 0 ≡ get_or so_far k 0
  bound_rest k n = get_or-set_other so_far key k (suc (raised_by bound_most b.c)) 0 (λ e. n (omega arith))

  bound_own : (r : ℕ) → r < 289 → get_or bounded (384 + 289 * length zs + r) 0 ≡ bound_cell (some (with_bound z b)) r
  unfolding bound_cell
  bound_own r h =
      by_eq (17 * b.i + b.j) r
      (λ e.
      rw (sym e) (get_or-set_same so_far key (suc (raised_by bound_most b.c)) 0 (omega (arith, table_long (zs ++ z ∷ []))))
      ∙ sym (keyed_last (λ (x : Bound). 17 * x.i + x.j) (λ (x : Bound). raised_by bound_most x.c) z.bounds b r e (each_map z.bounds (λ u v w. v (omega arith)) new)))
      (λ e.
      bound_rest (384 + 289 * length zs + r) (λ f. e (omega arith)) ∙ bound_new zs z room r h
      ∙ sym (keyed_other (λ (x : Bound). 17 * x.i + x.j) (λ (x : Bound). raised_by bound_most x.c) z.bounds b r e))

  bound_table : table_of (zs ++ with_bound z b ∷ []) ≡ bounded
  unfolding head_cell
  bound_table =
      table_is zs (with_bound z b) room bounded (length-set so_far key (suc (raised_by bound_most b.c)) ∙ table_long (zs ++ z ∷ []))
      (λ q r a c n. bound_rest (8 * q + r) (λ d. omega arith) ∙ head_old zs z room q r a c n)
      (λ r c. bound_rest (8 * length zs + r) (λ d. omega arith) ∙ head_new zs z room r c)
      (λ q r a c n. bound_rest (384 + 289 * q + r) (λ d. n (omega arith)) ∙ bound_old zs z room q r a c n)
      bound_own
      (λ x a. bound_rest (14256 + x) (λ d. omega arith) ∙ pool_new zs z room x a)

-- BD sets its cell
pub store_bound : (m : Model) (r : RightModel m) (zs : List Zone) (z : Zone) (b : Bound) → Good m r (begun zs z) → Ok m r (begun zs z) (bound b)
    → encode (proposal_of (put (begun zs z) (bound b))) ≡ set (encode (proposal_of (begun zs z))) (384 + 289 * length zs + (17 * b.i + b.j)) (suc (raised_by bound_most b.c))
unfolding put proposal_of
store_bound m r zs z b g k =
    let few = g.2.few in
    let clocks = r.clocks in
    let i = k.0.i in
    let j = k.0.j in
    bound_table zs z b g.0 (omega arith)
    (each_map₂ z.bounds (λ x u v e. let y = key_rising 17 (variables m z.order - 1) bound_most x b (omega arith) u k.0 v in omega arith) g.3.each k.1)

-- ---- GO

module _ (zs : List Zone) (z : Zone) (c : List ℕ) (room : length zs < 48) (none_yet : z.claims ≡ []) (fits : length (all_claims zs) + length c ≤ pool_size) where
  abbrev due : List ℕ
  due = table_of (zs ++ z ∷ [])

  abbrev pooled : List ℕ
  pooled = sets due (14256 + length (all_claims zs)) (map suc c)

  abbrev ended : List ℕ
  ended = set pooled (8 * length zs + 7) (length (all_claims zs) + length c)

  pooled_long : length pooled ≡ size
  pooled_long = length-sets due (14256 + length (all_claims zs)) (map suc c) ∙ table_long (zs ++ z ∷ [])

  claims_rest : (k : ℕ) → k < 14256 → (k ≡ 8 * length zs + 7 → ⊥) → get_or ended k 0 ≡ get_or due k 0
  claims_rest k h n =
      get_or-set_other pooled (8 * length zs + 7) k (length (all_claims zs) + length c) 0 (λ e. n (omega arith))
      ∙ sets_other (map suc c) due (14256 + length (all_claims zs)) k (λ x a b. omega arith)

  claims_head : (r : ℕ) → r < 8 → get_or ended (8 * length zs + r) 0 ≡ head_cell (some (with_claims z c)) (length (all_claims zs) + length c) r
  unfolding head_cell
  claims_head r h =
      by_eq r 7
      (λ e. rw e (get_or-set_same pooled (8 * length zs + 7) (length (all_claims zs) + length c) 0 (omega (arith, pooled_long))))
      (λ e. claims_rest (8 * length zs + r) (omega arith) (λ f. e (omega arith)) ∙ head_new zs z room r h ∙ rw (lt-ltb r 7 (omega arith)))

  claims_pool : (x : ℕ) → x < pool_size → get_or ended (14256 + x) 0 ≡ cell_of (get_elem? (all_claims zs ++ c) x)
  claims_pool x h =
      get_or-set_other pooled (8 * length zs + 7) (14256 + x) (length (all_claims zs) + length c) 0 (λ e. omega arith)
      ∙ by_lt x (length (all_claims zs))
      (λ a.
      sets_other (map suc c) due (14256 + length (all_claims zs)) (14256 + x) (λ y d e. omega arith) ∙ pool_new zs z room x h
      ∙ rw (nth_before (all_claims zs) z.claims x a, nth_before (all_claims zs) c x a))
      (λ a.
      let e : x ≡ length (all_claims zs) + (x - length (all_claims zs)) = omega arith in
      let n = nth_past (all_claims zs) c (x - length (all_claims zs)) in
      by_lt (x - length (all_claims zs)) (length c)
      (λ d.
      let f : 14256 + x ≡ 14256 + length (all_claims zs) + (x - length (all_claims zs)) = omega arith in
      ap (λ (y : ℕ). get_or pooled y 0) f
      ∙ sets_in (map suc c) due (14256 + length (all_claims zs)) (x - length (all_claims zs)) (omega (arith, length-map c suc)) (omega (arith, length-map c suc, table_long (zs ++ z ∷ [])))
      ∙ sucs_at c (x - length (all_claims zs)) ∙ ap cell_of (sym n) ∙ ap (λ (y : ℕ). cell_of (get_elem? (all_claims zs ++ c) y)) (sym e))
      (λ d.
      sets_other (map suc c) due (14256 + length (all_claims zs)) (14256 + x) (λ y i f. omega (arith, length-map c suc)) ∙ pool_new zs z room x h
      ∙ rw (
        nth_none (all_claims zs ++ z.claims) x (omega (arith, length-append (all_claims zs) z.claims, ap length none_yet)),
        nth_none (all_claims zs ++ c) x (omega (arith, length-append (all_claims zs) c)),
      )))

  -- GO sets its claims in the pool, and their end
  claims_table : table_of (zs ++ with_claims z c ∷ []) ≡ ended
  unfolding bound_cell
  claims_table =
      table_is zs (with_claims z c) room ended (length-set pooled (8 * length zs + 7) (length (all_claims zs) + length c) ∙ pooled_long)
      (λ q r a b n. claims_rest (8 * q + r) (omega arith) (λ e. n (omega arith)) ∙ head_old zs z room q r a b n)
      claims_head
      (λ q r a b n. claims_rest (384 + 289 * q + r) (omega arith) (λ e. omega arith) ∙ bound_old zs z room q r a b n)
      (λ r b. claims_rest (384 + 289 * length zs + r) (omega arith) (λ e. omega arith) ∙ bound_new zs z room r b)
      claims_pool

-- GO sets its claims in the pool, and their end
pub store_claims : (m : Model) (r : RightModel m) (zs : List Zone) (z : Zone) (c : List ℕ) → Good m r (begun zs z) → length (all_claims zs) + length c ≤ pool_size
    → encode (proposal_of (put (begun zs z) (claims c)))
    ≡ set (sets (encode (proposal_of (begun zs z))) (14256 + length (all_claims zs)) (map suc c)) (8 * length zs + 7) (length (all_claims zs) + length c)
unfolding put proposal_of
store_claims m r zs z c g h = claims_table zs z c g.0 g.4 h
