-- How long the lines of a proposal's text are.
-- Assumes nothing.
use Prim.Native.Nat.{ℕ, suc, ◌+◌, ◌-◌, ◌/◌, ◌%◌, ◌≤◌, ◌<◌}
use mathlib.Core.Path.{◌≡◌, sym, ◌∙◌, ap}
use mathlib.Core.Bool.{true}
use mathlib.Core.List.{List, [], ◌∷◌, ◌++◌, map}
use native.Mathlib.Omega.{arith}
use lib.Dec.{ltb}
use lib.ListN.{length, get_or, length-append}
use Rattle.meaning.specs.Text.Choice.{pick}
use Rattle.meaning.specs.Text.Ranges.{bound_most}
use Rattle.meaning.specs.Text.Numerals.{dec, dec_f, num_text}
use Rattle.meaning.specs.Text.Lines.{kept_text, fields_text}
use Rattle.meaning.specs.Text.ModelText.{texts}
use Rattle.meaning.specs.Text.ProposalText.{order_text, bound_text, claims_text, zone_text, proposal_text, end_text}
use Rattle.meaning.specs.Text.ModelTable.{there}
use Rattle.meaning.specs.Text.ModelReader.{words}
use Rattle.meaning.specs.Text.ProposalTable.{zone_slot, order_slot, bounds_slot, pool_start, start_in, end_in, order_in, bounds_in, claims_in, zone_in, decode}
use Rattle.meaning.specs.Zones.Zone.{Zone, Proposal}
use Rattle.meaning.proofs.Text.BoundLaws.{raised_of}
use Rattle.meaning.proofs.Text.WriteLaws.{dec_f_last, length_then}
use Rattle.meaning.proofs.Text.Choices.{by_lt}
use borrow.Author.Tests.{lt-ltb, le-ltb}
use Rattle.zone_table.specs.Kept.{field_text, kept_bound}
use Rattle.zone_table.proofs.RowLaws.{numbers_texts, length_more, row_none, task_row, bound_row, claim_row, zone_row, tasks_all, bounds_all, claims_all, zones_all}

-- ---- a number

some_left : (k : ℕ) → suc k ≡ 0 → ⊥
some_left k e = omega arith

one : (k v : ℕ) → v < 10 → length (dec_f (suc k) v) ≡ 1
one k v h = ap length (dec_f_last (suc k) v (some_left k) h)

more : (k v n : ℕ) → 10 ≤ v → length (dec_f k (v / 10)) ≡ n → length (dec_f (suc k) v) ≡ n + 1
more k v n h e = let z : suc k - 1 ≡ k = omega arith in length_then (suc k) v (some_left k) h ∙ rw (z, e)

pub dec_one : (v : ℕ) → v < 10 → length (dec v) ≡ 1
unfolding dec
dec_one v h = one 5 v h

pub dec_two : (v : ℕ) → 10 ≤ v → v < 100 → length (dec v) ≡ 2
unfolding dec
dec_two v a h = more 5 v 1 a (one 4 (v / 10) (omega arith))

pub dec_three : (v : ℕ) → 100 ≤ v → v < 1000 → length (dec v) ≡ 3
unfolding dec
dec_three v a h = more 5 v 2 (omega arith) (more 4 (v / 10) 1 (omega arith) (one 3 (v / 10 / 10) (omega arith)))

pub dec_four : (v : ℕ) → 1000 ≤ v → v < 10000 → length (dec v) ≡ 4
unfolding dec
dec_four v a h = more 5 v 3 (omega arith) (more 4 (v / 10) 2 (omega arith) (more 3 (v / 10 / 10) 1 (omega arith) (one 2 (v / 10 / 10 / 10) (omega arith))))

pub dec_five : (v : ℕ) → 10000 ≤ v → v < 100000 → length (dec v) ≡ 5
unfolding dec
dec_five v a h =
    more 5 v 4 (omega arith) (more 4 (v / 10) 3 (omega arith) (more 3 (v / 10 / 10) 2 (omega arith)
    (more 2 (v / 10 / 10 / 10) 1 (omega arith) (one 1 (v / 10 / 10 / 10 / 10) (omega arith)))))

last : (v : ℕ) → length (dec_f 1 v) ≡ 1
unfolding dec_f
last v = by_lt v 10 (λ h. rw (lt-ltb v 10 h)) (λ h. rw (le-ltb v 10 h))

pub dec_six : (v : ℕ) → 100000 ≤ v → length (dec v) ≡ 6
unfolding dec
dec_six v h =
    more 5 v 5 (omega arith) (more 4 (v / 10) 4 (omega arith) (more 3 (v / 10 / 10) 3 (omega arith)
    (more 2 (v / 10 / 10 / 10) 2 (omega arith) (more 1 (v / 10 / 10 / 10 / 10) 1 (omega arith) (last (v / 10 / 10 / 10 / 10 / 10))))))

pub kept_minus_length : (k v : ℕ) → v < k → length (kept_text k v) ≡ 1 + length (dec (k - v))
unfolding kept_text num_text
kept_minus_length k v h = rw (lt-ltb v k h) (omega arith)

pub kept_plain_length : (k v : ℕ) → k ≤ v → length (kept_text k v) ≡ length (dec (v - k))
unfolding kept_text num_text
kept_plain_length k v h = rw (le-ltb v k h)

-- ---- a line

pub order_length : (l : ℕ) (o : List ℕ) → length (order_text l o) ≡ 4 + length (kept_text 0 l) + length (texts field_text o)
unfolding order_text texts
order_length l o = omega (arith, ap length (numbers_texts (l ∷ o)), length-append (field_text l ++ texts field_text o) (10 ∷ []), length-append (field_text l) (texts field_text o))

pub bound_text_lem : (i j v : ℕ) → bound_text (kept_bound i j v) ≡ 66 ∷ 68 ∷ fields_text (0 ∷ 0 ∷ bound_most ∷ []) (i ∷ j ∷ v ∷ [])
unfolding bound_text
bound_text_lem i j v = rw (raised_of bound_most v)

pub bound_length : (i j v : ℕ) → length (bound_text (kept_bound i j v)) ≡ 6 + length (kept_text 0 i) + length (kept_text 0 j) + length (kept_text bound_most v)
bound_length i j v =
    ap length (bound_text_lem i j v) ∙ (unfold fields_text in
    omega (
      arith,
      length-append (kept_text 0 i) (fields_text (0 ∷ bound_most ∷ []) (j ∷ v ∷ [])),
      length-append (kept_text 0 j) (fields_text (bound_most ∷ []) (v ∷ [])),
      length-append (kept_text bound_most v) (fields_text [] []),
    ))

pub claims_length : (cs : List ℕ) → length (claims_text cs) ≡ 3 + length (texts field_text cs)
unfolding claims_text
claims_length cs = omega (arith, ap length (numbers_texts cs), length-append (texts field_text cs) (10 ∷ []))

pub zone_length : (z : Zone) → length (zone_text z) ≡ length (order_text z.location z.order) + length (texts bound_text z.bounds) + length (claims_text z.claims)
unfolding zone_text
zone_length z =
    omega (
      arith,
      length-append (order_text z.location z.order) (texts bound_text z.bounds ++ claims_text z.claims),
      length-append (texts bound_text z.bounds) (claims_text z.claims),
    )

pub text_length : (p : Proposal) → length (proposal_text p) ≡ length (texts zone_text p.zones) + 3
unfolding proposal_text
text_length p = length-append (texts zone_text p.zones) end_text

-- ---- what stands where a cell has something

pub bound_there : (i j v : ℕ) → 0 < v
    → length (pick (ltb 0 v) (bound_text (kept_bound i j (v - 1))) []) ≡ 6 + length (kept_text 0 i) + length (kept_text 0 j) + length (kept_text bound_most (v - 1))
bound_there i j v h = rw (lt-ltb 0 v h) (bound_length i j (v - 1))

pub not_there : (v : ℕ) (xs : List ℕ) → v ≤ 0 → length (pick (ltb 0 v) xs []) ≡ 0
not_there v xs h = rw (le-ltb 0 v h)

pub is_there_lem : (v : ℕ) (xs : List ℕ) → 0 < v → length (pick (ltb 0 v) xs []) ≡ length xs
is_there_lem v xs h = rw (lt-ltb 0 v h)

module _ (t : List ℕ) where
  pub tasks_step : (k x v r : ℕ) → v ≡ get_or t (order_slot k + x) 0 → r ≡ length (pick (ltb 0 v) (field_text (v - 1)) []) → length (task_row t k (x + 1)) ≡ length (task_row t k x) + r
  tasks_step k x v r e h =
      length_more field_text (λ x. there t (order_slot k + x)) (λ x. get_or t (order_slot k + x) 0 - 1) x
      ∙ ap (λ (y : ℕ). length (task_row t k x) + y) (sym (h ∙ ap (λ (v : ℕ). length (pick (ltb 0 v) (field_text (v - 1)) [])) e))

  pub bounds_step : (k x v r : ℕ) → v ≡ get_or t (bounds_slot k + x) 0 → r ≡ length (pick (ltb 0 v) (bound_text (kept_bound (x / 17) (x % 17) (v - 1))) [])
      → length (bound_row t k (x + 1)) ≡ length (bound_row t k x) + r
  bounds_step k x v r e h =
      length_more bound_text (λ x. there t (bounds_slot k + x)) (λ x. kept_bound (x / 17) (x % 17) (get_or t (bounds_slot k + x) 0 - 1)) x
      ∙ ap (λ (y : ℕ). length (bound_row t k x) + y) (sym (h ∙ ap (λ (v : ℕ). length (pick (ltb 0 v) (bound_text (kept_bound (x / 17) (x % 17) (v - 1))) [])) e))

  pub claims_step : (from x v r : ℕ) → v ≡ get_or t (pool_start + from + x) 0 → r ≡ length (kept_text 0 (v - 1)) → length (claim_row t from (x + 1)) ≡ length (claim_row t from x) + (1 + r)
  claims_step from x v r e h =
      length_more field_text (λ x. true) (λ x. get_or t (pool_start + from + x) 0 - 1) x
      ∙ ap (λ (y : ℕ). length (claim_row t from x) + y) (omega (arith, h ∙ ap (λ (v : ℕ). length (kept_text 0 (v - 1))) e))

  pub zones_step : (k r : ℕ) → r ≡ length (pick (there t (zone_slot k)) (zone_text (zone_in t k)) []) → length (zone_row t (k + 1)) ≡ length (zone_row t k) + r
  zones_step k r h = length_more zone_text (λ x. there t (zone_slot x)) (zone_in t) k ∙ ap (λ (y : ℕ). length (zone_row t k) + y) (sym h)

  pub zones_end : length (proposal_text (decode t)) ≡ length (zone_row t 48) + 3
  zones_end = text_length (decode t) ∙ ap (λ (y : List ℕ). length y + 3) (zones_all t)

  -- nothing yet
  pub tasks_none : (k : ℕ) → length (task_row t k 0) ≡ 0
  tasks_none k = ap length (row_none field_text (λ x. there t (order_slot k + x)) (λ x. get_or t (order_slot k + x) 0 - 1))

  pub bounds_none : (k : ℕ) → length (bound_row t k 0) ≡ 0
  bounds_none k = ap length (row_none bound_text (λ x. there t (bounds_slot k + x)) (λ x. kept_bound (x / 17) (x % 17) (get_or t (bounds_slot k + x) 0 - 1)))

  pub claims_none : (from : ℕ) → length (claim_row t from 0) ≡ 0
  claims_none from = ap length (row_none field_text (λ x. true) (λ x. get_or t (pool_start + from + x) 0 - 1))

  pub zones_none : length (zone_row t 0) ≡ 0
  zones_none = ap length (row_none zone_text (λ x. there t (zone_slot x)) (zone_in t))

  -- all of a line
  pub order_end : (k : ℕ) → length (order_text (get_or t (zone_slot k) 0 - 1) (order_in t k)) ≡ 4 + length (kept_text 0 (get_or t (zone_slot k) 0 - 1)) + length (task_row t k 6)
  order_end k = order_length (get_or t (zone_slot k) 0 - 1) (order_in t k) ∙ rw (tasks_all t k)

  pub bounds_end : (k : ℕ) → length (texts bound_text (bounds_in t k)) ≡ length (bound_row t k 289)
  bounds_end k = ap length (bounds_all t k)

  pub claims_end : (from n : ℕ) → length (claims_text (map (λ (x : ℕ). x - 1) (words t (pool_start + from) n))) ≡ 3 + length (claim_row t from n)
  claims_end from n = claims_length (map (λ (x : ℕ). x - 1) (words t (pool_start + from) n)) ∙ rw (claims_all t from n)

  -- the three parts of a zone
  pub zone_parts : (k : ℕ) → length (zone_text (zone_in t k)) ≡ length (order_text (get_or t (zone_slot k) 0 - 1) (order_in t k)) + length (texts bound_text (bounds_in t k))
      + length (claims_text (map (λ (x : ℕ). x - 1) (words t (pool_start + start_in t k) (end_in t k - start_in t k))))
  unfolding zone_in claims_in
  zone_parts k = zone_length (zone_in t k)

  pub zone_sum : (k from n a b d : ℕ) → 0 < get_or t (zone_slot k) 0 → from ≡ start_in t k → n ≡ end_in t k - start_in t k
      → a ≡ length (order_text (get_or t (zone_slot k) 0 - 1) (order_in t k)) → b ≡ length (texts bound_text (bounds_in t k))
      → d ≡ length (claims_text (map (λ (x : ℕ). x - 1) (words t (pool_start + from) n))) → a + b + d ≡ length (pick (there t (zone_slot k)) (zone_text (zone_in t k)) [])
  zone_sum k from n a b d h f e p q r =
      let w = r ∙ ap (λ (y : ℕ). length (claims_text (map (λ (x : ℕ). x - 1) (words t (pool_start + y) n)))) f
      ∙ ap (λ (y : ℕ). length (claims_text (map (λ (x : ℕ). x - 1) (words t (pool_start + start_in t k) y)))) e in
      omega (arith, is_there_lem (get_or t (zone_slot k) 0) (zone_text (zone_in t k)) h, zone_parts k, p, q, w)
