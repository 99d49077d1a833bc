-- The parts of a table that a text gives are sound; so the tables that a text gives are the sound ones whose text is within 65,535 bytes.
-- Assumes nothing.
use Prim.Native.Nat.{ℕ, zero, suc, ◌+◌, ◌-◌, ◌*◌, ◌/◌, ◌%◌, ◌≤◌, ◌<◌}
use mathlib.Core.Path.{◌≡◌, refl, sym, ◌∙◌, ap}
use mathlib.Core.Logic.{◌↔◌}
use mathlib.Core.List.{List, [], ◌∷◌}
use mathlib.Core.Option.{some}
use native.Mathlib.Omega.{arith}
use lib.ListN.{length, get_or, get_elem?, take, length-append}
use borrow.Author.Tests.{lt-ltb, le-ltb}
use Rattle.meaning.specs.Model.{Model}
use Rattle.meaning.specs.Text.Ranges.{text_most}
use Rattle.meaning.specs.Text.ModelTable.{collect, there}
use Rattle.meaning.specs.Text.RightModel.{Each, RightModel}
use Rattle.meaning.specs.Text.RightProposal.{RightZone, RightProposal}
use Rattle.meaning.specs.Text.ProposalReader.{Given}
use Rattle.meaning.specs.Text.ProposalTable.{pool_start, pool_size, start_in, end_in, order_in, zone_in, decode, encode, all_claims, cell_of, head_cell, bound_cell}
use Rattle.meaning.specs.Text.ProposalText.{proposal_text}
use Rattle.meaning.specs.Zones.Zone.{Zone}
use Rattle.meaning.proofs.Text.Choices.{by_lt}
use Rattle.meaning.proofs.Text.Collects.{each_append}
use Rattle.meaning.proofs.Text.Keyed.{each_map, each_nth, nth_in, nth_none}
use Rattle.meaning.proofs.Text.ProposalEncode.{encode_length, head_cell_lem, bound_cell_lem, pool_cell, location_cell_lem, task_cell_lem, end_cell, none_cell}
use Rattle.meaning.proofs.Text.ProposalWhole.{claims_room}
use Rattle.meaning.proofs.Text.ProposalTheorems.{proposal_given_when}
use Rattle.zone_table.specs.Sound.{zones_in, queue_in, TaskFits, SoundOrder, SoundClaims, SoundZone, SoundPool, Unused, Sound}
use Rattle.zone_table.proofs.Dense.{dense, dense_nth, dense_take, collect_dense, claims_more}
use Rattle.zone_table.proofs.SoundGiven.{zones_few, sound_right, sound_encode}

each_claims : (P : ℕ → Type 0) (zs : List Zone) → Each (λ (z : Zone). Each P z.claims) zs → Each P (all_claims zs)
each_claims P [] a = tt
each_claims P (z ∷ zs) a = each_append P z.claims (all_claims zs) a.0 (each_claims P zs a.1)

module _ (m : Model) (t : List ℕ) (w : RightProposal m (decode t)) (room : length (all_claims (decode t).zones) ≤ pool_size) (e : encode (decode t) ≡ t) where
  abbrev zs : List Zone
  zs = (decode t).zones

  abbrev n : ℕ
  n = zones_in t

  at : (i v : ℕ) → get_or (encode (decode t)) i 0 ≡ v → get_or t i 0 ≡ v
  at i v q = ap (λ (l : List ℕ). get_or l i 0) (sym e) ∙ q

  here : (k : ℕ) → k < n → 0 < get_or t (8 * k) 0
  here k h =
      let i = nth_in zs k h in
      let q = at (8 * k) _ (location_cell_lem (decode t) k i.0 (let l = w.high in omega arith) i.1) in
      omega arith

  pub given_dense : zs ≡ dense n (zone_in t)
  unfolding decode
  given_dense =
      collect_dense 48 n (λ x. there t (8 * x)) (zone_in t) (zones_few t)
      (λ k l. lt-ltb 0 (get_or t (8 * k) 0) (here k l))
      (λ k i l. le-ltb 0 (get_or t (8 * k) 0) (let q = at (8 * k) 0 (none_cell (decode t) k i (nth_none zs k l)) in omega arith))

  pub given_nth : (k : ℕ) → k < n → get_elem? zs k ≡ some (zone_in t k)
  given_nth k h = ap (λ (l : List Zone). get_elem? l k) given_dense ∙ dense_nth n (zone_in t) k h

  pub given_zone : (k : ℕ) → k < n → RightZone m n (zone_in t k)
  given_zone k h = each_nth (RightZone m n) zs k (zone_in t k) w.zones (given_nth k h)

  -- ---- the head of a zone

  task_is : (k x : ℕ) → k < n → x < 6 → get_or t (8 * k + 1 + x) 0 ≡ cell_of (get_elem? (order_in t k) x)
  unfolding zone_in
  task_is k x h l = at (8 * k + 1 + x) _ (task_cell_lem (decode t) k (zone_in t k) (let q = w.high in omega arith) (given_nth k h) x l)

  task_fits : (k x : ℕ) → k < n → x < 6 → TaskFits (length m.tasks) (queue_in t k) x (get_or t (8 * k + 1 + x) 0)
  unfolding zone_in
  task_fits k x h l = record {
    inside = λ i.
        let v = nth_in (order_in t k) x i in
        let a = task_is k x h l ∙ ap cell_of v.1 in
        let b = each_nth (λ (y : ℕ). (1 ≤ y) × (y ≤ length m.tasks)) (order_in t k) x v.0 (given_zone k h).order.tasks v.1 in
        (omega arith, omega arith);
    behind = λ i. task_is k x h l ∙ ap cell_of (nth_none (order_in t k) x i);
  }

  sound_order : (k : ℕ) → k < n → SoundOrder m t k
  unfolding zone_in
  sound_order k h = record { here = here k h; queue = λ x l. task_fits k x h l; order = (given_zone k h).order }

  -- ---- the claims

  abbrev front : ℕ → ℕ
  front k = length (all_claims (dense k (zone_in t)))

  front_more : (k : ℕ) → front (suc k) ≡ front k + length (zone_in t k).claims
  front_more k = ap length (claims_more k (zone_in t)) ∙ length-append (all_claims (dense k (zone_in t))) (zone_in t k).claims

  front_le : (k j : ℕ) → k ≤ j → front k ≤ front j
  front_le k zero h = let z : k ≡ 0 = omega arith in rw z (omega arith)
  front_le k (suc j) h =
      by_lt k (suc j) (λ l. omega (arith, front_le k j (omega arith), front_more j)) (λ l. let z : k ≡ suc j = omega arith in rw z (omega arith))

  end_is : (k : ℕ) → k < n → end_in t k ≡ front (suc k)
  end_is k h =
      at (8 * k + 7) _ (end_cell (decode t) k (zone_in t k) (let q = w.high in omega arith) (given_nth k h))
      ∙ ap (λ (l : List Zone). length (all_claims (take (suc k) l))) given_dense
      ∙ ap (λ (l : List Zone). length (all_claims l)) (dense_take n (zone_in t) (suc k) h)

  start_is : (k : ℕ) → k < n → start_in t k ≡ front k
  unfolding collect
  start_is zero h = refl
  start_is (suc k) h = end_is k (omega arith)

  all_is : length (all_claims zs) ≡ front n
  all_is = ap (λ (l : List Zone). length (all_claims l)) given_dense

  sound_claims : (k : ℕ) → k < n → SoundClaims m t k
  unfolding zone_in
  sound_claims k h =
      let a = start_is k h in
      let b = end_is k h in
      let d = front_more k in
      let c = (given_zone k h).claims in
      let q = c.many in
      record { ends = omega arith; most = omega (arith, front_le (suc k) n (omega arith), all_is); many = omega arith; zeros = c.zeros }

  pub sound_zone : (k : ℕ) → k < n → SoundZone m t k
  unfolding zone_in
  sound_zone k h = record { order = sound_order k h; bounds = (given_zone k h).bounds; claims = sound_claims k h }

  -- ---- the pool

  total_is : end_in t (n - 1) ≡ length (all_claims zs)
  total_is = let h = w.low in let z : suc (n - 1) ≡ n = omega arith in end_is (n - 1) (omega arith) ∙ rw z (sym all_is)

  pool_is : (x : ℕ) → x < pool_size → get_or t (pool_start + x) 0 ≡ cell_of (get_elem? (all_claims zs) x)
  pool_is x h = at (pool_start + x) _ (pool_cell (decode t) x h)

  sound_pool : SoundPool t n (end_in t (n - 1))
  sound_pool =
      let q = total_is in
      record {
        claims = λ x l.
            let v = nth_in (all_claims zs) x (omega arith) in
            let a = pool_is x (omega arith) ∙ ap cell_of v.1 in
            let b = each_nth (λ (c : ℕ). c ≤ n) (all_claims zs) x v.0 (each_claims (λ (c : ℕ). c ≤ n) zs (each_map zs (λ z r. r.claims.each) w.zones)) v.1 in
            record { low = omega arith; high = omega arith };
        rest = λ x l.
            let y : pool_start + end_in t (n - 1) + x ≡ pool_start + (end_in t (n - 1) + x) = omega arith in
            ap (λ (i : ℕ). get_or t i 0) y ∙ pool_is (end_in t (n - 1) + x) (omega arith) ∙ ap cell_of (nth_none (all_claims zs) (end_in t (n - 1) + x) (omega arith));
      }

  -- ---- what is not used

  sound_unused : Unused t n
  unfolding head_cell bound_cell
  sound_unused = record {
    heads = λ x l.
        let h = w.high in
        let y : 8 * n + x ≡ 8 * (n + x / 8) + x % 8 = omega arith in
        ap (λ (i : ℕ). get_or t i 0) y ∙ at (8 * (n + x / 8) + x % 8) _ (head_cell_lem (decode t) (n + x / 8) (x % 8) (omega arith) (omega arith)) ∙ rw (nth_none zs (n + x / 8) (omega arith));
    bounds = λ x l.
        let h = w.high in
        let y : 384 + 289 * n + x ≡ 384 + 289 * (n + x / 289) + x % 289 = omega arith in
        ap (λ (i : ℕ). get_or t i 0) y ∙ at (384 + 289 * (n + x / 289) + x % 289) _ (bound_cell_lem (decode t) (n + x / 289) (x % 289) (omega arith) (omega arith))
        ∙ rw (nth_none zs (n + x / 289) (omega arith));
  }

  pub right_sound : Sound m t
  right_sound = record { long = ap length (sym e) ∙ encode_length (decode t); some = w.low; unused = sound_unused; zones = sound_zone; pool = sound_pool }

-- refusal 13: the tables that a text gives are the sound ones whose text is within 65,535 bytes
pub given_sound : (m : Model) → RightModel m → (t : List ℕ) → Given m t ↔ (Sound m t × (length (proposal_text (decode t)) ≤ text_most))
given_sound m r t =
    let b = proposal_given_when m r t in (
      (λ g. let w = b.0 g in (right_sound m t w.0 (claims_room (decode t) w.1) w.2, w.1)),
      (λ s. b.1 (sound_right m t s.0, s.1, sound_encode m t s.0)),
    )
