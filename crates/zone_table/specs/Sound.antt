-- What the cells of a proposal's table are held to, part by part: the tables of which each holds are those that a text without its length can say.
-- Assumes nothing.
use Rattle.std.specs.Prelude.{ℕ, ◌+◌, ◌-◌, ◌/◌, ◌%◌, ◌≤◌, ◌<◌, ◌≡◌, true, List, length, get_or}
use Rattle.meaning.specs.Model.{Model}
use Rattle.meaning.specs.Zones.Steps.{steps}
use Rattle.meaning.specs.Text.RightProposal.{RightOrder, RightBounds, zero_due, zeros_at}
use Rattle.meaning.specs.Text.ProposalTable.{zone_slot, order_slot, bounds_slot, bounds_start, pool_start, pool_size, size, start_in, end_in, order_in, bounds_in, claims_in, zone_in, decode}

-- how many zones there are
abbrev pub zones_in : List ℕ → ℕ
zones_in t = length (decode t).zones

-- how many tasks the queue of zone k + 1 has
abbrev pub queue_in : List ℕ → ℕ → ℕ
queue_in t k = length (order_in t k)

-- n cells from `at` on are 0
abbrev pub Empty : List ℕ → ℕ → ℕ → Type 0
Empty t at n = (x : ℕ) → x < n → get_or t (at + x) 0 ≡ 0

-- cell x of a queue of q tasks: a task of the model's; behind the queue nothing
pub record TaskFits (tasks q x v : ℕ) : Type 0 where
  pub inside : x < q → (2 ≤ v) × (v ≤ tasks + 1)
  pub behind : q ≤ x → v ≡ 0

-- cell x of a zone's bounds: nothing, or c of a bound of two of the variables 0 to last
pub record BoundFits (last x v : ℕ) : Type 0 where
  pub row : 0 < v → x / 17 ≤ last
  pub column : 0 < v → x % 17 ≤ last
  pub two : 0 < v → x / 17 ≡ x % 17 → ⊥
  pub most : v ≤ 64001

-- the location and the queue of zone k + 1
pub record SoundOrder (m : Model) (t : List ℕ) (k : ℕ) : Type 0 where
  pub here : 0 < get_or t (zone_slot k) 0
  pub queue : (x : ℕ) → x < 6 → TaskFits (length m.tasks) (queue_in t k) x (get_or t (order_slot k + x) 0)
  pub order : RightOrder m (get_or t (zone_slot k) 0 - 1) (order_in t k)

-- its claims, where they stand in the pool, how many they are, and 0 where 0 is due
pub record SoundClaims (m : Model) (t : List ℕ) (k : ℕ) : Type 0 where
  pub ends : start_in t k ≤ end_in t k
  pub most : end_in t k ≤ pool_size
  pub many : end_in t k - start_in t k ≡ length (steps m (zone_in t k))
  pub zeros : zeros_at (zero_due m (zone_in t k)) (steps m (zone_in t k)) (claims_in t k) ≡ true

-- zone k + 1
pub record SoundZone (m : Model) (t : List ℕ) (k : ℕ) : Type 0 where
  pub order : SoundOrder m t k
  pub bounds : RightBounds m (order_in t k) (bounds_in t k)
  pub claims : SoundClaims m t k

-- claim x of the pool, of a proposal of n zones
pub record ClaimFits (n v : ℕ) : Type 0 where
  pub low : 1 ≤ v
  pub high : v ≤ n + 1

-- the pool of a proposal of n zones, with e claims in it
pub record SoundPool (t : List ℕ) (n e : ℕ) : Type 0 where
  pub claims : (x : ℕ) → x < e → ClaimFits n (get_or t (pool_start + x) 0)
  pub rest : Empty t (pool_start + e) (pool_size - e)

-- behind n zones nothing
pub record Unused (t : List ℕ) (n : ℕ) : Type 0 where
  pub heads : Empty t (zone_slot n) (bounds_start - zone_slot n)
  pub bounds : Empty t (bounds_slot n) (pool_start - bounds_slot n)

-- the whole table
pub record Sound (m : Model) (t : List ℕ) : Type 0 where
  pub long : length t ≡ size
  pub some : 1 ≤ zones_in t
  pub unused : Unused t (zones_in t)
  pub zones : (k : ℕ) → k < zones_in t → SoundZone m t k
  pub pool : SoundPool t (zones_in t) (end_in t (zones_in t - 1))
