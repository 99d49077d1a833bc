-- What is read from a proposal's table: claims, a zone's location with its queue order, and a zone by value. Zones and claims are numbered from 1.
-- Assumes nothing.
use Rattle.std.specs.Prelude.{ℕ, ◌+◌, ◌-◌, ◌≤◌, ◌<◌, ◌≡◌, Bool, List, [], leb, eqb, ℤ, pos, length, get_or, take}
use Rattle.meaning.specs.Lists.{every}
use Rattle.meaning.specs.Text.Choice.{pick}
use Rattle.meaning.specs.Text.Ranges.{bound_most}
use Rattle.meaning.specs.Text.Lines.{lowered_by}
use Rattle.meaning.specs.Text.ProposalTable.{zone_slot, order_slot, bounds_slot, pool_start, start_in, end_in}
use Rattle.meaning.specs.Zones.Zone as Z
use Rattle.home.specs.declared.Home.{Home}
use Rattle.zone_list.specs.Counted.{numbers_in}
use Rattle.zone_bounds.specs.Entries.{no_bound}
use Rattle.zone.specs.declared.Zone.{Zone}
use Rattle.zone_table.specs.Sound.{queue_in}

-- how many claims zone n has
abbrev pub claims_at : List ℕ → ℕ → ℕ
claims_at t n = end_in t (n - 1) - start_in t (n - 1)

-- its claim x
abbrev pub claim_at : List ℕ → ℕ → ℕ → ℕ
claim_at t n x = get_or t (pool_start + start_in t (n - 1) + (x - 1)) 0 - 1

-- none of the claims is above the last
unfoldable pub none_above : ℕ → List ℕ → Bool
none_above last cs = every (λ (c : ℕ). leb c last) cs

-- every bound of zone k + 1 is kept as a number that a bound may have
abbrev pub KeptSmall : List ℕ → ℕ → Type 0
KeptSmall t k = (x : ℕ) → x < 289 → get_or t (bounds_slot k + x) 0 ≤ 64001

-- the entry of a bound that is kept as v: "no bound" where nothing is there
abbrev pub entry_of_kept : ℕ → ℤ
entry_of_kept v = pick (eqb v 0) no_bound (lowered_by bound_most (v - 1))

-- the bounds of zone k + 1, place by place
pub record BoundsRead (t : List ℕ) (k : ℕ) (b : List ℤ) : Type 0 where
  pub long : length b ≡ 289
  pub each : (x : ℕ) → x < 289 → get_or b x (pos 0) ≡ entry_of_kept (get_or t (bounds_slot k + x) 0)

-- its first n tasks, and 0 behind them
pub record TasksRead (t : List ℕ) (k n : ℕ) (o : List ℕ) : Type 0 where
  pub long : length o ≡ 6
  pub is : take n o ≡ numbers_in t (order_slot k) n
  pub unused : (x : ℕ) → n ≤ x → get_or o x 0 ≡ 0

-- its location with its first n tasks
pub record HomeRead (t : List ℕ) (k n : ℕ) (h : Home) : Type 0 where
  pub location : h.location ≡ get_or t (zone_slot k) 0 - 1
  pub count : h.count ≡ n
  pub tasks : TasksRead t k n h.tasks

-- zone n by value
pub record ZoneRead (t : List ℕ) (n : ℕ) (z : Zone) : Type 0 where
  pub home : HomeRead t (n - 1) (queue_in t (n - 1)) z.home
  pub bounds : BoundsRead t (n - 1) z.bounds

-- the zone without its claims
abbrev pub without_claims : Z.Zone → Z.Zone
without_claims z = record { location = z.location; order = z.order; bounds = z.bounds; claims = [] }
