-- The proposal's table: where in it a proposal's parts stand, the proposal that it holds, and the table of a proposal.
--
-- The table is a list of 47,023 cells: the heads of the zones, their bounds, and behind them the claims of all zones in one pool. A cell is 0 where
-- nothing is there; else it holds a number of the text and 1 (c of BD: the number, 32,000 and 1). Only the end of a zone's claims is kept as it is:
-- the claims of zone k + 1 stand in the pool from the end of zone k's, or from 0, to its own end.
--   8 k                  zone k + 1: its location                  k from 0 to 47
--     + 1 + x            the task at queue position x + 1          x from 0 to 5
--     + 7                the end of its claims
--   384 + 289 k          the bounds of zone k + 1
--     + 17 i + j         c of its bound of i minus j               i and j from 0 to 16
--   14,256 + x           claim x of the pool                       x from 0 to 32,766
-- Assumes nothing.
use Rattle.std.specs.Prelude.{ℕ, zero, suc, ◌+◌, ◌-◌, ◌*◌, ◌/◌, ◌%◌, List, map, ltb, eqb, length, get_or, take}
use Rattle.std.proofs.Math.Option.{Option, none, some}
use Rattle.std.proofs.Math.ListN.{get_elem?}
use Rattle.meaning.specs.Lists.{flat}
use Rattle.meaning.specs.Model.{Bound}
use Rattle.meaning.specs.Zones.Zone.{Zone, Proposal}
use Rattle.meaning.specs.Text.Choice.{pick}
use Rattle.meaning.specs.Text.Ranges.{bound_most, queue_most, variables_most, zones_most}
use Rattle.meaning.specs.Text.Lines.{raised_by, lowered_by}
use Rattle.meaning.specs.Text.ModelTable.{there, collect, keyed, tabulate}
use Rattle.meaning.specs.Text.ModelReader.{words}

-- how many cells the head of a zone has
abbrev pub head_size : ℕ
head_size = 8

-- how many cells the bounds of a zone have: 17 rows of 17
abbrev pub bounds_size : ℕ
bounds_size = 289

-- how many claims a text within 65,535 bytes has room for
abbrev pub pool_size : ℕ
pool_size = 32767

-- where the bounds begin: behind 48 heads
abbrev pub bounds_start : ℕ
bounds_start = 384

-- where the pool begins: behind 48 zones' bounds
abbrev pub pool_start : ℕ
pool_start = 14256

-- "its full size"
abbrev pub size : ℕ
size = 47023

-- ---- where a part's first cell stands

abbrev pub zone_slot : ℕ → ℕ
zone_slot k = head_size * k

abbrev pub order_slot : ℕ → ℕ
order_slot k = head_size * k + 1

abbrev pub end_slot : ℕ → ℕ
end_slot k = head_size * k + 7

abbrev pub bounds_slot : ℕ → ℕ
bounds_slot k = bounds_start + bounds_size * k

-- ---- the proposal that a table holds

module _ (t : List ℕ) where
  -- where the claims of zone k + 1 end in the pool
  abbrev pub end_in : ℕ → ℕ
  end_in k = get_or t (end_slot k) 0

  -- where they begin: at the end of the claims before them
  abbrev pub start_in : ℕ → ℕ
  start_in zero = 0
  start_in (suc k) = end_in k

  -- the queue order of zone k + 1
  unfoldable pub order_in : ℕ → List ℕ
  order_in k = collect queue_most (λ x. there t (order_slot k + x)) (λ x. get_or t (order_slot k + x) 0 - 1)

  -- the bounds of zone k + 1
  unfoldable pub bounds_in : ℕ → List Bound
  bounds_in k =
      collect bounds_size (λ x. there t (bounds_slot k + x))
      (λ x. record { i = x / variables_most; j = x % variables_most; c = lowered_by bound_most (get_or t (bounds_slot k + x) 0 - 1) })

  -- the claims of zone k + 1
  unfoldable pub claims_in : ℕ → List ℕ
  claims_in k = map (λ (x : ℕ). x - 1) (words t (pool_start + start_in k) (end_in k - start_in k))

  -- zone k + 1
  unfoldable pub zone_in : ℕ → Zone
  zone_in k = record { location = get_or t (zone_slot k) 0 - 1; order = order_in k; bounds = bounds_in k; claims = claims_in k }

  -- what the table stands for
  unfoldable pub decode : Proposal
  decode = record { zones = collect zones_most (λ x. there t (zone_slot x)) zone_in }

-- ---- the table of a proposal

-- the claims of all zones, one after the other
abbrev pub all_claims : List Zone → List ℕ
all_claims zs = flat (λ (z : Zone). z.claims) zs

-- the cell of a number of a list; 0 where there is none
abbrev pub cell_of : Option ℕ → ℕ
cell_of none = 0
cell_of (some v) = suc v

-- cell r of the head of a zone whose claims end at e
unfoldable pub head_cell : Option Zone → ℕ → ℕ → ℕ
head_cell none e r = 0
head_cell (some z) e r = pick (eqb r 0) (suc z.location) (pick (ltb r 7) (cell_of (get_elem? z.order (r - 1))) e)

-- cell r of the bounds of a zone
unfoldable pub bound_cell : Option Zone → ℕ → ℕ
bound_cell none r = 0
bound_cell (some z) r = keyed (λ (b : Bound). variables_most * b.i + b.j) (λ (b : Bound). raised_by bound_most b.c) z.bounds r

-- cell k of the table of these zones
unfoldable pub cell : List Zone → ℕ → ℕ
cell zs k =
    pick (ltb k bounds_start)
    (head_cell (get_elem? zs (k / head_size)) (length (all_claims (take (suc (k / head_size)) zs))) (k % head_size))
    (pick (ltb k pool_start)
    (bound_cell (get_elem? zs ((k - bounds_start) / bounds_size)) ((k - bounds_start) % bounds_size))
    (cell_of (get_elem? (all_claims zs) (k - pool_start))))

-- the table of a proposal
unfoldable pub encode : Proposal → List ℕ
encode p = tabulate size (cell p.zones)
