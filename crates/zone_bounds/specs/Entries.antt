-- The bounds of a zone as entries of an array: "variable i minus variable j is at most c" at i * 17 + j.
-- Assumes nothing.
use Rattle.std.specs.Prelude.{◌≡◌, Bool, true, not, List, [], ℕ, ◌<◌, ◌/◌, ◌%◌, eqb, ℤ, pos, get_or}
use Rattle.meaning.specs.Numbers.{over}
use Rattle.meaning.specs.Model.{Bound}
use Rattle.meaning.specs.Zones.Zone as Z
use Rattle.meaning.specs.Text.ModelTable.{collect}
use Rattle.bounds.specs.Matrix.{Size}
use Rattle.home.specs.declared.Home.{Home}
use Rattle.home.specs.Stands.{order_of}
use Rattle.zone_bounds.specs.Narrowed.{bound_size}

-- "no bound": a value of its own
abbrev pub no_bound : ℤ
no_bound = pos 1000000000

-- the entry holds a bound
abbrev pub is_bound : ℤ → Bool
is_bound c = not (eqb (over c) 1000000000)

-- what stands at place k
abbrev pub entry_in : List ℤ → ℕ → ℤ
entry_in b k = get_or b k (pos 0)

-- the bounds that are written, row by row
unfoldable pub bounds_in : List ℤ → List Bound
bounds_in b = collect 289 (λ k. is_bound (entry_in b k)) (λ k. record { i = k / 17; j = k % 17; c = entry_in b k })

-- "A zone is a location, a queue order, and bounds"
abbrev pub zone_with : Home → List ℤ → Z.Zone
zone_with h b = record { location = h.location; order = order_of h; bounds = bounds_in b; claims = [] }

-- every bound that is written is one that a matrix takes
pub record Takable (b : List ℤ) : Type 0 where
  pub each : (k : ℕ) → k < 289 → is_bound (entry_in b k) ≡ true → Size (entry_in b k) bound_size
