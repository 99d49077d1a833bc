-- What is counted over a list of steps, edge by edge, and the claims that are kept for it.
-- Assumes nothing.
use Rattle.std.specs.Prelude.{◌≡◌, Bool, true, false, cond, List, map, ◌⊎◌, Option, Some, None, IsSomeAnd, ℕ, ◌+◌, ◌-◌, ◌≤◌, ◌<◌, length}
use Rattle.std.proofs.Math.ListN.{get_elem?}
use Rattle.meaning.specs.Lists.{nth1}
use Rattle.meaning.specs.Model.{Model}
use Rattle.meaning.specs.Machine.Release.{overflows_any}
use Rattle.meaning.specs.Zones.Reached.{Home}
use Rattle.meaning.specs.Zones.Steps.{by_edge, places}
use Rattle.meaning.specs.Text.ModelReader.{words}
use Rattle.meaning.specs.Text.RightProposal.{zero_due_in, zeros_at}
use Rattle.home.specs.Asked.{leaves_by, released_by}
use Rattle.zone_list.specs.declared.share.Share.{Share}
use Rattle.zone_list.specs.declared.walk.Found.{Found}
use Rattle.zone_list.specs.declared.walk.Walked.{Walked}
use Rattle.zone_list.specs.declared.form.Steps.{Steps}
use Rattle.zone_list.specs.Steps.{list_at}

-- the numbers that are kept in n cells from k on
unfoldable pub numbers_in : List ℕ → ℕ → ℕ → List ℕ
numbers_in t k n = map (λ (x : ℕ). x - 1) (words t k n)

-- what edge k adds to the list: its places, and whether the claim of the first has to be 0
pub record ShareIs (m : Model) (h : Home) (k : ℕ) (r : Share) : Type 0 where
  pub places : r.places ≡ cond {A = ℕ} (leaves_by m k h.location) (length (places m (released_by m k) h.order)) 0
  pub zero : r.zero ≡ cond {A = Bool} (leaves_by m k h.location) (overflows_any m (released_by m k) h.order) false

-- ---- a walk over the edges

-- edge k has place x of the list, with n of its places before it
pub record PlaceIs (m : Model) (h : Home) (x k n : ℕ) : Type 0 where
  pub leaves : leaves_by m k h.location ≡ true
  pub inside : n < length (places m (released_by m k) h.order)
  pub is : nth1 (list_at m h) x ≡ get_elem? (map (by_edge k) (places m (released_by m k) h.order)) n

-- r is what has place x, with edge k's places behind `many` others; b is the same without it
pub record FoundBy (b : Option Found) (k many n x : ℕ) (r : Option Found) : Type 0 where
  pub before : x ≤ many → r ≡ b
  pub behind : many + n < x → r ≡ b
  pub here : many < x → x ≤ many + n → r ≡ Some (record { edge = k; rest = x - many - 1 })

-- the claims, kept in the cells t from `at` on, are "0 where 0 is due"
abbrev pub zeros_kept : Model → Home → List ℕ → ℕ → Bool
zeros_kept m h t at = zeros_at (zero_due_in m h.order) (list_at m h) (numbers_in t at (length (list_at m h)))

-- how many steps the list has, whether its claims are 0 where 0 is due, and what has place x
pub record WalkIs (m : Model) (h : Home) (t : List ℕ) (at x : ℕ) (r : Walked) : Type 0 where
  pub many : r.many ≡ length (list_at m h)
  pub zeros : r.zeros ≡ zeros_kept m h t at
  pub place : 3 ≤ x → x ≤ length (list_at m h) → IsSomeAnd r.found (λ f. PlaceIs m h x f.edge f.rest)
  pub none : (x ≤ 2) ⊎ (length (list_at m h) < x) → r.found ≡ None

-- the first two of them
pub record StepsAre (m : Model) (h : Home) (t : List ℕ) (at : ℕ) (r : Steps) : Type 0 where
  pub many : r.many ≡ length (list_at m h)
  pub zeros : r.zeros ≡ zeros_kept m h t at
