-- The text of a proposal. Document 01, "The two texts": ZN, BD and GO for each zone, then EN.
-- Assumes nothing.
use Rattle.std.specs.Prelude.{ℕ, List, [], ◌∷◌, ◌++◌}
use Rattle.meaning.specs.Model.{Bound}
use Rattle.meaning.specs.Zones.Zone.{Zone, Proposal}
use Rattle.meaning.specs.Text.Ranges.{bound_most}
use Rattle.meaning.specs.Text.Lines.{fields_text, numbers_text, raised_by}
use Rattle.meaning.specs.Text.ModelText.{texts}

-- "ZN (location, then 0 to 6 tasks, head first)"
unfoldable pub order_text : ℕ → List ℕ → List ℕ
order_text l o = 90 ∷ 78 ∷ numbers_text (l ∷ o)

-- "BD (i, j, c)"; "BD bounds run from −32,000 to 32,000"
unfoldable pub bound_text : Bound → List ℕ
bound_text b = 66 ∷ 68 ∷ fields_text (0 ∷ 0 ∷ bound_most ∷ []) (b.i ∷ b.j ∷ raised_by bound_most b.c ∷ [])

-- "GO (the claims)"
unfoldable pub claims_text : List ℕ → List ℕ
claims_text c = 71 ∷ 79 ∷ numbers_text c

-- "for each of 1 to 48 zones ZN, BD, GO"
unfoldable pub zone_text : Zone → List ℕ
zone_text z = order_text z.location z.order ++ (texts bound_text z.bounds ++ claims_text z.claims)

-- "then EN"
abbrev pub end_text : List ℕ
end_text = 69 ∷ 78 ∷ 10 ∷ []

-- "Proposal: for each of 1 to 48 zones ..; then EN"
unfoldable pub proposal_text : Proposal → List ℕ
proposal_text p = texts zone_text p.zones ++ end_text
