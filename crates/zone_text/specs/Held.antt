-- What was read so far, as the code has it, and what a record makes of it.
-- Assumes nothing.
use Rattle.std.specs.Prelude.{ℕ, suc, ◌+◌, ◌-◌, ◌*◌, ◌≤◌, ◌<◌, ◌≡◌, Option, Some, None, Result, Ok, Err, List, [], ◌∷◌, length, get_or}
use Rattle.meaning.specs.Model.{Bound, Model}
use Rattle.meaning.specs.Text.Ranges.{text_most, zones_most}
use Rattle.meaning.specs.Text.RecordRow.{Met, next, closed, wrong}
use Rattle.meaning.specs.Text.RightModel.{Each}
use Rattle.meaning.specs.Text.RightProposal.{RightOrder, RightBounds, RightZone}
use Rattle.meaning.specs.Text.ProposalTable.{size, zone_slot, order_slot, all_claims, encode}
use Rattle.meaning.specs.Text.ProposalReader.{Entry, whole, begun, put, proposal_of}
use Rattle.meaning.specs.Text.ProposalReader as reader
use Rattle.zone_list.specs.Counted.{numbers_in}
use Rattle.refusals.specs.declared.Refusal.{Refusal}
use Rattle.refusals.specs.Number.{number_of}
use Rattle.zone_text.specs.declared.reading_records.Due.{Due}
use Rattle.zone_text.specs.declared.reading_records.Sofar.{Sofar}
use Rattle.zone_text.specs.declared.reading_records.Next.{Next}

-- the zones that were read are those that a text can say, but for claims above the last zone
abbrev pub Sound : Model → reader.Sofar → Type 0
Sound m (whole zs) = (length zs ≤ zones_most) × Each (RightZone m zones_most) zs
Sound m (begun zs z) =
    (length zs < zones_most) × Each (RightZone m zones_most) zs × RightOrder m z.location z.order × RightBounds m z.order z.bounds × (z.claims ≡ [])

-- the place in a zone's bounds behind the last of them; bound i, j has place 17 i + j
abbrev pub behind : List Bound → ℕ
behind [] = 0
behind (a ∷ []) = suc (17 * a.i + a.j)
behind (a ∷ b ∷ bs) = behind (b ∷ bs)

-- the code's numbers tell what was read
abbrev pub Stands : reader.Sofar → Sofar → Type 0
Stands (whole zs) c = (c.zones ≡ length zs) × (c.due ≡ None) × (c.pool ≡ length (all_claims zs))
Stands (begun zs z) c = (c.zones ≡ length zs) × (c.due ≡ Some (record { len = length z.order; cursor = behind z.bounds })) × (c.pool ≡ length (all_claims zs))

-- the same, and the table is that of what was read
pub record Holds (m : Model) (y : reader.Sofar) (c : Sofar) (t : List ℕ) : Type 0 where
  pub sound : Sound m y
  pub stands : Stands y c
  pub table : t ≡ encode (proposal_of y)

-- what the code needs before a record at `at` of the text s
pub record Ready (c : Sofar) (s : List ℕ) (at : ℕ) (t : List ℕ) : Type 0 where
  pub long : length t ≡ size
  pub short : length s ≤ text_most
  pub within : at ≤ length s
  pub zones : c.zones ≤ 48
  pub due : (o : Due) → c.due ≡ Some o → (c.zones < 48) × (o.len ≤ 6)
  -- a claim takes two bytes of the text at least: a space and a digit
  pub pool : 2 * c.pool ≤ at

-- of the zone that is begun, the table has a location and a queue order that a text can say
pub record Begun (m : Model) (c : Sofar) (t : List ℕ) : Type 0 where
  pub order : (o : Due) → c.due ≡ Some o → RightOrder m (get_or t (zone_slot c.zones) 0 - 1) (numbers_in t (order_slot c.zones) o.len)

-- what stands after y was read, the answer r, and the table before and after it
abbrev pub Took : Met Entry → reader.Sofar → Result (Option Next) Refusal → List ℕ → List ℕ → Type 0
Took (next w k) y r t t' = (c : Sofar) × (r ≡ Ok (Some (record { at = k; sofar = c }))) × Stands (put y w) c × (t' ≡ encode (proposal_of (put y w)))
Took closed y r t t' = (r ≡ Ok None) × (t' ≡ t)
Took (wrong n p) y r t t' = (e : Refusal) × (r ≡ Err e) × (n ≡ number_of e.reason) × (p ≡ e.place)
