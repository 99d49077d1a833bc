-- What a proposal's reader answers on any list of bytes, over a model. Document 01, "The two texts" and "Refusal numbers".
-- Assumes nothing.
use Rattle.std.specs.Prelude.{ℕ, ◌+◌, ◌-◌, ◌≡◌, Bool, true, not, ◌&&◌, ltb, leb, eqb, length, get_or}
use mathlib.Core.List.{List, [], ◌∷◌, ◌++◌, tail}
use Rattle.meaning.specs.Lists.{every}
use Rattle.meaning.specs.Model.{Bound, Model}
use Rattle.meaning.specs.Zones.Variables.{variables}
use Rattle.meaning.specs.Zones.Proper.{fits}
use Rattle.meaning.specs.Zones.Zone.{Zone, Proposal, widest}
use Rattle.meaning.specs.Text.Choice.{pick}
use Rattle.meaning.specs.Text.Ranges.{bound_most, queue_most, zones_most}
use Rattle.meaning.specs.Text.Refusals.{mark_not_here, too_many, broken_line, out_of_range, not_rising, wrong_claims, not_proper, wrong_room}
use Rattle.meaning.specs.Text.Lines.{between, around, Fields, ok, bad, out, fields, fields_more, lowered_by}
use Rattle.meaning.specs.Text.Records.{Answer, done, refused, whole_text}
use Rattle.meaning.specs.Text.RecordRow.{Met, next, closed, wrong, Row, read}
use Rattle.meaning.specs.Text.RightModel.{before}
use Rattle.meaning.specs.Text.RightProposal.{claims_fit}
use Rattle.meaning.specs.Text.ProposalText.{order_text, bound_text, claims_text, end_text}
use Rattle.meaning.specs.Text.ProposalTable.{size, encode}

-- ---- what was read

-- A record: ZN "location, then 0 to 6 tasks"; BD "i, j, c"; GO "the claims".
pub data Entry : Type 0 where
  order : ℕ → List ℕ → Entry
  bound : Bound → Entry
  claims : List ℕ → Entry

-- What was read so far: whole zones; or whole zones, and one whose GO is still due.
pub data Sofar : Type 0 where
  whole : List Zone → Sofar
  begun : List Zone → Zone → Sofar

-- the zone with one bound more
abbrev pub with_bound : Zone → Bound → Zone
with_bound z b = record { location = z.location; order = z.order; bounds = z.bounds ++ b ∷ []; claims = z.claims }

-- the zone with these claims
abbrev pub with_claims : Zone → List ℕ → Zone
with_claims z c = record { location = z.location; order = z.order; bounds = z.bounds; claims = c }

-- a record behind what was read; only those of "ZN, BD, GO" that may stand there are ever put
unfoldable pub put : Sofar → Entry → Sofar
put (whole zs) (order l o) = begun zs (widest l o)
put (whole zs) (bound b) = whole zs
put (whole zs) (claims c) = whole zs
put (begun zs z) (order l o) = begun zs z
put (begun zs z) (bound b) = begun zs (with_bound z b)
put (begun zs z) (claims c) = whole (zs ++ with_claims z c ∷ [])

-- the proposal of what was read so far
unfoldable pub proposal_of : Sofar → Proposal
proposal_of (whole zs) = record { zones = zs }
proposal_of (begun zs z) = record { zones = zs ++ z ∷ [] }

-- a record's line
unfoldable pub entry_text : Entry → List ℕ
entry_text (order l o) = order_text l o
entry_text (bound b) = bound_text b
entry_text (claims c) = claims_text c

-- ---- reading

-- "a two-byte mark": the mark of these two bytes stands at `at` of the text s
unfoldable pub is_mark : List ℕ → ℕ → ℕ → ℕ → Bool
is_mark s at a b = eqb (get_or s at 0) a && eqb (get_or s (at + 1) 0) b

-- "in a line, 4 for all fields before 5": then the record is held to the rest
unfoldable pub judged : Fields → (List ℕ → ℕ → Met Entry) → Met Entry
judged (bad p) f = wrong broken_line p
judged (out p) f = wrong out_of_range p
judged (ok v k) f = f v k

-- the bound with these numbers
abbrev pub bound_of : List ℕ → Bound
bound_of v = record { i = get_or v 0 0; j = get_or v 1 0; c = lowered_by bound_most (get_or v 2 0) }

-- "not rising, i = j" is 6: the bound may stand behind these
abbrev pub rises : List Bound → Bound → Bool
rises bs b = not (eqb b.i b.j) && every (λ (a : Bound). before a b) bs

-- "at EN: a claim above the last zone" is 9: none of the claims is above n
abbrev pub up_to_last : ℕ → List Zone → Bool
up_to_last n zs = every (λ (z : Zone). every (λ (c : ℕ). leb c n) z.claims) zs

module _ (m : Model) (s : List ℕ) (at : ℕ) where
  -- "ZN (location, then 0 to 6 tasks)": 3 under a zone whose GO is due, 10 for a 49th, 4, 5, and 6 for "a task twice in ZN"
  unfoldable pub look_order : Sofar → Met Entry
  look_order (begun zs z) = wrong mark_not_here at
  look_order (whole zs) =
      pick (ltb (length zs) zones_most)
      (judged (fields_more (between 1 (length m.locations) ∷ []) queue_most (between 1 (length m.tasks)) s (at + 2))
      (λ v k. pick (fits m (tail v)) (next (order (get_or v 0 0) (tail v)) k) (wrong not_rising at)))
      (wrong too_many at)

  -- "BD (i, j, c; rising; i ≠ j)": under ZN, over the zone's variables; 4, 5, and 6
  unfoldable pub look_bound : Sofar → Met Entry
  look_bound (whole zs) = wrong mark_not_here at
  look_bound (begun zs z) =
      judged (fields (between 0 (variables m z.order - 1) ∷ between 0 (variables m z.order - 1) ∷ around bound_most ∷ []) s (at + 2))
      (λ v k. pick (rises z.bounds (bound_of v)) (next (bound (bound_of v)) k) (wrong not_rising at))

  -- "GO (the claims, each 0 to 48)": under ZN; 4, 5, and "A GO count is judged by 9, not 4": any number of claims that the text has room for is a line
  unfoldable pub look_claims : Sofar → Met Entry
  look_claims (whole zs) = wrong mark_not_here at
  look_claims (begun zs z) =
      judged (fields_more [] (length s) (between 0 zones_most) s (at + 2))
      (λ v k. pick (claims_fit m z v) (next (claims v) k) (wrong wrong_claims at))

  -- "then EN": after a zone; 4, 9 for "a claim above the last zone", and 3 for "bytes after EN"
  unfoldable pub look_end : Sofar → Met Entry
  look_end (begun zs z) = wrong mark_not_here at
  look_end (whole zs) =
      pick (ltb 0 (length zs))
      (judged (fields [] s (at + 2))
      (λ v k. pick (up_to_last (length zs) zs) (pick (ltb k (length s)) (wrong mark_not_here k) closed) (wrong wrong_claims at)))
      (wrong mark_not_here at)

  -- what stands at `at` of the text s, after x was read: by the marks ZN, BD, GO, EN
  unfoldable pub look : Sofar → Met Entry
  look x =
      pick (is_mark s at 90 78) (look_order x) (pick (is_mark s at 66 68) (look_bound x)
      (pick (is_mark s at 71 79) (look_claims x) (pick (is_mark s at 69 78) (look_end x) (wrong mark_not_here at))))

-- the proposal text as a text of records
abbrev pub row : Model → Row Sofar Entry
row m = record { start = whole []; put = put; line = entry_text; last = end_text; look = look m }

-- ---- the reader as it is called

-- the table that is left of what was read
unfoldable pub stored : Answer Sofar → Answer (List ℕ)
stored (done x) = done (encode (proposal_of x))
stored (refused k p) = refused k p

-- "A proposal's reader tests the lent model (13) before all else", whether a text gives its table; then "a reader's lent table not of its full size
-- (tested before 1)"; then the text s over the model m, with a table of n cells lent
unfoldable pub read_proposal : Bool → Model → ℕ → List ℕ → Answer (List ℕ)
read_proposal lent m n s = pick lent (pick (eqb n size) (stored (whole_text s (read (row m) s))) (refused wrong_room 0)) (refused not_proper 0)

-- "tables that no text within 1 gives" are those without this: a text that gives the table over the model m
pub record Given (m : Model) (t : List ℕ) : Type 0 where
  pub text : List ℕ
  pub reads : read_proposal true m size text ≡ done t
