-- The fault's part. Document 01: "A fault found in a text is shown as the very part of the model or proposal text in which it stands, from its place to
-- before the next line feed or the end; without a fault, the empty part at the proposal's end."
-- Assumes nothing.
use Rattle.std.specs.Prelude.{ℕ, suc, ◌+◌, ◌≡◌, true, List, [], ◌∷◌, eqb, length, take, drop}
use Rattle.std.specs.Borrow.{Bor}
use Rattle.meaning.specs.Text.Choice.{pick}
use Rattle.meaning.specs.Text.Records.{Answer, done, refused}
use Rattle.meaning.specs.Text.ModelTable.{size, decode}
use Rattle.meaning.specs.Text.ModelReader.{read_model}
use Rattle.meaning.specs.Text.ProposalTable as proposal
use Rattle.meaning.specs.Text.ProposalReader.{read_proposal}

-- how many bytes stand before the first line feed; all of them where there is none
unfoldable pub line_length : List ℕ → ℕ
line_length [] = 0
line_length (b ∷ bs) = pick (eqb b 10) 0 (suc (line_length bs))

-- a part of a text: its place, and how many bytes it has
pub record Part : Type 0 where
  pub place : ℕ
  pub size : ℕ

-- "from its place to before the next line feed or the end"
abbrev pub part_at : List ℕ → ℕ → Part
part_at s at = record { place = at; size = line_length (drop at s) }

-- r is this very part of the lent text: it begins at that byte of that text and has that many bytes, which are the text's
pub record Shows (text : Bor (List ℕ)) (p : Part) (r : Bor (List ℕ)) : Type 0 where
  pub begins : r.ref_ptr ≡ (text.ref_ptr.0, text.ref_ptr.1 + p.place)
  pub bytes : r.now ≡ take p.size (drop p.place text.now)

-- where a part stands: in the model's text, or in the proposal's
pub data Where : Type 0 where
  in_model : Part → Where
  in_proposal : Part → Where

-- of the proposal's text p, by its reader's answer; "without a fault, the empty part at the proposal's end"
abbrev pub proposal_part : List ℕ → Answer (List ℕ) → Part
proposal_part p (refused k at) = part_at p at
proposal_part p (done u) = record { place = length p; size = 0 }

-- of both texts, by the answer of the model's reader: the model is judged first, and the proposal over what was read
abbrev pub part_by : List ℕ → List ℕ → Answer (List ℕ) → Where
part_by m p (refused k at) = in_model (part_at m at)
part_by m p (done t) = in_proposal (proposal_part p (read_proposal true (decode t) proposal.size p))

-- the fault's part of the two texts; the readers have tables of their full size and a model that was read, so no refusal is 11 or above (PlaceLaws)
abbrev pub part_of : List ℕ → List ℕ → Where
part_of m p = part_by m p (read_model size m)

-- r is that very part of the two lent texts
abbrev pub ShowsIn : Where → Bor (List ℕ) → Bor (List ℕ) → Bor (List ℕ) → Type 0
ShowsIn (in_model x) m p r = Shows m x r
ShowsIn (in_proposal x) m p r = Shows p x r
