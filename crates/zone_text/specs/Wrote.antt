-- What the writer answers and does to the lent buffer.
-- Assumes nothing.
use Rattle.std.specs.Prelude.{ℕ, ◌<◌, ◌≤◌, ◌≡◌, List, length, Result, Ok, Err}
use Rattle.std.proofs.lemmas.List.Edits.{sets}
use Rattle.meaning.specs.Text.Refusals.{not_proper, wrong_room}
use Rattle.meaning.specs.Text.Records.{Answer, done, refused}
use Rattle.meaning.specs.Text.ModelTable as parts
use Rattle.meaning.specs.Text.ModelReader as reader
use Rattle.meaning.specs.Text.ProposalReader.{Given}
use Rattle.meaning.specs.Text.ProposalTable.{decode}
use Rattle.meaning.specs.Text.ProposalText.{proposal_text}
use Rattle.refusals.specs.declared.Refusal.{Refusal}
use Rattle.refusals.specs.Number.{number_of}

-- document 01's answer for each case of what is written: the length of the text, or the refusal with its reason's number, at its place
abbrev pub written : Result ℕ Refusal → Answer ℕ
written (Ok n) = done n
written (Err e) = refused (number_of e.reason) e.place

-- a text gives the model's table u, and over that model a text gives the proposal's table t
pub record GivenBoth (u t : List ℕ) : Type 0 where
  pub model : reader.Given u
  pub table : Given (parts.decode u) t

-- what the table t is written as
abbrev pub text_of : List ℕ → List ℕ
text_of t = proposal_text (decode t)

-- "tables that no text within 1 gives": 13; then "lent text buffer too short to write into": 11; a refusal leaves the buffer b as it was, and so are
-- the bytes behind the text. The model's table u, the table t, the buffer before and after, and the answer r.
pub record WroteProposal (u t b : List ℕ) (r : Result ℕ Refusal) (b' : List ℕ) : Type 0 where
  pub none : (GivenBoth u t → ⊥) → (written r ≡ refused not_proper 0) × (b' ≡ b)
  pub short : GivenBoth u t → length b < length (text_of t) → (written r ≡ refused wrong_room 0) × (b' ≡ b)
  pub text : GivenBoth u t → length (text_of t) ≤ length b → (written r ≡ done (length (text_of t))) × (b' ≡ sets b 0 (text_of t))
