-- What the writer of the printed line answers and does to the lent buffer.
-- Assumes nothing.
use Rattle.std.specs.Prelude.{ℕ, ◌<◌, ◌≤◌, ◌≡◌, List, length, Result, Ok, Err}
use Rattle.std.proofs.lemmas.List.Edits.{sets}
use Rattle.meaning.specs.Text.Refusals.{wrong_room}
use Rattle.meaning.specs.Text.Records.{Answer, done, refused}
use Rattle.refusals.specs.declared.Refusal.{Refusal}
use Rattle.refusals.specs.Number.{number_of}
use Rattle.console.specs.Line.{line_of}
use Rattle.console.specs.declared.told.Told.{Told}

-- document 01's answer for what the writer answers: the length of the line, or the refusal's number and its place
abbrev pub written : Result ℕ Refusal → Answer ℕ
written (Ok n) = done n
written (Err f) = refused (number_of f.reason) f.place

-- "lent text buffer too short to write into": 11, and the buffer b stays as it was; else the line stands at its beginning, and the bytes behind it
-- stay. What is told, the buffer before and after, and the answer r.
pub record WroteLine (x : Told) (b : List ℕ) (r : Result ℕ Refusal) (b' : List ℕ) : Type 0 where
  pub short : length b < length (line_of x) → (written r ≡ refused wrong_room 0) × (b' ≡ b)
  pub text : length (line_of x) ≤ length b → (written r ≡ done (length (line_of x))) × (b' ≡ sets b 0 (line_of x))
