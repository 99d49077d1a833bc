-- What the answers of the reader stand for.
-- Assumes nothing.
use Rattle.std.specs.Prelude.{ℕ, ◌≡◌, true, false, List, length, Result, Ok, Err}
use Rattle.meaning.specs.Text.Records.{Answer, done, refused}
use Rattle.meaning.specs.Text.ModelTable.{decode}
use Rattle.meaning.specs.Text.ModelReader.{Given, left}
use Rattle.meaning.specs.Text.ProposalReader.{read_proposal}
use Rattle.refusals.specs.declared.Refusal.{Refusal}
use Rattle.refusals.specs.Number.{number_of}

-- document 01's answer for each case of what is read, with what stands in the lent table: Ok is that table; Err is the refusal with its reason's number, at its place
abbrev pub meant : Result (Unit {0}) Refusal → List ℕ → Answer (List ℕ)
meant (Ok _) t = done t
meant (Err e) t = refused (number_of e.reason) e.place

-- the reader's answer a, with a table of n cells lent, is told by r and by what is left in the table
pub record Answered (n : ℕ) (a : Answer (List ℕ)) (r : Result (Unit {0}) Refusal) (t : List ℕ) : Type 0 where
  pub answer : meant r t ≡ a
  pub table : t ≡ left n a

-- the text s read over the model of the table b into the lent table t, which is t' afterwards: "A proposal's reader tests the lent model (13) before all else"
pub record ReadOver (b s t : List ℕ) (r : Result (Unit {0}) Refusal) (t' : List ℕ) : Type 0 where
  pub over : Given b → Answered (length t) (read_proposal true (decode b) (length t) s) r t'
  pub none : (Given b → ⊥) → Answered (length t) (read_proposal false (decode b) (length t) s) r t'
