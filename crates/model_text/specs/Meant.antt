-- What the answers of this crate stand for.
-- Assumes nothing.
use Rattle.std.specs.Prelude.{ℕ, suc, ◌<◌, ◌≤◌, ◌≡◌, Bool, true, false, Option, Some, None, Result, Ok, Err, List, length}
use Rattle.std.proofs.lemmas.List.Edits.{sets}
use Rattle.meaning.specs.Text.Refusals.{not_proper, wrong_room}
use Rattle.meaning.specs.Text.ModelTable.{size}
use Rattle.meaning.specs.Text.Records.{Seen, rec, end, fault, Answer, done, refused, write}
use Rattle.meaning.specs.Text.ModelReader.{format, read_model, left, Given}
use Rattle.refusals.specs.declared.Refusal.{Refusal}
use Rattle.refusals.specs.Number.{number_of}
use Rattle.model_text.specs.declared.records.Place.{Place}

-- r is refusal k at place p
abbrev pub Refuses : {A : Type 0} → Result A Refusal → ℕ → ℕ → Type 0
Refuses (Ok x) k p = ⊥
Refuses (Err e) k p = (number_of e.reason ≡ k) × (e.place ≡ p)

-- what is seen at a place, the answer r, and the table before and after it
abbrev pub Stepped : Seen (List ℕ) → Result (Option Place) Refusal → List ℕ → List ℕ → Type 0
Stepped (rec j v next) r t t' = (r ≡ Ok (Some (record { at = next; cursor = suc j }))) × (t' ≡ sets t j v)
Stepped end r t t' = (r ≡ Ok None) × (t' ≡ t)
Stepped (fault k p) r t t' = Refuses r k p × (t' ≡ t)

-- document 01's answer for each case of the reader's, with what stands in the lent table: Ok is that table; an Err is the refusal of its reason's
-- number at its place
abbrev pub meant : Result (Unit {0}) Refusal → List ℕ → Answer (List ℕ)
meant (Ok _) t = done t
meant (Err e) t = refused (number_of e.reason) e.place

-- the reader's answer a, with a table of n cells lent, is told by r and by what is left in the table
pub record Answered (n : ℕ) (a : Answer (List ℕ)) (r : Result (Unit {0}) Refusal) (t : List ℕ) : Type 0 where
  pub answer : meant r t ≡ a
  pub table : t ≡ left n a

-- document 01's answer for each case of the writer's: the length of the text, or the refusal of a reason's number at a place
abbrev pub written : Result ℕ Refusal → Answer ℕ
written (Ok n) = done n
written (Err e) = refused (number_of e.reason) e.place

-- "tables that no text within 1 gives": 13; then "lent text buffer too short to write into": 11; a refusal leaves the buffer b as it was, and so are
-- the bytes behind the text. The table t, the buffer before and after, and the answer r.
pub record WroteModel (t b : List ℕ) (r : Result ℕ Refusal) (b' : List ℕ) : Type 0 where
  pub none : (Given t → ⊥) → (written r ≡ refused not_proper 0) × (b' ≡ b)
  pub short : (s : List ℕ) → read_model size s ≡ done t → length b < length s → (written r ≡ refused wrong_room 0) × (b' ≡ b)
  pub text : (s : List ℕ) → read_model size s ≡ done t → length s ≤ length b → (written r ≡ done (length s)) × (b' ≡ sets b 0 s)

-- r is the length of the text that gives the table t, or none
pub record LengthOf (t : List ℕ) (r : Option ℕ) : Type 0 where
  pub none : r ≡ None → Given t → ⊥
  pub some : (n : ℕ) → r ≡ Some n → (read_model size (write format t) ≡ done t) × (n ≡ length (write format t))

-- r tells whether a text gives the table t; "tables that no text within 1 gives" are 13
pub record GivenTest (t : List ℕ) (r : Bool) : Type 0 where
  pub yes : r ≡ true → Given t
  pub no : r ≡ false → Given t → ⊥
