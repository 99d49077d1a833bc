-- What the writer does over a right model's table: for an inner contract, not for a reader to believe.
-- Assumes nothing.
use Rattle.std.specs.Prelude.{ℕ, ◌<◌, ◌≤◌, ◌≡◌, List, length, Result}
use Rattle.std.proofs.lemmas.List.Edits.{sets}
use Rattle.meaning.specs.Model.{Model}
use Rattle.meaning.specs.Text.Refusals.{not_proper, wrong_room}
use Rattle.meaning.specs.Text.Records.{done, refused}
use Rattle.meaning.specs.Text.ProposalReader.{Given}
use Rattle.zone_text.specs.Wrote.{written, text_of}
use Rattle.refusals.specs.declared.Refusal.{Refusal}

-- the answer r and the buffer after, by whether a text gives the table t over the model
pub record WroteOver (m : Model) (t b : List ℕ) (r : Result ℕ Refusal) (b' : List ℕ) : Type 0 where
  pub none : (Given m t → ⊥) → (written r ≡ refused not_proper 0) × (b' ≡ b)
  pub short : Given m t → length b < length (text_of t) → (written r ≡ refused wrong_room 0) × (b' ≡ b)
  pub text : Given m t → length (text_of t) ≤ length b → (written r ≡ done (length (text_of t))) × (b' ≡ sets b 0 (text_of t))
