-- What a writer does to a lent buffer.
-- Assumes nothing.
use Rattle.std.specs.Prelude.{ℕ, ◌+◌, ◌≡◌, List, length}
use Rattle.std.proofs.lemmas.List.Edits.{sets}

-- xs written into b at `at` gives b', which is as b elsewhere, and r is the place after xs
pub record Put (b : List ℕ) (at : ℕ) (xs b' : List ℕ) (r : ℕ) : Type 0 where
  pub next : r ≡ at + length xs
  pub text : b' ≡ sets b at xs
