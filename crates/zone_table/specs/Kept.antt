-- The numbers of a proposal's table as they stand in its text.
-- Assumes nothing.
use Rattle.std.specs.Prelude.{ℕ, List, ◌∷◌}
use Rattle.meaning.specs.Model.{Bound}
use Rattle.meaning.specs.Text.Ranges.{bound_most}
use Rattle.meaning.specs.Text.Lines.{kept_text, lowered_by}

-- "each after one space": a number whose range does not go below 0
abbrev pub field_text : ℕ → List ℕ
field_text v = 32 ∷ kept_text 0 v

-- the bound of i minus j whose c is kept as v
abbrev pub kept_bound : ℕ → ℕ → ℕ → Bound
kept_bound i j v = record { i = i; j = j; c = lowered_by bound_most v }
