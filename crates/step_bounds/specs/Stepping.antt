-- What a `Stepping` stands for.
-- Assumes nothing.
use Rattle.meaning.specs.Model.{Model}
use Rattle.model_table.specs.Held as T
use Rattle.step_bounds.specs.declared.stepping.Stepping.{Stepping}

-- its model
abbrev pub model_of : Stepping → Model
model_of s = T.model_of s.model
