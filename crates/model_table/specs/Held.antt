-- The model that a lent table holds.
-- Assumes nothing.
use Rattle.meaning.specs.Model.{Model}
use Rattle.meaning.specs.Text.ModelTable.{decode}
use Rattle.model_table.specs.declared.right.ModelTable.{ModelTable}

-- "tables": what a text gives, read back as the model that it is
abbrev pub model_of : ModelTable → Model
model_of t = decode t.cells.now
