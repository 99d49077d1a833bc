-- What the loop of `write_table` keeps.
use Rattle.meaning.specs.Text.Records.{lines_to}
use Rattle.meaning.specs.Text.ModelReader.{format}
use Rattle.lines.specs.Put.{Put}
use Rattle.model_text.proofs.writing.write_table.Given as goal

abbrev pub invariant-loop-j : goal.invariant-loop-j
invariant-loop-j l = Put l.initial.buf 0 (lines_to format l.t l.j) l.buf l.at
