-- What the loop of `write_fields` keeps.
use lib.ListN.{take}
use Rattle.std.specs.List.{flat_map}
use Rattle.lines.specs.Put.{Put}
use Rattle.lines.proofs.Laws.Putting.{field_text}
use Rattle.lines.proofs.writing.write_fields.Given as goal

abbrev pub invariant-loop-field : goal.invariant-loop-field
invariant-loop-field l = Put l.initial.buf l.at (flat_map field_text (take l.field-index l.fields)) l.buf l.p
