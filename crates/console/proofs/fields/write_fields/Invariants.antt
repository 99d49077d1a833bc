-- What the loop of `write_fields` keeps.
use Prim.Native.Nat.{◌+◌, ◌*◌, ◌≤◌}
use lib.ListN.{take}
use Rattle.lines.specs.Put.{Put}
use Rattle.console.specs.Line.{spaced}
use Rattle.console.proofs.fields.write_fields.Given as goal

abbrev pub invariant-loop-number : goal.invariant-loop-number
invariant-loop-number l = record { put : Put l.initial.buf l.at (spaced (take l.number-index l.numbers)) l.buf l.p; near : l.p ≤ l.at + 21 * l.number-index }
