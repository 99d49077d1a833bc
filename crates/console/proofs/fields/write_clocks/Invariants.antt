-- What the loop of `write_clocks` keeps.
use Prim.Native.Nat.{◌+◌, ◌*◌, ◌≤◌}
use lib.ListN.{take}
use Rattle.lines.specs.Put.{Put}
use Rattle.console.specs.Line.{spaced}
use Rattle.console.proofs.fields.write_clocks.Given as goal

abbrev pub invariant-loop-clock : goal.invariant-loop-clock
invariant-loop-clock l = record { put : Put l.initial.buf l.at (spaced (take l.clock-index l.clock-items)) l.buf l.p; near : l.p ≤ l.at + 21 * l.clock-index }
