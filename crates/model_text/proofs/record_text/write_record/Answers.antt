-- `write_record` meets its contract.
use native.Mathlib.Omega.{arith}
use mathlib.Core.Path.{ap}
use lib.ListN.{length, length-set}
use Rattle.model_text.specs.Marks.{kind_of}
use Rattle.model_text.proofs.Laws.Slots.{line_is}
use Rattle.model_text.proofs.record_text.write_record.Goals as goal

pub bounds-buf-at-2 : goal.bounds-buf-at-2
bounds-buf-at-2 c = let a = c.args in simp length-set (omega (arith, ap length (line_is (kind_of a.mark) a.t.now a.j)))

pub write_numbers-requires-clause-room : goal.write_numbers-requires-clause-room
write_numbers-requires-clause-room c = let a = c.args in simp length-set (omega (arith, ap length (line_is (kind_of a.mark) a.t.now a.j)))
