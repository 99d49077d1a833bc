-- `write_table` meets its contract.
use native.Mathlib.Omega.{arith}
use Rattle.model_text.proofs.Laws.Writing.{put_slot, put_last}
use Rattle.model_text.proofs.writing.write_table.Goals as goal

pub loop-j-preserved : goal.loop-j-preserved
loop-j-preserved c = put_slot c.args.t.now _ _ _ c.loop-j.j _ _ c.loop-j.invariant c.write_slot-at.ensures

pub returns : goal.returns
returns c = put_last c.args.t.now _ _ _ c.loop-j.j _ _ (omega arith) c.loop-j.invariant c.write_record.ensures
