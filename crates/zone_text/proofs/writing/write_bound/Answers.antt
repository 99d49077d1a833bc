-- `zone_text::writing::write_bound` meets its contract.
use native.Mathlib.Omega.{arith}
use Rattle.lines.proofs.Laws.Putting.{put_length, put_nothing}
use Prim.Native.Nat.{◌-◌}
use mathlib.Core.List.{[]}
use mathlib.Core.Path.{sym}
use Rattle.meaning.specs.Text.ProposalText.{bound_text}
use Rattle.zone_table.specs.Kept.{kept_bound}
use Rattle.zone_text.proofs.PutRows.{put_as, there_not, bound_put, bound_length_is}
use Rattle.zone_text.proofs.writing.write_bound.Goals as goal

pub returns-then-v-eq0 : goal.returns-then-v-eq0
returns-then-v-eq0 c = let a = c.args in put_as [] _ (sym (there_not a.v (bound_text (kept_bound a.i a.j (a.v - 1))) (omega arith))) (put_nothing _ _)

pub write_bytes-p-requires : goal.write_bytes-p-requires
write_bytes-p-requires c = let a = c.args in let h = c.requires in omega (arith, bound_length_is a.i a.j a.v (omega arith))

pub write_fields-requires : goal.write_fields-requires
write_fields-requires c = let a = c.args in let h = c.requires in let w = c.write_bytes-p in omega (arith, bound_length_is a.i a.j a.v (omega arith), w.ensures.next, put_length _ _ _ _ _ w.ensures)

pub returns : goal.returns
returns c = let a = c.args in bound_put _ _ _ _ a.i a.j a.v _ _ (omega arith) c.write_bytes-p.ensures c.write_fields.ensures
