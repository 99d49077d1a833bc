-- `write_fields` meets its contract.
use native.Mathlib.Omega.{arith}
use mathlib.Core.List.{append-nil}
use lib.ListN.{get_or, length-set}
use Rattle.lines.proofs.Laws.Putting.{put_cons}
use Rattle.console.proofs.LineLaws.{digits_short, put_number}
use Rattle.console.proofs.fields.write_fields.Goals as goal

pub write_digits-p-requires : goal.write_digits-p-requires
write_digits-p-requires c =
    let l = c.loop-number in
    simp length-set (omega (arith, digits_short 20 (get_or c.args.numbers.now l.number-index 0), l.auto.buf, c.loop-number-test.true))

pub loop-number-preserved : goal.loop-number-preserved
loop-number-preserved c =
    let a = c.args in
    let l = c.loop-number in
    put_number a.buf.now a.at a.numbers.now l.number-index l.buf l.p l.invariant.put _ _ c.loop-number-test.true
    (simp append-nil (put_cons l.buf l.p 32 _ _ _ c.write_digits-p.ensures))
