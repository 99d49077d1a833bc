-- `write_digits` meets its contract.
use Rattle.lines.proofs.Laws.Putting.{put_byte, put_then}
use Rattle.meaning.proofs.Text.WriteLaws.{dec_f_then}
use Rattle.lines.proofs.writing.+write_digits.Goals as goal

pub returns : goal.returns
returns t c = rw (dec_f_then c.args.k c.args.v c.if-k-eq0.false c.if-v-lt10.false) (put_then _ _ _ _ _ _ _ _ c.write_digits-n.ensures (put_byte _ _ _))
