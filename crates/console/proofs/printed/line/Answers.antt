-- `line` meets its contract.
use native.Mathlib.Omega.{arith}
use mathlib.Core.Path.{refl}
use Rattle.console.proofs.LineLaws.{wrote_short, wrote_line}
use Rattle.console.proofs.printed.line.Goals as goal

pub returns-then-buffer-n-clause-wrote : goal.returns-then-buffer-n-clause-wrote
returns-then-buffer-n-clause-wrote c =
    let w = c.write_line-n in
    let a = c.args in
    wrote_short a.told a.buffer.now w.result w.ensures.written.next (omega arith)

pub returns-clause-wrote : goal.returns-clause-wrote
returns-clause-wrote c =
    let w = c.write_line-n in
    let a = c.args in
    wrote_line a.told a.buffer.now w.result _ w.new.buf _ _ (omega (arith, w.ensures.near, w.ensures.written.next)) w.ensures.written (omega arith)
    c.copy_from_slice.ensures.after refl
