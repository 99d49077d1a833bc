-- `bounds::broken::claimed` meets its contract.
use Prim.Native.Nat.{◌+◌, ◌*◌}
use native.Mathlib.Omega.{arith}
use lib.IntN.{pos}
use mir.Syntax.{w32}
use mir.Val.{SFits}
use mir.Facts.{sfits_lit}
use Rattle.bounds.proofs.Signed.{fits_make, diff_fits}
use Rattle.bounds.proofs.broken.claimed.Goals as goal

added : SFits w32 (pos 32001)
added = sfits_lit tt

pub overflow_cast-result : goal.overflow_cast-result
overflow_cast-result c =
    let small = c.requires.cells.small (c.args.a * 17 + c.args.b) (omega arith) in
    fits_make (omega arith) (omega arith)

pub overflow_sub-result : goal.overflow_sub-result
overflow_sub-result c =
    let small = c.requires.cells.small (c.args.a * 17 + c.args.b) (omega arith) in
    diff_fits (overflow_cast-result c) added (omega arith) (omega arith)
