-- `line_end` meets its contract.
use native.Mathlib.Omega.{arith}
use mathlib.Core.Path.{◌≡◌, sym}
use Prim.Native.Nat.{◌-◌}
use lib.ListN.{length, take, drop, length-drop}
use lib.Seq.{take_all}
use Rattle.console.proofs.PartLaws.{feed_found, feed_none}
use Rattle.console.proofs.part.line_end.Goals as goal

pub returns-in-Some : goal.returns-in-Some
returns-in-Some c =
    let s = c.args.text.now in
    let rest = drop c.args.at s in
    let whole : take (length s - c.args.at) rest ≡ rest = take_all _ rest (omega (arith, length-drop c.args.at s)) in
    omega (arith, feed_found rest c.in-Some.k (rw whole at (sym c.in-Some.ensures)))

pub returns-in-None : goal.returns-in-None
returns-in-None c =
    let s = c.args.text.now in
    let rest = drop c.args.at s in
    let whole : take (length s - c.args.at) rest ≡ rest = take_all _ rest (omega (arith, length-drop c.args.at s)) in
    omega (arith, feed_none rest (rw whole at (sym c.in-None.ensures)), length-drop c.args.at s)
