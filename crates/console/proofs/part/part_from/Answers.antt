-- `part_from` meets its contract.
use native.Mathlib.Omega.{arith}
use lib.ListN.{drop, length-drop}
use Rattle.console.proofs.PartLaws.{line_within, shown}
use Rattle.console.proofs.part.part_from.Goals as goal

pub slice_bounds-result-end : goal.slice_bounds-result-end
slice_bounds-result-end c =
    let a = c.args in
    let s = a.text.now in
    omega (arith, c.line_end-end.ensures, line_within (drop a.at s), length-drop a.at s)

pub returns : goal.returns
returns c =
    let a = c.args in
    shown a.text a.at c.line_end-end.result c.line_end-end.ensures
