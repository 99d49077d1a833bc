-- `is_lendable` meets its contract.
use mathlib.Core.Path.{◌≡◌, sym, ◌∙◌}
use lib.ListN.{length}
use borrow.Author.Rules.{rules}
use Rattle.machine.proofs.LendLaws.{lendable_told}
use Rattle.machine.proofs.judge.is_lendable.Goals as goal

pub returns-then-numbers_right : goal.returns-then-numbers_right
returns-then-numbers_right c =
    let s = c.args.state in
    let long : length s.clocks ≡ 4 = search rules in
    let room : length s.jobs ≡ 6 = search rules in
    lendable_told c.args.model.now.cells.now c.args.model.now.right s long room (sym c.numbers_right.ensures ∙ c.if-numbers_right.true) c.cells_right.result c.cells_right.ensures
