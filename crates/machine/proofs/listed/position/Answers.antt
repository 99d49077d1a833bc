-- `position` meets its contract.
use native.Mathlib.Omega.{arith}
use mathlib.Core.Path.{◌≡◌}
use lib.ListN.{length, take, length-take}
use borrow.Author.Rules.{rules}
use Rattle.meaning.specs.Text.ModelTable.{decode}
use Rattle.meaning.proofs.Hooks.{behind_le}
use Rattle.machine.proofs.listed.position.Goals as goal

pub ahead-requires : goal.ahead-requires
ahead-requires c =
    let a = c.args in
    let s = a.seen in
    let six : length s.tasks ≡ 6 = search rules in
    let all : length s.beaten ≡ 6 = search rules in
    omega (arith, c.first_place-from.ensures, behind_le (decode a.model.now.cells.now) a.task (take s.count s.tasks), length-take s.count s.tasks, length-take s.count s.beaten)
