-- `guard_holds` meets its contract.
use Prim.Native.Nat.{ℕ, ◌/◌, ◌%◌}
use mathlib.Core.Bool.{Bool}
use mathlib.Core.Path.{◌∙◌, refl}
use Rattle.std.proofs.Common.{rules}
use Rattle.std.proofs.lemmas.Iterator.{YieldsList-from_range}
use Rattle.std.proofs.lemmas.Iterator.Search.{all_from_yields_List}
use borrow.Author.Tests.{tests}
use Rattle.meaning.specs.Lists.{nth1D}
use Rattle.model_table.specs.Parts.{bound_in}
use Rattle.machine.specs.ByCell.{bound_met}
use Rattle.machine.proofs.AllCells.{every_collect}
use Rattle.machine.proofs.clocks.guard_holds.Goals as goal

pub returns : goal.returns
returns c =
    let a = c.args in
    let h : ℕ → Bool = λ (y : ℕ). bound_met (bound_in a.model.now.cells.now a.edge (y / 5) (y % 5)) (nth1D a.clocks (y / 5) 0) (nth1D a.clocks (y % 5) 0) in
    all_from_yields_List h _ _ _ c.all.ensures.ran (YieldsList-from_range 0 25 25 refl refl) (λ x b q k. search (rules, tests))
    ∙ every_collect _ 25 _ _
