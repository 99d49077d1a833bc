-- `limits_met` meets its contract.
use Prim.Native.Nat.{ℕ, ◌+◌}
use mathlib.Core.Bool.{Bool}
use mathlib.Core.Path.{◌∙◌, refl}
use Rattle.std.proofs.Common.{rules}
use Rattle.std.proofs.lemmas.Iterator.{YieldsList-from_range}
use Rattle.std.proofs.lemmas.Iterator.Search.{all_from_yields_List}
use borrow.Author.Tests.{tests}
use lib.ListN.{get_or}
use native.Mathlib.Nat.{add_comm}
use Rattle.model_table.specs.Parts.{limit_in}
use Rattle.machine.specs.ByCell.{limit_met}
use Rattle.machine.proofs.AllCells.{every_collect}
use Rattle.machine.proofs.clocks.limits_met.Goals as goal

pub returns : goal.returns
returns c =
    let a = c.args in
    let h : ℕ → Bool = λ (x : ℕ). limit_met (limit_in a.model.now a.location (1 + x)) (get_or a.clocks x 0) in
    all_from_yields_List h _ _ _ c.all.ensures.ran (YieldsList-from_range 0 4 4 refl refl) (λ x b q k. rw (add_comm 1 x) (search (rules, tests)))
    ∙ every_collect _ 4 _ _
