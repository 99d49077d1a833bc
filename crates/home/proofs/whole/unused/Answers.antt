-- `home::whole::unused` meets its contract.
use Prim.Native.Nat.{ℕ, ◌-◌}
use mathlib.Core.Path.{refl, ◌∙◌}
use native.Mathlib.Omega.{arith}
use lib.Dec.{eqb}
use lib.ListN.{get_or}
use borrow.Author.Tests.{tests}
use Rattle.std.proofs.Common.{rules}
use Rattle.std.proofs.lemmas.Iterator.{YieldsList-from_range}
use Rattle.std.proofs.lemmas.Iterator.Search.{all_from_yields_List}
use Rattle.home.proofs.WholeLaws.{zeros_between}
use Rattle.home.proofs.whole.unused.Goals as goal

pub returns : goal.returns
returns c =
    let a = c.args in
    all_from_yields_List (λ (k : ℕ). eqb (get_or a.tasks k 0) 0) _ _ _ c.all.ensures.ran (YieldsList-from_range a.n 6 (6 - a.n) refl refl) (λ x b q k. search (rules, tests))
    ∙ zeros_between a.tasks a.n (6 - a.n) (omega arith)
