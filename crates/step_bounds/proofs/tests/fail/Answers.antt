-- `step_bounds::tests::fail` meets its contract.
use mathlib.Core.Path.{◌≡◌}
use Rattle.step_bounds.proofs.TestLaws.{narrows_impossible}
use Rattle.step_bounds.specs.declared.tests.Test.TheVariants.{Always}
use Rattle.step_bounds.proofs.tests.fail.Goals as goal

pub returns-in-Always : goal.returns-in-Always
returns-in-Always c = let e : c.args.test ≡ Always = c.in-Always.is in
    rw e (narrows_impossible c.args.m)
