-- `step_bounds::tests::hold` meets its contract.
use mathlib.Core.Path.{◌≡◌}
use Rattle.step_bounds.proofs.TestLaws.{narrows_impossible}
use Rattle.step_bounds.specs.declared.tests.Test.TheVariants.{Never}
use Rattle.step_bounds.proofs.tests.hold.Goals as goal

pub returns-in-Never : goal.returns-in-Never
returns-in-Never c = let e : c.args.test ≡ Never = c.in-Never.is in
    rw e (narrows_impossible c.args.m)
