-- Which test of who beats whom a `Test` is: serves contracts of inner functions and need not be believed.
-- Assumes nothing.
use Rattle.std.specs.Prelude.{◌≡◌, ◌<◌}
use Rattle.meaning.specs.Text.Ranges.{variables_most}
use Rattle.meaning.specs.Inner.Tests as T
use Rattle.bounds.specs.Matrix.{Size}
use Rattle.step_bounds.specs.declared.tests.Test.{Test}
use Rattle.step_bounds.specs.declared.tests.Test.TheVariants.{Always, Never, AtMost}

-- the test of the middle layer
abbrev pub test_of : Test → T.Test
test_of Always = T.always
test_of Never = T.never
test_of (AtMost i j c) = T.at_most i j c

-- it looks at variables that there are, and its number leaves room for 1 more
abbrev pub Askable : Test → Type 0
Askable Always = Unit {0}
Askable Never = Unit {0}
Askable (AtMost i j c) = (i < variables_most) × (j < variables_most) × Size c 400000

-- r is the test f
pub record Asks (f : T.Test) (r : Test) : Type 0 where
  pub is : test_of r ≡ f
  pub askable : Askable r
