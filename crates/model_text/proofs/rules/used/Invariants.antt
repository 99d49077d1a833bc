-- What the loop of `used` keeps.
use mathlib.Core.Path.{◌≡◌}
use mathlib.Core.Bool.{false}
use Rattle.meaning.specs.Text.ModelReader.{used}
use Rattle.model_text.proofs.rules.used.Given as goal

abbrev pub invariant-loop-k : goal.invariant-loop-k
invariant-loop-k l = used l.t l.priority l.k ≡ false
