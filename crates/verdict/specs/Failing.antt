-- A failed obligation.
-- Assumes nothing.
use Rattle.std.specs.Prelude.{ℕ}
use Rattle.verdict.specs.declared.answer.Failure.{Failure}
use Rattle.verdict.specs.declared.answer.Found.{Found}

-- obligation number n, of zone z and place x, fails as is found
abbrev pub failing : ℕ → ℕ → ℕ → Found → Failure
failing n z x f = record { number = n; zone = z; place = x; fault = f.fault; state = f.state }
