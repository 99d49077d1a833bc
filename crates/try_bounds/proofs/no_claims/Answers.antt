-- `try_bounds::no_claims` meets its contract.
use Prim.Native.Nat.{◌+◌}
use native.Mathlib.Omega.{arith}
use Rattle.bounds.proofs.Store.{zeros}
use Rattle.try_bounds.proofs.no_claims.Goals as goal

pub returns : goal.returns
returns c = record { long = omega arith; small = λ q h. omega (arith, zeros 300 (11 + q)) }
