-- `try_bounds::two_jobs` meets its contract.
use native.Mathlib.Omega.{arith}
use Rattle.std.proofs.lemmas.Option.{IfSome_then}
use Rattle.try_bounds.proofs.two_jobs.Goals as goal

pub returns : goal.returns
returns c =
    IfSome_then c.zone.result c.zone.ensures (λ m w. record {
      ready = w.ready;
      reaches = λ x s. let h = w.meets x s 1 (omega arith) in omega (arith, s.zero);
      rising = λ x s. let h = w.meets x s 2 (omega arith) in omega arith;
    })
