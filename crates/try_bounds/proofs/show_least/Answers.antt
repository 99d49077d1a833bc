-- `try_bounds::show_least` meets its contract.
use native.Mathlib.Omega.{arith}
use lib.IntN.{negsuc}
use Rattle.bounds.proofs.Ranges.{ready_tighten}
use Rattle.try_bounds.proofs.show_least.Goals as goal

pub least-requires : goal.least-requires
least-requires c =
    let R = ready_tighten c.args.m 6 1 5 (negsuc 2) c.in-Some.r 6 640002 (omega arith) (omega arith) c.requires.ready (omega arith) (omega arith) c.in-Some.ensures in
    record { n_bound = omega arith; entries = (R.entries, R.closed) }
