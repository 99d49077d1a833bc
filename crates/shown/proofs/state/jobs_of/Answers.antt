-- `shown::state::jobs_of` meets its contract.
use native.Mathlib.Omega.{arith}
use Rattle.shown.proofs.StateLaws.{jobs_end}
use Rattle.shown.proofs.state.jobs_of.Goals as goal

pub returns : goal.returns
returns c =
    let i = c.loop-k.invariant in
    jobs_end c.args.v c.args.n c.args.order.now c.requires.n_bound.1 c.loop-k.r i.long (λ k h. i.cells k (omega arith)) (λ k h. i.rest k (omega arith))
