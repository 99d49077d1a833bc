-- `zone_bounds::states::zone_matrix` meets its contract.
use mathlib.Core.List.{[]}
use native.Mathlib.Omega.{arith}
use Prim.Native.Nat.{◌≤◌}
use lib.ListN.{length}
use Rattle.std.proofs.lemmas.List.{length-take}
use Rattle.std.specs.Prelude.{None, Some}
use Rattle.model_table.specs.Held.{model_of}
use Rattle.meaning.specs.Inner.Slots.{proper_bounds}
use Rattle.home.specs.Stands.{order_of}
use Rattle.zone_bounds.specs.Entries.{bounds_in}
use Rattle.zone_bounds.proofs.NarrowLaws.{narrowed_first, narrowed_then, narrowed_stop}
use Rattle.zone_bounds.proofs.states.zone_matrix.Goals as goal

pub proper-requires : goal.proper-requires
proper-requires c =
    let few : length (order_of c.args.home) ≤ 6 = omega (arith, length-take c.args.home.count c.args.home.tasks) in
    record { order_length = rw c.order.ensures few; workable = (narrowed_first c.top.result c.top.ensures).ready }

pub returns-in_err-jobs : goal.returns-in_err-jobs
returns-in_err-jobs c =
    let o = proper_bounds (model_of c.args.model.now) (order_of c.args.home) in
    rw c.from_residual.ensures
    (narrowed_stop o (bounds_in c.args.bounds) (narrowed_then [] o (Some c.top.result) None (narrowed_first c.top.result c.top.ensures) (rw c.order.ensures at c.in_err-jobs.ensures)))

pub returns : goal.returns
returns c =
    let o = proper_bounds (model_of c.args.model.now) (order_of c.args.home) in
    let jobs = c.in_ok-jobs.jobs in
    narrowed_then o (bounds_in c.args.bounds) (Some jobs) c.written.result
    (narrowed_then [] o (Some c.top.result) (Some jobs) (narrowed_first c.top.result c.top.ensures) (rw c.order.ensures at c.in_ok-jobs.ensures)) c.written.ensures
