-- `verdict::start::try_start` meets its contract.
use mathlib.Core.Path.{ap}
use mathlib.Core.Bool.{not}
use native.Mathlib.Omega.{arith}
use Rattle.verdict.proofs.StartLaws.{zeros_closed, zeros_entries, zeros_map, zeros_maps}
use Rattle.verdict.proofs.StartFound.{start_cells, home_asks, start_away, start_broken, start_clear}
use Rattle.verdict.proofs.start.try_start.Goals as goal

pub same_home-requires : goal.same_home-requires
same_home-requires c =
    let r = c.start_given in
    let w = c.tasks_of in
    home_asks c.args.model.now.cells.now c.args.model.now.right c.args.zones.now c.requires r.result r.ensures w.result w.ensures c.home_at.result c.home_at.ensures

pub returns-then-not-same_home : goal.returns-then-not-same_home
returns-then-not-same_home c =
    let k = c.same_home in
    let r = c.start_given in
    let w = c.tasks_of in
    start_away c.args.model.now.cells.now c.args.model.now.right c.args.zones.now c.requires r.result r.ensures w.result w.ensures c.home_at.result c.home_at.ensures
    k.result k.ensures (ap not c.if-not-same_home.true)

pub variables-n-requires : goal.variables-n-requires
variables-n-requires c =
    let r = c.start_given in
    let w = c.tasks_of in
    record { count_bound = (home_asks c.args.model.now.cells.now c.args.model.now.right c.args.zones.now c.requires r.result r.ensures w.result w.ensures c.home_at.result c.home_at.ensures).0 }

pub first_broken-requires : goal.first_broken-requires
first_broken-requires c =
    let v = c.variables-n in
    record { n_bound = v.ensures.1; entries = zeros_entries; maps = zeros_maps v.result (omega (arith, v.ensures.0)); cells = start_cells c.args.model.now.cells.now c.args.model.now.right c.args.zones.now c.requires c.bounds_start.result c.bounds_start.ensures }

pub overflow_cast-result : goal.overflow_cast-result
overflow_cast-result c =
    let v = c.variables-n in
    let first = c.in_ok-b.ensures 17 zeros_closed (zeros_map v.result (omega (arith, v.ensures.0))) in
    record { fits = omega (arith, v.ensures.1, first.inside.0) }

pub overflow_cast-result-2 : goal.overflow_cast-result-2
overflow_cast-result-2 c =
    let v = c.variables-n in
    let first = c.in_ok-b.ensures 17 zeros_closed (zeros_map v.result (omega (arith, v.ensures.0))) in
    record { fits = omega (arith, v.ensures.1, first.inside.1) }

pub returns-in_err-b : goal.returns-in_err-b
returns-in_err-b c =
    let b = c.bounds_start in
    let v = c.variables-n in
    let k = c.same_home in
    let r = c.start_given in
    let w = c.tasks_of in
    rw c.from_residual.ensures
    (start_clear c.args.model.now.cells.now c.args.model.now.right c.args.zones.now c.requires r.result r.ensures w.result w.ensures c.home_at.result c.home_at.ensures
    k.result k.ensures (ap not c.if-not-same_home.false) v.result v.ensures.0 v.ensures.1 b.result b.ensures
    (c.in_err-b.ensures 17 zeros_closed (zeros_map v.result (omega (arith, v.ensures.0)))))

pub returns : goal.returns
returns c =
    let b = c.bounds_start in
    let v = c.variables-n in
    let k = c.same_home in
    let r = c.start_given in
    let w = c.tasks_of in
    start_broken c.args.model.now.cells.now c.args.model.now.right c.args.zones.now c.requires r.result r.ensures w.result w.ensures c.home_at.result c.home_at.ensures
    k.result k.ensures (ap not c.if-not-same_home.false) v.result v.ensures.0 v.ensures.1 b.result b.ensures
    c.in_ok-b.b.i c.in_ok-b.b.j (c.in_ok-b.ensures 17 zeros_closed (zeros_map v.result (omega (arith, v.ensures.0))))
