-- `verdict::kinds::broken_at` meets its contract.
use mathlib.Core.Path.{refl}
use Prim.Native.Nat.{◌+◌, ◌*◌, ◌≤◌, ◌<◌}
use native.Mathlib.Omega.{arith}
use Rattle.model_table.specs.Held.{model_of}
use Rattle.bounds.specs.Claims.{cell}
use Rattle.bounds.specs.Inner.{Claimed}
use Rattle.shown.proofs.StateLaws.{plan_few}
use Rattle.verdict.proofs.KindLaws.{above_fits, above_is, above_small}
use Rattle.verdict.proofs.kinds.broken_at.Goals as goal

pub claimed-c-requires : goal.claimed-c-requires
claimed-c-requires c =
    let few : c.args.plan.variables ≤ 17 =
    (let a = c.requires.broken_by.apart in
    plan_few (model_of c.args.model.now) a.zone a.step c.args.plan a.drawn.planned c.args.model.now.right.right) in
    let row : c.args.bound.i < 17 =
    (omega (arith, few, c.requires.broken_by.row)) in
    let column : c.args.bound.j < 17 =
    (omega (arith, few, c.requires.broken_by.column)) in
    record { a_bound = (row, column); cells = c.requires.broken_by.cells }

pub overflow_cast-result : goal.overflow_cast-result
overflow_cast-result c =
    let few : c.args.plan.variables ≤ 17 =
    (let a = c.requires.broken_by.apart in
    plan_few (model_of c.args.model.now) a.zone a.step c.args.plan a.drawn.planned c.args.model.now.right.right) in
    let row : c.args.bound.i < 17 =
    (omega (arith, few, c.requires.broken_by.row)) in
    record { fits = omega (arith, row) }

pub overflow_cast-result-2 : goal.overflow_cast-result-2
overflow_cast-result-2 c =
    let few : c.args.plan.variables ≤ 17 =
    (let a = c.requires.broken_by.apart in
    plan_few (model_of c.args.model.now) a.zone a.step c.args.plan a.drawn.planned c.args.model.now.right.right) in
    let column : c.args.bound.j < 17 =
    (omega (arith, few, c.requires.broken_by.column)) in
    record { fits = omega (arith, column) }

pub overflow_add-c : goal.overflow_add-c
overflow_add-c c =
    let few : c.args.plan.variables ≤ 17 =
    (let a = c.requires.broken_by.apart in
    plan_few (model_of c.args.model.now) a.zone a.step c.args.plan a.drawn.planned c.args.model.now.right.right) in
    let row : c.args.bound.i < 17 = omega (arith, few, c.requires.broken_by.row) in
    let column : c.args.bound.j < 17 = omega (arith, few, c.requires.broken_by.column) in
    let most : cell c.args.zones.now c.args.start c.args.bound.i c.args.bound.j ≤ 64001 =
    omega (arith, c.requires.broken_by.cells.small (c.args.bound.i * 17 + c.args.bound.j) (omega (arith, row, column))) in
    let told : Claimed (cell c.args.zones.now c.args.start c.args.bound.i c.args.bound.j) c.claimed-c.result = c.claimed-c.ensures in
    above_fits c.args.zones.now c.args.start c.args.bound.i c.args.bound.j most c.requires.broken_by.there c.claimed-c.result told

pub smallest_apart-requires : goal.smallest_apart-requires
smallest_apart-requires c =
    let few : c.args.plan.variables ≤ 17 =
    (let a = c.requires.broken_by.apart in
    plan_few (model_of c.args.model.now) a.zone a.step c.args.plan a.drawn.planned c.args.model.now.right.right) in
    let row : c.args.bound.i < 17 = omega (arith, few, c.requires.broken_by.row) in
    let column : c.args.bound.j < 17 = omega (arith, few, c.requires.broken_by.column) in
    let most : cell c.args.zones.now c.args.start c.args.bound.i c.args.bound.j ≤ 64001 =
    omega (arith, c.requires.broken_by.cells.small (c.args.bound.i * 17 + c.args.bound.j) (omega (arith, row, column))) in
    let told : Claimed (cell c.args.zones.now c.args.start c.args.bound.i c.args.bound.j) c.claimed-c.result = c.claimed-c.ensures in
    let e = above_is c.args.zones.now c.args.start c.args.bound.i c.args.bound.j most c.requires.broken_by.there c.claimed-c.result told in
    let q = above_small c.args.zones.now c.args.start c.args.bound.i c.args.bound.j most c.requires.broken_by.there c.claimed-c.result told in
    rw e (record { i_lt_variables = (c.requires.broken_by.row, c.requires.broken_by.column); size = q; apart_by = c.requires.broken_by.apart })

pub returns : goal.returns
returns c =
    let few : c.args.plan.variables ≤ 17 =
    (let a = c.requires.broken_by.apart in
    plan_few (model_of c.args.model.now) a.zone a.step c.args.plan a.drawn.planned c.args.model.now.right.right) in
    let row : c.args.bound.i < 17 = omega (arith, few, c.requires.broken_by.row) in
    let column : c.args.bound.j < 17 = omega (arith, few, c.requires.broken_by.column) in
    let most : cell c.args.zones.now c.args.start c.args.bound.i c.args.bound.j ≤ 64001 =
    omega (arith, c.requires.broken_by.cells.small (c.args.bound.i * 17 + c.args.bound.j) (omega (arith, row, column))) in
    let told : Claimed (cell c.args.zones.now c.args.start c.args.bound.i c.args.bound.j) c.claimed-c.result = c.claimed-c.ensures in
    let e = above_is c.args.zones.now c.args.start c.args.bound.i c.args.bound.j most c.requires.broken_by.there c.claimed-c.result told in
    λ z st w. record { fault = refl; state = (rw e at c.smallest_apart.ensures) z st w }
