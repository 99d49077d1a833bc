-- `shown::lowest::smallest_apart` meets its contract.
use mathlib.Core.Path.{sym}
use Rattle.std.specs.Prelude.{Some}
use mathlib.Core.List.{[], ◌∷◌}
use Prim.Native.Nat.{ℕ, ◌<◌}
use Rattle.meaning.specs.Text.ModelTable.{decode}
use Rattle.bounds.specs.Matrix.{ent, Size}
use Rattle.zone_bounds.specs.Narrowed.{Narrows}
use Rattle.shown.proofs.SumLaws.{first_fits, both_fits, both_back, both_small}
use Rattle.shown.proofs.StateLaws.{plan_into, plan_size}
use Rattle.shown.proofs.LowestLaws.{bound_before, apart_some, lowest_apart, apart_shown}
use Rattle.shown.proofs.lowest.smallest_apart.Goals as goal
use Rattle.shown.proofs.lowest.smallest_apart.Goals.{Start, After-within, After-unwrap-apart}

size : (c : Start) → (a : ℕ) → a < c.args.plan.variables → Size (ent c.args.plan.off a) 100000
size c =
    let d = c.requires.apart_by in
    plan_size (decode c.args.model.now.cells.now) d.zone d.step c.args.plan d.drawn.planned c.args.model.now.right.right

size_i : (c : Start) → Size (ent c.args.plan.off c.args.i) 100000
size_i c = size c c.args.i c.requires.i_lt_variables.0

size_j : (c : Start) → Size (ent c.args.plan.off c.args.j) 100000
size_j c = size c c.args.j c.requires.i_lt_variables.1

-- narrowed by the bound that is asked for, as it stood before the step
narrows : (c : After-within) → Narrows (bound_before c.args.plan c.args.i c.args.j c.args.c ∷ []) (Some c.args.m.now) c.within.result
narrows c =
    let s = (goal.at.After-within c).Start in
    rw (both_back (ent c.args.plan.off c.args.i) (ent c.args.plan.off c.args.j) c.args.c (size_i s) (size_j s) c.requires.size) at c.within.ensures

narrows_some : (c : After-unwrap-apart) → Narrows (bound_before c.args.plan c.args.i c.args.j c.args.c ∷ []) (Some c.args.m.now) (Some c.unwrap-apart.result)
narrows_some c = rw (sym c.unwrap-apart.ensures) (narrows (goal.at.After-unwrap-apart c).After-within)

pub overflow_sub-more : goal.overflow_sub-more
overflow_sub-more c =
    let s = (goal.at.overflow_sub-more c).Start in
    first_fits (ent c.args.plan.off c.args.i) (ent c.args.plan.off c.args.j) c.args.c (size_i s) (size_j s) c.requires.size

pub overflow_sub-more-2 : goal.overflow_sub-more-2
overflow_sub-more-2 c =
    let s = (goal.at.overflow_sub-more-2 c).Start in
    both_fits (ent c.args.plan.off c.args.i) (ent c.args.plan.off c.args.j) c.args.c (size_i s) (size_j s) c.requires.size

pub within-requires-clause-i_bound : goal.within-requires-clause-i_bound
within-requires-clause-i_bound c =
    let d = c.requires.apart_by in
    let into = plan_into (decode c.args.model.now.cells.now) d.zone d.step c.args.plan d.drawn.planned d.drawn.few in
    (into c.args.j c.requires.i_lt_variables.1, into c.args.i c.requires.i_lt_variables.0)

pub within-requires-clause-size : goal.within-requires-clause-size
within-requires-clause-size c =
    let s = (goal.at.within-requires-clause-size c).Start in
    let a = ent c.args.plan.off c.args.i in
    let b = ent c.args.plan.off c.args.j in
    rw (both_back a b c.args.c (size_i s) (size_j s) c.requires.size) (both_small a b c.args.c (size_i s) (size_j s) c.requires.size)

pub unwrap-apart-requires : goal.unwrap-apart-requires
unwrap-apart-requires c =
    let d = c.requires.apart_by in
    apart_some (decode c.args.model.now.cells.now) d.zone d.step c.args.m.now c.args.plan d.drawn c.args.i c.args.j c.args.c c.requires.i_lt_variables.0 c.requires.i_lt_variables.1
    c.within.result (narrows (goal.at.unwrap-apart-requires c).After-within) d.at d.source d.apart

pub least-requires-clause-entries : goal.least-requires-clause-entries
least-requires-clause-entries c =
    let r = (narrows_some (goal.at.least-requires-clause-entries c).After-unwrap-apart).usable in
    (r.entries, r.closed)

pub shown_state-requires : goal.shown_state-requires
shown_state-requires c =
    let d = c.requires.apart_by in
    apart_shown (decode c.args.model.now.cells.now) d.zone d.step c.args.m.now c.args.plan d.drawn c.args.i c.args.j c.args.c c.requires.i_lt_variables.0 c.requires.i_lt_variables.1
    c.unwrap-apart.result (narrows_some (goal.at.shown_state-requires c).After-unwrap-apart) c.least.result c.least.ensures

pub returns : goal.returns
returns c z st d =
    let l = lowest_apart (decode c.args.model.now.cells.now) z st c.args.m.now c.args.plan d c.args.i c.args.j c.args.c c.requires.i_lt_variables.0 c.requires.i_lt_variables.1
    c.unwrap-apart.result (narrows_some (goal.at.returns c).After-unwrap-apart) c.least.result c.least.ensures in
    record { at = _; lowest = l; is = c.shown_state.ensures z st d.ranged d.planned l.is.0 }
