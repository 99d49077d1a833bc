-- `verdict::kinds::late_at` meets its contract.
use mathlib.Core.Path.{◌≡◌}
use Prim.Native.Nat.{suc, ◌+◌, ◌-◌, ◌<◌}
use native.Mathlib.Omega.{arith}
use borrow.Author.Rules.{rules}
use lib.IntN.{pos}
use lib.ListN.{length, get_or}
use mir.Syntax.{w32}
use mir.Val.{to_z}
use mir.ValLaws.{to_z_pos}
use Rattle.meaning.specs.Text.ModelTable.{clocks}
use Rattle.model_table.specs.Parts.{deadline_in}
use Rattle.model_table.proofs.PartLaws.{deadline_small}
use Rattle.bounds.proofs.Signed.{fits_make}
use Rattle.zone_bounds.proofs.LoopLaws.{clocks_small}
use Rattle.verdict.proofs.KindLaws.{late_index, late_asks, late_judged}
use Rattle.verdict.proofs.kinds.late_at.Goals as goal

pub bounds-tasks-k : goal.bounds-tasks-k
bounds-tasks-k c =
    late_index c.args.model.now.cells.now c.args.model.now.right c.args.m.now c.args.plan (search rules) c.args.late c.requires.late_by

pub overflow_cast-d : goal.overflow_cast-d
overflow_cast-d c =
    let D-of : c.deadline-d.result ≡ deadline_in c.args.model.now.cells.now (get_or c.args.plan.home.tasks (c.args.late - 1) 0) =
    (c.deadline-d.ensures) in
    let small : c.deadline-d.result < 20000 =
    (omega (arith, D-of, deadline_small c.args.model.now.cells.now c.args.model.now.right (get_or c.args.plan.home.tasks (c.args.late - 1) 0))) in
    fits_make (omega (arith, small)) (omega arith)

pub sum_at-age-requires : goal.sum_at-age-requires
sum_at-age-requires c =
    let six : length c.args.plan.home.tasks ≡ 6 = search rules in
    let i = late_index c.args.model.now.cells.now c.args.model.now.right c.args.m.now c.args.plan six c.args.late c.requires.late_by in
    (omega (arith, c.clocks.ensures, clocks_small c.args.model.now.cells.now c.args.model.now.right), omega arith)

pub smallest_apart-requires : goal.smallest_apart-requires
smallest_apart-requires c =
    let six : length c.args.plan.home.tasks ≡ 6 = search rules in
    let D-of : c.deadline-d.result ≡ deadline_in c.args.model.now.cells.now (get_or c.args.plan.home.tasks (c.args.late - 1) 0) = c.deadline-d.ensures in
    let small : c.deadline-d.result < 20000 =
    omega (arith, D-of, deadline_small c.args.model.now.cells.now c.args.model.now.right (get_or c.args.plan.home.tasks (c.args.late - 1) 0)) in
    let as_is : to_z w32 c.deadline-d.result ≡ pos c.deadline-d.result = to_z_pos w32 c.deadline-d.result (omega (arith, small)) in
    let age-of : c.sum_at-age.result + 1 ≡ suc (suc (clocks c.args.model.now.cells.now) + ((c.args.late - 1) + (c.args.late - 1))) =
    omega (arith, c.sum_at-age.ensures, c.clocks.ensures) in
    let a = late_asks c.args.model.now.cells.now c.args.model.now.right c.args.m.now c.args.plan six c.args.late c.requires.late_by (c.sum_at-age.result + 1) age-of c.deadline-d.result D-of in
    rw as_is (record { i_lt_variables = (a.0, a.1); size = a.2; apart_by = a.3 })

pub returns : goal.returns
returns c =
    let six : length c.args.plan.home.tasks ≡ 6 = search rules in
    let D-of : c.deadline-d.result ≡ deadline_in c.args.model.now.cells.now (get_or c.args.plan.home.tasks (c.args.late - 1) 0) = c.deadline-d.ensures in
    let small : c.deadline-d.result < 20000 =
    omega (arith, D-of, deadline_small c.args.model.now.cells.now c.args.model.now.right (get_or c.args.plan.home.tasks (c.args.late - 1) 0)) in
    let as_is : to_z w32 c.deadline-d.result ≡ pos c.deadline-d.result = to_z_pos w32 c.deadline-d.result (omega (arith, small)) in
    let age-of : c.sum_at-age.result + 1 ≡ suc (suc (clocks c.args.model.now.cells.now) + ((c.args.late - 1) + (c.args.late - 1))) =
    omega (arith, c.sum_at-age.ensures, c.clocks.ensures) in
    late_judged c.args.model.now.cells.now c.args.model.now.right c.args.m.now c.args.plan six c.args.late c.requires.late_by (c.sum_at-age.result + 1) age-of c.deadline-d.result D-of c.smallest_apart.result
    (rw as_is at c.smallest_apart.ensures)
