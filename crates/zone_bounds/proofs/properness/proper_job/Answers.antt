-- `zone_bounds::properness::proper_job` meets its contract.
use mathlib.Core.Path.{◌∙◌}
use native.Mathlib.Numerals.{add-one}
use Rattle.std.specs.Prelude.{Some}
use Rattle.model_table.proofs.PartLaws.{work_is, deadline_is}
use Rattle.zone_bounds.proofs.NumberLaws.{less_read}
use Rattle.zone_bounds.proofs.NarrowLaws.{narrows_then}
use Rattle.zone_bounds.proofs.properness.proper_job.Goals as goal

pub returns : goal.returns
returns c =
    let l = c.less-c in
    let k = c.less-d in
    let e = less_read l.result c.work.result 1 _ (record { sfits = l.type_inv }) l.ensures (c.work.ensures ∙ work_is c.args.model.now.cells.now c.args.model.now.right c.args.task) in
    let f = less_read k.result c.deadline.result 1 _ (record { sfits = k.type_inv }) k.ensures (c.deadline.ensures ∙ deadline_is c.args.model.now.cells.now c.args.model.now.right c.args.task) in
    narrows_then _ _ (Some c.args.m) c.narrow-worked.result c.narrow.result
    (narrows_then _ _ (Some c.args.m) c.within-ordered.result c.narrow-worked.result c.within-ordered.ensures (rw e at c.narrow-worked.ensures)) (rw (add-one, f) at c.narrow.ensures)
