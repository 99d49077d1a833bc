-- `step_reach::reply::stepped` meets its contract.
use Rattle.meaning.specs.Text.ModelTable.{decode}
use Rattle.zone_list.specs.Steps.{step_of}
use Rattle.step_reach.proofs.ReplyLaws.{step_empty, step_maps, step_some}
use Rattle.step_reach.proofs.reply.stepped.Goals as goal

pub returns-in-None : goal.returns-in-None
returns-in-None c =
    step_empty (decode c.args.model.now.cells.now) c.args.model.now.right.right c.args.zone c.requires.lent (step_of c.args.step) c.plan_of-plan.result c.plan_of-plan.ensures c.in-None.ensures

pub remap-requires-clause-maps : goal.remap-requires-clause-maps
remap-requires-clause-maps c =
    step_maps (decode c.args.model.now.cells.now) c.args.model.now.right.right c.args.zone c.requires.lent (step_of c.args.step) c.plan_of-plan.result c.plan_of-plan.ensures
    c.in-Some.m c.in-Some.ensures

pub returns-in-Some : goal.returns-in-Some
returns-in-Some c =
    step_some (decode c.args.model.now.cells.now) c.args.model.now.right.right c.args.zone c.requires.lent (step_of c.args.step) c.plan_of-plan.result c.plan_of-plan.ensures
    c.in-Some.m c.in-Some.ensures c.remap.result c.remap.ensures
