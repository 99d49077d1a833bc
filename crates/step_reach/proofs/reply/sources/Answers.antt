-- `step_reach::reply::sources` meets its contract.
use Rattle.model_table.specs.Held.{model_of}
use Rattle.meaning.specs.Inner.Slots.{zone_bounds}
use Rattle.meaning.specs.Inner.StepBounds.{step_bounds}
use Rattle.home.specs.Stands.{home_of}
use Rattle.zone_list.specs.Steps.{step_of}
use Rattle.zone.specs.Stands.{zone_of}
use Rattle.zone_bounds.proofs.NarrowLaws.{narrowed_then}
use Rattle.step_reach.proofs.reply.sources.Goals as goal

pub returns : goal.returns
returns c =
    let m = model_of c.args.model.now in
    narrowed_then (zone_bounds m (zone_of c.args.zone)) (step_bounds m (home_of c.args.zone.home) (step_of c.args.step)) c.zone_matrix-states.result c.step_matrix.result
    c.zone_matrix-states.ensures c.step_matrix.ensures
