-- `step_reach::leaving::Leaving::entered` meets its contract.
use native.Mathlib.Omega.{arith}
use Rattle.home.specs.Stands.{home_of}
use Rattle.zone_list.specs.Steps.{step_of}
use Rattle.step_reach.proofs.PlanLaws.{stand_own}
use Rattle.step_reach.proofs.EnterLaws.{Entering, enter_room, enter_behind, entering_leads}
use borrow.Author.Rules.{rules}
use Rattle.step_reach.proofs.leaving.Leaving.entered.Goals as goal

pub slots_with-jobs-requires : goal.slots_with-jobs-requires
slots_with-jobs-requires c =
    let entering : Entering c.args.self.model.cells.now c.args.self.home c.args.step c.args.edge c.released_by-releases.result c.ahead_of.result =
    (record {
      table = c.args.self.model.right;
      home = c.args.self.right_home;
      listed = c.requires.listed;
      kind = c.requires.kind_value;
      fits = c.requires.step_value;
      releases = c.released_by-releases.ensures;
      places = c.ahead_of.ensures;
      queue_long = search rules;
      releases_long = search rules;
      ahead_long = search rules;
      positions_long = search rules;
    }) in
    let r = c.released_by-releases.result in
    let a = c.ahead_of.result in
    let w = entering in
    let room = enter_room c.args.self.model.cells.now c.args.self.home c.args.step c.args.edge r a w in
    record { n_le_count = (omega arith, w.releases.few, room); by_index = enter_behind c.args.self.model.cells.now c.args.self.home c.args.step c.args.edge r a w }

pub laid-requires : goal.laid-requires
laid-requires c = stand_own _ _ c.slots_with-jobs.ensures

pub returns : goal.returns
returns c =
    let entering : Entering c.args.self.model.cells.now c.args.self.home c.args.step c.args.edge c.released_by-releases.result c.ahead_of.result =
    (record {
      table = c.args.self.model.right;
      home = c.args.self.right_home;
      listed = c.requires.listed;
      kind = c.requires.kind_value;
      fits = c.requires.step_value;
      releases = c.released_by-releases.ensures;
      places = c.ahead_of.ensures;
      queue_long = search rules;
      releases_long = search rules;
      ahead_long = search rules;
      positions_long = search rules;
    }) in
    let r = c.released_by-releases.result in
    c.laid.ensures (home_of c.args.self.home) (step_of c.args.step)
    (entering_leads c.args.self.model.cells.now c.args.self.home c.args.step c.args.edge r c.ahead_of.result (entering) c.slots_with-jobs.result
    c.target-location.result c.target-location.ensures c.slots_with-jobs.ensures)
