-- `edge_step` meets its contract.
use Rattle.std.proofs.Common.{◌∙◌, length, ap, sym, rules}
use Rattle.home.specs.Asked.{released_by}
use Rattle.zone_list.specs.Listing.{model_of, place_of}
use Rattle.zone_list.proofs.ShareLaws.{releases_length, edge_room}
use Rattle.zone_list.proofs.PlaceLaws.{step_chosen}
use Rattle.zone_list.proofs.listing.Listing.edge_step.Goals as goal

pub choice_at-requires-clause-few : goal.choice_at-requires-clause-few
choice_at-requires-clause-few c =
    let a = c.args.self.now in
    let r = c.released_by-releases in
    edge_room (model_of a) a.table.right.right a.home a.right_home c.args.edge r.result r.ensures c.list.result.now c.list.ensures (sym c.releases_over.ensures ∙ c.if-releases_over.false)

pub returns : goal.returns
returns c =
    let a = c.args.self.now in
    let r = c.released_by-releases in
    let free = sym c.releases_over.ensures ∙ c.if-releases_over.false in
    let l = ap length c.list.ensures ∙ releases_length (released_by (model_of a) c.args.edge) r.result r.ensures (search rules) in
    step_chosen (model_of a) (place_of a) c.args.edge c.args.rest c.list.result.now c.choice_at.result r.result.count (c.list.ensures ∙ r.ensures.is) l r.ensures.few free c.choice_at.ensures
