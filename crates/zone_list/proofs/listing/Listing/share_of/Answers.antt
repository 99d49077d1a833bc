-- `share_of` meets its contract.
use Rattle.std.proofs.Common.{◌∙◌, length, ap, sym, arith}
use Rattle.zone_list.specs.Listing.{model_of}
use Rattle.zone_list.proofs.ShareLaws.{edge_room}
use Rattle.zone_list.proofs.listing.Listing.share_of.Goals as goal

pub choices-requires : goal.choices-requires
choices-requires c =
    let a = c.args.self.now in
    let r = c.released_by-releases in
    let w = edge_room (model_of a) a.table.right.right a.home a.right_home c.args.edge r.result r.ensures c.list.result.now c.list.ensures (sym c.releases_over.ensures ∙ c.if-releases_over.false) in
    (w.0, omega (arith, w.1, ap length c.of.ensures))
