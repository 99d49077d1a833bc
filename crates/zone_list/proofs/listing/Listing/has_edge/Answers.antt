-- `has_edge` meets its contract.
use Rattle.std.proofs.Common.{◌∙◌, List, ℕ, sym, subst}
use mathlib.Core.List.{Memᴰ}
use Rattle.meaning.specs.Zones.Steps.{choices}
use Rattle.home.specs.Stands.{order_of}
use Rattle.home.proofs.Walks.{is_not}
use Rattle.zone_list.specs.Chosen.{jobs_ahead}
use Rattle.zone_list.specs.Listing.{model_of, place_of}
use Rattle.zone_list.proofs.ShareLaws.{edge_room}
use Rattle.zone_list.proofs.ListedLaws.{listed_other, listed_over, listed_free, jobs_ahead_none}
use Rattle.zone_list.proofs.listing.Listing.has_edge.Goals as goal

pub returns-then-not-leaves : goal.returns-then-not-leaves
returns-then-not-leaves c =
    let a = c.args.self.now in
    is_not (listed_other (model_of a) (place_of a) c.args.edge (jobs_ahead c.args.positions.now) (sym c.leaves.ensures ∙ c.if-not-leaves.true))

pub returns-then-releases_over : goal.returns-then-releases_over
returns-then-releases_over c =
    let a = c.args.self.now in
    let ps = c.args.positions.now in
    let e =
    listed_over (model_of a) (place_of a) c.args.edge (jobs_ahead ps) (sym c.leaves.ensures ∙ c.if-not-leaves.false) (sym c.releases_over.ensures ∙ c.if-releases_over.true) in
    let n = jobs_ahead_none ps in
    rw c.is_empty.ensures (λ q. e.1 (n.0 q), λ w. n.1 (e.0 w))

pub is_choice-requires : goal.is_choice-requires
is_choice-requires c =
    let a = c.args.self.now in
    let r = c.released_by-releases in
    record { few = edge_room (model_of a) a.table.right.right a.home a.right_home c.args.edge r.result r.ensures c.list.result.now c.list.ensures (sym c.releases_over.ensures ∙ c.if-releases_over.false) }

pub returns : goal.returns
returns c =
    let a = c.args.self.now in
    let m = model_of a in
    let ps = jobs_ahead c.args.positions.now in
    let e = listed_free m (place_of a) c.args.edge ps (sym c.leaves.ensures ∙ c.if-not-leaves.false) (sym c.releases_over.ensures ∙ c.if-releases_over.false) in
    let q = c.list.ensures ∙ c.released_by-releases.ensures.is in (
      λ y. e.1 (subst (λ (ts : List ℕ). Memᴰ ps (choices m ts (order_of a.home))) q (c.is_choice.ensures.0 y)),
      λ w. c.is_choice.ensures.1 (subst (λ (ts : List ℕ). Memᴰ ps (choices m ts (order_of a.home))) (sym q) (e.0 w)),
    )
