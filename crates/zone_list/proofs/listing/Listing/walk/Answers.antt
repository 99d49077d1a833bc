-- `walk` meets its contract.
use Rattle.std.proofs.Common.{◌-◌, ◌∙◌, ℕ, List, eqb, length, ap, arith}
use Rattle.zone_list.specs.Listing.{model_of, place_of}
use Rattle.zone_list.proofs.WalkLaws.{walking_first, walking_room, walking_edge, walking_last}
use Rattle.zone_list.proofs.listing.Listing.walk.Goals as goal

pub loop-edge-init : goal.loop-edge-init
loop-edge-init c =
    let a = c.args.self.now in
    (omega arith, walking_first (model_of a) (place_of a) c.args.claims.now c.args.at c.args.x _ _ _ (c.is_empty.ensures ∙ ap (λ (o : List ℕ). eqb (length o) 0) c.order.ensures) c.cell.ensures c.held-zeros.ensures)

pub found_by-found-requires : goal.found_by-found-requires
found_by-found-requires c =
    let a = c.args.self.now in
    let l = c.loop-edge in
    walking_room a.table.cells.now a.table.right (place_of a) c.args.claims.now c.args.at c.args.x l.many l.edge l.zeros l.found l.invariant.1 (omega arith) (omega (arith, c.edges-edge-end.ensures)) _
    c.share_of-share.ensures a.right_home.order.few

pub overflow_add-many : goal.overflow_add-many
overflow_add-many c =
    let a = c.args.self.now in
    let l = c.loop-edge in
    let w =
    walking_room a.table.cells.now a.table.right (place_of a) c.args.claims.now c.args.at c.args.x l.many l.edge l.zeros l.found l.invariant.1 (omega arith) (omega (arith, c.edges-edge-end.ensures)) _
    c.share_of-share.ensures a.right_home.order.few in
    record { fits = omega arith }

pub loop-edge-preserved : goal.loop-edge-preserved
loop-edge-preserved c =
    let a = c.args.self.now in
    let l = c.loop-edge in
    walking_edge a.table.cells.now a.table.right (place_of a) c.args.claims.now c.args.at c.args.x l.many l.edge l.zeros l.found l.invariant.1 (omega arith) (omega (arith, c.edges-edge-end.ensures)) _
    c.share_of-share.ensures a.right_home.order.few _ _ _ c.cell-in-loop-edge.ensures c.held-zeros-in-loop-edge.ensures c.found_by-found.ensures

pub returns : goal.returns
returns c =
    let a = c.args.self.now in
    let l = c.loop-edge in
    walking_last (model_of a) (place_of a) c.args.claims.now c.args.at c.args.x l.many (l.edge - 1) l.zeros l.found l.invariant.1 (omega (arith, c.edges-edge-end.ensures, a.table.right.edge_count))
