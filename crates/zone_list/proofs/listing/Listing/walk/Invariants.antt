-- What the loop of `walk` keeps.
use Rattle.std.proofs.Common.{◌≤◌, ◌-◌}
use Rattle.zone_list.specs.Listing.{model_of, place_of}
use Rattle.zone_list.proofs.WalkLaws.{Walking}
use Rattle.zone_list.proofs.listing.Listing.walk.Given as goal

abbrev pub invariant-loop-edge : goal.invariant-loop-edge
invariant-loop-edge l = (l.many ≤ 100000) × Walking (model_of l.self) (place_of l.self) l.claims l.at l.x l.many l.zeros l.found (l.edge - 1)
