-- What the loop of `choices` keeps, and how the calls end: each has one release fewer before it.
use Rattle.std.proofs.Common.{length}
use Rattle.zone_list.specs.Listing.{model_of}
use Rattle.zone_list.proofs.ChoiceLaws.{Counting}
use Rattle.zone_list.proofs.listing.Listing.+choices.Given as goal

abbrev pub decreases-choices : goal.decreases-choices
decreases-choices l = length l.releases.now

abbrev pub invariant-loop-p : goal.invariant-loop-p
invariant-loop-p l = Counting (model_of l.self) l.task l.later l.queue l.p l.r
