-- What the loop of `ahead_at` keeps.
use Rattle.zone_list.specs.Listing.{model_of}
use Rattle.zone_list.proofs.ChosenLaws.{Seeking}
use Rattle.zone_list.proofs.listing.Listing.ahead_at.Given as goal

abbrev pub invariant-loop-p : goal.invariant-loop-p
invariant-loop-p l = Seeking (model_of l.self) l.task l.later l.queue l.rest l.p l.left
