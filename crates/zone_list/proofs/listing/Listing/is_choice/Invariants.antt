-- What the loop of `is_choice` keeps.
use Rattle.std.proofs.Common.{◌≡◌, ◌+◌, length}
use Rattle.home.specs.Stands.{order_of}
use Rattle.zone_list.specs.Listing.{model_of}
use Rattle.zone_list.specs.Chosen.{jobs_ahead}
use Rattle.zone_list.proofs.ChosenLaws.{Testing}
use Rattle.zone_list.proofs.listing.Listing.is_choice.Given as goal

abbrev pub invariant-loop-k : goal.invariant-loop-k
invariant-loop-k l = (length l.queue ≡ length (order_of l.self.home) + l.k) × Testing (model_of l.self) l.releases (order_of l.self.home) (jobs_ahead l.positions) l.k l.queue
