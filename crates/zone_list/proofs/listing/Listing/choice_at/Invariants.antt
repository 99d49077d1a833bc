-- What the loop of `choice_at` keeps.
use Rattle.std.proofs.Common.{◌≡◌, ◌+◌, length}
use Rattle.home.specs.Stands.{order_of}
use Rattle.zone_list.specs.Listing.{model_of}
use Rattle.zone_list.proofs.ChosenLaws.{Choosing}
use Rattle.zone_list.proofs.listing.Listing.choice_at.Given as goal

abbrev pub invariant-loop-k : goal.invariant-loop-k
invariant-loop-k l = (length l.r ≡ 4) × (length l.queue ≡ length (order_of l.self.home) + l.k) × Choosing (model_of l.self) l.releases (order_of l.self.home) l.rest l.k l.queue l.left l.r
