-- `has_formed` meets its contract.
use Rattle.home.proofs.Walks.{is_so}
use Rattle.zone_list.specs.Listing.{model_of, place_of}
use Rattle.zone_list.proofs.ListedLaws.{listed_tick}
use Rattle.zone_list.proofs.listing.Listing.has_formed.Goals as goal

pub returns-in-GoOn : goal.returns-in-GoOn
returns-in-GoOn c = is_so (listed_tick (model_of c.args.self.now) (place_of c.args.self.now) c.args.step c.in-GoOn.is)
