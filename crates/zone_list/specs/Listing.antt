-- What a `Listing` stands for.
-- Assumes nothing.
use Rattle.meaning.specs.Model.{Model}
use Rattle.meaning.specs.Zones.Reached as Z
use Rattle.model_table.specs.Held as T
use Rattle.home.specs.Stands.{home_of}
use Rattle.zone_list.specs.declared.listing.Listing.{Listing}

-- its model
abbrev pub model_of : Listing → Model
model_of l = T.model_of l.table

-- "the location and queue order"
abbrev pub place_of : Listing → Z.Home
place_of l = home_of l.home
