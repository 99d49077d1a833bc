-- What a `Zone` stands for, and which may be lent.
-- Assumes nothing.
use Rattle.std.specs.Prelude.{List, ℕ}
use Rattle.meaning.specs.Model.{Bound, Model}
use Rattle.meaning.specs.Zones.Zone as Z
use Rattle.meaning.specs.Text.RightProposal.{RightBounds}
use Rattle.home.specs.Stands as H
use Rattle.zone_bounds.specs.Entries.{bounds_in, zone_with}
use Rattle.zone.specs.declared.Zone.{Zone}

-- "a queue order", head first
abbrev pub order_of : Zone → List ℕ
order_of z = H.order_of z.home

-- the bounds that are written, row by row
abbrev pub bounds_of : Zone → List Bound
bounds_of z = bounds_in z.bounds

-- "A zone is a location, a queue order, and bounds"
abbrev pub zone_of : Zone → Z.Zone
zone_of z = zone_with z.home z.bounds

-- a zone that may be lent: its location and tasks are of the model, no task twice, and unused cells 0; and bounds of its variables between
-- −32,000 and 32,000; any other is 13
pub record Lendable (m : Model) (z : Zone) : Type 0 where
  pub home : H.RightHome m z.home
  pub bounds : RightBounds m (order_of z) (bounds_of z)
