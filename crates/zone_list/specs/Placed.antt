-- The step at a place of an edge.
-- Assumes nothing.
use Rattle.std.specs.Prelude.{◌≡◌, map, ℕ, replicate}
use Rattle.std.proofs.Math.Option.{some}
use Rattle.std.proofs.Math.ListN.{get_elem?}
use Rattle.meaning.specs.Model.{Model}
use Rattle.meaning.specs.Zones.Reached.{Home}
use Rattle.meaning.specs.Zones.Steps.{by_edge, places}
use Rattle.home.specs.Asked.{released_by}
use Rattle.zone_list.specs.declared.form.Kind.{Kind}
use Rattle.zone_list.specs.declared.form.Step.{Step}
use Rattle.zone_list.specs.Steps.{step_of, Formed}

-- a step without a position
abbrev pub bare_step : Kind → Step
bare_step k = record { kind = k; positions = replicate 4 0; count = 0 }

-- r is the step of edge k at its place with n of its places before it
pub record EdgeStep (m : Model) (h : Home) (k n : ℕ) (r : Step) : Type 0 where
  pub formed : Formed r
  pub is : get_elem? (map (by_edge k) (places m (released_by m k) h.order)) n ≡ some (step_of r)
