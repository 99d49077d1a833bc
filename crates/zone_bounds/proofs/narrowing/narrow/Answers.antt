-- `zone_bounds::narrowing::narrow` meets its contract.
use mathlib.Core.Path.{◌≡◌}
use Rattle.std.specs.Prelude.{None}
use Rattle.zone_bounds.proofs.NarrowLaws.{narrows_none}
use Rattle.zone_bounds.proofs.narrowing.narrow.Goals as goal

pub returns-in_err-t : goal.returns-in_err-t
returns-in_err-t c = let e : c.args.t ≡ None = c.in_err-t.was in rw (e, c.from_residual.ensures) (narrows_none _)
