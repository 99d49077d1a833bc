-- What the loop of `fits` keeps: none of the tasks that it has passed decides.
use mathlib.Core.Path.{◌≡◌}
use lib.ListN.{drop}
use Rattle.model_table.specs.Held.{model_of}
use Rattle.meaning.specs.Zones.Proper.{fits}
use Rattle.home.proofs.queue.fits.Given as goal

abbrev pub invariant-loop-k : goal.invariant-loop-k
invariant-loop-k l = fits (model_of l.model) (drop l.k l.tasks) ≡ fits (model_of l.model) l.tasks
