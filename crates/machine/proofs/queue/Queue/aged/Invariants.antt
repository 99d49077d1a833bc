-- What the loop of `aged` keeps.
use mathlib.Core.Path.{◌≡◌}
use mathlib.Core.List.{map}
use lib.ListN.{take}
use Rattle.machine.specs.Stands.{no_job, padded}
use Rattle.machine.specs.ByCell.{older_cell}
use Rattle.machine.proofs.queue.Queue.aged.Given as goal

abbrev pub invariant-loop-k : goal.invariant-loop-k
invariant-loop-k l = l.aged ≡ padded no_job 6 (map older_cell (take l.k l.self.jobs))
