-- `Queue::aged` meets its contract.
use native.Mathlib.Omega.{arith}
use Rattle.machine.specs.Stands.{no_job}
use Rattle.machine.specs.ByCell.{older_cell}
use Rattle.machine.proofs.Arrays.{mapped_more}
use Rattle.machine.proofs.queue.Queue.aged.Goals as goal

pub loop-k-preserved : goal.loop-k-preserved
loop-k-preserved c =
    let l = c.loop-k in
    mapped_more older_cell no_job no_job 6 c.args.self.jobs l.aged l.k c.older.result (omega arith) (omega arith) l.invariant c.older.ensures
