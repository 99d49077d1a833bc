-- What a `Queue` stands for: for the inner functions' contracts, not for a reader to believe.
-- Assumes nothing.
use Rattle.std.specs.Prelude.{◌≡◌, List, length}
use Rattle.meaning.specs.Machine.State as M
use Rattle.machine.specs.Stands.{queue_of, cells_of}
use Rattle.machine.specs.declared.queue.Queue.{Queue}

-- the queue of its first cells, head first
abbrev pub standing : Queue → List M.Job
standing c = queue_of c.jobs c.count

-- it has these jobs and no other, and unused cells are 0
pub record Holds (c : Queue) (q : List M.Job) : Type 0 where
  pub jobs : c.jobs ≡ cells_of q
  pub count : c.count ≡ length q
