-- What the loop of `Queue::put_all` keeps.
use Rattle.meaning.specs.Machine.Release.{put_all}
use Rattle.meaning.specs.Text.ModelTable.{decode}
use lib.ListN.{take}
use Rattle.machine.specs.Queues.{standing, Holds}
use Rattle.machine.proofs.queue.Queue.put_all.Given as goal

abbrev pub invariant-loop-task : goal.invariant-loop-task
invariant-loop-task l = Holds l.queue (put_all (decode l.model.cells.now) (take l.task-index l.releases) (standing l.fn.self))
