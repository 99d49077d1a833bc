-- `Queue::put_all` meets its contract.
use mathlib.Core.Path.{◌≡◌}
use native.Mathlib.Omega.{arith}
use lib.ListN.{length, take}
use lib.Seq.{length-take-le}
use borrow.Author.Rules.{rules}
use Rattle.meaning.specs.Text.ModelTable.{decode}
use Rattle.machine.specs.Queues.{standing}
use Rattle.machine.proofs.QueueLaws.{queue_length}
use Rattle.machine.proofs.ReleaseLaws.{put_all_length, put_more}
use Rattle.machine.proofs.queue.Queue.put_all.Goals as goal

pub put-queue-requires : goal.put-queue-requires
put-queue-requires c =
    let a = c.args in
    let l = c.loop-task in
    let long : length a.self.jobs ≡ 6 = search rules in
    let e = queue_length a.self.jobs a.self.count (omega (arith, a.self.few)) in
    let k = length-take-le l.task-index a.releases.now (omega arith) in
    omega (arith, e, k, l.invariant.count, c.requires.room, put_all_length (decode a.model.now.cells.now) (take l.task-index a.releases.now) (standing a.self))

pub loop-task-preserved : goal.loop-task-preserved
loop-task-preserved c =
    let a = c.args in
    let l = c.loop-task in
    put_more (decode a.model.now.cells.now) a.releases.now (standing a.self) l.queue c.put-queue.result l.task-index l.invariant (omega arith) c.put-queue.ensures
