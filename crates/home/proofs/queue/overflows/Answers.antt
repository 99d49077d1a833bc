-- `home::queue::overflows` meets its contract.
use Rattle.home.proofs.QueueLaws.{passed_more, passed_stop}
use Rattle.home.proofs.queue.overflows.Goals as goal

pub returns-then-is_over : goal.returns-then-is_over
returns-then-is_over c =
    passed_stop _ _ _ _ c.loop-k.invariant c.loop-k-test.true c.is_over.ensures c.often_in.ensures.counted c.often_in-in-loop-k.ensures.counted c.if-is_over.true

pub loop-k-preserved : goal.loop-k-preserved
loop-k-preserved c =
    passed_more _ _ _ _ c.loop-k.invariant c.loop-k-test.true c.is_over.ensures c.often_in.ensures.counted c.often_in-in-loop-k.ensures.counted c.if-is_over.false
