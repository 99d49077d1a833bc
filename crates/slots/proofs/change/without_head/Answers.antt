-- `slots::change::without_head` meets its contract.
use Rattle.slots.proofs.SlotLaws.{stand_tail}
use Rattle.slots.proofs.change.without_head.Goals as goal

pub returns : goal.returns
returns c = stand_tail c.args.slots _ c.without_first.ensures c.saturating_sub.ensures
