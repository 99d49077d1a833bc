-- `slots::change::put_in` meets its contract.
use mathlib.Core.Path.{refl}
use borrow.Author.Rules.{rules}
use Rattle.slots.proofs.SlotLaws.{stand_put}
use Rattle.slots.proofs.change.put_in.Goals as goal

pub returns : goal.returns
returns c = stand_put c.args.slots _ _ _ _ c.requires.ahead_le_count.0 c.requires.ahead_le_count.1 (search rules) c.sum_before-sum.ensures c.inserted.ensures refl
