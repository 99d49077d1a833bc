-- `step_reach::variables::slot_variable` meets its contract.
use mathlib.Core.Path.{◌∙◌, ap}
use Rattle.meaning.specs.Inner.Slots.{Slot}
use Rattle.step_reach.proofs.VariableLaws.{slot_sum, slot_age}
use Rattle.step_reach.proofs.variables.slot_variable.Goals as goal

pub returns-then-i-eq0 : goal.returns-then-i-eq0
returns-then-i-eq0 c = ap (λ (x : Slot). x.sum) c.slot-slot.ensures ∙ slot_sum c.args.slots c.args.i c.requires c.if-i-eq0.true

pub returns-else-i-eq0 : goal.returns-else-i-eq0
returns-else-i-eq0 c = ap (λ (x : Slot). x.age) c.slot-slot.ensures ∙ slot_age c.args.slots c.args.i c.requires c.if-i-eq0.false
