-- `step_reach::variables::comes_from` meets its contract.
use mathlib.Core.Path.{sym, ◌∙◌}
use Rattle.step_reach.proofs.VariableLaws.{comes_slot, comes_reset, comes_kept}
use Rattle.step_reach.proofs.variables.comes_from.Goals as goal

pub returns-then-clocks-i : goal.returns-then-clocks-i
returns-then-clocks-i c =
    c.slot_variable.ensures ∙ comes_slot c.args.model.now c.args.clocks c.args.edge c.args.slots c.args.i c.requires.0 c.if-clocks-i.true

pub returns-then-reset : goal.returns-then-reset
returns-then-reset c =
    comes_reset c.args.model.now c.args.clocks c.args.edge c.args.slots c.args.i c.requires.0 c.if-clocks-i.false c.requires.1
    (sym c.reset.ensures ∙ c.if-reset.true)

pub returns-else-reset : goal.returns-else-reset
returns-else-reset c =
    comes_kept c.args.model.now c.args.clocks c.args.edge c.args.slots c.args.i c.requires.0 c.if-clocks-i.false c.requires.1
    (sym c.reset.ensures ∙ c.if-reset.false)
