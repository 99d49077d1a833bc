-- `step_bounds::Stepping::test_at` meets its contract.
use Rattle.step_bounds.specs.Stepping.{model_of}
use Rattle.step_bounds.proofs.PlaceLaws.{test_slot}
use Rattle.step_bounds.proofs.stepping.Stepping.test_at.Goals as goal

pub returns : goal.returns
returns c ss w =
    test_slot (model_of c.args.self) c.args.task ss c.args.slots c.args.k c.sum_before.result c.test_of.result w c.requires.k_lt_count
    c.sum_before.ensures (rw c.slot.ensures at c.test_of.ensures)
