-- `try_bounds::cleared` meets its contract.
use native.Mathlib.Omega.{arith}
use Rattle.try_bounds.proofs.Arrays.{moved, reset_vars, still_offsets, reset_moves, still_sizes}
use Rattle.try_bounds.proofs.cleared.Goals as goal

pub returns : goal.returns
returns c = moved c.args.m 6 6 reset_vars still_offsets c.requires (omega arith) (omega arith) (reset_moves c.args.m c.requires) (still_sizes 6 (omega arith)) c.remap.result c.remap.ensures
