-- `try_bounds::inserted` meets its contract.
use native.Mathlib.Omega.{arith}
use Rattle.try_bounds.proofs.Arrays.{moved, insert_vars, still_offsets, insert_moves, still_sizes}
use Rattle.try_bounds.proofs.inserted.Goals as goal

pub returns : goal.returns
returns c = moved c.args.m 6 8 insert_vars still_offsets c.requires (omega arith) (omega arith) (insert_moves c.args.m c.requires) (still_sizes 8 (omega arith)) c.remap.result c.remap.ensures
