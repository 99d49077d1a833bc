-- `try_bounds::finished` meets its contract.
use native.Mathlib.Omega.{arith}
use Rattle.try_bounds.proofs.Arrays.{moves, moved, finish_vars, finish_offsets, finish_moves, finish_sizes}
use Rattle.try_bounds.proofs.finished.Goals as goal

pub remap-requires : goal.remap-requires
remap-requires c = record { n_bound = omega arith; entries = c.requires.ready.entries; maps = moves c.args.m 6 4 finish_vars finish_offsets c.requires.ready (omega arith) (omega arith) (finish_moves c.args.m c.requires) finish_sizes }

pub returns : goal.returns
returns c = moved c.args.m 6 4 finish_vars finish_offsets c.requires.ready (omega arith) (omega arith) (finish_moves c.args.m c.requires) finish_sizes c.remap.result c.remap.ensures
