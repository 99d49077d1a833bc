-- What the loop of `zone` keeps.
use Rattle.try_bounds.specs.Lists.{MadeTo}
use Rattle.try_bounds.proofs.zone.Given as goal

abbrev pub invariant-loop-bound : goal.invariant-loop-bound
invariant-loop-bound l = MadeTo l.n l.list l.bound-index l.m
