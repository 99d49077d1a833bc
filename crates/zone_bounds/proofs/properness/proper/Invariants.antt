-- What the loop of `proper` keeps.
use lib.ListN.{take}
use Rattle.std.specs.Prelude.{Some}
use Rattle.model_table.specs.Held.{model_of}
use Rattle.meaning.specs.Inner.Slots.{slots_of, slots_flat, proper_at}
use Rattle.zone_bounds.specs.Narrowed.{Narrows}
use Rattle.zone_bounds.proofs.properness.proper.Given as goal

abbrev pub invariant-loop-k : goal.invariant-loop-k
invariant-loop-k l = Narrows (slots_flat (proper_at (model_of l.model)) 0 (take l.k (slots_of (model_of l.model) l.order))) (Some l.initial.r) (Some l.r)
