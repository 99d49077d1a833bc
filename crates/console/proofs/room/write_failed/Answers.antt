-- `write_failed` meets its contract.
use mathlib.Core.List.{[], ◌∷◌}
use Rattle.lines.proofs.Laws.Putting.{put_then}
use Rattle.console.specs.Line.{kind_by, state_numbers}
use Rattle.console.proofs.LineLaws.{put_fields}
use Rattle.console.proofs.room.write_failed.Goals as goal

pub returns-clause-written : goal.returns-clause-written
returns-clause-written c =
    let f = c.args.failure in
    put_then _ _ (78 ∷ 79 ∷ []) _ _ _ _ _ c.write_mark-a.ensures
    (put_fields _ _ (f.number ∷ f.zone ∷ f.place ∷ kind_by f.fault ∷ []) (state_numbers c.args.n f.state) _ _ _ _
    (rw c.kind-kind.ensures at c.write_fields-b.ensures.written) c.write_state.ensures.written)
