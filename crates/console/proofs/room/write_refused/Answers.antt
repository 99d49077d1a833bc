-- `write_refused` meets its contract.
use mathlib.Core.List.{[], ◌∷◌}
use Rattle.lines.proofs.Laws.Putting.{put_then}
use Rattle.console.proofs.room.write_refused.Goals as goal

pub returns-clause-written : goal.returns-clause-written
returns-clause-written c = put_then _ _ (82 ∷ 70 ∷ []) _ _ _ _ _ c.write_mark-a.ensures c.write_fields.ensures.written
