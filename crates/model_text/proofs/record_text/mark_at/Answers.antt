-- `mark_at` meets its contract.
use native.Mathlib.Omega.{arith}
use Rattle.model_text.proofs.Laws.Slots.{edge_at}
use Rattle.model_text.proofs.record_text.mark_at.Goals as goal

pub returns-in_default : goal.returns-in_default
returns-in_default c = let e = c.mark_in_edge.ensures in edge_at _ _ (omega arith) e.is e.few e.limit e.bound
