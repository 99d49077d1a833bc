-- `read_mark` meets its contract.
use mathlib.Core.Path.{sym, ◌∙◌}
use Rattle.model_text.proofs.Laws.Marks.{here}
use Rattle.model_text.proofs.marks.read_mark.Goals as goal

pub returns-then-eq : goal.returns-then-eq
returns-then-eq c = rw (← c.byte_at-first.ensures, ← c.byte_at-second.ensures) (here _ _ _ _ c.bytes.ensures (sym c.eq.ensures ∙ c.if-eq.true))
