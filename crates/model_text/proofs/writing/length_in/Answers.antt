-- `length_in` meets its contract.
use native.Mathlib.Nat.{zero-add}
use mathlib.Core.Path.{sym, ◌∙◌}
use Rattle.std.proofs.Common.{None}
use Rattle.std.proofs.lemmas.Bool.Decides.{Decides-eqb}
use Rattle.std.proofs.lemmas.Slice.Eq.{slice_eq-Decides}
use Rattle.meaning.proofs.Text.Choices.{nonsense}
use Rattle.meaning.specs.Text.Records.{write}
use Rattle.meaning.specs.Text.ModelTable.{size}
use Rattle.meaning.specs.Text.ModelReader.{format, read_model}
use Rattle.model_text.specs.Meant.{Answered, LengthOf}
use Rattle.model_text.proofs.Laws.Giving.{put_take, length_refused, length_same, length_other}
use Rattle.model_text.proofs.writing.length_in.Goals as goal
use Rattle.model_text.proofs.writing.length_in.Goals.{else-is_ok-via-then-is_ok+else-eq, else-is_ok-via-else-is_ok}

pub returns-then-eq : goal.returns-then-eq
returns-then-eq c =
    let w = c.write_table-n in
    let a : Answered size (read_model size (write format c.args.t.now)) c.read_model-answer.result c.read_model-answer.new.table =
    rw (← put_take c.args.text.now (write format c.args.t.now) w.new.buf w.result c.requires.1 w.ensures, ← c.requires.2) c.read_model-answer.ensures in
    (length_same _ _ _ a _ (sym c.is_ok.ensures.value ∙ c.if-is_ok.true) ((slice_eq-Decides Decides-eqb _ _ _ c.eq.ensures).0 c.if-eq.true) (w.ensures.next ∙ zero-add _), w.ensures.text, a.table)

pub returns-else-is_ok : goal.returns-else-is_ok
returns-else-is_ok c =
    let w = c.write_table-n in
    let a : Answered size (read_model size (write format c.args.t.now)) c.read_model-answer.result c.read_model-answer.new.table =
    rw (← put_take c.args.text.now (write format c.args.t.now) w.new.buf w.result c.requires.1 w.ensures, ← c.requires.2) c.read_model-answer.ensures in
    let l : LengthOf c.args.t.now None = elim c.else-is_ok.branch [
      | else-is_ok-via-then-is_ok+else-eq u ↦ length_other _ _ _ a (sym c.is_ok.ensures.value ∙ u.if-is_ok.true) (λ e. let k = (slice_eq-Decides Decides-eqb _ _ _ u.eq.ensures).1 e in nonsense (cc))
      | else-is_ok-via-else-is_ok u ↦ length_refused _ _ _ a (sym c.is_ok.ensures.value ∙ u.if-is_ok.false)
    ] in
    (l, w.ensures.text, a.table)
