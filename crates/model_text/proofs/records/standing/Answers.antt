-- `standing` meets its contract.
use mathlib.Core.Path.{sym, ◌∙◌}
use Rattle.model_text.proofs.Laws.Taking.{stands_not_due, stands_late, stands_full}
use Rattle.model_text.proofs.records.standing.Goals as goal
use Rattle.model_text.proofs.records.standing.Goals.{then-not-due-via-then-not-due, then-not-due-via-else-not-due+then-latest-place}

pub returns-then-not-due : goal.returns-then-not-due
returns-then-not-due c =
    let a = c.args in
    elim c.then-not-due.branch [
      | then-not-due-via-then-not-due w ↦ stands_not_due a.s.now a.place.at a.place.cursor a.t.now c.in-Some.mark c.in-Some.ensures (sym c.due.ensures ∙ w.if-not-due.true)
      | then-not-due-via-else-not-due+then-latest-place w ↦ stands_late a.s.now a.place.at a.place.cursor a.t.now c.in-Some.mark c.in-Some.ensures _ (sym c.due.ensures ∙ w.if-not-due.false) w.latest.ensures w.if-latest-place.true
    ]

pub returns-then-not-room : goal.returns-then-not-room
returns-then-not-room c =
    let a = c.args in
    stands_full a.s.now a.place.at a.place.cursor a.t.now c.in-Some.mark c.in-Some.ensures _ (sym c.due.ensures ∙ c.if-not-due.false) c.latest.ensures c.if-latest-place.false (sym c.room.ensures ∙ c.if-not-room.true)
