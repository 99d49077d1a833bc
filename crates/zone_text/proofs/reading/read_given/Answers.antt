-- `read_given` meets its contract.
use Prim.Native.Nat.{ℕ}
use mathlib.Core.Path.{◌≡◌, sym, ap, ◌∙◌}
use lib.ListN.{length, replicate}
use Rattle.meaning.specs.Text.ModelTable.{decode}
use Rattle.meaning.specs.Text.ProposalTable.{size}
use Rattle.zone_text.proofs.Laws.Reading.{answered_refused, answered_ok, answered_err, read_room, read_long, read_stop, read_rest}
use Rattle.zone_text.proofs.reading.read_given.Goals as goal

pub returns-then-zones-ne-SIZE : goal.returns-then-zones-ne-SIZE
returns-then-zones-ne-SIZE c =
    let a = c.args in
    let w = c.fill.ensures in
    answered_refused _ _ _ _ _ _ c.refused.ensures (read_room (decode a.model.now.cells.now) _ a.text.now (λ e. c.if-zones-ne-SIZE.true (w.len ∙ e))) (w.after (λ y h. h))

pub returns-then-text-gt-TEXT_MOST : goal.returns-then-text-gt-TEXT_MOST
returns-then-text-gt-TEXT_MOST c =
    let a = c.args in
    let w = c.fill.ensures in
    let n : length a.zones.now ≡ size = sym w.len ∙ c.if-zones-ne-SIZE.false in
    answered_refused _ _ _ _ _ _ c.refused-then-text-gt-TEXT_MOST.ensures (read_long (decode a.model.now.cells.now) _ a.text.now n c.if-text-gt-TEXT_MOST.true) (w.after (λ y h. h))

pub returns-then-stop-text : goal.returns-then-stop-text
returns-then-stop-text c =
    let a = c.args in
    let w = c.fill.ensures in
    let n : length a.zones.now ≡ size = sym w.len ∙ c.if-zones-ne-SIZE.false in
    answered_refused _ _ _ _ _ _ c.refused-then-stop-text.ensures (read_stop (decode a.model.now.cells.now) _ a.text.now _ n c.if-text-gt-TEXT_MOST.false c.first_stop-stop.ensures c.if-stop-text.true) (w.after (λ y h. h))

pub returns-then-is_err : goal.returns-then-is_err
returns-then-is_err c =
    let a = c.args in
    let n : length a.zones.now ≡ size = sym c.fill.ensures.len ∙ c.if-zones-ne-SIZE.false in
    let e = read_rest (decode a.model.now.cells.now) _ a.text.now _ n c.if-text-gt-TEXT_MOST.false c.first_stop-stop.ensures c.if-stop-text.false in
    let z = c.fill-then-is_err.ensures.after (λ y h. h) ∙ ap (λ (k : ℕ). replicate k 0) (c.read_records-read.auto.t ∙ c.fill.ensures.len) in
    answered_err _ _ _ e _ _ _ c.read_records-read.ensures (sym c.is_err.ensures.value ∙ c.if-is_err.true) z

pub returns-else-is_err : goal.returns-else-is_err
returns-else-is_err c =
    let a = c.args in
    let n : length a.zones.now ≡ size = sym c.fill.ensures.len ∙ c.if-zones-ne-SIZE.false in
    let e = read_rest (decode a.model.now.cells.now) _ a.text.now _ n c.if-text-gt-TEXT_MOST.false c.first_stop-stop.ensures c.if-stop-text.false in
    answered_ok _ _ _ e _ _ c.read_records-read.ensures (sym c.is_err.ensures.value ∙ c.if-is_err.false)
