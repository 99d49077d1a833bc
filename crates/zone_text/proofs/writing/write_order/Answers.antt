-- `zone_text::writing::write_order` meets its contract.
use Prim.Native.Nat.{ℕ, ◌+◌, ◌-◌, ◌≤◌}
use mathlib.Core.Path.{◌∙◌, ap, sym, subst}
use lib.ListN.{length, get_or}
use Rattle.meaning.specs.Text.ProposalTable.{order_in}
use Rattle.meaning.specs.Text.ProposalText.{order_text}
use Rattle.zone_text.proofs.PutRows.{put_as, order_mark, order_field, order_tasks, order_feed, order_put}
use Rattle.zone_text.proofs.writing.write_order.Goals as goal

pub write_bytes-p-requires : goal.write_bytes-p-requires
write_bytes-p-requires c =
    let a = c.args in
    let o = order_in a.zones.now (a.zone - 1) in
    let e = c.less_one-location.ensures ∙ ap (λ (v : ℕ). v - 1) (c.cell.ensures ∙ ap (λ (i : ℕ). get_or a.zones.now i 0) c.head_start.ensures) in
    let h = subst (λ (v : ℕ). a.at + length (order_text v o) ≤ length a.buf.now) (sym e) c.requires.2 in
    order_mark a.buf.now a.at c.less_one-location.result o h

pub write_field-q-requires : goal.write_field-q-requires
write_field-q-requires c =
    let a = c.args in
    let o = order_in a.zones.now (a.zone - 1) in
    let e = c.less_one-location.ensures ∙ ap (λ (v : ℕ). v - 1) (c.cell.ensures ∙ ap (λ (i : ℕ). get_or a.zones.now i 0) c.head_start.ensures) in
    let h = subst (λ (v : ℕ). a.at + length (order_text v o) ≤ length a.buf.now) (sym e) c.requires.2 in
    order_field a.buf.now a.at c.less_one-location.result o h _ _ c.write_bytes-p.ensures

pub write_tasks-r-requires : goal.write_tasks-r-requires
write_tasks-r-requires c =
    let a = c.args in
    let o = order_in a.zones.now (a.zone - 1) in
    let e = c.less_one-location.ensures ∙ ap (λ (v : ℕ). v - 1) (c.cell.ensures ∙ ap (λ (i : ℕ). get_or a.zones.now i 0) c.head_start.ensures) in
    let h = subst (λ (v : ℕ). a.at + length (order_text v o) ≤ length a.buf.now) (sym e) c.requires.2 in
    (c.requires.0, c.requires.1, order_tasks a.buf.now a.at c.less_one-location.result o h _ _ c.write_bytes-p.ensures _ _ c.write_field-q.ensures)

pub write_bytes-requires : goal.write_bytes-requires
write_bytes-requires c =
    let a = c.args in
    let o = order_in a.zones.now (a.zone - 1) in
    let e = c.less_one-location.ensures ∙ ap (λ (v : ℕ). v - 1) (c.cell.ensures ∙ ap (λ (i : ℕ). get_or a.zones.now i 0) c.head_start.ensures) in
    let h = subst (λ (v : ℕ). a.at + length (order_text v o) ≤ length a.buf.now) (sym e) c.requires.2 in
    order_feed a.buf.now a.at c.less_one-location.result o h _ _ c.write_bytes-p.ensures _ _ c.write_field-q.ensures _ _ c.write_tasks-r.ensures

pub returns : goal.returns
returns c =
    let a = c.args in
    let o = order_in a.zones.now (a.zone - 1) in
    let e = c.less_one-location.ensures ∙ ap (λ (v : ℕ). v - 1) (c.cell.ensures ∙ ap (λ (i : ℕ). get_or a.zones.now i 0) c.head_start.ensures) in
    let h = subst (λ (v : ℕ). a.at + length (order_text v o) ≤ length a.buf.now) (sym e) c.requires.2 in
    put_as _ _ (ap (λ (v : ℕ). order_text v o) e) (order_put a.buf.now a.at c.less_one-location.result o h _ _ c.write_bytes-p.ensures _ _ c.write_field-q.ensures _ _ c.write_tasks-r.ensures _ _ c.write_bytes.ensures)
