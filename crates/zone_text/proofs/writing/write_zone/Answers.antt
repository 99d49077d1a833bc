-- `zone_text::writing::write_zone` meets its contract.
use Rattle.lines.proofs.Laws.Putting.{put_nothing}
use Prim.Native.Nat.{ℕ, ◌-◌, ◌*◌}
use mathlib.Core.List.{[]}
use mathlib.Core.Path.{◌∙◌, ap, sym}
use lib.ListN.{get_or}
use Rattle.meaning.specs.Text.ProposalTable.{zone_in}
use Rattle.meaning.specs.Text.ProposalText.{zone_text}
use Rattle.zone_text.proofs.PutRows.{put_as, there_not, zone_order, zone_bounds, zone_claims, zone_put}
use native.Mathlib.Omega.{arith}
use Rattle.zone_text.proofs.writing.write_zone.Goals as goal

pub returns-then-cell-eq0 : goal.returns-then-cell-eq0
returns-then-cell-eq0 c =
    let a = c.args in
    let z = c.cell.ensures ∙ ap (λ (i : ℕ). get_or a.zones.now i 0) c.head_start.ensures in
    put_as [] _ (sym (there_not (get_or a.zones.now (8 * (a.zone - 1)) 0) (zone_text (zone_in a.zones.now (a.zone - 1))) (omega (arith, z)))) (put_nothing _ _)

pub write_order-p-requires : goal.write_order-p-requires
write_order-p-requires c =
    let a = c.args in
    let z = c.cell.ensures ∙ ap (λ (i : ℕ). get_or a.zones.now i 0) c.head_start.ensures in
    (c.requires.0, c.requires.1, zone_order a.zones.now a.buf.now a.at (a.zone - 1) _ _ (omega (arith, z)) c.claims_start-from.ensures c.claims-n.ensures c.requires.2)

pub write_bounds-q-requires : goal.write_bounds-q-requires
write_bounds-q-requires c =
    let a = c.args in
    let z = c.cell.ensures ∙ ap (λ (i : ℕ). get_or a.zones.now i 0) c.head_start.ensures in
    (c.requires.0, c.requires.1, zone_bounds a.zones.now a.buf.now a.at (a.zone - 1) _ _ (omega (arith, z)) c.claims_start-from.ensures c.claims-n.ensures c.requires.2 _ _ c.write_order-p.ensures)

pub write_claims-requires : goal.write_claims-requires
write_claims-requires c =
    let a = c.args in
    let z = c.cell.ensures ∙ ap (λ (i : ℕ). get_or a.zones.now i 0) c.head_start.ensures in
    zone_claims a.zones.now a.buf.now a.at (a.zone - 1) _ _ (omega (arith, z)) c.claims_start-from.ensures c.claims-n.ensures c.requires.2 _ _ c.write_order-p.ensures _ _ c.write_bounds-q.ensures

pub returns : goal.returns
returns c =
    let a = c.args in
    let z = c.cell.ensures ∙ ap (λ (i : ℕ). get_or a.zones.now i 0) c.head_start.ensures in
    zone_put a.zones.now a.buf.now a.at (a.zone - 1) _ _ (omega (arith, z)) c.claims_start-from.ensures c.claims-n.ensures c.requires.2 _ _ c.write_order-p.ensures _ _ c.write_bounds-q.ensures _ _ c.write_claims.ensures
