-- `zone_table::lengths::zone_length` meets its contract.
use Prim.Native.Nat.{ℕ, ◌-◌, ◌*◌}
use mathlib.Core.Path.{ap, ◌∙◌}
use lib.ListN.{get_or}
use Rattle.meaning.specs.Text.ProposalText.{zone_text}
use Rattle.meaning.specs.Text.ProposalTable.{zone_in}
use Rattle.zone_table.proofs.LengthLaws.{not_there, zone_sum}
use native.Mathlib.Omega.{arith}
use Rattle.zone_table.proofs.lengths.zone_length.Goals as goal

pub returns-then-cell-eq0 : goal.returns-then-cell-eq0
returns-then-cell-eq0 c =
    let a = c.args in
    let e = c.cell.ensures ∙ ap (λ (i : ℕ). get_or a.zones.now i 0) c.head_start.ensures in
    omega (arith, not_there (get_or a.zones.now (8 * (a.zone - 1)) 0) (zone_text (zone_in a.zones.now (a.zone - 1))) (omega (arith, e)))

pub returns : goal.returns
returns c =
    let a = c.args in
    let e = c.cell.ensures ∙ ap (λ (i : ℕ). get_or a.zones.now i 0) c.head_start.ensures in (
      zone_sum a.zones.now (a.zone - 1) _ _ _ _ _ (omega (arith, e)) c.claims_start-from.ensures c.claims-n.ensures c.order_length.ensures.0 c.bounds_length.ensures.0 c.claims_length.ensures.0,
      omega (arith, c.order_length.ensures.1, c.bounds_length.ensures.1, c.claims_length.ensures.1),
    )
