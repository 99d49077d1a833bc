-- `zone_table::lengths::claims_length` meets its contract.
use Rattle.meaning.specs.Text.Lines.{kept_text}
use Prim.Native.Nat.{ℕ}
use mathlib.Core.Path.{◌≡◌, ap, ◌∙◌}
use lib.ListN.{length}
use Rattle.zone_table.proofs.RowLaws.{claim_row}
use Rattle.zone_table.proofs.LengthLaws.{claims_end, claims_none, claims_step}
use native.Mathlib.Omega.{arith}
use Rattle.zone_table.proofs.lengths.claims_length.Goals as goal

pub loop-x-init : goal.loop-x-init
loop-x-init c = let a = c.args in omega (arith, claims_none a.zones.now a.from)

pub loop-x-preserved : goal.loop-x-preserved
loop-x-preserved c =
    let a = c.args in
    let l = c.loop-x in
    let e = c.kept_length.ensures.0 ∙ ap (λ (v : ℕ). length (kept_text 0 v)) c.less_one.ensures in
    omega (arith, l.invariant, claims_step a.zones.now a.from l.x c.cell-v.result c.kept_length.result c.cell-v.ensures e, c.kept_length.ensures.1)

pub returns : goal.returns
returns c =
    let a = c.args in
    let l = c.loop-x in
    let z : l.x ≡ a.n = omega arith in
    omega (arith, l.invariant, claims_end a.zones.now a.from a.n, ap (λ (x : ℕ). length (claim_row a.zones.now a.from x)) z)
