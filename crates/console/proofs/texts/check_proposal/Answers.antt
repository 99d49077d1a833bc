-- `check_proposal` meets its contract.
use Prim.Native.Nat.{ℕ}
use lib.ListN.{replicate, length-replicate}
use Rattle.console.proofs.TextsLaws.{tells_refused, tells_checked, not_refused}
use Rattle.console.proofs.texts.check_proposal.Goals as goal

pub returns-in-Err : goal.returns-in-Err
returns-in-Err c =
    let a = c.args in
    let w = c.read_proposal in
    tells_refused a.table.now a.text.now (replicate 47023 0) w.new.zones w.result (length-replicate {A = ℕ} 47023 0) c.requires w.ensures _ _ c.in-Err.is c.refused.ensures

pub returns-in-Ok : goal.returns-in-Ok
returns-in-Ok c =
    let a = c.args in
    let w = c.read_proposal in
    tells_checked a.table.now a.text.now (replicate 47023 0) w.new.zones w.result (length-replicate {A = ℕ} 47023 0) c.requires w.ensures _ c.in-Ok.verdict c.in_default.is c.clocks.ensures c.in-Ok.ensures

pub returns-in-Err-check : goal.returns-in-Err-check
returns-in-Err-check c =
    let a = c.args in
    let w = c.read_proposal in
    absurd (not_refused a.table.now a.text.now (replicate 47023 0) w.new.zones w.result (length-replicate {A = ℕ} 47023 0) c.requires w.ensures c.in-Err-check.reason c.in_default.is c.in-Err-check.ensures)
