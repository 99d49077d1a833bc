-- `check_texts` meets its contract.
use Prim.Native.Nat.{ℕ}
use lib.ListN.{replicate, length-replicate}
use Rattle.console.proofs.ReadLaws.{model_given}
use Rattle.console.proofs.TextsLaws.{tells_no_model, tells_model}
use Rattle.console.proofs.texts.check_texts.Goals as goal

pub check_proposal-requires : goal.check_proposal-requires
check_proposal-requires c =
    let a = c.args in
    let w = c.read_model in
    model_given a.model.now (replicate 1092 0) w.new.table w.result (length-replicate {A = ℕ} 1092 0) w.ensures c.in-Ok.is

pub returns-in-Err : goal.returns-in-Err
returns-in-Err c =
    let a = c.args in
    let w = c.read_model in
    tells_no_model a.model.now a.proposal.now (replicate 1092 0) w.new.table w.result (length-replicate {A = ℕ} 1092 0) w.ensures _ _ c.in-Err.is c.refused.ensures

pub returns-in-Ok : goal.returns-in-Ok
returns-in-Ok c =
    let a = c.args in
    let w = c.read_model in
    tells_model a.model.now a.proposal.now (replicate 1092 0) w.new.table w.result (length-replicate {A = ℕ} 1092 0) w.ensures _ c.in-Ok.is c.check_proposal.ensures
