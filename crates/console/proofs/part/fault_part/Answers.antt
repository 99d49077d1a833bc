-- `fault_part` meets its contract.
use Prim.Native.Nat.{ℕ}
use lib.ListN.{replicate, length-replicate}
use Rattle.console.proofs.ReadLaws.{model_given}
use Rattle.console.proofs.FaultLaws.{model_place, model_fault, model_none}
use Rattle.console.proofs.part.fault_part.Goals as goal

pub part_from-requires : goal.part_from-requires
part_from-requires c =
    let a = c.args in
    let w = c.read_model in
    model_place a.model a.proposal (replicate 1092 0) w.new.table w.result (length-replicate {A = ℕ} 1092 0) w.ensures _ c.in-Err.is

pub proposal_part-requires : goal.proposal_part-requires
proposal_part-requires c =
    let a = c.args in
    let w = c.read_model in
    model_given a.model.now (replicate 1092 0) w.new.table w.result (length-replicate {A = ℕ} 1092 0) w.ensures c.in-Ok.is

pub returns-in-Err : goal.returns-in-Err
returns-in-Err c =
    let a = c.args in
    let w = c.read_model in
    model_fault a.model a.proposal (replicate 1092 0) w.new.table w.result (length-replicate {A = ℕ} 1092 0) w.ensures _ _ c.in-Err.is c.part_from.ensures

pub returns-in-Ok : goal.returns-in-Ok
returns-in-Ok c =
    let a = c.args in
    let w = c.read_model in
    model_none a.model a.proposal (replicate 1092 0) w.new.table w.result (length-replicate {A = ℕ} 1092 0) w.ensures _ c.in-Ok.is c.proposal_part.ensures
