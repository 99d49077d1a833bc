-- `proposal_part` meets its contract.
use Prim.Native.Nat.{ℕ}
use lib.ListN.{replicate, length-replicate}
use Rattle.console.proofs.FaultLaws.{proposal_place, proposal_fault, proposal_none}
use Rattle.console.proofs.part.proposal_part.Goals as goal

pub part_from-requires : goal.part_from-requires
part_from-requires c =
    let a = c.args in
    let w = c.read_proposal in
    proposal_place a.table.now a.text (replicate 47023 0) w.new.zones w.result (length-replicate {A = ℕ} 47023 0) c.requires w.ensures _ c.in-Err.is

pub returns-in-Err : goal.returns-in-Err
returns-in-Err c =
    let a = c.args in
    let w = c.read_proposal in
    proposal_fault a.table.now a.text (replicate 47023 0) w.new.zones w.result (length-replicate {A = ℕ} 47023 0) c.requires w.ensures _ _ c.in-Err.is c.part_from.ensures

pub returns-in-Ok : goal.returns-in-Ok
returns-in-Ok c =
    let a = c.args in
    let w = c.read_proposal in
    proposal_none a.table.now a.text (replicate 47023 0) w.new.zones w.result (length-replicate {A = ℕ} 47023 0) c.requires w.ensures c.in-Ok.is
