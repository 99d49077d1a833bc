-- `Queue::finishes` meets its contract.
use Prim.Native.Nat.{suc}
use mathlib.Core.Path.{sym, ◌∙◌, ap, ap₂}
use native.Mathlib.Omega.{arith}
use lib.Dec.{leb}
use lib.ListN.{get_or}
use native.Mathlib.Numerals.{add-one}
use Rattle.meaning.specs.Model.{task_at}
use Rattle.meaning.specs.Machine.State as M
use Rattle.meaning.specs.Text.ModelTable.{decode}
use Rattle.model_table.proofs.PartLaws.{work_is}
use Rattle.machine.specs.Stands.{queue_of, no_job}
use Rattle.machine.proofs.QueueLaws.{none_there, queue_length, queue_at}
use Rattle.machine.proofs.JobLaws.{finishes_empty, finishes_head}
use Rattle.machine.proofs.queue.Queue.finishes.Goals as goal

pub returns-then-self-eq0 : goal.returns-then-self-eq0
returns-then-self-eq0 c = let a = c.args in
    let e = queue_length a.self.jobs a.self.count (omega arith) in
    sym (finishes_empty (decode a.model.now.cells.now) (queue_of a.self.jobs a.self.count) (omega arith))

pub returns : goal.returns
returns c = let a = c.args in
    let m = decode a.model.now.cells.now in
    let h = get_or a.self.jobs 0 no_job in
    let e = queue_length a.self.jobs a.self.count (omega arith) in
    sym (finishes_head m none_there (queue_of a.self.jobs a.self.count) (omega arith)
    ∙ ap (λ (j : M.Job). leb (task_at m j.task).C (suc j.done)) (queue_at a.self.jobs a.self.count 0 (omega arith))
    ∙ ap₂ leb (sym (c.work.ensures ∙ work_is a.model.now.cells.now c.args.model.now.right h.task)) (sym (add-one h.done)))
