-- `Queue::served` meets its contract.
use Prim.Native.Nat.{ℕ, ◌-◌}
use mathlib.Core.Path.{sym, ◌∙◌, ap}
use mathlib.Core.Bool.{Bool}
use mathlib.Core.List.{List, [], ◌∷◌, ◌++◌}
use native.Mathlib.Omega.{arith}
use lib.ListN.{length, drop, set}
use Rattle.meaning.specs.Machine.Tick.{served}
use Rattle.machine.specs.Stands.{no_job, cells_of}
use Rattle.machine.specs.Queues.{standing}
use Rattle.machine.specs.declared.Job.{Job}
use Rattle.machine.proofs.QueueLaws.{queue_length, length_left, length_on, served_left, served_none, served_on}
use Rattle.machine.proofs.queue.Queue.served.Goals as goal
use Rattle.machine.proofs.queue.Queue.served.Goals.{then-self-gt0, else-self-gt0}

pub returns-then-finishes : goal.returns-then-finishes
returns-then-finishes c =
    let q = c.args.self in
    let long = c.requires.long in
    record {
      jobs =
          c.without_first.ensures ∙ ap (λ (r : List Job). drop 1 r ++ no_job ∷ []) c.aged-jobs.ensures ∙ served_left q.jobs q.count (omega (arith, q.few)) q.few
          ∙ ap (λ (b : Bool). cells_of (served b (standing q))) (sym c.if-finishes.true);
      count =
          c.saturating_sub.ensures ∙ ap (λ (k : ℕ). k - 1) (sym (queue_length q.jobs q.count (omega (arith, q.few)))) ∙ length_left (standing q)
          ∙ ap (λ (b : Bool). length (served b (standing q))) (sym c.if-finishes.true);
    }

pub returns : goal.returns
returns c =
    let q = c.args.self in
    let long = c.requires.long in
    record {
      jobs =
          elim c.if-self-gt0.branch [
            | then-self-gt0 w ↦ w.jobs-is ∙ ap (set c.aged-jobs.result 0) w.worked.ensures ∙ served_on q.jobs c.aged-jobs.result q.count (omega (arith, q.few)) w.if-self-gt0.true c.aged-jobs.ensures
            | else-self-gt0 w ↦ w.jobs-is ∙ served_none q.jobs c.aged-jobs.result q.count w.if-self-gt0.false c.aged-jobs.ensures
          ]
          ∙ ap (λ (b : Bool). cells_of (served b (standing q))) (sym c.if-finishes.false);
      count =
          sym (queue_length q.jobs q.count (omega (arith, q.few))) ∙ length_on (standing q) ∙ ap (λ (b : Bool). length (served b (standing q))) (sym c.if-finishes.false);
    }
