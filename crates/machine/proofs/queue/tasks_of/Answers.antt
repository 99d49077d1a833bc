-- `tasks_of` meets its contract.
use mathlib.Core.Path.{◌≡◌}
use lib.ListN.{length}
use Rattle.machine.specs.Stands.{no_job, task_of}
use Rattle.machine.proofs.Arrays.{mapped_each}
use borrow.Author.Rules.{rules}
use Rattle.machine.proofs.queue.tasks_of.Goals as goal

pub returns : goal.returns
returns c =
    let js = c.args.jobs in
    let h = c.map.ensures.items in
    let e : length js ≡ 6 = search rules in
    mapped_each task_of no_job 0 6 js c.map.result e h.long (λ i b. let w = h.at i no_job 0 b in search rules)
