-- `beaten_by` meets its contract.
use mathlib.Core.Path.{◌≡◌}
use mathlib.Core.Bool.{false}
use lib.ListN.{length}
use Rattle.machine.specs.Stands.{no_job}
use Rattle.machine.specs.ByCell.{beats_in}
use Rattle.machine.proofs.Arrays.{mapped_each}
use borrow.Author.Rules.{rules}
use Rattle.machine.proofs.queue.beaten_by.Goals as goal

pub returns : goal.returns
returns c =
    let js = c.args.jobs in
    let h = c.map.ensures.items in
    let e : length js ≡ 6 = search rules in
    mapped_each (beats_in c.args.model.now c.args.task) no_job false 6 js c.map.result e h.long (λ i b. let w = h.at i no_job false b in search rules)
