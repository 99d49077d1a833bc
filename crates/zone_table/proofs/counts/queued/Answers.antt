-- `zone_table::counts::queued` meets its contract.
use Prim.Native.Nat.{ℕ, ◌+◌, ◌-◌}
use mathlib.Core.Path.{ap, ◌∙◌}
use Rattle.meaning.specs.Text.ModelTable.{count}
use Rattle.zone_table.proofs.TestLaws.{queue_count}
use Rattle.zone_table.proofs.counts.queued.Goals as goal

pub returns : goal.returns
returns c =
    let a = c.args in
    (c.count_from.ensures.counted ∙ ap (λ (x : ℕ). count a.zones.now (x + 1) 1 6) c.head_start.ensures ∙ queue_count a.zones.now (a.zone - 1), c.count_from.ensures.few)
