-- `slots::change::slots_with` meets its contract.
use mathlib.Core.Path.{◌≡◌}
use native.Mathlib.Omega.{arith}
use lib.ListN.{length}
use borrow.Author.Rules.{rules}
use Rattle.meaning.specs.Inner.Slots.{slots_of}
use Rattle.model_table.specs.Held.{model_of}
use Rattle.home.specs.Stands.{order_of}
use Rattle.slots.proofs.SlotLaws.{came_many, came_more, order_many}
use Rattle.slots.proofs.change.slots_with.Goals as goal

pub put_in-slots-requires-clause-ahead_le_count : goal.put_in-slots-requires-clause-ahead_le_count
put_in-slots-requires-clause-ahead_le_count c =
    let l = c.loop-k in
    let a = c.args in
    let six : length a.home.tasks ≡ 6 = search rules in
    let four : length a.releases.tasks ≡ 4 = search rules in
    let room : length a.ahead ≡ 4 = search rules in
    let m = model_of a.model.now in
    let b = order_many m a.home.tasks a.home.count c.slots_of-slots.result (omega arith) six c.slots_of-slots.ensures in
    let d = came_many a.releases.tasks a.ahead l.k c.slots_of-slots.result l.slots l.invariant (slots_of m (order_of a.home)) c.slots_of-slots.ensures (omega arith) (omega arith) in
    let e = c.requires.by_index l.k (omega arith) in
    (omega arith, omega arith)

pub loop-k-preserved : goal.loop-k-preserved
loop-k-preserved c =
    let a = c.args in
    let four : length a.releases.tasks ≡ 4 = search rules in
    let room : length a.ahead ≡ 4 = search rules in
    came_more a.releases.tasks a.ahead c.loop-k.k _ c.loop-k.slots c.loop-k.invariant c.put_in-slots.result (omega arith) (omega arith) c.put_in-slots.ensures
