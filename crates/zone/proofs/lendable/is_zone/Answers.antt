-- `zone::lendable::is_zone` meets its contract.
use Rattle.std.proofs.Common.{◌≡◌, ◌∙◌, length, rules}
use Rattle.model_table.specs.Held.{model_of}
use Rattle.meaning.specs.Zones.Variables.{variables}
use Rattle.home.proofs.HomeLaws.{order_length, variables_many}
use Rattle.zone.specs.Stands.{order_of}
use Rattle.zone.proofs.LendableLaws.{lent_entries, lent_make}
use Rattle.zone.proofs.lendable.is_zone.Goals as goal

pub returns-then-is_home : goal.returns-then-is_home
returns-then-is_home c =
    let m = model_of c.args.model.now in
    let z = c.args.zone in
    let w = c.is_home.ensures.0 c.if-is_home.true in
    let l : length z.home.tasks ≡ 6 = search rules in
    let v = c.variables in
    let n : v.result ≡ variables m (order_of z) =
    v.ensures.0 ∙ variables_many m (order_of z) z.home.count (order_length z.home.count z.home.tasks w.few l) in
    (λ e. lent_make m z _ n w (c.right_entries.ensures.0 e), λ r. c.right_entries.ensures.1 (lent_entries m z _ n r))
