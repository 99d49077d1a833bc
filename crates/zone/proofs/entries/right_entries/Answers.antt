-- `zone::entries::right_entries` meets its contract.
use Rattle.std.proofs.Common.{rules}
use Rattle.zone.proofs.entries.right_entries.Goals as goal

pub returns : goal.returns
returns c = (λ e. record { each = λ k h. search rules }, λ r. search rules)
