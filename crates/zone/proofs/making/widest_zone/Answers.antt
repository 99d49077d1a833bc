-- `zone::making::widest_zone` meets its contract.
use Rattle.zone.proofs.ExactLaws.{empty_made}
use Rattle.zone.proofs.MadeLaws.{widest_made}
use Rattle.zone.proofs.making.widest_zone.Goals as goal

pub returns : goal.returns
returns c = λ m r. widest_made m _ _ r (empty_made _ c.alike.ensures)
