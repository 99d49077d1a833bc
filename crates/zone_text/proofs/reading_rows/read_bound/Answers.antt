-- `read_bound` meets its contract.
use Rattle.zone_text.proofs.Laws.Rows.{bound_told}
use Rattle.zone_text.proofs.reading_rows.read_bound.Goals as goal

pub returns-clause-told : goal.returns-clause-told
returns-clause-told c = let a = c.args in (bound_told a.s.now a.at a.last c.requires c.in_ok-line.line c.in_ok-line.ensures).0

pub returns-clause-small : goal.returns-clause-small
returns-clause-small c = let a = c.args in (bound_told a.s.now a.at a.last c.requires c.in_ok-line.line c.in_ok-line.ensures).1
