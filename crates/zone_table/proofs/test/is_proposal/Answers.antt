-- `zone_table::test::is_proposal` meets its contract.
use Rattle.zone_table.proofs.Deciding.{failed, at_most}
use Rattle.zone_table.proofs.ZoneTests.{given_test, given_fails}
use Rattle.zone_table.proofs.test.is_proposal.Goals as goal

pub returns-then-is_sound : goal.returns-then-is_sound
returns-then-is_sound c = let a = c.args in given_test a.model.now.cells.now a.model.now.right a.zones.now _ _ _ c.text_length.ensures c.is_sound.ensures c.if-is_sound.true (at_most _ _)

pub returns-else-is_sound : goal.returns-else-is_sound
returns-else-is_sound c = let a = c.args in failed _ c.if-is_sound.false (given_fails a.model.now.cells.now a.model.now.right a.zones.now _ c.is_sound.ensures c.if-is_sound.false)
