-- `zone_table::test::claims_due` meets its contract.
use Prim.Native.Nat.{◌-◌}
use mathlib.Core.Path.{refl}
use Rattle.meaning.specs.Text.ModelTable.{decode}
use Rattle.zone_table.proofs.Deciding.{failed}
use Rattle.zone_table.proofs.ReadLaws.{sound_home}
use Rattle.zone_table.proofs.ZoneTests.{claims_many, claims_test}
use borrow.Author.Tests.{ne_eqb}
use native.Mathlib.Omega.{arith}
use Rattle.zone_table.proofs.test.claims_due.Goals as goal

pub steps-s-requires-clause-right_home : goal.steps-s-requires-clause-right_home
steps-s-requires-clause-right_home c = let a = c.args in sound_home (decode a.model.now.cells.now) a.zones.now (a.zone - 1) c.home_at-home.result c.home_at-home.ensures c.requires.2

pub returns-then-s-to : goal.returns-then-s-to
returns-then-s-to c =
    let a = c.args in
    claims_test a.model.now.cells.now a.model.now.right a.zones.now (a.zone - 1) c.requires.2 _ c.home_at-home.ensures _ _ c.steps-s.ensures _ _ c.claims_start-from.ensures c.claims_end-to.ensures refl (omega arith) (omega arith) c.if-s-to.true

pub returns-else-s-to : goal.returns-else-s-to
returns-else-s-to c =
    let a = c.args in
    failed _ (ne_eqb _ _ c.if-s-to.false) (claims_many a.model.now.cells.now a.model.now.right a.zones.now (a.zone - 1) c.requires.2 _ c.home_at-home.ensures _ _ c.steps-s.ensures _ _ c.claims_start-from.ensures c.claims_end-to.ensures c.if-s-to.false)
