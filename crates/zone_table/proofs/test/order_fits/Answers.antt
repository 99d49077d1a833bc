-- `zone_table::test::order_fits` meets its contract.
use Prim.Native.Nat.{◌-◌}
use Rattle.meaning.specs.Text.ModelTable.{decode}
use Rattle.zone_table.proofs.Deciding.{same_test}
use Rattle.zone_table.proofs.ReadLaws.{home_sound, sound_home}
use Rattle.zone_table.proofs.test.order_fits.Goals as goal

pub returns : goal.returns
returns c =
    let a = c.args in
    let m = decode a.model.now.cells.now in
    let k = a.zone - 1 in
    let h = c.home_at in
    same_test _ c.is_home.ensures (home_sound m a.zones.now k h.result h.ensures) (sound_home m a.zones.now k h.result h.ensures)
