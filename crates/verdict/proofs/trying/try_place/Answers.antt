-- `verdict::trying::try_place` meets its contract.
use Prim.Native.Nat.{◌-◌, ◌≤◌}
use native.Mathlib.Omega.{arith}
use Rattle.model_table.specs.Held.{model_of}
use Rattle.meaning.specs.Text.ProposalTable as table
use Rattle.home.specs.Stands.{home_of}
use Rattle.zone_list.proofs.PlaceLaws.{step_at_listed}
use Rattle.zone_table.specs.Sound.{zones_in}
use Rattle.zone_table.specs.Read.{claim_at}
use Rattle.zone_table.proofs.SoundGiven.{zones_few}
use Rattle.verdict.proofs.PlaceLaws.{claim_most, place_most, place_judged}
use Rattle.verdict.proofs.trying.try_place.Goals as goal

pub step_at-step-requires : goal.step_at-step-requires
step_at-step-requires c =
    let a = c.args in
    let p = c.requires.given in
    let w = c.requires.closed_of in
    let x = c.requires.le_x in
    record { right_home = w.right; le_x = (x.0, place_most (model_of a.model.now) a.model.now.right.right a.zones.now p.0 a.n p.1 p.2 a.home a.closed w a.x x.0 x.1) }

pub claim-claimed-requires : goal.claim-claimed-requires
claim-claimed-requires c =
    let p = c.requires.given in
    (p.1, omega (arith, p.2, zones_few c.args.zones.now), c.requires.le_x.0)

pub judge-requires : goal.judge-requires
judge-requires c =
    let a = c.args in
    let p = c.requires.given in
    let w = c.requires.closed_of in
    let x = c.requires.le_x in
    let v : claim_at a.zones.now a.n a.x ≤ zones_in a.zones.now = claim_most (model_of a.model.now) a.model.now.right.right a.zones.now p.0 a.n p.1 p.2 a.x x.0 x.1 in record { given = (p.0, omega (arith, c.claim-claimed.ensures, v)); closed_by = record { zone = table.zone_in a.zones.now (a.n - 1); closed = w }; listed = step_at_listed (model_of a.model.now) (home_of a.home) a.x c.step_at-step.result c.step_at-step.ensures }

pub returns : goal.returns
returns c =
    let a = c.args in
    let p = c.requires.given in
    let x = c.requires.le_x in
    place_judged (model_of a.model.now) a.model.now.right.right a.zones.now p.0 a.n p.1 p.2 a.home a.closed c.requires.closed_of a.x x.0 x.1
    c.step_at-step.result c.step_at-step.ensures c.judge.result c.claim-claimed.result c.claim-claimed.ensures c.judge.ensures
