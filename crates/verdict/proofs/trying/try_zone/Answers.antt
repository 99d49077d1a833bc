-- `verdict::trying::try_zone` meets its contract.
use mathlib.Core.Path.{sym, subst}
use Prim.Native.Nat.{◌+◌, ◌-◌}
use native.Mathlib.Omega.{arith}
use Rattle.model_table.specs.Held.{model_of}
use Rattle.meaning.specs.Text.ProposalTable as table
use Rattle.zone_table.proofs.SoundGiven.{zones_few}
use Rattle.zone.proofs.LendableLaws.{lent_takable}
use Rattle.zone_table.proofs.ZoneParts.{given_small, home_right, read_lendable}
use Rattle.verdict.specs.declared.answer.Failure.{Failure}
use Rattle.verdict.specs.Judged.{FailsIn}
use Rattle.verdict.proofs.PlaceLaws.{claims_many, claims_most, read_closed}
use Rattle.verdict.proofs.TryLaws.{tried_none, tried_on, tried_fails, own_all}
use Rattle.verdict.proofs.trying.try_zone.Goals as goal

pub zone_at-zone-requires : goal.zone_at-zone-requires
zone_at-zone-requires c =
    let a = c.args in
    let p = c.requires.given in
    (p.1, omega (arith, p.2, zones_few a.zones.now), given_small (model_of a.model.now) a.model.now.right.right a.zones.now p.0 a.n p.1 p.2)

pub zone_matrix-closed-requires : goal.zone_matrix-closed-requires
zone_matrix-closed-requires c =
    let y = c.zone_at-zone in
    let a = c.args in
    let p = c.requires.given in
    let z = y.result in record { count_bound = (home_right (model_of a.model.now) a.model.now.right.right a.zones.now p.0 a.n p.1 p.2 z.home y.ensures.home).few; takable = lent_takable (model_of a.model.now) z (read_lendable (model_of a.model.now) a.model.now.right.right a.zones.now p.0 a.n p.1 p.2 z y.ensures) }

pub claims-x-end-requires : goal.claims-x-end-requires
claims-x-end-requires c =
    let p = c.requires.given in
    (p.1, omega (arith, p.2, zones_few c.args.zones.now))

pub loop-x-init : goal.loop-x-init
loop-x-init c =
    let a = c.args in
    record { number = omega arith; hold = tried_none (model_of a.model.now) (table.decode a.zones.now) a.n (table.zone_in a.zones.now (a.n - 1)) }

pub overflow_add-before : goal.overflow_add-before
overflow_add-before c =
    let a = c.args in
    let p = c.requires.given in
    let most = claims_most (model_of a.model.now) a.model.now.right.right a.zones.now p.0 a.n p.1 p.2 in
    omega (arith, c.loop-x.invariant.number, c.loop-x-test.true, c.claims-x-end.ensures, c.requires.before_bound)

pub try_place-requires : goal.try_place-requires
try_place-requires c =
    let a = c.args in
    let p = c.requires.given in
    let z = c.zone_at-zone in
    let m = c.zone_matrix-closed in record { given = (p.0, p.1, p.2); closed_of = read_closed (model_of a.model.now) a.model.now.right.right a.zones.now p.0 a.n p.1 p.2 z.result z.ensures m.result m.ensures; le_x = (omega arith, omega (arith, c.loop-x-test.true, c.claims-x-end.ensures)) }

pub returns-in-Some : goal.returns-in-Some
returns-in-Some c =
    let a = c.args in
    let p = c.requires.given in
    let m = model_of a.model.now in
    let z = table.zone_in a.zones.now (a.n - 1) in
    let many = claims_many m a.model.now.right.right a.zones.now p.0 a.n p.1 p.2 in
    subst (λ (r : Failure). FailsIn m (table.decode a.zones.now) a.n z a.before r) (sym c.of.ensures)
    (tried_fails m (table.decode a.zones.now) a.n z c.loop-x.x c.loop-x.invariant.hold c.in-Some.found c.in-Some.ensures (omega arith)
    (omega (arith, c.loop-x-test.true, c.claims-x-end.ensures)) a.before _ (omega (arith, c.loop-x.invariant.number)))

pub loop-x-preserved : goal.loop-x-preserved
loop-x-preserved c =
    let a = c.args in
    record {
      number = omega (arith, c.loop-x.invariant.number);
      hold = tried_on (model_of a.model.now) (table.decode a.zones.now) a.n (table.zone_in a.zones.now (a.n - 1)) c.loop-x.x c.loop-x.invariant.hold c.in_default.ensures;
    }

pub returns : goal.returns
returns c =
    let a = c.args in
    let p = c.requires.given in
    let m = model_of a.model.now in
    let many = claims_many m a.model.now.right.right a.zones.now p.0 a.n p.1 p.2 in
    let most = claims_most m a.model.now.right.right a.zones.now p.0 a.n p.1 p.2 in
    own_all m (table.decode a.zones.now) a.n (table.zone_in a.zones.now (a.n - 1)) c.loop-x.x c.loop-x.invariant.hold
    (omega (arith, c.loop-x-test.false, c.claims-x-end.ensures)) c.loop-x.number c.loop-x.invariant.number
    (omega (arith, c.loop-x.invariant.number, c.loop-x-test.false, c.claims-x-end.ensures))

pub returns-in_default : goal.returns-in_default
returns-in_default c =
    let a = c.args in
    let p = c.requires.given in
    let m = model_of a.model.now in
    let z = table.zone_in a.zones.now (a.n - 1) in
    let many = claims_many m a.model.now.right.right a.zones.now p.0 a.n p.1 p.2 in
    let most = claims_most m a.model.now.right.right a.zones.now p.0 a.n p.1 p.2 in
    own_all m (table.decode a.zones.now) a.n z (c.loop-x.x + 1) (tried_on m (table.decode a.zones.now) a.n z c.loop-x.x c.loop-x.invariant.hold c.in_default.ensures)
    (omega (arith, c.claims-x-end.ensures)) (c.loop-x.number + 1) (omega (arith, c.loop-x.invariant.number))
    (omega (arith, c.loop-x.invariant.number, c.claims-x-end.ensures))
