-- `step_bounds::Stepping::place` meets its contract.
use mathlib.Core.Path.{◌≡◌}
use native.Mathlib.Omega.{arith}
use lib.ListN.{length}
use Rattle.std.specs.Prelude.{Some}
use Rattle.step_bounds.specs.Stepping.{model_of}
use Rattle.meaning.specs.Inner.Tests.{test_at}
use Rattle.slots.specs.Stands.{no_slot}
use Rattle.step_bounds.proofs.PlaceLaws.{first_of, place_front, place_last, place_none}
use borrow.Author.Rules.{rules}
use Rattle.step_bounds.proofs.stepping.Stepping.place.Goals as goal

pub beats_none-requires : goal.beats_none-requires
beats_none-requires c =
    let m = model_of c.args.self in
    let p = c.requires.place_in in
    let six : length c.tasks.result ≡ 6 = search rules in
    let first = c.first_place-first.result in
    let e = first_of m c.args.task first p.stands.slots c.args.slots c.tasks.result p.stands.stand six c.tasks.ensures c.first_place-first.ensures in
    record { stands = p.stands; first_le_at = (omega (arith, e, p.low), p.high); workable = c.requires.workable }

pub returns-in_err-r : goal.returns-in_err-r
returns-in_err-r c ss w =
    let m = model_of c.args.self in
    let p = c.requires.place_in in
    let six : length c.tasks.result ≡ 6 = search rules in
    let first = c.first_place-first.result in
    let e = first_of m c.args.task first p.stands.slots c.args.slots c.tasks.result p.stands.stand six c.tasks.ensures c.first_place-first.ensures in
    rw (c.from_residual.ensures, ← first_of m c.args.task first ss c.args.slots c.tasks.result w six c.tasks.ensures c.first_place-first.ensures)
    (place_none (test_at m c.args.task) first ss c.args.at c.args.m (omega (arith, e, p.low)) (omega (arith, w.many, p.high)) (c.in_err-r.ensures ss w))

pub returns-then-at-count : goal.returns-then-at-count
returns-then-at-count c ss w =
    let m = model_of c.args.self in
    let p = c.requires.place_in in
    let six : length c.tasks.result ≡ 6 = search rules in
    let first = c.first_place-first.result in
    let e = first_of m c.args.task first p.stands.slots c.args.slots c.tasks.result p.stands.stand six c.tasks.ensures c.first_place-first.ensures in
    rw (← first_of m c.args.task first ss c.args.slots c.tasks.result w six c.tasks.ensures c.first_place-first.ensures)
    (place_front (test_at m c.args.task) first ss c.args.at no_slot c.args.m c.in_ok-r.r c.hold.result (omega (arith, e, p.low)) (omega (arith, w.many)) (c.in_ok-r.ensures ss w)
    (rw (c.test_at.ensures ss w).is at c.hold.ensures))

pub returns : goal.returns
returns c ss w =
    let m = model_of c.args.self in
    let p = c.requires.place_in in
    let six : length c.tasks.result ≡ 6 = search rules in
    let first = c.first_place-first.result in
    let e = first_of m c.args.task first p.stands.slots c.args.slots c.tasks.result p.stands.stand six c.tasks.ensures c.first_place-first.ensures in
    rw (← first_of m c.args.task first ss c.args.slots c.tasks.result w six c.tasks.ensures c.first_place-first.ensures)
    (place_last (test_at m c.args.task) first ss c.args.at c.args.m (Some c.in_ok-r.r) (omega (arith, e, p.low)) (omega (arith, w.many, p.high)) (c.in_ok-r.ensures ss w))
