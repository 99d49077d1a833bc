-- `step_bounds::Stepping::placed` meets its contract.
use mathlib.Core.Path.{◌≡◌}
use Prim.Native.Nat.{◌+◌}
use native.Mathlib.Omega.{arith}
use lib.ListN.{length}
use Rattle.std.specs.Prelude.{None, Some}
use Rattle.step_bounds.specs.Stepping.{model_of}
use Rattle.step_bounds.proofs.PlaceLaws.{slots_by, turn_high, place_in, placed_next, placed_stop}
use borrow.Author.Rules.{rules}
use Rattle.step_bounds.proofs.stepping.Stepping.placed.Goals as goal

pub slots_with-slots-requires : goal.slots_with-slots-requires
slots_with-slots-requires c =
    let six : length c.args.self.home.tasks ≡ 6 = search rules in
    let four : length c.args.releases.tasks ≡ 4 = search rules in
    let far : length c.args.ahead ≡ 4 = search rules in
    let p = c.requires.places_in in
    record {
      n_le_count = (omega arith, p.few, omega (arith, p.room));
      by_index = λ j h. turn_high (model_of c.args.self) c.args.self.home c.args.releases c.args.ahead p six four far j (omega arith);
    }

pub place-requires : goal.place-requires
place-requires c =
    let six : length c.args.self.home.tasks ≡ 6 = search rules in
    let four : length c.args.releases.tasks ≡ 4 = search rules in
    let far : length c.args.ahead ≡ 4 = search rules in
    record {
      place_in = place_in (model_of c.args.self) c.args.self.home c.args.releases c.args.ahead c.requires.places_in six four far c.loop-k.k (omega arith) c.slots_with-slots.result c.slots_with-slots.ensures;
      workable = c.loop-k.invariant.usable;
    }

pub loop-k-preserved : goal.loop-k-preserved
loop-k-preserved c =
    let six : length c.args.self.home.tasks ≡ 6 = search rules in
    let four : length c.args.releases.tasks ≡ 4 = search rules in
    let far : length c.args.ahead ≡ 4 = search rules in
    let m = model_of c.args.self in
    placed_next m c.args.self.home c.args.releases c.args.ahead c.requires.places_in six four far c.loop-k.k c.args.m c.loop-k.r (Some c.in_ok-r.r) (omega arith)
    c.loop-k.invariant (c.in_ok-r.ensures (slots_by m c.args.self.home c.args.releases c.args.ahead c.loop-k.k) c.slots_with-slots.ensures)

pub returns-in_err-r : goal.returns-in_err-r
returns-in_err-r c =
    let six : length c.args.self.home.tasks ≡ 6 = search rules in
    let four : length c.args.releases.tasks ≡ 4 = search rules in
    let far : length c.args.ahead ≡ 4 = search rules in
    let m = model_of c.args.self in
    rw c.from_residual.ensures
    (placed_stop m c.args.self.home c.args.releases c.args.ahead c.requires.places_in six four far (c.loop-k.k + 1) c.args.m (omega arith)
    (placed_next m c.args.self.home c.args.releases c.args.ahead c.requires.places_in six four far c.loop-k.k c.args.m c.loop-k.r None (omega arith)
    c.loop-k.invariant (c.in_err-r.ensures (slots_by m c.args.self.home c.args.releases c.args.ahead c.loop-k.k) c.slots_with-slots.ensures)))
