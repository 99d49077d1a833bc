-- `verdict::kinds::by_claim` meets its contract.
use Prim.Native.Nat.{◌≤◌}
use Rattle.meaning.proofs.Tests.{never}
use Rattle.verdict.proofs.KindLaws.{claim_few, claimed_few, elsewhere_judged, broken_asks, broken_by, breaks_judged, clear_judged}
use Rattle.verdict.proofs.kinds.by_claim.Goals as goal

pub home_at-requires : goal.home_at-requires
home_at-requires c =
    let few : c.args.claim ≤ 48 =
    (claim_few c.args.model.now.cells.now c.args.model.now.right c.args.m.now c.args.plan c.args.zones.now c.requires.given.0 c.args.claim c.requires.given.1 c.requires.given.2) in
    (c.requires.given.1, few)

pub same_home-requires : goal.same_home-requires
same_home-requires c =
    (c.requires.drawn_by.drawn.planned.few, claimed_few c.args.model.now.cells.now c.args.model.now.right c.args.m.now c.args.plan c.args.zones.now c.requires.given.0 c.args.claim c.requires.given.1 c.requires.given.2 c.home_at.result c.home_at.ensures)

pub returns-then-not-same_home : goal.returns-then-not-same_home
returns-then-not-same_home c =
    let k = c.same_home in
    let y = c.home_at in
    elsewhere_judged c.args.model.now.cells.now c.args.model.now.right c.args.m.now c.args.plan c.args.zones.now c.requires.given.0 c.args.claim c.requires.given.1 c.requires.given.2 y.result y.ensures
    (λ h. never (k.ensures.1 h) c.if-not-same_home.true) c.smallest.result c.smallest.ensures

pub bounds_start-start-requires : goal.bounds_start-start-requires
bounds_start-start-requires c =
    let few : c.args.claim ≤ 48 =
    (claim_few c.args.model.now.cells.now c.args.model.now.right c.args.m.now c.args.plan c.args.zones.now c.requires.given.0 c.args.claim c.requires.given.1 c.requires.given.2) in
    (c.requires.given.1, few)

pub first_broken-requires : goal.first_broken-requires
first_broken-requires c =
    let b = c.bounds_start-start in
    let a = broken_asks c.args.model.now.cells.now c.args.model.now.right c.args.m.now c.args.plan c.args.zones.now c.requires.given.0 c.args.claim c.requires.given.1 c.requires.given.2 b.result b.ensures c.requires.drawn_by in
    record { n_bound = a.0; entries = a.1; maps = a.2; cells = a.3 }

pub broken_at-requires : goal.broken_at-requires
broken_at-requires c =
    let w = c.in_ok-bound in
    let b = c.bounds_start-start in
    record {
      broken_by = broken_by c.args.model.now.cells.now c.args.model.now.right c.args.m.now c.args.plan c.args.zones.now c.requires.given.0 c.args.claim c.requires.given.1 c.requires.given.2 b.result b.ensures
          w.bound.i w.bound.j w.ensures c.requires.drawn_by;
    }

pub returns-in_err-bound : goal.returns-in_err-bound
returns-in_err-bound c =
    let b = c.bounds_start-start in
    let k = c.same_home in
    let y = c.home_at in
    λ n x z st d o f.
    rw c.from_residual.ensures
    (clear_judged c.args.model.now.cells.now c.args.model.now.right c.args.m.now c.args.plan c.args.zones.now c.requires.given.0 c.args.claim c.requires.given.1 c.requires.given.2 b.result b.ensures
    y.result y.ensures (k.ensures.0 c.if-not-same_home.false) n x z st d o f c.in_err-bound.ensures)

pub returns : goal.returns
returns c =
    let w = c.in_ok-bound in
    let b = c.bounds_start-start in
    let k = c.same_home in
    let y = c.home_at in
    λ n x z st d o f.
    breaks_judged c.args.model.now.cells.now c.args.model.now.right c.args.m.now c.args.plan c.args.zones.now c.requires.given.0 c.args.claim c.requires.given.1 c.requires.given.2 b.result b.ensures
    y.result y.ensures (k.ensures.0 c.if-not-same_home.false) n x z st d o f w.bound.i w.bound.j w.ensures c.broken_at.result
    (c.broken_at.ensures z st d)
