-- `is_choice` meets its contract.
use Rattle.std.proofs.Common.{◌-◌, ◌∙◌, ℕ, length, get_or, ap, refl, sym, arith}
use lib.ListN.{length-map, get_or-map}
use Rattle.home.specs.Stands.{order_of}
use Rattle.home.proofs.Walks.{is_so, is_not}
use Rattle.meaning.proofs.Tests.{never}
use Rattle.meaning.proofs.Lists.{length_insert_at}
use Rattle.meaning.proofs.Zones.Choices.{choices_length}
use Rattle.zone_list.specs.Chosen.{jobs_ahead}
use Rattle.zone_list.specs.Listing.{model_of}
use Rattle.zone_list.proofs.ChosenLaws.{testing_start, testing_turn, testing_not, testing_end}
use Rattle.zone_list.proofs.listing.Listing.is_choice.Goals as goal

pub returns-then-positions-releases : goal.returns-then-positions-releases
returns-then-positions-releases c =
    let a = c.args in
    is_not (λ h. c.if-positions-releases.true
    (sym (length-map a.positions.now (λ (p : ℕ). p - 1)) ∙ choices_length (model_of a.self.now) a.releases.now (order_of a.self.now.home) (jobs_ahead a.positions.now) h))

pub loop-k-init : goal.loop-k-init
loop-k-init c =
    let a = c.args in
    (omega (arith, ap length c.of-queue.ensures), rw c.of-queue.ensures (testing_start (model_of a.self.now) a.releases.now (order_of a.self.now.home) (jobs_ahead a.positions.now)))

pub returns-then-not-may_stand : goal.returns-then-not-may_stand
returns-then-not-may_stand c =
    let a = c.args in
    let l = c.loop-k in
    let ps = a.positions.now in
    let n = length-map ps (λ (p : ℕ). p - 1) in
    let v = c.one_less-ahead.ensures ∙ sym (get_or-map (λ (p : ℕ). p - 1) ps l.k 0) in
    is_not (testing_not (model_of a.self.now) a.releases.now (order_of a.self.now.home) (jobs_ahead ps) l.k l.queue l.invariant.1 (get_or a.releases.now l.k 0) c.one_less-ahead.result (omega arith)
    (omega arith) refl v (λ f. never (c.may_stand.ensures.1 f) c.if-not-may_stand.true))

pub loop-k-preserved : goal.loop-k-preserved
loop-k-preserved c =
    let a = c.args in
    let l = c.loop-k in
    let ps = a.positions.now in
    let t = get_or a.releases.now l.k 0 in
    let n = length-map ps (λ (p : ℕ). p - 1) in
    let v = c.one_less-ahead.ensures ∙ sym (get_or-map (λ (p : ℕ). p - 1) ps l.k 0) in
    let f = c.may_stand.ensures.0 c.if-not-may_stand.false in
    let q = ap length c.with-queue.ensures ∙ length_insert_at c.one_less-ahead.result t l.queue in (
      omega (arith, l.invariant.0),
      rw c.with-queue.ensures
          (testing_turn (model_of a.self.now) a.releases.now (order_of a.self.now.home) (jobs_ahead ps) l.k l.queue l.invariant.1 t c.one_less-ahead.result (omega arith) (omega arith) refl v f.0 f.1),
    )

pub returns : goal.returns
returns c =
    let a = c.args in
    let l = c.loop-k in
    let ps = a.positions.now in
    let n = length-map ps (λ (p : ℕ). p - 1) in
    is_so (testing_end (model_of a.self.now) a.releases.now (order_of a.self.now.home) (jobs_ahead ps) l.k l.queue l.invariant.1 (omega arith) (omega arith))
