-- `choices` meets its contract: each call has one release fewer before it.
use Rattle.std.proofs.Common.{◌≡◌, ◌∙◌, ◌<◌, List, ℕ, length, get_or, sym, ap, arith}
use borrow.Author.Tests.{eqb-true}
use Rattle.meaning.specs.Zones.Steps.{choices}
use Rattle.meaning.proofs.Lists.{length_insert_at}
use Rattle.meaning.proofs.Hooks.{behind_le}
use Rattle.zone_list.specs.Listing.{model_of}
use Rattle.zone_list.proofs.ChoiceLaws.{counting_start, counting_turn, counting_end, choices_most, behind_first, rest_length, choices_first, choices_last}
use Rattle.zone_list.proofs.listing.Listing.+choices.Goals as goal

pub overflow_sub-result : goal.overflow_sub-result
overflow_sub-result t c =
    let a = c.args in
    omega (arith, c.first_place-first.ensures, behind_le (model_of a.self.now) (get_or a.releases.now 0 0) a.queue.now, c.len.ensures)

pub returns-then-is_empty : goal.returns-then-is_empty
returns-then-is_empty t c =
    let a = c.args in
    let ts = a.releases.now in
    let some : 0 < length ts = omega arith in
    let none : length (behind_first ts) ≡ 0 = eqb-true _ 0 (sym c.is_empty.ensures ∙ c.if-is_empty.true) in
    (omega (arith, choices_last (model_of a.self.now) ts a.queue.now some none, c.first_place-first.ensures, c.len.ensures), omega (arith, c.len.ensures))

pub loop-p-init : goal.loop-p-init
loop-p-init t c =
    let a = c.args in
    counting_start (model_of a.self.now) (get_or a.releases.now 0 0) (behind_first a.releases.now) a.queue.now c.first_place-first.result c.first_place-first.ensures

pub choices-r-requires : goal.choices-r-requires
choices-r-requires t c =
    let ts = c.args.releases.now in
    let e = ap length c.with-next.ensures ∙ length_insert_at c.loop-p.p (get_or ts 0 0) c.args.queue.now in
    (omega (arith, rest_length ts), (omega (arith, rest_length ts), omega (arith, rest_length ts)))

pub overflow_add-r : goal.overflow_add-r
overflow_add-r t c =
    let a = c.args in
    let l = c.loop-p in
    let m = model_of a.self.now in
    let ts = a.releases.now in
    let some : 0 < length ts = omega arith in
    let n = c.choices-r.ensures.0 ∙ ap (λ (o : List ℕ). length (choices m (behind_first ts) o)) c.with-next.ensures in
    let w = counting_turn m (get_or ts 0 0) (behind_first ts) a.queue.now l.p l.r l.invariant (omega (arith, c.len-p-end.ensures)) c.choices-r.result n in
    record { fits = omega (arith, w.0, choices_first m ts a.queue.now some, choices_most m ts a.queue.now (omega arith) (omega arith)) }

pub loop-p-preserved : goal.loop-p-preserved
loop-p-preserved t c =
    let a = c.args in
    let l = c.loop-p in
    let m = model_of a.self.now in
    let ts = a.releases.now in
    let n = c.choices-r.ensures.0 ∙ ap (λ (o : List ℕ). length (choices m (behind_first ts) o)) c.with-next.ensures in
    (counting_turn m (get_or ts 0 0) (behind_first ts) a.queue.now l.p l.r l.invariant (omega (arith, c.len-p-end.ensures)) c.choices-r.result n).1

pub returns : goal.returns
returns t c =
    let a = c.args in
    let l = c.loop-p in
    let m = model_of a.self.now in
    let ts = a.releases.now in
    let some : 0 < length ts = omega arith in
    let e = counting_end m (get_or ts 0 0) (behind_first ts) a.queue.now l.p l.r l.invariant (omega (arith, c.len-p-end.ensures)) ∙ choices_first m ts a.queue.now some in
    (e, omega (arith, e, choices_most m ts a.queue.now (omega arith) (omega arith)))
