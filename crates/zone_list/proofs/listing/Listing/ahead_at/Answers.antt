-- `ahead_at` meets its contract.
use Rattle.std.proofs.Common.{◌≡◌, ◌∙◌, List, ℕ, length, ap, arith}
use Rattle.meaning.specs.Zones.Steps.{choices}
use Rattle.meaning.proofs.Lists.{length_insert_at}
use Rattle.zone_list.specs.Listing.{model_of}
use Rattle.zone_list.proofs.ChosenLaws.{seek_start, seek_turn, seek_here, seek_end}
use Rattle.zone_list.proofs.listing.Listing.ahead_at.Goals as goal

pub loop-p-init : goal.loop-p-init
loop-p-init c =
    let a = c.args in
    seek_start (model_of a.self.now) a.task a.later.now a.queue.now a.rest c.first_place-p.result c.first_place-p.ensures c.requires.rest_in_bounds

pub choices-n-requires : goal.choices-n-requires
choices-n-requires c =
    let a = c.args in
    let e = ap length c.with.ensures ∙ length_insert_at c.loop-p.p a.task a.queue.now in
    (omega (arith, c.requires.few), omega (arith, c.requires.few))

pub returns-then-left-n : goal.returns-then-left-n
returns-then-left-n c =
    let a = c.args in
    let l = c.loop-p in
    let m = model_of a.self.now in
    let n = c.choices-n.ensures.0 ∙ ap (λ (o : List ℕ). length (choices m a.later.now o)) c.with.ensures in
    seek_here m a.task a.later.now a.queue.now a.rest l.p l.left l.invariant c.choices-n.result n c.if-left-n.true

pub loop-p-preserved : goal.loop-p-preserved
loop-p-preserved c =
    let a = c.args in
    let l = c.loop-p in
    let m = model_of a.self.now in
    let n = c.choices-n.ensures.0 ∙ ap (λ (o : List ℕ). length (choices m a.later.now o)) c.with.ensures in
    seek_turn m a.task a.later.now a.queue.now a.rest l.p l.left l.invariant (omega (arith, c.len-p-end.ensures)) c.choices-n.result n c.if-left-n.false

pub returns : goal.returns
returns c =
    let a = c.args in
    let l = c.loop-p in
    let e : c.len.result ≡ l.p = omega (arith, c.len.ensures, c.len-p-end.ensures, l.invariant.high) in
    rw e (seek_end (model_of a.self.now) a.task a.later.now a.queue.now a.rest l.p l.left l.invariant (omega (arith, c.len-p-end.ensures)))
