-- `choice_at` meets its contract.
use Rattle.std.proofs.Common.{◌+◌, ◌∙◌, List, ℕ, length, get_or, drop, [], ◌∷◌, ap, refl, subst, arith}
use lib.ListN.{length-set}
use Rattle.bounds.proofs.Store.{zeros}
use Rattle.home.specs.Stands.{order_of}
use Rattle.meaning.proofs.Lists.{length_insert_at}
use Rattle.zone_list.specs.Chosen.{AheadIs}
use Rattle.zone_list.specs.Listing.{model_of}
use Rattle.zone_list.proofs.ChosenLaws.{rest_whole, choosing_start, choosing_turn, choosing_end}
use Rattle.zone_list.proofs.listing.Listing.choice_at.Goals as goal

pub loop-k-init : goal.loop-k-init
loop-k-init c =
    let a = c.args in (
      refl,
      omega (arith, ap length c.of-queue.ensures),
      rw c.of-queue.ensures (choosing_start (model_of a.self.now) a.releases.now (order_of a.self.now.home) a.rest (0 ∷ 0 ∷ 0 ∷ 0 ∷ []) (zeros 4) c.requires.rest_in_bounds),
    )

pub loop-k-preserved : goal.loop-k-preserved
loop-k-preserved c =
    let a = c.args in
    let l = c.loop-k in
    let m = model_of a.self.now in
    let ts = a.releases.now in
    let f = c.ahead_at-found.result in
    let t = get_or ts l.k 0 in
    let n = ap length c.with-queue.ensures ∙ length_insert_at f.ahead t l.queue in
    let here : AheadIs m t (drop (l.k + 1) ts) l.queue l.left f =
    subst (λ (later : List ℕ). AheadIs m t later l.queue l.left f) (rest_whole ts (l.k + 1)) c.ahead_at-found.ensures in (
      length-set l.r l.k (f.ahead + 1) ∙ l.invariant.0,
      omega (arith, l.invariant.1),
      rw c.with-queue.ensures
          (choosing_turn m ts (order_of a.self.now.home) a.rest l.k l.queue l.left l.r l.invariant.2 t f (omega arith) (omega arith) refl here),
    )

pub returns : goal.returns
returns c =
    let a = c.args in
    let l = c.loop-k in
    choosing_end (model_of a.self.now) a.releases.now (order_of a.self.now.home) a.rest l.k l.queue l.left l.r l.invariant.2 (omega arith)
