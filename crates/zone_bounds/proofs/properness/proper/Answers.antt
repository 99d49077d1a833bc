-- `zone_bounds::properness::proper` meets its contract.
use mathlib.Core.Path.{◌≡◌, ◌∙◌, ap}
use Prim.Native.Nat.{ℕ, ◌+◌, ◌≤◌, suc}
use native.Mathlib.Omega.{arith}
use Rattle.std.specs.Prelude.{None, Some}
use Rattle.model_table.specs.Held.{model_of}
use Rattle.meaning.specs.Inner.Slots.{slots_of, sum_ahead, proper_at}
use Rattle.meaning.proofs.Exact.Loops.{proper_flat}
use Rattle.model_table.proofs.PartLaws.{clocks_is}
use Rattle.zone_bounds.proofs.LoopLaws.{clocks_small, ahead_below, queue_next, queue_done, queue_stop}
use Rattle.zone_bounds.proofs.properness.proper.Goals as goal

pub sum_ahead-requires : goal.sum_ahead-requires
sum_ahead-requires c = (omega (arith, c.clocks-n.ensures, clocks_small c.args.model.now.cells.now c.args.model.now.right), omega arith)

pub sum_at-requires : goal.sum_at-requires
sum_at-requires c = (omega (arith, c.clocks-n.ensures, clocks_small c.args.model.now.cells.now c.args.model.now.right), omega arith)

pub proper_job-requires : goal.proper_job-requires
proper_job-requires c =
    let few : c.clocks-n.result ≤ 4 = omega (arith, c.clocks-n.ensures, clocks_small c.args.model.now.cells.now c.args.model.now.right) in
    record {
      a_bound = (omega (arith, c.sum_ahead.ensures, ahead_below (suc c.clocks-n.result) c.loop-k.k (omega arith) (omega arith)), omega (arith, c.sum_at.ensures));
      workable = c.loop-k.invariant.usable;
    }

pub loop-k-preserved : goal.loop-k-preserved
loop-k-preserved c =
    let m = model_of c.args.model.now in
    let k = c.loop-k.k in
    let v : c.clocks-n.result ≡ m.clocks = c.clocks-n.ensures ∙ clocks_is c.args.model.now.cells.now c.args.model.now.right in
    let a : c.sum_ahead.result ≡ sum_ahead 0 (suc m.clocks) k = c.sum_ahead.ensures ∙ ap (λ (x : ℕ). sum_ahead 0 (suc x) k) v in
    let b : c.sum_at.result ≡ suc m.clocks + (k + k) = c.sum_at.ensures ∙ ap (λ (x : ℕ). suc x + (k + k)) v in
    queue_next (proper_at m) (suc m.clocks) c.args.order.now k c.args.m c.loop-k.r (Some c.in_ok-r.r) (omega arith) c.loop-k.invariant
    (rw (a, b) at c.in_ok-r.ensures)

pub returns-in_err-r : goal.returns-in_err-r
returns-in_err-r c =
    let m = model_of c.args.model.now in
    let k = c.loop-k.k in
    let o = c.args.order.now in
    let v : c.clocks-n.result ≡ m.clocks = c.clocks-n.ensures ∙ clocks_is c.args.model.now.cells.now c.args.model.now.right in
    let a : c.sum_ahead.result ≡ sum_ahead 0 (suc m.clocks) k = c.sum_ahead.ensures ∙ ap (λ (x : ℕ). sum_ahead 0 (suc x) k) v in
    let b : c.sum_at.result ≡ suc m.clocks + (k + k) = c.sum_at.ensures ∙ ap (λ (x : ℕ). suc x + (k + k)) v in
    rw (c.from_residual.ensures, proper_flat m 0 (slots_of m o))
    (queue_stop (proper_at m) (suc m.clocks) o (k + 1) c.args.m (omega arith)
    (queue_next (proper_at m) (suc m.clocks) o k c.args.m c.loop-k.r None (omega arith) c.loop-k.invariant (rw (a, b) at c.in_err-r.ensures)))

pub returns : goal.returns
returns c =
    let m = model_of c.args.model.now in
    let o = c.args.order.now in
    rw (proper_flat m 0 (slots_of m o)) (queue_done (proper_at m) (suc m.clocks) o c.loop-k.k c.args.m (Some c.loop-k.r) (omega arith) c.loop-k.invariant)
