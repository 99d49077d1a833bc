-- `step_reach::variables::all_added` meets its contract.
use mathlib.Core.Path.{sym, subst}
use native.Mathlib.Omega.{arith}
use borrow.Author.Rules.{rules}
use lib.IntN.{pos}
use lib.ListN.{replicate}
use Rattle.bounds.proofs.Signed.{rd, back}
use Rattle.bounds.proofs.Store.{stored, beyond}
use Rattle.step_reach.specs.Plans.{Adds}
use Rattle.step_reach.proofs.variables.all_added.Goals as goal

pub loop-i-preserved : goal.loop-i-preserved
loop-i-preserved c =
    let l = c.loop-i in
    let s = c.args in
    let a = c.added_to in
    record {
      long = search rules;
      added = stored (λ q z. Adds s.clocks (rd s.time) (rd s.sum) q z) l.r l.i (rd a.result) (omega arith) l.invariant.added (subst (Adds s.clocks (rd s.time) (rd s.sum) l.i) (sym (back a.result (record { sfits = a.type_inv }))) a.ensures);
      rest = beyond l.r (replicate 17 (pos 0)) l.i (rd a.result) l.invariant.rest;
    }
