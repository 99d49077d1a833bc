-- `bounds::smallest::least` meets its contract.
use native.Mathlib.Omega.{arith}
use Rattle.bounds.proofs.smallest.least.Goals as goal

pub returns : goal.returns
returns c =
    let K = c.requires.entries.1 in
    let u = c.loop-k.invariant.passed in
    record {
      sol = record {
        zero = omega (arith, u 0 (omega (arith, K.some)), K.diag 0 K.some);
        holds = λ a b ha hb f.
            let r = K.row a ha in
            omega (arith, u a (omega arith), u b (omega arith), (K.tri 0 a b K.some ha hb (omega arith) f).1);
      };
      least = λ x p k h. let r = K.row k h in omega (arith, u k (omega arith), p.zero, p.holds 0 k K.some h (omega arith));
      outside = λ k h. c.loop-k.invariant.rest k (omega arith);
    }
