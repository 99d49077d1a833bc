-- `bounds::tightening::tighten` meets its contract.
use mathlib.Core.Path.{◌≡◌}
use Prim.Native.Nat.{◌+◌}
use native.Mathlib.Omega.{arith}
use mir.Syntax.{w32}
use mir.Val.{SFits}
use Rattle.meaning.specs.Numbers.{over, under}
use lib.IntN.{ℤ, ◌+ℤ◌}
use Rattle.bounds.specs.Matrix.{at, Entry, Finite, Size}
use Rattle.bounds.proofs.Signed as S
use Rattle.bounds.proofs.Signed.{signed, rd, back, eq_read, sum_at, sum_fits}
use Rattle.bounds.proofs.Theory.{exact, exact_same, none_meets}
use Rattle.bounds.proofs.tightening.tighten.Goals as goal
use Rattle.bounds.proofs.tightening.tighten.Goals.{else-back-lt-NONE-via-then-back-lt-NONE+else-back-c-lt0, else-back-lt-NONE-via-else-back-lt-NONE}

pub returns-then-old-c : goal.returns-then-old-c
returns-then-old-c c =
    let g = c.get-old in
    let z = c.requires.size in
    exact_same c.args.m c.args.n c.args.i c.args.j c.args.c c.requires.entries.0 (omega arith) (omega arith) (omega arith) (omega arith) c.requires.entries.1
    (omega (signed, S.at {z = g.result} (record { sfits = g.type_inv }), eq_read g.ensures.is, S.at c.ranges.c))

-- a bound and c, added as the machine adds them: the sum fits, and it is their sum
module _ (b c : ℤ) (f : SFits w32 b) (g : SFits w32 c) (e : Entry b) (s : Size c 300000000) (h : Finite b) where
  sum : SFits w32 (rd b +ℤ rd c)
  sum = sum_fits f g (omega arith) (omega arith)

  sum_is : over (rd (rd b +ℤ rd c)) + under b + under c ≡ over b + over c + under (rd (rd b +ℤ rd c))
  sum_is = omega (arith, S.at sum, sum_at f g)

pub returns-then-back-c-lt0 : goal.returns-then-back-c-lt0
returns-then-back-c-lt0 c =
    let g = c.get-back in
    let f : SFits w32 g.result = record { sfits = g.type_inv } in
    let q = eq_read g.ensures.is in
    let h : Finite g.result = omega (signed, S.at f) in
    let t = sum_is _ _ f c.ranges.c (g.ensures.entry c.requires.entries.0) c.requires.size h in
    none_meets (at c.args.m) c.args.n c.args.i c.args.j c.args.c (omega arith) (omega arith) (omega (arith, h, q)) (omega (signed, t, q))

pub returns : goal.returns
returns c =
    let g = c.get-back in
    let f : SFits w32 g.result = record { sfits = g.type_inv } in
    let q = eq_read g.ensures.is in
    let E = c.requires.entries in
    let u = rw (back _ c.ranges.c) at c.shorten.ensures in
    let t = sum_is _ _ f c.ranges.c (g.ensures.entry E.0) c.requires.size in
    exact c.args.m c.args.n c.args.i c.args.j c.args.c c.shorten.result u E.0 (omega arith) (omega arith) (omega arith) (omega arith) E.1
    (λ h.
    let p : Finite g.result = omega (arith, q) in
    let v = t p in
    elim c.else-back-lt-NONE.branch [
      | else-back-lt-NONE-via-then-back-lt-NONE+else-back-c-lt0 w ↦ omega (signed, q, v, w.if-back-c-lt0.false)
      | else-back-lt-NONE-via-else-back-lt-NONE w ↦ absurd (omega (signed, S.at f, w.if-back-lt-NONE.false))
    ])
