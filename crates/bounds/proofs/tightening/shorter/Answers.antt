-- `bounds::tightening::shorter` meets its contract. What the machine makes of y + c + z is linear arithmetic over `over` and `under`.
use mathlib.Core.Path.{◌≡◌, refl}
use mathlib.Core.Logic.{inl, inr}
use Prim.Native.Nat.{◌+◌}
use native.Mathlib.Omega.{arith}
use lib.IntN.{ℤ, ◌+ℤ◌}
use mir.Syntax.{w32}
use mir.Val.{SFits}
use Rattle.meaning.specs.Numbers.{over, under}
use Rattle.bounds.specs.Matrix.{Entry, Finite}
use Rattle.bounds.proofs.Signed.{signed, rd, at, back, sum_at, sum_fits}
use Rattle.bounds.proofs.tightening.shorter.Goals as goal

-- the sum of three bounds, as the machine makes it: it fits, and it is their sum
module _ (y c z : ℤ) (fy : SFits w32 y) (fc : SFits w32 c) (fz : SFits w32 z) (ey : Entry y) (ec : Entry c) (ez : Entry z) (py : Finite y) (pc : Finite c) (pz : Finite z) where
  two : SFits w32 (rd y +ℤ rd c)
  two = sum_fits fy fc (omega arith) (omega arith)

  three : SFits w32 (rd (rd y +ℤ rd c) +ℤ rd z)
  three = sum_fits two fz (omega (arith, sum_at fy fc)) (omega (arith, sum_at fy fc))

  three_is : over (rd (rd (rd y +ℤ rd c) +ℤ rd z)) + under y + under c + under z ≡ over y + over c + over z + under (rd (rd (rd y +ℤ rd c) +ℤ rd z))
  three_is = omega (arith, at three, sum_at two fz, sum_at fy fc)

pub returns-then-s-x : goal.returns-then-s-x
returns-then-s-x c =
    let r = c.ranges in
    let e = c.requires.entry in
    let py : Finite c.args.y = omega (signed, at r.y) in
    let pz : Finite c.args.z = omega (signed, at r.z) in
    let sum = three_is _ _ _ r.y r.c r.z e.1 e.2 e.3 py c.requires.finite pz in
    let hy = e.1.high py in
    let hc = e.2.high c.requires.finite in
    let hz = e.3.high pz in
    record {
      kept = omega (signed, at r.x);
      short = λ p q. (omega (arith, sum, hy, hc, hz), omega (arith, sum));
      one = inr (omega (arith, sum, hy, hc, hz), py, pz, sum);
    }

pub returns-else-s-x : goal.returns-else-s-x
returns-else-s-x c =
    let r = c.ranges in
    let e = c.requires.entry in
    let py : Finite c.args.y = omega (signed, at r.y) in
    let pz : Finite c.args.z = omega (signed, at r.z) in
    let sum = three_is _ _ _ r.y r.c r.z e.1 e.2 e.3 py c.requires.finite pz in
    let hy = e.1.high py in
    let hc = e.2.high c.requires.finite in
    let hz = e.3.high pz in
    rw (back c.args.x r.x) (record {
      kept = omega signed;
      short = λ p q. omega (signed, at r.x, sum, hy, hc, hz);
      one = inl refl;
    })
