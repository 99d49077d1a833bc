-- `bounds::image::shifted` meets its contract.
use Rattle.bounds.specs.Matrix.{Finite}
use Rattle.bounds.proofs.Signed.{signed, at, sum_at, sum_fits, diff_fits}
use Rattle.bounds.proofs.image.shifted.Goals as goal

-- the test held
fin : (c : goal.Then-v-lt-NONE) → Finite c.args.v
fin c = omega (signed, at c.ranges.v)

pub overflow_add-result : goal.overflow_add-result
overflow_add-result c =
    let h = c.requires.0.high (fin c) in
    sum_fits c.ranges.v c.ranges.u (omega signed) (omega signed)

pub overflow_sub-result : goal.overflow_sub-result
overflow_sub-result c =
    let h = c.requires.0.high (fin c) in
    let k = sum_at c.ranges.v c.ranges.u in
    diff_fits (overflow_add-result c) c.ranges.w (omega signed) (omega signed)
