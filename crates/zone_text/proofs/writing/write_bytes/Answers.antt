-- `zone_text::writing::write_bytes` meets its contract.
use Prim.Native.Nat.{◌+◌, ◌-◌}
use mathlib.Core.Path.{◌≡◌}
use lib.ListN.{length}
use Rattle.zone_text.proofs.PutRows.{put_copied}
use native.Mathlib.Omega.{arith}
use Rattle.zone_text.proofs.writing.write_bytes.Goals as goal

pub returns : goal.returns
returns c =
    let a = c.args in
    let n : a.at + length a.bytes.now - a.at ≡ length a.bytes.now = omega arith in
    rw (n, c.copy_from_slice.ensures.after) (put_copied a.buf.now a.at a.bytes.now c.requires)
