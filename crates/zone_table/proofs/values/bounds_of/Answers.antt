-- `zone_table::values::bounds_of` meets its contract.
use mathlib.Core.Path.{◌∙◌, ap, ◌≡◌}
use mir.Syntax.{w32}
use mir.Val.{to_z, of_z}
use mir.ValLaws.{to_z-of_z}
use Prim.Native.Nat.{ℕ, ◌+◌}
use lib.IntN.{ℤ, pos}
use lib.ListN.{get_or}
use Rattle.zone_table.specs.Read.{entry_of_kept}
use Rattle.zone_table.proofs.EntryLaws.{entry_fits, stored}
use borrow.Author.Rules.{rules}
use native.Mathlib.Omega.{arith}
use Rattle.zone_table.proofs.values.bounds_of.Goals as goal

pub loop-x-preserved : goal.loop-x-preserved
loop-x-preserved c =
    let a = c.args in
    let l = c.loop-x in
    let s = c.bounds_start-from in
    let e = c.cell.ensures ∙ ap (λ (i : ℕ). get_or a.zones.now (i + l.x) 0) s.ensures in
    let f = entry_fits c.cell.result (let w = c.requires.2 l.x (omega arith) in omega (arith, e)) in (
      omega arith,
      search rules,
      stored (pos 0) (λ q z. z ≡ entry_of_kept (get_or a.zones.now (s.result + q) 0)) l.bound-items l.x (to_z w32 (of_z w32 c.entry.result)) (omega arith) l.invariant.2
          (ap (λ (z : ℤ). to_z w32 (of_z w32 z)) c.entry.ensures ∙ to_z-of_z w32 (entry_of_kept c.cell.result) f ∙ ap entry_of_kept c.cell.ensures),
    )
