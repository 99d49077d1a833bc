-- Laws of what one edge adds to the list.
-- Assumes nothing.
use mathlib.Core.Path.{◌≡◌, ◌∙◌, ap}
use mathlib.Core.Bool.{false}
use mathlib.Core.List.{List}
use Prim.Native.Nat.{ℕ, ◌+◌, ◌≤◌}
use native.Mathlib.Omega.{arith}
use lib.ListN.{length}
use lib.Seq.{length-take-le}
use Rattle.std.proofs.lemmas.List.{length-take}
use Rattle.meaning.specs.Model.{Model}
use Rattle.meaning.specs.Machine.Release.{overflows_any}
use Rattle.meaning.specs.Text.RightModel.{RightModel}
use Rattle.meaning.proofs.Hooks.{releases_room}
use Rattle.home.specs.declared.Home as H
use Rattle.home.specs.declared.Releases.{Releases}
use Rattle.home.specs.Stands.{order_of, tasks_of, Lists, RightHome}
use Rattle.home.specs.Asked.{released_by}
use Rattle.home.proofs.HomeLaws.{released_right}

-- a list of releases has its length
pub releases_length : (ts : List ℕ) (r : Releases) → Lists ts r → length r.tasks ≡ 4 → length (tasks_of r) ≡ r.count
releases_length ts r w e = length-take-le r.count r.tasks (omega (arith, w.few))

-- there is room for what an edge releases without overflow
pub edge_room : (m : Model) → RightModel m → (h : H.Home) → RightHome m h → (k : ℕ) (r : Releases) → Lists (released_by m k) r → (ts : List ℕ) → ts ≡ tasks_of r
    → overflows_any m (released_by m k) (order_of h) ≡ false → (length ts ≤ 4) × (length (order_of h) + length ts ≤ 6)
edge_room m w h g k r l ts q e =
    let c = ap length (q ∙ l.is) in (
      omega (arith, l.few, ap length q, length-take r.count r.tasks),
      omega (arith, releases_room m w.tasks_high (released_by m k) (order_of h) g.order.fit g.order.tasks (released_right m w k) e),
    )
