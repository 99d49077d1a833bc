-- Laws for those who ask: how long a queue order is and how many variables it has, and that each contract determines its result.
-- Assumes nothing.
use Prim.Native.Nat.{ℕ, zero, suc, ◌+◌, ◌-◌, ◌≤◌, ◌<◌}
use mathlib.Core.Path.{◌≡◌, refl, sym, ◌∙◌, ap, ap₂}
use mathlib.Core.Bool.{Bool, true, false}
use mathlib.Core.Logic.{◌↔◌}
use mathlib.Core.List.{List}
use mathlib.Core.Option.{Option, none, some}
use native.Mathlib.Omega.{arith}
use native.Mathlib.Decide.{dec_lt}
use lib.ListN.{length, get_or, take}
use lib.Seq.{ext_get_or, get_or-take, length-take-le}
use Rattle.meaning.specs.Lists.{nth1}
use Rattle.meaning.specs.Model.{Edge, Model}
use Rattle.meaning.specs.Zones.Variables.{variables}
use Rattle.meaning.specs.Text.RightModel.{RightModel}
use Rattle.meaning.specs.Inner.Slots.{sum_ahead}
use Rattle.meaning.proofs.Hooks.{OfModel, released_tasks}
use Rattle.home.specs.declared.Releases.{Releases}
use Rattle.home.specs.Stands.{tasks_of, Lists}
use Rattle.home.specs.Asked.{released_if, released_by}

-- ---- how many

pub order_length : (n : ℕ) (ts : List ℕ) → n ≤ 6 → length ts ≡ 6 → length (take n ts) ≡ n
order_length n ts h e = length-take-le n ts (omega arith)

-- the variables of a queue order of so many tasks
pub variables_many : (m : Model) (o : List ℕ) (n : ℕ) → length o ≡ n → suc (m.clocks + (n + n)) ≡ variables m o
variables_many m o n e = ap (λ (k : ℕ). suc (m.clocks + (k + k))) (sym e)

-- the running sum just ahead of one behind some others
pub ahead_is : (v k : ℕ) → 0 < k → sum_ahead 0 v k ≡ v + (k - 1 + (k - 1))
ahead_is v zero h = absurd (omega arith)
ahead_is v (suc k) h = let e : suc k - 1 ≡ k = omega arith in ap (λ (i : ℕ). v + (i + i)) (sym e)

-- ---- what is released is of the model

pub released_right : (m : Model) → RightModel m → (k : ℕ) → OfModel m (released_by m k)
released_right m w k = go (nth1 m.edges k) refl
  where
    go : (x : Option Edge) → nth1 m.edges k ≡ x → OfModel m (released_if m x)
    go none e = tt
    go (some d) e = released_tasks m w k d e

-- ---- each contract determines its result

-- an array by value has its length
pub lists_once : (ts : List ℕ) (r s : Releases) → length r.tasks ≡ 4 → length s.tasks ≡ 4 → Lists ts r → Lists ts s → r ≡ s
lists_once ts r s k l a b =
    let n = length-take-le r.count r.tasks (omega (arith, a.few)) in
    let p = length-take-le s.count s.tasks (omega (arith, b.few)) in
    let o : tasks_of r ≡ tasks_of s = a.is ∙ sym b.is in
    let c : r.count ≡ s.count = sym n ∙ ap length o ∙ p in
    ap₂ (λ (x : List ℕ) (y : ℕ). record { tasks = x; count = y }) (ext_get_or 0 r.tasks s.tasks (k ∙ sym l) (λ i h. go i o c (dec_lt i r.count))) c
  where
    go : (i : ℕ) → tasks_of r ≡ tasks_of s → r.count ≡ s.count → Dec (i < r.count) → get_or r.tasks i 0 ≡ get_or s.tasks i 0
    go i o c (yes h) =
        sym (get_or-take r.count r.tasks i 0 h) ∙ ap (λ (x : List ℕ). get_or x i 0) o ∙ get_or-take s.count s.tasks i 0 (omega arith)
    go i o c (no h) = a.unused i (omega arith) ∙ sym (b.unused i (omega arith))

-- two tests of one thing are one
pub tests_once : {P : Type 0} (a b : Bool) → (a ≡ true) ↔ P → (b ≡ true) ↔ P → a ≡ b
tests_once true b f g = sym (g.1 (f.0 refl))
tests_once false true f g = f.1 (g.0 refl)
tests_once false false f g = refl
