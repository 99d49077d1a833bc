-- The contract of a plan determines it.
-- Assumes nothing.
use mathlib.Core.Path.{◌≡◌, sym, ◌∙◌, ap}
use mathlib.Core.List.{List}
use Prim.Native.Nat.{ℕ, ◌≤◌, ◌<◌}
use native.Mathlib.Omega.{arith}
use native.Mathlib.Decide.{dec_lt}
use lib.IntN.{pos}
use lib.ListN.{length, get_or, take}
use lib.Seq.{length-take-le, get_or-take, ext_get_or}
use Rattle.meaning.specs.Model.{Model}
use Rattle.meaning.specs.Zones.Variables.{variables}
use Rattle.meaning.specs.Zones.Steps.{Step}
use Rattle.meaning.specs.Zones.Reached.{Home}
use Rattle.step_reach.specs.declared.plan.Plan.{Plan}
use Rattle.home.specs.declared.Home as H
use Rattle.home.specs.Stands.{home_of}
use Rattle.step_reach.specs.Plans.{Planned}

-- arrays by value have their length
pub record LongPlan (p : Plan) : Type 0 where
  pub tasks : length p.home.tasks ≡ 6
  pub from : length p.from ≡ 17
  pub off : length p.off ≡ 17

-- a home by value is the one that it stands for, with unused cells 0
pub home_once : (a b : H.Home) → length a.tasks ≡ 6 → length b.tasks ≡ 6 → a.count ≤ 6 → b.count ≤ 6
    → ((k : ℕ) → a.count ≤ k → get_or a.tasks k 0 ≡ 0) → ((k : ℕ) → b.count ≤ k → get_or b.tasks k 0 ≡ 0) → home_of a ≡ home_of b → a ≡ b
home_once a b l k f g u v e =
    let order : take a.count a.tasks ≡ take b.count b.tasks = ap (λ (h : Home). h.order) e in
    let count : a.count ≡ b.count =
    sym (length-take-le a.count a.tasks (omega arith)) ∙ ap length order ∙ length-take-le b.count b.tasks (omega arith) in
    let location = ap (λ (h : Home). h.location) e in
    let tasks = ext_get_or 0 a.tasks b.tasks (l ∙ sym k) (λ x h. go order count x (dec_lt x a.count)) in
    (λ x. record { location = location x; tasks = tasks x; count = count x })
  where
    go : take a.count a.tasks ≡ take b.count b.tasks → a.count ≡ b.count → (x : ℕ) → Dec (x < a.count) → get_or a.tasks x 0 ≡ get_or b.tasks x 0
    go o n x (yes h) = sym (get_or-take a.count a.tasks x 0 h) ∙ ap (λ (y : List ℕ). get_or y x 0) o ∙ get_or-take b.count b.tasks x 0 (omega arith)
    go o n x (no h) = u x (omega arith) ∙ sym (v x (omega arith))

module _ (m : Model) (h : Home) (st : Step) (p q : Plan) (l : LongPlan p) (k : LongPlan q) (v : Planned m h st p) (w : Planned m h st q) where
  same_home : home_of p.home ≡ home_of q.home
  same_home = v.home ∙ sym w.home

  same_many : p.variables ≡ q.variables
  same_many = v.many ∙ ap (λ (x : Home). variables m x.order) same_home ∙ sym w.many

  from_same : (x : ℕ) → Dec (x < p.variables) → get_or p.from x 0 ≡ get_or q.from x 0
  from_same x (yes h) = v.from x h ∙ sym (w.from x (omega (arith, same_many)))
  from_same x (no h) = (v.beyond x (omega arith)).0 ∙ sym (w.beyond x (omega (arith, same_many))).0

  off_same : (x : ℕ) → Dec (x < p.variables) → get_or p.off x (pos 0) ≡ get_or q.off x (pos 0)
  off_same x (yes h) = v.off x h ∙ sym (w.off x (omega (arith, same_many)))
  off_same x (no h) = (v.beyond x (omega arith)).1 ∙ sym (w.beyond x (omega (arith, same_many))).1

  pub plan_once : p ≡ q
  plan_once =
      let home = home_once p.home q.home l.tasks k.tasks v.few w.few v.unused w.unused same_home in
      let from = ext_get_or 0 p.from q.from (l.from ∙ sym k.from) (λ x h. from_same x (dec_lt x p.variables)) in
      let off = ext_get_or (pos 0) p.off q.off (l.off ∙ sym k.off) (λ x h. off_same x (dec_lt x p.variables)) in
      (λ x. record { home = home x; variables = same_many x; from = from x; off = off x })
