-- Laws of an edge that is entered: room for the new jobs, their places, and the plan.
-- Assumes nothing.
use mathlib.Core.Path.{◌≡◌, sym, ◌∙◌, ap, subst}
use mathlib.Core.Bool.{false}
use mathlib.Core.List.{List, Memᴰ}
use mathlib.Core.Option.{some}
use Prim.Native.Nat.{ℕ, ◌+◌, ◌-◌, ◌≤◌, ◌<◌}
use native.Mathlib.Omega.{arith}
use lib.IntN.{pos}
use lib.ListN.{length, get_or, take}
use lib.Seq.{get_or-take, length-take-le, take-take}
use Rattle.meaning.specs.Lists.{nth1}
use Rattle.meaning.specs.Model.{released}
use Rattle.meaning.specs.Machine.Release.{overflows_any}
use Rattle.meaning.specs.Zones.Steps as S
use Rattle.meaning.specs.Text.ModelTable.{decode}
use Rattle.meaning.specs.Inner.Slots.{slots_of}
use Rattle.meaning.specs.Inner.Places.{insert_slots}
use Rattle.meaning.specs.Inner.Sources.{edge_overflows, step_overflows}
use Rattle.model_table.specs.Right.{RightTable}
use Rattle.model_table.specs.Parts.{edge_of}
use Rattle.home.specs.declared.Home.{Home}
use Rattle.home.specs.declared.Releases.{Releases}
use Rattle.home.specs.Stands.{order_of, home_of, tasks_of, Lists, RightHome}
use Rattle.home.specs.Asked.{target_by, released_if, released_by}
use Rattle.home.proofs.HomeLaws.{order_length}
use Rattle.slots.specs.declared.standing.Slots.{Slots}
use Rattle.slots.specs.Stands.{Stand}
use Rattle.zone_list.specs.declared.form.Kind.{Kind}
use Rattle.zone_list.specs.declared.form.Kind.TheVariants.{Edge}
use Rattle.zone_list.specs.declared.form.Step.{Step}
use Rattle.zone_list.specs.Steps.{ahead_of, step_by, step_of, list_at, Listed}
use Rattle.step_bounds.specs.Places.{PlacesIn, EdgeIn}
use Rattle.step_bounds.proofs.StepLaws.{step_range, same_ahead, step_places}
use Rattle.step_reach.specs.Plans.{LeadsTo}
use Rattle.step_reach.proofs.PlanLaws.{choice_few, enter_leads}

-- a step of the list, an edge that doesn't overflow; what it releases, and how many jobs are ahead of each
pub record Entering (t : List ℕ) (h : Home) (step : Step) (k : ℕ) (r : Releases) (ahead : List ℕ) : Type 0 where
  pub table : RightTable t
  pub home : RightHome (decode t) h
  pub listed : Listed (decode t) (home_of h) step
  pub kind : step.kind ≡ Edge k
  pub fits : step_overflows (decode t) (home_of h) (step_of step) ≡ false
  pub releases : Lists (released_by (decode t) k) r
  pub places : (i : ℕ) → get_or ahead i 0 ≡ get_or step.positions i 0 - 1
  pub queue_long : length h.tasks ≡ 6
  pub releases_long : length r.tasks ≡ 4
  pub ahead_long : length ahead ≡ 4
  pub positions_long : length step.positions ≡ 4

module _ (t : List ℕ) (h : Home) (step : Step) (k : ℕ) (r : Releases) (ahead : List ℕ) (w : Entering t h step k r ahead) where
  step_is : step_of step ≡ S.by_edge k (ahead_of step)
  step_is = ap (λ (x : Kind). step_by x (ahead_of step)) w.kind

  edge_in : EdgeIn (decode t) (home_of h) k step
  edge_in = record {
    formed = w.listed.formed;
    here = subst (λ (st : S.Step). Memᴰ st (list_at (decode t) (home_of h))) step_is w.listed.here;
  }

  edge_is : nth1 (decode t).edges k ≡ some (edge_of t k)
  edge_is = let n = step_range t w.table h k step edge_in r w.releases in w.table.edge k n.0 n.1

  releases_is : tasks_of r ≡ released (decode t) (edge_of t k)
  releases_is = w.releases.is ∙ ap (released_if (decode t)) edge_is

  free : overflows_any (decode t) (released (decode t) (edge_of t k)) (order_of h) ≡ false
  free = ap (edge_overflows (decode t) (home_of h)) (sym edge_is) ∙ ap (step_overflows (decode t) (home_of h)) (sym step_is) ∙ w.fits

  not_over : overflows_any (decode t) (tasks_of r) (order_of h) ≡ false
  not_over = ap (λ (ts : List ℕ). overflows_any (decode t) ts (order_of h)) releases_is ∙ free

  ahead_is : ahead_of step ≡ take r.count ahead
  ahead_is =
      same_ahead t w.table h k step edge_in r w.releases not_over ahead w.queue_long w.releases_long w.positions_long w.ahead_long w.places

  new_places : PlacesIn (decode t) h r ahead
  new_places =
      step_places t w.table h k step edge_in r w.releases not_over ahead w.queue_long w.releases_long w.positions_long w.ahead_long w.places w.home

  pub enter_room : h.count + r.count ≤ 6
  enter_room = new_places.room

  -- each new job comes in behind jobs that are there
  pub enter_behind : (i : ℕ) → i < r.count → get_or ahead i 0 ≤ h.count + i
  enter_behind i l =
      let n : length (take r.count ahead) ≡ r.count = length-take-le r.count ahead (omega (arith, w.releases.few, w.ahead_long)) in
      let c = choice_few (decode t) (tasks_of r) (order_of h) (take r.count ahead) new_places.here i (omega arith) in
      omega (arith, get_or-take r.count ahead i 0 l, order_length h.count h.tasks w.home.few w.queue_long)

  -- the edge is entered
  pub entering_leads : (s : Slots) (l : ℕ) → l ≡ target_by (decode t) k h.location
      → Stand (insert_slots (take r.count (tasks_of r)) (take r.count ahead) (slots_of (decode t) (order_of h))) s
      → LeadsTo t (home_of h) (step_of step) l k s (pos 0) (pos 0)
  entering_leads s l e x =
      subst (λ (st : S.Step). LeadsTo t (home_of h) st l k s (pos 0) (pos 0)) (sym (step_is ∙ ap (S.by_edge k) ahead_is))
      (enter_leads t (home_of h) k (take r.count ahead) edge_is free s (take r.count (tasks_of r)) l e
      (take-take r.count r.count r.tasks (omega arith) ∙ releases_is) x)
