-- Under every policy no job of a run's queue is ahead of one in front of it: a release and a tick keep that, of any model. So SJF runs the shortest.
-- Assumes nothing.
use mathlib.Core.Path.{◌≡◌, sym, ◌∙◌, ap, subst}
use mathlib.Core.Bool.{Bool, true, false, not}
use mathlib.Core.List.{List, [], ◌∷◌, map, Memᴰ}
use Prim.Native.Nat.{ℕ, ◌+◌, ◌-◌, ◌≤◌}
use native.Mathlib.Omega.{arith}
use borrow.Author.Tests.{ltb-false}
use Rattle.meaning.specs.Model.{sjf, Model, task_at}
use Rattle.meaning.specs.Machine.State.{Job, State}
use Rattle.meaning.specs.Machine.Release.{new_job, put}
use Rattle.meaning.specs.Machine.Tick.{older, worked, served}
use Rattle.meaning.specs.Machine.Run.{Run}
use Rattle.meaning.specs.Published.Order.{ahead_by, ahead, stays, Settled}
use Rattle.meaning.proofs.Tests.{not_of_false, false_of_not}
use Rattle.meaning.proofs.Lists.{mem_map_inv}
use Rattle.meaning.proofs.Machine.Runs.{run_keeps}
use Rattle.meaning.proofs.Published.Sorted.{map_in_order, insert_in_order}
use Rattle.meaning.proofs.Published.Order.{ahead_asym, ahead_apart, ahead_older, ahead_unworked, put_ahead}

module _ (m : Model) where
  stays_trans : (i j k : Job) → stays m i j ≡ true → stays m j k ≡ true → stays m i k ≡ true
  stays_trans i j k h g = not_of_false (ahead_apart m k j i (false_of_not (ahead m k j) g) (false_of_not (ahead m j i) h))

  -- a release keeps it
  pub put_settled : (t : ℕ) (q : List Job) → Settled m q → Settled m (put m t q)
  put_settled t q s =
      subst (Settled m) (sym (put_ahead m t q s))
      (insert_in_order (stays m) stays_trans (ahead m (new_job t)) (new_job t) q
      (λ j h e. not_of_false (ahead_asym m (new_job t) j e)) (λ j h e. not_of_false e) s)

  older_stays : (i j : Job) → stays m i j ≡ true → stays m (older i) (older j) ≡ true
  older_stays i j h = ap not (ahead_older m j i) ∙ h

  -- a tick keeps it
  pub served_settled : (b : Bool) (q : List Job) → Settled m q → Settled m (served b q)
  served_settled b [] s = s
  served_settled true (x ∷ q) s = map_in_order (stays m) older older_stays q s.1
  served_settled false (x ∷ q) s = (first, map_in_order (stays m) older older_stays q s.1)
    where
      first : (j : Job) → Memᴰ j (map older q) → stays m (worked x) j ≡ true
      first j h =
          let r = mem_map_inv older q h in
          let k = false_of_not (ahead m (older r.0) (older x)) (older_stays x r.0 (s.0 r.0 r.1)) in
          ap (stays m (worked x)) r.2 ∙ not_of_false (ahead_unworked m (older r.0) x k)

  -- in every state of every run, under every policy, no job is ahead of one in front of it
  pub run_settled : {s : State} → Run m s → Settled m s.queue
  run_settled r = run_keeps m (λ t. Unit {0}) (Settled m) (λ k e at t h. tt) (λ t h. tt) tt (λ t q n free s. put_settled t q s) served_settled r

-- shortest job first: in every state of every run the head owes no more than any job behind it
pub shortest_first : (m : Model) → m.policy ≡ sjf → {s : State} → Run m s → (x : Job) (q : List Job) → s.queue ≡ x ∷ q → (j : Job) → Memᴰ j q
    → (task_at m x.task).C - x.done ≤ (task_at m j.task).C - j.done
unfolding ahead_by
shortest_first m p r x q e j h =
    let s = subst (Settled m) e (run_settled m r) in
    let a = false_of_not (ahead m j x) (s.0 j h) in
    let b : ahead_by sjf (task_at m j.task) (task_at m x.task) j x ≡ false = rw p at a in
    let c = ltb-false ((task_at m j.task).C + x.done) ((task_at m x.task).C + j.done) b in
    omega arith
