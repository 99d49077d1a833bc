-- Laws of the place of a new job in a lent list: what the walk has found at the end is what `place` promises.
-- Assumes nothing.
use Prim.Native.Nat.{ℕ, suc, ◌≤◌}
use mathlib.Core.Path.{◌≡◌, refl, sym, ◌∙◌, ap, ap₂, subst}
use mathlib.Core.Bool.{Bool, true}
use mathlib.Core.List.{List, [], ◌∷◌, map}
use native.Mathlib.Omega.{arith}
use lib.ListN.{length, take, length-map}
use lib.Seq.{take_all}
use Rattle.meaning.specs.Lists.{every}
use Rattle.meaning.specs.Model.{Model}
use Rattle.meaning.specs.Machine.State as M
use Rattle.meaning.specs.Machine.State.{order}
use Rattle.meaning.specs.Machine.Place.{behind, place_from, place_of}
use Rattle.meaning.specs.Machine.Release.{overflows}
use Rattle.meaning.specs.Zones.Proper.{fits}
use Rattle.meaning.specs.Text.Choice.{pick}
use Rattle.std.proofs.Common.{Result, Err}
use Rattle.refusals.specs.Number.{number_of}
use Rattle.refusals.specs.declared.Reason.{Reason}
use Rattle.refusals.specs.declared.Reason.TheVariants.{NotProper}
use Rattle.model_table.specs.Right.{RightTable}
use Rattle.meaning.specs.Text.ModelTable.{decode, tasks}
use Rattle.meaning.proofs.Hooks.{fits_room}
use Rattle.model_table.proofs.GivenLaws.{given_table}
use Rattle.model_table.proofs.PartLaws.{tasks_is}
use Rattle.machine.specs.Stands.{job_of, task_of}
use Rattle.machine.specs.Promise.{at, full, refused_place, Listed, Placing}
use Rattle.machine.specs.ByCell.{timely, beats_in}
use Rattle.machine.specs.ByPlace.{position_said, Finished}
use Rattle.machine.specs.declared.Job.{Job}
use Rattle.machine.specs.declared.Placed.{Placed}
use Rattle.machine.specs.declared.seen.Seen.{Seen}
use Rattle.machine.proofs.JobLaws.{jobs_timely, timely_jobs, from_found}
use Rattle.machine.proofs.ReleaseLaws.{proper_tasks}
use Rattle.machine.proofs.SeenLaws.{Rightly, Sound}

order_all : (js : List Job) → order (map job_of js) ≡ map task_of js
order_all [] = refl
order_all (j ∷ js) = ap (λ (l : List ℕ). j.task ∷ l) (order_all js)

-- ---- the list, by the table and by the model

module _ (t : List ℕ) (g : RightTable t) (n : ℕ) (js : List Job) where
  abbrev m : Model
  m = decode t

  abbrev q : List M.Job
  q = map job_of js

  pub listed_timely : Listed m n q → every (timely t) js ≡ true
  listed_timely w = jobs_timely t g js w.jobs

  pub listed_fit : Listed m n q → fits m (map task_of js) ≡ true
  listed_fit w = ap (fits m) (sym (order_all js)) ∙ w.fit

  pub right_listed : 1 ≤ n → n ≤ tasks t → every (timely t) js ≡ true → fits m (map task_of js) ≡ true → Listed m n q
  right_listed a b r f = record {
    low = a;
    high = let e = tasks_is t g in omega arith;
    jobs = timely_jobs t g js r;
    fit = ap (fits m) (order_all js) ∙ f;
  }

  -- there is room for a list that is a proper queue
  listed_right : Listed m n q → Rightly t n js
  listed_right w =
      let a = fits_room m g.right.tasks_high (order q) w.fit (proper_tasks m q w.jobs) in
      let b = ap length (order_all js) ∙ length-map js task_of in
      record { timely = listed_timely w; few = omega arith }

  said_found : (s : Seen) → Sound t n js s → position_said m n s ≡ pick (overflows m n (order q)) full (at (suc (place_of m n q)))
  said_found s w =
      let o : take s.count s.tasks ≡ order q = ap (λ (k : ℕ). take k s.tasks) w.count ∙ w.tasks ∙ sym (order_all js) in
      let b : take s.count s.beaten ≡ map (beats_in t n) js = ap (λ (k : ℕ). take k s.beaten) w.count ∙ w.beaten in
      ap₂ (λ (l : List ℕ) (b : List Bool). pick (overflows m n l) full (at (suc (place_from (behind m n l) (λ (x : Bool). x) b)))) o b
      ∙ ap (λ (p : ℕ). pick (overflows m n (order q)) full (at (suc p))) (from_found t g n (behind m n (order q)) js)

-- what `place` promises, from what was found over the whole list
placing_found : (t : List ℕ) (n : ℕ) (js : List Job) (s : Seen) (r : Result Placed Reason) → Sound t n js s → Finished t n s r → Placing t js n r
placing_found t n js s r v f =
    let o : take s.count s.tasks ≡ map task_of js = ap (λ (k : ℕ). take k s.tasks) v.count ∙ v.tasks in
    record {
      unusable = λ h. f.unusable (λ a z. h a.given (right_listed t (given_table t a.given) n js a.low a.high v.right.timely (ap (fits (decode t)) (sym o) ∙ z)));
      usable = λ a l.
          let g = given_table t a in
          let h = l.high in
          f.usable (record { given = a; low = l.low; high = omega (arith, tasks_is t g) }) (ap (fits (decode t)) o ∙ listed_fit t g n js l) ∙ said_found t g n js s v;
    }

-- the same, where the walk has passed k jobs and there are no more
pub placing_whole : (t : List ℕ) (n : ℕ) (js : List Job) (k : ℕ) (s : Seen) (r : Result Placed Reason) → Sound t n (take k js) s → length js ≤ k → Finished t n s r → Placing t js n r
placing_whole t n js k s r w l f = placing_found t n js s r (subst (λ (q : List Job). Sound t n q s) (take_all k js l) w) f

-- and where it has come to a job that is not right
pub placing_wrong : (t : List ℕ) (n : ℕ) (js : List Job) (e : Reason) → e ≡ NotProper → (Rightly t n js → ⊥) → Placing t js n (Err e)
placing_wrong t n js e z f = record {
  unusable = λ h. ap (λ (x : Reason). refused_place (number_of x) 0) z;
  usable = λ a l. absurd (f (listed_right t (given_table t a) n js l));
}
