-- Laws of single jobs: late, the last tick, work and time left, who beats whom.
-- Assumes nothing.
use Prim.Native.Nat.{ℕ, zero, suc, ◌+◌, ◌-◌, ◌≤◌, ◌<◌}
use mathlib.Core.Logic.{◌⊎◌}
use mathlib.Core.Path.{◌≡◌, refl, sym, ◌∙◌, ap, ap₂, subst}
use mathlib.Core.Bool.{Bool, true, false, cond, ◌&&◌, ◌||◌}
use mathlib.Core.List.{List, [], ◌∷◌, map, Memᴰ}
use native.Mathlib.Omega.{arith}
use native.Mathlib.Numerals.{add-one}
use lib.Dec.{ltb, leb, eqb}
use lib.ListN.{length, get_or}
use borrow.Author.Tests.{lt-ltb, le-ltb, ltb-true, eq-eqb, ne_eqb}
use Rattle.meaning.specs.Lists.{every}
use Rattle.meaning.specs.Model as K
use Rattle.meaning.specs.Model.{Model, task_at}
use Rattle.meaning.specs.Machine.State as M
use Rattle.meaning.specs.Machine.Place.{place, place_from, beats_by, beats}
use Rattle.meaning.specs.Machine.Tick.{finishes, is_late, late}
use Rattle.meaning.specs.Zones.Proper.{ProperJob}
use Rattle.std.proofs.Common.{Option, Some, None, inl, inr}
use Rattle.std.specs.List.{position}
use Rattle.std.specs.Option.{MatchOption, unwrap_or}
use Rattle.meaning.specs.Text.Choice.{pick}
use Rattle.model_table.specs.Policies.{number_of}
use Rattle.model_table.specs.declared.policies.Policy.{Policy}
use Rattle.model_table.specs.declared.policies.Policy.TheVariants.{FixedPriority, EarliestDeadline, ShortestJob}
use Rattle.model_table.specs.Right.{RightTable}
use Rattle.meaning.specs.Text.ModelTable.{decode}
use Rattle.meaning.proofs.Hooks.{beats_is, beats_by_fps, beats_by_edf, beats_by_sjf, finishes_none, finishes_is}
use Rattle.meaning.proofs.Lists.{mem_map, mem_map_inv, every_mem, mem_every}
use Rattle.meaning.proofs.Tests.{and_left, and_right, and_both, leb_same}
use Rattle.meaning.proofs.Text.Choices.{by_eq, by_lt}
use Rattle.meaning.proofs.Text.Policies.{policy_fps, policy_edf, policy_sjf}
use Rattle.model_table.specs.Parts.{policy_in, work_in, deadline_in, priority_in}
use Rattle.model_table.proofs.PartLaws.{policy_is, work_is, deadline_is, priority_is}
use Rattle.machine.specs.Stands.{job_of}
use Rattle.machine.specs.ByCell.{timely, sooner_in, shorter_in, beats_in}
use Rattle.machine.specs.declared.Job.{Job}
use Rattle.machine.proofs.Searches.{first_found, first_mapped}

-- ---- late, and the last tick

pub late_is : (t : List ℕ) → RightTable t → (j : M.Job) → eqb j.age (deadline_in t j.task) ≡ is_late (decode t) j
late_is t g j = ap (eqb j.age) (deadline_is t g j.task)

-- the first job that is late
module _ (m : Model) (js : List Job) where
  abbrev late_here : Job → Bool
  late_here j = is_late m (job_of j)

  pub late_none : (o : Option ℕ) → o ≡ None → o ≡ position late_here js → late m (map job_of js) ≡ 0
  late_none o z e = sym (first_mapped late_here (is_late m) job_of (λ j. refl) js) ∙ first_found late_here js None (sym z ∙ e)

  pub late_some : (o : Option ℕ) (k : ℕ) → o ≡ Some k → o ≡ position late_here js → late m (map job_of js) ≡ k + 1
  late_some o k z e = sym (first_mapped late_here (is_late m) job_of (λ j. refl) js) ∙ first_found late_here js (Some k) (sym z ∙ e) ∙ sym (add-one k)

pub finishes_empty : (m : Model) (q : List M.Job) → length q ≡ 0 → finishes m q ≡ false
finishes_empty m [] e = finishes_none m
finishes_empty m (j ∷ q) e = absurd (omega arith)

pub finishes_head : (m : Model) (d : M.Job) (q : List M.Job) → 0 < length q → finishes m q ≡ leb (task_at m (get_or q 0 d).task).C (suc (get_or q 0 d).done)
finishes_head m d [] h = absurd (omega arith)
finishes_head m d (j ∷ q) h = finishes_is m j q

-- ---- work and time left

module _ (t : List ℕ) (g : RightTable t) (j : Job) where
  proper_timely : ProperJob (decode t) (job_of j) → timely t j ≡ true
  proper_timely p =
      let a = p.done in
      let b = p.age in
      and_both _ _ (lt-ltb j.done (work_in t j.task) (omega (arith, work_is t g j.task))) (lt-ltb j.age (deadline_in t j.task) (omega (arith, deadline_is t g j.task)))

  timely_proper : timely t j ≡ true → ProperJob (decode t) (job_of j)
  timely_proper e =
      let a = ltb-true j.done (work_in t j.task) (and_left (ltb j.done (work_in t j.task)) (ltb j.age (deadline_in t j.task)) e) in
      let b = ltb-true j.age (deadline_in t j.task) (and_right (ltb j.done (work_in t j.task)) (ltb j.age (deadline_in t j.task)) e) in
      record { done = omega (arith, work_is t g j.task); age = omega (arith, deadline_is t g j.task) }

module _ (t : List ℕ) (g : RightTable t) (js : List Job) where
  pub jobs_timely : ((j : M.Job) → Memᴰ j (map job_of js) → ProperJob (decode t) j) → every (timely t) js ≡ true
  jobs_timely h = mem_every (timely t) js (λ j i. proper_timely t g j (h (job_of j) (mem_map job_of i)))

  pub timely_jobs : every (timely t) js ≡ true → (j : M.Job) → Memᴰ j (map job_of js) → ProperJob (decode t) j
  timely_jobs e j h =
      let i = mem_map_inv job_of js h in
      subst (ProperJob (decode t)) (sym i.2) (timely_proper t g i.0 (every_mem (timely t) js e i.0 i.1))

-- ---- who beats whom

module _ (t : List ℕ) (g : RightTable t) (n : ℕ) (j : Job) where
  -- the comparison under the policy that the table has
  by_policy : {p : K.Policy} → (decode t).policy ≡ p
      → beats (decode t) n (job_of j) ≡ beats_by p n (task_at (decode t) n) (task_at (decode t) j.task) (job_of j)
  by_policy e =
      beats_is (decode t) n (job_of j) ∙ ap (λ (q : K.Policy). beats_by q n (task_at (decode t) n) (task_at (decode t) j.task) (job_of j)) e

  beats_fps : policy_in t ≡ 1 → beats (decode t) n (job_of j) ≡ ltb (priority_in t j.task) (priority_in t n)
  beats_fps e =
      by_policy (policy_fps (decode t).policy (sym (policy_is t g) ∙ e))
      ∙ beats_by_fps n (task_at (decode t) n) (task_at (decode t) j.task) (job_of j)
      ∙ ap₂ ltb (sym (priority_is t g j.task)) (sym (priority_is t g n))

  beats_edf : policy_in t ≡ 2 → beats (decode t) n (job_of j) ≡ sooner_in t n j
  unfolding sooner_in
  beats_edf e =
      by_policy (policy_edf (decode t).policy (sym (policy_is t g) ∙ e))
      ∙ beats_by_edf n (task_at (decode t) n) (task_at (decode t) j.task) (job_of j)
      ∙ ap₂ (λ (a b : ℕ). ltb (a + j.age) b || (eqb (a + j.age) b && ltb j.task n)) (sym (deadline_is t g n)) (sym (deadline_is t g j.task))

  beats_sjf : (policy_in t ≡ 1 → ⊥) → (policy_in t ≡ 2 → ⊥) → beats (decode t) n (job_of j) ≡ shorter_in t n j
  unfolding shorter_in
  beats_sjf e f =
      by_policy (policy_sjf (decode t).policy (λ z. e (policy_is t g ∙ z)) (λ z. f (policy_is t g ∙ z)))
      ∙ beats_by_sjf n (task_at (decode t) n) (task_at (decode t) j.task) (job_of j)
      ∙ ap₂ (λ (a b : ℕ). ltb (a + j.done) b) (sym (work_is t g n)) (sym (work_is t g j.task))

  -- the comparison by the table's cells is the definition's
  beats_in_lem : beats_in t n j ≡ beats (decode t) n (job_of j)
  unfolding beats_in
  beats_in_lem =
      by_eq (policy_in t) 1 (λ e. rw (eq-eqb (policy_in t) 1 e) (sym (beats_fps e)))
      (λ e. by_eq (policy_in t) 2 (λ f. rw (ne_eqb (policy_in t) 1 e, eq-eqb (policy_in t) 2 f) (sym (beats_edf f)))
      (λ f. rw (ne_eqb (policy_in t) 1 e, ne_eqb (policy_in t) 2 f) (sym (beats_sjf e f))))

-- the place that is found by the table's cells is the definition's
module _ (t : List ℕ) (g : RightTable t) (n : ℕ) where
  place_found : (l : List Job) → place (λ (b : Bool). b) (map (beats_in t n) l) ≡ place (beats (decode t) n) (map job_of l)
  place_found [] = refl
  place_found (j ∷ l) = ap₂ (λ (b : Bool) (p : ℕ). cond b zero (suc p)) (beats_in_lem t g n j) (place_found l)

  pub from_found : (k : ℕ) (l : List Job) → place_from k (λ (b : Bool). b) (map (beats_in t n) l) ≡ place_from k (beats (decode t) n) (map job_of l)
  from_found zero l = place_found l
  from_found (suc k) [] = refl
  from_found (suc k) (j ∷ l) = ap suc (from_found k l)

-- one for each policy
abbrev pub named : Policy → Bool → Bool → Bool → Bool
named FixedPriority a b c = a
named EarliestDeadline a b c = b
named ShortestJob a b c = c

-- each way through the comparison
module _ (t : List ℕ) (n : ℕ) (j : Job) where
  pub sooner_older : deadline_in t j.task < j.age → false ≡ sooner_in t n j
  unfolding sooner_in
  sooner_older h =
      rw (le-ltb (deadline_in t n + j.age) (deadline_in t j.task) (omega arith), ne_eqb (deadline_in t n + j.age) (deadline_in t j.task) (omega arith))

  pub sooner_tie : j.age ≤ deadline_in t j.task → deadline_in t n ≡ deadline_in t j.task - j.age → ltb j.task n ≡ sooner_in t n j
  unfolding sooner_in
  sooner_tie h z =
      rw (le-ltb (deadline_in t n + j.age) (deadline_in t j.task) (omega arith), eq-eqb (deadline_in t n + j.age) (deadline_in t j.task) (omega arith))

  pub sooner_left : j.age ≤ deadline_in t j.task → (deadline_in t n ≡ deadline_in t j.task - j.age → ⊥)
      → ltb (deadline_in t n) (deadline_in t j.task - j.age) ≡ sooner_in t n j
  unfolding sooner_in
  sooner_left h z =
      rw (ne_eqb (deadline_in t n + j.age) (deadline_in t j.task) (λ y. z (omega arith)))
      (by_lt (deadline_in t n) (deadline_in t j.task - j.age)
      (λ l. rw (lt-ltb (deadline_in t n) (deadline_in t j.task - j.age) l, lt-ltb (deadline_in t n + j.age) (deadline_in t j.task) (omega arith)))
      (λ l. rw (le-ltb (deadline_in t n) (deadline_in t j.task - j.age) l, le-ltb (deadline_in t n + j.age) (deadline_in t j.task) (omega arith))))

  pub shorter_over : work_in t j.task < j.done → false ≡ shorter_in t n j
  unfolding shorter_in
  shorter_over h = sym (le-ltb (work_in t n + j.done) (work_in t j.task) (omega arith))

  pub shorter_owed : j.done ≤ work_in t j.task → ltb (work_in t n) (work_in t j.task - j.done) ≡ shorter_in t n j
  unfolding shorter_in
  shorter_owed h =
      leb_same (suc (work_in t n)) (work_in t j.task - j.done) (suc (work_in t n + j.done)) (work_in t j.task)
      (λ (l : suc (work_in t n) ≤ work_in t j.task - j.done). omega arith) (λ (l : suc (work_in t n + j.done) ≤ work_in t j.task). omega arith)

  -- the comparison that the policy names; a table without one compares by work
  pub beats_policy : (o : Option Policy) → MatchOption o ((policy_in t ≡ 0) ⊎ (3 < policy_in t)) (λ p. policy_in t ≡ number_of p) → (p : Policy) → p ≡ unwrap_or o ShortestJob
      → beats_in t n j ≡ named p (ltb (priority_in t j.task) (priority_in t n)) (sooner_in t n j) (shorter_in t n j)
  unfolding beats_in
  beats_policy o h p e = rw e (go o h)
    where
      first : (v : ℕ) (a b c : Bool) → v ≡ 1 → pick (eqb v 1) a (pick (eqb v 2) b c) ≡ a
      first v a b c z = rw (eq-eqb v 1 z)

      second : (v : ℕ) (a b c : Bool) → v ≡ 2 → pick (eqb v 1) a (pick (eqb v 2) b c) ≡ b
      second v a b c z = rw (ne_eqb v 1 (omega arith), eq-eqb v 2 z)

      other : (v : ℕ) (a b c : Bool) → (v ≡ 1 → ⊥) → (v ≡ 2 → ⊥) → pick (eqb v 1) a (pick (eqb v 2) b c) ≡ c
      other v a b c y z = rw (ne_eqb v 1 y, ne_eqb v 2 z)

      go : (o : Option Policy) → MatchOption o ((policy_in t ≡ 0) ⊎ (3 < policy_in t)) (λ p. policy_in t ≡ number_of p)
          → pick (eqb (policy_in t) 1) (ltb (priority_in t j.task) (priority_in t n)) (pick (eqb (policy_in t) 2) (sooner_in t n j) (shorter_in t n j))
          ≡ named (unwrap_or o ShortestJob) (ltb (priority_in t j.task) (priority_in t n)) (sooner_in t n j) (shorter_in t n j)
      go (Some FixedPriority) z = first (policy_in t) _ _ _ z
      go (Some EarliestDeadline) z = second (policy_in t) _ _ _ z
      go (Some ShortestJob) z = other (policy_in t) _ _ _ (λ y. omega arith) (λ y. omega arith)
      go None (inl z) = other (policy_in t) _ _ _ (λ y. omega arith) (λ y. omega arith)
      go None (inr z) = other (policy_in t) _ _ _ (λ y. omega arith) (λ y. omega arith)
