-- Laws of the states that may be lent: what the tests of single cells say is what `Lendable` asks.
-- Assumes nothing.
use Prim.Native.Nat.{ℕ, zero, suc, ◌≤◌, ◌<◌}
use mathlib.Core.Path.{◌≡◌, refl, sym, ◌∙◌, ap}
use mathlib.Core.Bool.{Bool, true, false, ◌&&◌}
use mathlib.Core.List.{List, [], ◌∷◌, map, Memᴰ}
use mathlib.Core.Option.{some}
use native.Mathlib.Omega.{arith}
use lib.Dec.{ltb, leb, eqb}
use lib.ListN.{length, get_or, get_elem?, take, drop, length-map, length-take}
use lib.Seq.{length-take-le}
use borrow.Author.Tests.{lt-ltb, ltb-true, leb-true, le-leb, eqb-true}
use Rattle.std.specs.List.{list_all}
use Rattle.meaning.specs.Model.{Model}
use Rattle.meaning.specs.Machine.State as M
use Rattle.meaning.specs.Zones.Proper.{ProperJob, fits}
use Rattle.model_table.specs.Right.{RightTable}
use Rattle.meaning.specs.Text.ModelTable.{decode, clocks, locations}
use Rattle.meaning.proofs.Tests.{and_left, and_right, and_both, never}
use Rattle.meaning.proofs.Lists.{at_mem}
use Rattle.meaning.proofs.Text.Choices.{by_lt}
use Rattle.meaning.proofs.Text.Keyed.{nth_in}
use Rattle.model_table.specs.Parts.{work_in, deadline_in}
use Rattle.model_table.proofs.PartLaws.{clocks_is, locations_is, work_is, deadline_is}
use Rattle.machine.specs.Stands.{clock_most, job_of, cell_of, task_of, queue_of, no_job, padded, cells_of, state_of, held, Lendable}
use Rattle.machine.specs.ByCell.{UpToEnd, Young, clocks_right, timely, unused, jobs_right, Tells}
use Rattle.machine.specs.declared.Job.{Job}
use Rattle.machine.specs.declared.State.{State}
use Rattle.machine.proofs.Arrays.{padded_length, padded_read, padded_rest}
use Rattle.machine.proofs.AllCells.{all_is, all_at, all_make, all_padded, rest_padded}
use Rattle.machine.proofs.JobLaws.{timely_jobs, jobs_timely}
use Rattle.machine.proofs.QueueLaws.{none_there, queue_length, queue_at, queue_out, cells_at, cells_back, order_is}

-- ---- an unused cell

unused_is : (j : Job) → unused j ≡ true → j ≡ no_job
unused_is j e =
    let a = eqb-true j.task 0 (and_left (eqb j.task 0) (eqb j.done 0 && eqb j.age 0) e) in
    let r = and_right (eqb j.task 0) (eqb j.done 0 && eqb j.age 0) e in
    let b = eqb-true j.done 0 (and_left (eqb j.done 0) (eqb j.age 0) r) in
    let c = eqb-true j.age 0 (and_right (eqb j.done 0) (eqb j.age 0) r) in
    go j.task j.done j.age a b c
  where
    go : (t d a : ℕ) → t ≡ 0 → d ≡ 0 → a ≡ 0 → record { task = t; done = d; age = a } ≡ no_job
    go t d a x y z = rw (x, y, z)

get_d_some : {A : Type 0} (l : List A) (k : ℕ) (d x : A) → get_elem? l k ≡ some x → get_or l k d ≡ x
get_d_some [] k d x e = absurd (let z : ◌≡◌ {A = ℕ} 0 1 = cc in omega arith)
get_d_some (y ∷ l) zero d x e = cc
get_d_some (y ∷ l) (suc k) d x e = get_d_some l k d x e

-- ---- the state and its cells

-- all that is asked of the cells
abbrev cells_test : List ℕ → State → Bool
cells_test t s = clocks_right s.clocks (clocks t) && (jobs_right t s.jobs s.count && fits (decode t) (take s.count (map task_of s.jobs)))

module _ (t : List ℕ) (g : RightTable t) (s : State) where
  abbrev m : Model
  m = decode t

  abbrev q : List M.Job
  q = queue_of s.jobs s.count

  few_clocks : clocks t ≤ 4
  few_clocks = let a = clocks_is t g in let b = g.right.clocks in omega arith

  -- from the tests of the cells to the state

  module _ (low : 1 ≤ s.location) (high : s.location ≤ locations t) (few : s.count ≤ 6) (long : length s.clocks ≡ 4) (room : length s.jobs ≡ 6)
      (cs : clocks_right s.clocks (clocks t) ≡ true) (js : jobs_right t s.jobs s.count ≡ true) (fit : fits (decode t) (take s.count (map task_of s.jobs)) ≡ true) where
    clocks_held : s.clocks ≡ padded 0 4 (take (clocks t) s.clocks)
    clocks_held =
        padded_rest 0 (λ (c : ℕ). eqb c 0) (λ c e. eqb-true c 0 e) (clocks t) s.clocks (and_right _ _ cs) ∙ ap (λ (n : ℕ). padded 0 n (take (clocks t) s.clocks)) long

    small_clock : (k : ℕ) → get_or s.clocks k 0 ≤ clock_most
    small_clock k =
        let l = length-take-le (clocks t) s.clocks (let b = few_clocks in omega arith) in
        let e = ap (λ (l : List ℕ). get_or l k 0) clocks_held ∙ padded_read 0 4 (take (clocks t) s.clocks) k (let b = few_clocks in omega arith) in
        let b = leb-true _ clock_most (all_at (λ (c : ℕ). leb c clock_most) 0 refl (take (clocks t) s.clocks) (and_left _ _ cs) k) in
        omega arith

    jobs_held : s.jobs ≡ cells_of q
    jobs_held =
        padded_rest no_job unused unused_is s.count s.jobs (and_right _ _ js) ∙ ap (λ (n : ℕ). padded no_job n (take s.count s.jobs)) room
        ∙ ap (padded no_job 6) (cells_back (take s.count s.jobs))

    held_is : s ≡ held (state_of m s)
    held_is = go (take (clocks t) s.clocks) (take m.clocks s.clocks) (ap (λ (n : ℕ). take n s.clocks) (clocks_is t g)) clocks_held
      where
        go : (a b : List ℕ) → a ≡ b → s.clocks ≡ padded 0 4 a → s ≡ record { location = s.location; clocks = padded 0 4 b; jobs = cells_of q; count = length q }
        go a b e f = put (padded 0 4 b) (cells_of q) (length q) (f ∙ ap (padded 0 4) e) jobs_held (sym (queue_length s.jobs s.count (omega arith)))
          where
            put : (x : List ℕ) (y : List Job) (n : ℕ) → s.clocks ≡ x → s.jobs ≡ y → s.count ≡ n → s ≡ record { location = s.location; clocks = x; jobs = y; count = n }
            put x y n e₁ e₂ e₃ =
                ap (λ (z : List ℕ). record { location = s.location; clocks = z; jobs = s.jobs; count = s.count }) e₁
                ∙ ap (λ (z : List Job). record { location = s.location; clocks = x; jobs = z; count = s.count }) e₂
                ∙ ap (λ (z : ℕ). record { location = s.location; clocks = x; jobs = y; count = z }) e₃

    pub lendable_make : Lendable (decode t) s
    lendable_make = record {
      proper = record {
        clocks = let a = clocks_is t g in let b = few_clocks in length-take-le m.clocks s.clocks (omega arith);
        jobs = timely_jobs t g (take s.count s.jobs) (sym (all_is (timely t) (take s.count s.jobs)) ∙ and_left _ _ js);
        fit = sym (ap (fits m) (order_is s.jobs s.count)) ∙ fit;
      };
      location_low = low;
      location_high = let a = locations_is t g in omega arith;
      clocks = small_clock;
      unused = held_is;
    }

  -- and to the cells

  module _ (w : Lendable (decode t) s) where
    pub lent_high : s.location ≤ locations t
    lent_high = let a = locations_is t g in let b = w.location_high in omega arith

    lent_clocks : s.clocks ≡ padded 0 4 (take (clocks t) s.clocks)
    lent_clocks = ap (λ (x : State). x.clocks) w.unused ∙ ap (λ (n : ℕ). padded 0 4 (take n s.clocks)) (sym (clocks_is t g))

    pub lent_jobs : s.jobs ≡ cells_of q
    lent_jobs = ap (λ (x : State). x.jobs) w.unused

    pub lent_count : s.count ≡ length q
    lent_count = ap (λ (x : State). x.count) w.unused

    pub lent_room : length s.jobs ≡ 6
    lent_room = ap length lent_jobs ∙ padded_length no_job 6 (map cell_of q)

    pub lent_long : length s.clocks ≡ 4
    lent_long = ap length lent_clocks ∙ padded_length 0 4 (take (clocks t) s.clocks)

    pub lent_few : s.count ≤ 6
    lent_few =
        let a = lent_count in
        let b = lent_room in
        let c = length-map (take s.count s.jobs) job_of in
        let d = length-take s.count s.jobs in
        omega arith

    pub lent_clocks_right : clocks_right s.clocks (clocks t) ≡ true
    lent_clocks_right =
        let l : length (take (clocks t) s.clocks) ≡ clocks t = length-take-le (clocks t) s.clocks (let a = lent_long in let b = few_clocks in omega arith) in
        and_both _ _
        (all_is _ (take (clocks t) s.clocks) ∙ sym (all_padded (λ (c : ℕ). leb c clock_most) 0 refl 4 (take (clocks t) s.clocks) (let b = few_clocks in omega arith))
        ∙ ap (list_all (λ (c : ℕ). leb c clock_most)) (sym lent_clocks)
        ∙ all_make (λ (c : ℕ). leb c clock_most) 0 s.clocks (λ k. le-leb _ clock_most (w.clocks k)))
        (ap (λ (l : List ℕ). list_all (λ (c : ℕ). eqb c 0) (drop (clocks t) l)) lent_clocks
        ∙ rest_padded (λ (c : ℕ). eqb c 0) 0 refl 4 (clocks t) (take (clocks t) s.clocks) (omega arith))

    lent_job : (k : ℕ) → k < s.count → Memᴰ (job_of (get_or s.jobs k no_job)) q
    lent_job k h =
        let a = lent_few in
        let b = lent_room in
        let l = queue_length s.jobs s.count (omega arith) in
        let r = nth_in q k (omega arith) in
        at_mem (job_of (get_or s.jobs k no_job)) q k (r.1 ∙ ap some (sym (get_d_some q k none_there r.0 r.1) ∙ queue_at s.jobs s.count k h))

    pub lent_proper : (k : ℕ) → k < s.count → ProperJob m (job_of (get_or s.jobs k no_job))
    lent_proper k h = w.proper.jobs (job_of (get_or s.jobs k no_job)) (lent_job k h)

    pub lent_unused : (k : ℕ) → s.count ≤ k → get_or s.jobs k no_job ≡ no_job
    lent_unused k h =
        let a = lent_few in
        let l = length-map q cell_of in
        let c = lent_count in
        ap (λ (l : List Job). get_or l k no_job) lent_jobs ∙ padded_read no_job 6 (map cell_of q) k (omega arith) ∙ cells_at q k
        ∙ ap cell_of (queue_out s.jobs s.count k h)

    pub lent_jobs_right : jobs_right t s.jobs s.count ≡ true
    lent_jobs_right =
        let n = length-map q cell_of in
        let c = lent_count in
        and_both _ _
        (all_is (timely t) (take s.count s.jobs) ∙ jobs_timely t g (take s.count s.jobs) w.proper.jobs)
        (ap (λ (l : List Job). list_all unused (drop s.count l)) lent_jobs ∙ rest_padded unused no_job refl 6 s.count (map cell_of q) (omega arith))

    pub lent_fit : fits m (take s.count (map task_of s.jobs)) ≡ true
    lent_fit = ap (fits m) (order_is s.jobs s.count) ∙ w.proper.fit

    pub lent_numbers : (ltb 0 s.location && (leb s.location (locations t) && leb s.count 6)) ≡ true
    lent_numbers =
        and_both _ _ (lt-ltb 0 s.location w.location_low) (and_both _ _ (le-leb s.location (locations t) lent_high) (le-leb s.count 6 lent_few))

    pub lent_cells : cells_test t s ≡ true
    lent_cells = and_both _ _ lent_clocks_right (and_both _ _ lent_jobs_right lent_fit)

    -- what the inner functions ask of it
    pub lent_small : UpToEnd s.clocks
    lent_small = record { each = w.clocks }

    pub lent_young : ((n : ℕ) → work_in t n ≤ 10000) → ((n : ℕ) → deadline_in t n ≤ 10000) → Young s.jobs
    lent_young a b = record {
      long = lent_room;
      each = λ k. by_lt k s.count
          (λ h.
          let p = lent_proper k h in
          let j = get_or s.jobs k no_job in
          record { age = let q = p.age in omega (arith, deadline_is t g j.task, b j.task); done = let q = p.done in omega (arith, work_is t g j.task, a j.task) })
          (λ h. let e = lent_unused k h in record { age = let q = ap (λ (j : Job). j.age) e in omega arith; done = let q = ap (λ (j : Job). j.done) e in omega arith });
    }

-- the tests of the numbers and of the cells tell whether the state may be lent
module _ (t : List ℕ) (g : RightTable t) (s : State) (long : length s.clocks ≡ 4) (room : length s.jobs ≡ 6) (h : (ltb 0 s.location && (leb s.location (locations t) && leb s.count 6)) ≡ true) where
  pub lendable_told : (b : Bool) → b ≡ cells_test t s → Tells b (Lendable (decode t) s)
  lendable_told true e =
      let r = and_right _ _ h in
      let low = ltb-true 0 s.location (and_left _ _ h) in
      let high = leb-true s.location (locations t) (and_left _ _ r) in
      let few = leb-true s.count 6 (and_right _ _ r) in
      let j = and_right _ _ (sym e) in
      lendable_make t g s low high few long room (and_left _ _ (sym e)) (and_left _ _ j) (and_right _ _ j)
  lendable_told false e = λ w. never (lent_cells t g s w) (sym e)
