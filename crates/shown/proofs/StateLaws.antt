-- Laws of the state of a moved valuation: its cells, one after the other, and that it is the state after the step.
-- Assumes nothing.
use mathlib.Core.Path.{◌≡◌, refl, sym, ◌∙◌, ap, ap₂, subst}
use mathlib.Core.List.{List, [], ◌∷◌, ◌++◌, map}
use Prim.Native.Nat.{ℕ, zero, suc, ◌+◌, ◌-◌, ◌≤◌, ◌<◌}
use native.Mathlib.Omega.{arith}
use native.Mathlib.Decide.{dec_lt}
use lib.IntN.{ℤ}
use lib.ListN.{length, get_or, take, replicate, length-map, length-take, get_or-append, get_or-eq_default}
use lib.Seq.{get_or-take, length-take-le}
use Rattle.meaning.specs.Numbers.{over, under}
use Rattle.meaning.specs.Model.{Model}
use Rattle.meaning.specs.Machine.State as M
use Rattle.meaning.specs.Zones.Variables.{variables}
use Rattle.meaning.specs.Zones.Variables as Z
use Rattle.meaning.specs.Zones.Zone.{Zone}
use Rattle.meaning.specs.Zones.Steps.{Step}
use Rattle.meaning.specs.Zones.Reached.{Home, home_of_zone}
use Rattle.meaning.specs.Text.RightModel.{RightModel}
use Rattle.meaning.specs.Inner.Words.{tab_from}
use Rattle.meaning.specs.Inner.Slots.{Slot, slots, slots_of, sum_ahead, Reads, jobs_at, Agrees, RangedZone}
use Rattle.meaning.specs.Inner.StepBounds.{RangedModel}
use Rattle.meaning.specs.Inner.Sources.{Source, plan_at, home_at, moved_state}
use Rattle.meaning.proofs.Lists.{length_tab, get_d_tab}
use Rattle.meaning.proofs.Exact.Valuations.{length_slots, lies_agrees, agrees_cong, agrees_state}
use Rattle.meaning.specs.Inner.Plans as E
use Rattle.meaning.proofs.Exact.Ranges.{from_in, off_size}
use Rattle.meaning.proofs.Exact.Reached.{moved_shown, moved_leads, shown_lies, source_room}
use Rattle.bounds.specs.Matrix.{ent, Size}
use Rattle.bounds.specs.Images.{var}
use Rattle.bounds.proofs.Store.{zeros}
use Rattle.std.proofs.Common.{drop, length-drop, length-append}
use Rattle.std.proofs.lemmas.Grind.{get_or_after_one}
use Rattle.std.proofs.lemmas.List.{get_or-drop, get_or-append_right}
use Rattle.machine.specs.Stands.{cell_of, no_job, padded, cells_of, held}
use Rattle.machine.specs.declared.Job.{Job}
use Rattle.machine.proofs.Arrays.{padded_is}
use Rattle.step_reach.specs.declared.plan.Plan.{Plan}
use Rattle.home.specs.Stands.{order_of}
use Rattle.step_reach.specs.Plans.{Planned}
use Rattle.step_reach.proofs.ReplyLaws.{variables_few, head_small}
use Rattle.shown.specs.Moving.{Movable, Moved, Rising, cell_at}

-- ---- the cells of a valuation

-- the clocks, copied into the first n of four cells
pub clocks_end : (v : List ℕ) (n : ℕ) (w : List ℕ) → length v ≡ 17 → n ≤ 4 → w ≡ take (n + 1 - 1) (drop 1 v) → w ++ drop n (replicate 4 0) ≡ padded 0 4 (tab_from 1 (var v) n)
clocks_end v n w e h q =
    let long : length w ≡ n = ap length q ∙ simp (length-take, length-drop) (omega arith) in
    padded_is 0 4 (w ++ drop n (replicate 4 0)) (tab_from 1 (var v) n) (simp (length-append, length-drop) (omega arith)) (λ k b. go long k (dec_lt k n))
  where
    go : length w ≡ n → (k : ℕ) → Dec (k < n) → get_or (w ++ drop n (replicate 4 0)) k 0 ≡ get_or (tab_from 1 (var v) n) k 0
    go long k (yes b) =
        let less : k < length w = omega arith in
        let here : k < n + 1 - 1 = omega arith in
        rw (get_or-append w (drop n (replicate 4 0)) 0 k less, q, get_or-take (n + 1 - 1) (drop 1 v) k 0 here) (get_or_after_one v k 0 ∙ sym (get_d_tab 1 (var v) n k 0 b))
    go long k (no b) =
        get_or-append_right w (drop n (replicate 4 0)) n k 0 long (omega arith) ∙ get_or-drop n (replicate 4 0) (k - n) 0 ∙ zeros 4 (n + (k - n))
        ∙ sym (get_or-eq_default (tab_from 1 (var v) n) 0 (omega (arith, length_tab 1 (var v) n)))

-- the running sum just ahead, one job on
ahead_next : (v k : ℕ) → sum_ahead v (suc (suc v)) k ≡ v + (k + k)
ahead_next v zero = omega arith
ahead_next v (suc k) = omega arith

-- the cell of the job behind k others
abbrev cell_in : (ℕ → ℕ) → ℕ → ℕ → ℕ → Job
cell_in x t s a = record { task = t; done = x s - x a; age = x (suc s) }

jobs_at_lem : (x : ℕ → ℕ) (a v : ℕ) (o : List ℕ) (k : ℕ) → k < length o → cell_in x (get_or o k 0) (v + (k + k)) (sum_ahead a v k) ≡ get_or (map cell_of (jobs_at x a (slots v o))) k no_job
jobs_at_lem x a v [] k h = absurd (omega arith)
jobs_at_lem x a v (t ∷ o) zero h = let e : v + (0 + 0) ≡ v = omega arith in ap (λ (s : ℕ). cell_in x t s a) e
jobs_at_lem x a v (t ∷ o) (suc k) h =
    let e : v + (suc k + suc k) ≡ suc (suc v) + (k + k) = omega arith in
    ap₂ (λ (s b : ℕ). cell_in x (get_or o k 0) s b) e (sym (ahead_next v k)) ∙ jobs_at_lem x v (suc (suc v)) o k (omega arith)

pub length_jobs : (x : ℕ → ℕ) (a : ℕ) (ss : List Slot) → length (jobs_at x a ss) ≡ length ss
length_jobs x a [] = refl
length_jobs x a (s ∷ ss) = ap suc (length_jobs x s.sum ss)

-- the jobs, put into the first of six cells
module _ (v : List ℕ) (n : ℕ) (o : List ℕ) (few : length o ≤ 6) where
  abbrev queued : List M.Job
  queued = jobs_at (var v) 0 (slots (suc n) o)

  many_queued : length (map cell_of queued) ≡ length o
  many_queued = length-map queued cell_of ∙ length_jobs (var v) 0 (slots (suc n) o) ∙ length_slots (suc n) o

  pub jobs_end : (r : List Job) → length r ≡ 6 → ((i : ℕ) → i < length o → get_or r i no_job ≡ cell_at v n (get_or o i 0) i)
      → ((i : ℕ) → length o ≤ i → get_or r i no_job ≡ no_job) → r ≡ cells_of queued
  jobs_end r long cells rest = padded_is no_job 6 r (map cell_of queued) long (λ i b. go i (dec_lt i (length o)))
    where
      go : (i : ℕ) → Dec (i < length o) → get_or r i no_job ≡ get_or (map cell_of queued) i no_job
      go i (yes b) = cells i b ∙ jobs_at_lem (var v) 0 (suc n) o i b
      go i (no b) = rest i (omega arith) ∙ sym (get_or-eq_default (map cell_of queued) no_job (omega (arith, many_queued)))

-- running sums do not fall
reads_rising : (x : ℕ → ℕ) (a v : ℕ) (o : List ℕ) (q : List M.Job) → Reads x a (slots v o) q → (k : ℕ) → k < length o → x (sum_ahead a v k) ≤ x (v + (k + k))
reads_rising x a v [] q h k l = absurd (omega arith)
reads_rising x a v (t ∷ o) [] h k l = absurd h
reads_rising x a v (t ∷ o) (j ∷ q) h zero l = let e : v + (0 + 0) ≡ v = omega arith in omega (arith, ap x e, h.1)
reads_rising x a v (t ∷ o) (j ∷ q) h (suc k) l =
    let e : v + (suc k + suc k) ≡ suc (suc v) + (k + k) = omega arith in
    omega (arith, ap x e, ap x (ahead_next v k), reads_rising x v (suc (suc v)) o q h.3 k (omega arith))

-- ---- the state after the step

module _ (m : Model) (z : Zone) (st : Step) (p : Plan) (q : Planned m (home_of_zone z) st p) where
  pub order_is : order_of p.home ≡ (home_at m z st).order
  order_is = ap (λ (h : Home). h.order) q.home

  -- as many variables as the queue after the step has
  pub plan_many : p.variables ≡ variables m (home_at m z st).order
  plan_many = q.many ∙ ap (variables m) order_is

  -- each comes from one that is there
  pub plan_into : variables m z.order ≤ 17 → (i : ℕ) → i < p.variables → var p.from i < 17
  plan_into few i h = omega (arith, q.from i h, from_in m (home_of_zone z) st i)

-- the plan of a step: few variables, with a small number added
module _ (m : Model) (z : Zone) (st : Step) (p : Plan) (q : Planned m (home_of_zone z) st p) (w : RightModel m) where
  pub plan_few : p.variables ≤ 17
  plan_few = omega (arith, q.many, variables_few m w p.home.count p.home.tasks q.few)

  pub plan_size : (i : ℕ) → i < p.variables → Size (ent p.off i) 100000
  plan_size i h =
      let y = off_size m (home_of_zone z) st i in
      let c = head_small m w z.order in
      subst (λ (u : ℤ). Size u 100000) (sym (q.off i h)) (record { high = omega (arith, y.0, y.1); low = omega (arith, y.0, y.1) })

module _ (m : Model) (z : Zone) (st : Step) (rm : RangedModel m) (rz : RangedZone m z) (p : Plan) (q : Planned m (home_of_zone z) st p) (x : List ℕ) (s : Source m z st (var x)) where
  pub movable : RightModel m → variables m z.order ≤ 17 → ((k : ℕ) → var x k ≤ 300000000) → Movable p.variables p.from p.off x
  movable w few low = record {
    few = plan_few m z st p q w;
    into = plan_into m z st p q few;
    size = plan_size m z st p q w;
    low = low;
    room = λ i h.
        subst (λ (c : ℤ). under c ≤ var x (var p.from i) + over c) (sym (q.off i h))
        (subst (λ (k : ℕ). under (E.off m (plan_at m z st) i) ≤ var x k + over (E.off m (plan_at m z st) i)) (sym (q.from i h))
        (source_room m z st rm rz (var x) s i (omega (arith, plan_many m z st p q))));
  }

  module _ (v : List ℕ) (w : Moved p.variables p.from p.off x v) where
    -- the moved values are those of the state after the step
    value_is : (i : ℕ) → i < variables m (home_at m z st).order → var v i ≡ Z.var (moved_state m z st (var x)) i
    value_is i h =
        let k : i < p.variables = omega (arith, plan_many m z st p q) in
        let a = (moved_leads m z st rm rz (var x) s).at i h in
        let b = subst (λ (c : ℤ). var v i + under c ≡ var x (E.from m (plan_at m z st) i) + over c) (q.off i k)
        (subst (λ (j : ℕ). var v i + under (ent p.off i) ≡ var x j + over (ent p.off i)) (q.from i k) (w.is i k)) in
        omega (arith, a, b)

    agrees : Agrees m (order_of p.home) (var v) (moved_state m z st (var x))
    agrees =
        let t = moved_state m z st (var x) in
        let l = shown_lies m z st t (moved_shown m z st rm rz (var x) s) in
        subst (λ (o : List ℕ). Agrees m o (var v) t) (sym (order_is m z st p q)) (agrees_cong (var v) value_is (lies_agrees m (home_at m z st) t l))

    pub rising : (n : ℕ) (o : List ℕ) → n ≡ m.clocks → o ≡ order_of p.home → Rising n (length o) v
    rising n o e f =
        rw (e, f) (record { each = λ k h. reads_rising (var v) 0 (suc m.clocks) (order_of p.home) (moved_state m z st (var x)).queue agrees.queue k h })

    pub state_is : (n : ℕ) (cs : List ℕ) (js : List Job) (o : List ℕ) → n ≡ m.clocks → o ≡ order_of p.home → length p.home.tasks ≡ 6 → cs ≡ padded 0 4 (tab_from 1 (var v) n)
        → js ≡ cells_of (jobs_at (var v) 0 (slots (suc n) o)) → record { location = p.home.location; clocks = cs; jobs = js; count = p.home.count } ≡ held (moved_state m z st (var x))
    state_is n cs js o e f l a b =
        let t = moved_state m z st (var x) in
        let h = order_of p.home in
        let ca : cs ≡ padded 0 4 (tab_from 1 (var v) m.clocks) = a ∙ ap (λ (k : ℕ). padded 0 4 (tab_from 1 (var v) k)) e in
        let jb : js ≡ cells_of (jobs_at (var v) 0 (slots_of m h)) = b ∙ ap₂ (λ (k : ℕ) (l : List ℕ). cells_of (jobs_at (var v) 0 (slots (suc k) l))) e f in
        let n : p.home.count ≡ length (jobs_at (var v) 0 (slots_of m h)) =
        sym (length_jobs (var v) 0 (slots_of m h) ∙ length_slots (suc m.clocks) h ∙ length-take-le p.home.count p.home.tasks (omega (arith, q.few))) in
        (λ i. record { location = p.home.location; clocks = ca i; jobs = jb i; count = n i })
        ∙ ap held (sym (agrees_state agrees p.home.location (ap (λ (h : Home). h.location) (sym q.home))))
