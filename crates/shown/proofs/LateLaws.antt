-- The entry that is read for a difference after the step decides how far apart two variables can come; and so at which positions a job can be late.
-- Assumes nothing.
use mathlib.Core.Path.{◌≡◌, sym, ◌∙◌, ap, subst}
use mathlib.Core.List.{List}
use Rattle.std.specs.Prelude.{None, Some}
use Prim.Native.Nat.{ℕ, suc, ◌+◌, ◌≤◌, ◌<◌}
use native.Mathlib.Omega.{arith}
use native.Mathlib.Decide.{dec_lt}
use lib.IntN.{ℤ, pos}
use lib.ListN.{length, get_or, take}
use lib.Seq.{get_or-take, length-take-le}
use Rattle.meaning.specs.Numbers.{over, under}
use Rattle.meaning.specs.Model.{Model, task_at}
use Rattle.meaning.specs.Zones.Variables.{variables}
use Rattle.meaning.specs.Zones.Zone.{Zone}
use Rattle.meaning.specs.Zones.Steps.{Step}
use Rattle.model_table.specs.Right.{RightTable}
use Rattle.meaning.specs.Text.ModelTable.{decode, clocks}
use Rattle.meaning.specs.Text.RightModel.{RightModel}
use Rattle.meaning.specs.Inner.Slots.{age_at}
use Rattle.meaning.specs.Inner.Sources.{Source, plan_at, home_at}
use Rattle.meaning.specs.Inner.Smallest.{ApartBefore, LateBefore}
use Rattle.meaning.proofs.Numbers.{shift_parts}
use Rattle.meaning.specs.Inner.Plans as M
use Rattle.meaning.proofs.Exact.Solved.{source_iff}
use Rattle.bounds.specs.Matrix.{ent, at, Finite, Size, Sol}
use Rattle.bounds.specs.Images.{var}
use Rattle.bounds.specs.Inner.{Shift}
use Rattle.bounds.proofs.Signed.{eq_read}
use Rattle.bounds.proofs.Points.{finite?, entry_tight, entry_unbounded}
use Rattle.model_table.specs.Parts.{deadline_in}
use Rattle.model_table.proofs.PartLaws.{clocks_is, deadline_is, deadline_small}
use Rattle.zone_bounds.proofs.LoopLaws.{clocks_small}
use Rattle.step_reach.specs.declared.plan.Plan.{Plan}
use Rattle.shown.specs.Drawn.{Drawn, FirstLate}
use Rattle.shown.proofs.StateLaws as S
use Rattle.shown.proofs.StateLaws.{plan_many, plan_into, plan_size}

-- ---- what is drawn, and its plan

module _ (m : Model) (z : Zone) (st : Step) (t : List ℤ) (p : Plan) (d : Drawn m z st t p) where
  -- the plan's queue order is that after the step
  pub order_is : (home_at m z st).order ≡ take p.home.count p.home.tasks
  order_is = sym (S.order_is m z st p d.planned)

  pub many_is : p.variables ≡ variables m (home_at m z st).order
  many_is = plan_many m z st p d.planned

  -- the variable from before is one of the matrix
  pub from_low : (i : ℕ) → i < p.variables → var p.from i < 17
  from_low = plan_into m z st p d.planned d.few

  -- what is added is small
  pub off_small : RightModel m → (i : ℕ) → i < p.variables → Size (ent p.off i) 100000000
  off_small w i h = let y = plan_size m z st p d.planned w i h in record { high = omega (arith, y.high); low = omega (arith, y.low) }

  -- ---- the entry e for variable i minus variable j after the step

  module _ (i j : ℕ) (hi : i < p.variables) (hj : j < p.variables) (e : ℤ)
      (s : Shift (at t (var p.from i) (var p.from j)) (ent p.off i) (ent p.off j) e) (c : ℤ) where
    -- a valuation before the step, told by the plan's tables
    apart_before : (x : ℕ → ℕ) → x (var p.from j) + over c + over (ent p.off j) + under (ent p.off i) ≤ x (var p.from i) + under c + under (ent p.off j) + over (ent p.off i)
        → ApartBefore m z st i j c x
    apart_before x h =
        omega (
          arith,
          ap x (d.planned.from i hi),
          ap x (d.planned.from j hj),
          eq_read (d.planned.off i hi),
          eq_read (d.planned.off j hj),
          shift_parts c (M.off m (plan_at m z st) j) (M.off m (plan_at m z st) i),
        )

    before_apart : (x : ℕ → ℕ) → ApartBefore m z st i j c x
        → x (var p.from j) + over c + over (ent p.off j) + under (ent p.off i) ≤ x (var p.from i) + under c + under (ent p.off j) + over (ent p.off i)
    before_apart x h =
        omega (
          arith,
          ap x (d.planned.from i hi),
          ap x (d.planned.from j hj),
          eq_read (d.planned.off i hi),
          eq_read (d.planned.off j hj),
          shift_parts c (M.off m (plan_at m z st) j) (M.off m (plan_at m z st) i),
        )

    -- it is at least c: some valuation leads c apart
    pub some_apart : over c + under e ≤ over e + under c → (x : ℕ → ℕ) × Source m z st x × ApartBefore m z st i j c x
    some_apart h = go (finite? (at t) (var p.from i) (var p.from j))
      where
        v : ℤ
        v = at t (var p.from i) (var p.from j)

        go : Dec (Finite v) → (x : ℕ → ℕ) × Source m z st x × ApartBefore m z st i j c x
        go (yes f) =
            let w = entry_tight (at t) 17 (var p.from i) (var p.from j) d.narrowed.ready.closed (from_low i hi) (from_low j hj) f in
            let x = w.0 in
            (x, (source_iff m z st (Sol (at t) 17) d.narrowed.solves x).0 w.1, apart_before x (omega (arith, w.2, (s.some f).1)))
        go (no f) =
            let w = entry_unbounded (at t) 17 (var p.from i) (var p.from j) d.narrowed.ready.closed (from_low i hi) (from_low j hj) f
            (over c + over (ent p.off j) + under (ent p.off i)) in
            let x = w.0 in
            (x, (source_iff m z st (Sol (at t) 17) d.narrowed.solves x).0 w.1, apart_before x (omega (arith, w.2)))

    -- it is below c: none does
    pub none_apart : Finite c → over e + under c < over c + under e → (x : ℕ → ℕ) → Source m z st x → ApartBefore m z st i j c x → ⊥
    none_apart k h x q a = go (finite? (at t) (var p.from i) (var p.from j))
      where
        go : Dec (Finite (at t (var p.from i) (var p.from j))) → ⊥
        go (yes f) =
            let y = (source_iff m z st (Sol (at t) 17) d.narrowed.solves x).1 q in
            omega (arith, (s.some f).1, before_apart x a, y.holds (var p.from i) (var p.from j) (from_low i hi) (from_low j hj) f)
        go (no f) = omega (arith, eq_read (s.kept f))

-- ---- the positions

-- the entry that is read for the age at position k + 1
pub record Age (m : List ℤ) (from : List ℕ) (off : List ℤ) (n k : ℕ) (e : ℤ) : Type 0 where
  pub is : Shift (at m (var from (suc (suc n + (k + k)))) (var from 0)) (ent off (suc (suc n + (k + k)))) (ent off 0) e

-- it is below the D of the task there
pub record OnTime (table : List ℕ) (m : List ℤ) (from : List ℕ) (off : List ℤ) (tasks : List ℕ) (n k : ℕ) : Type 0 where
  pub entry : ℤ
  pub age : Age m from off n k entry
  pub below : over entry < deadline_in table (get_or tasks k 0) + under entry

-- one position more
pub on_time_next : (table : List ℕ) (m : List ℤ) (from : List ℕ) (off : List ℤ) (tasks : List ℕ) (n k : ℕ) → ((i : ℕ) → i < k → OnTime table m from off tasks n i)
    → OnTime table m from off tasks n k → (i : ℕ) → i < k + 1 → OnTime table m from off tasks n i
on_time_next table m from off tasks n k b h i q = go (dec_lt i k)
  where
    go : Dec (i < k) → OnTime table m from off tasks n i
    go (yes l) = b i l
    go (no l) = let e : k ≡ i = omega arith in subst (OnTime table m from off tasks n) e h

module _ (table : List ℕ) (g : RightTable table) (t : List ℤ) (p : Plan) (six : length p.home.tasks ≡ 6) where
  module _ (z : Zone) (st : Step) (d : Drawn (decode table) z st t p) where
    pub count_is : length (home_at (decode table) z st).order ≡ p.home.count
    count_is = ap length (order_is (decode table) z st t p d) ∙ length-take-le p.home.count p.home.tasks (omega (arith, d.planned.few))

    -- the age at position k + 1 is one of the plan's variables
    pub age_low : (k : ℕ) → k < p.home.count → suc (suc (clocks table) + (k + k)) < p.variables
    age_low k h = omega (arith, many_is (decode table) z st t p d, count_is, clocks_is table g)

    -- and what `reached` asks for
    pub age_asks : (k : ℕ) → k < p.home.count → (suc (suc (clocks table) + (k + k)) < 17) × (var p.from (suc (suc (clocks table) + (k + k))) < 17) × (var p.from 0 < 17)
        × Size (ent p.off (suc (suc (clocks table) + (k + k)))) 100000000 × Size (ent p.off 0) 100000000
    age_asks k h = (
      omega (arith, d.planned.few, clocks_small table g),
      from_low (decode table) z st t p d (suc (suc (clocks table) + (k + k))) (age_low k h),
      from_low (decode table) z st t p d 0 (omega (arith, age_low k h)),
      off_small (decode table) z st t p d g.right (suc (suc (clocks table) + (k + k))) (age_low k h),
      off_small (decode table) z st t p d g.right 0 (omega (arith, age_low k h)),
    )

    -- D of the task at position k + 1
    pub D-is : (k : ℕ) → k < p.home.count → (task_at (decode table) (get_or (home_at (decode table) z st).order k 0)).D ≡ deadline_in table (get_or p.home.tasks k 0)
    D-is k h =
        ap (λ (o : List ℕ). (task_at (decode table) (get_or o k 0)).D) (order_is (decode table) z st t p d)
        ∙ ap (λ (n : ℕ). (task_at (decode table) n).D) (get_or-take p.home.count p.home.tasks k 0 h) ∙ sym (deadline_is table g (get_or p.home.tasks k 0))

    module _ (k : ℕ) (h : k < p.home.count) (e : ℤ) (a : Age t p.from p.off (clocks table) k e) where
      here_is : suc (suc (clocks table) + (k + k)) ≡ age_at (decode table) k
      here_is = omega (arith, clocks_is table g)

      shifted : Shift (at t (var p.from (age_at (decode table) k)) (var p.from 0)) (ent p.off (age_at (decode table) k)) (ent p.off 0) e
      shifted = subst (λ (i : ℕ). Shift (at t (var p.from i) (var p.from 0)) (ent p.off i) (ent p.off 0) e) here_is a.is

      -- the entry comes to D: some job there is late
      pub late_here : deadline_in table (get_or p.home.tasks k 0) + under e ≤ over e → (x : ℕ → ℕ) × Source (decode table) z st x × LateBefore (decode table) z st k x
      late_here l =
          some_apart (decode table) z st t p d (age_at (decode table) k) 0 (omega (arith, age_low k h, here_is)) (omega (arith, age_low k h)) e shifted
          (pos (task_at (decode table) (get_or (home_at (decode table) z st).order k 0)).D) (omega (arith, D-is k h))

      -- it stays below D: none is
      pub on_time : over e < deadline_in table (get_or p.home.tasks k 0) + under e → (x : ℕ → ℕ) → Source (decode table) z st x → LateBefore (decode table) z st k x → ⊥
      on_time l =
          none_apart (decode table) z st t p d (age_at (decode table) k) 0 (omega (arith, age_low k h, here_is)) (omega (arith, age_low k h)) e shifted
          (pos (task_at (decode table) (get_or (home_at (decode table) z st).order k 0)).D) (omega (arith, D-is k h, deadline_small table g (get_or p.home.tasks k 0))) (omega (arith, D-is k h))

    -- the first position, where all before it are in time
    pub first_here : (k : ℕ) → k < p.home.count → ((i : ℕ) → i < k → OnTime table t p.from p.off p.home.tasks (clocks table) i)
        → (e : ℤ) → Age t p.from p.off (clocks table) k e → deadline_in table (get_or p.home.tasks k 0) + under e ≤ over e
        → FirstLate (decode table) z st (Some (k + 1))
    first_here k h b e a l = record {
      k = k;
      is = omega arith;
      few = omega (arith, count_is);
      before = λ i j v. let o = b i j in on_time i (omega arith) o.entry o.age o.below v.0 v.1 v.2;
      here = late_here k h e a l;
    }

    -- all are in time
    pub none_late : ((i : ℕ) → i < p.home.count → OnTime table t p.from p.off p.home.tasks (clocks table) i) → FirstLate (decode table) z st None
    none_late b i q v = let o = b i (omega (arith, count_is)) in on_time i (omega (arith, count_is)) o.entry o.age o.below v.0 v.1 v.2
