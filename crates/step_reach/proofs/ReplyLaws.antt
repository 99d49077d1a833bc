-- From a narrowed matrix and a plan to the right reply: each entry is the tightest bound of the states shown, or there is none.
-- Assumes nothing.
use mathlib.Core.Path.{◌≡◌, refl, sym, ◌∙◌, ap, subst}
use mathlib.Core.Bool.{true, false, not}
use mathlib.Core.List.{List, [], ◌∷◌}
use mathlib.Core.Logic.{inl, inr, ⊎_elim}
use mathlib.Core.Option.{some}
use Prim.Native.Nat.{ℕ, ◌+◌, ◌*◌, ◌≤◌, ◌<◌}
use native.Mathlib.Omega.{arith}
use native.Mathlib.Decide.{dec_lt}
use lib.IntN.{ℤ, pos, negsuc}
use lib.ListN.{take, replicate, length-take}
use borrow.Author.Tests.{lt-ltb, le-ltb, eq-eqb, ne_eqb}
use Rattle.meaning.specs.Numbers.{over, under}
use Rattle.meaning.specs.Model.{Model}
use Rattle.meaning.specs.Machine.State.{State}
use Rattle.meaning.specs.Zones.Variables.{var, variables}
use Rattle.meaning.specs.Zones.Zone as Z
use Rattle.meaning.specs.Zones.Steps.{Step}
use Rattle.meaning.specs.Zones.Reached.{Home, home_of_zone, Shown}
use Rattle.meaning.specs.Zones.Tightest.{Entry, Reply, RightReply}
use Rattle.meaning.specs.Text.RightModel.{RightModel}
use Rattle.meaning.specs.Inner.Slots.{RangedZone}
use Rattle.meaning.specs.Inner.StepBounds.{RangedModel}
use Rattle.meaning.specs.Inner.Sources.{source_bounds, Source, plan_at, home_at}
use Rattle.meaning.specs.Inner.Smallest.{NoneMeet}
use Rattle.meaning.proofs.Tests.{never}
use Rattle.meaning.specs.Inner.Plans as M
use Rattle.meaning.proofs.Exact.Ranges.{from_in, off_size}
use Rattle.meaning.proofs.Exact.Reached.{shown_leads, leads_shown, none_shown, source_room}
use Rattle.meaning.proofs.Exact.Entries.{BestE, entry_as_is}
use Rattle.meaning.proofs.Exact.Solved.{source_iff, source_none}
use Rattle.bounds.specs.Matrix.{ent, at, Finite, Stored, Size, Sol, Closed}
use Rattle.bounds.specs.Images.{Image, Map, Maps}
use Rattle.bounds.specs.Images as I
use Rattle.bounds.specs.Results.{Remapped}
use Rattle.bounds.proofs.Points.{finite?, entry_tight, entry_unbounded}
use Rattle.bounds.proofs.Store.{zeros_z}
use Rattle.home.specs.Stands.{order_of}
use Rattle.zone_bounds.specs.Entries.{is_bound}
use Rattle.zone_bounds.specs.Narrowed.{MatrixOf}
use Rattle.step_bounds.proofs.RangeLaws.{task_times, right_ranged}
use Rattle.zone.specs.declared.Zone.{Zone}
use Rattle.zone.specs.Stands.{zone_of, Lendable}
use Rattle.zone.proofs.LendableLaws.{lent_ranged}
use Rattle.step_reach.specs.declared.plan.Plan.{Plan}
use Rattle.step_reach.specs.Plans.{Planned}
use Rattle.step_reach.specs.Replies.{as_entry, entry_at, RightStep}

-- ---- the size of a zone

pub variables_few : (m : Model) → RightModel m → (n : ℕ) (tasks : List ℕ) → n ≤ 6 → variables m (take n tasks) ≤ 17
variables_few m w n tasks h = omega (arith, w.clocks, length-take n tasks)

pub head_small : (m : Model) → RightModel m → (o : List ℕ) → M.head_time m o ≤ 10000
head_small m w [] = omega arith
head_small m w (t ∷ o) = (task_times m w t).0

-- ---- one entry

-- what stands in a closed matrix is the best bound
pub best_entry : (d : ℕ → ℕ → ℤ) (n a b : ℕ) → Closed d n → a < n → b < n → Stored (d a b) → BestE (Sol d n) a b (as_entry (d a b))
best_entry d n a b k ha hb s = go (finite? d a b)
  where
    bounded : (c : ℤ) → Finite c → is_bound c ≡ true
    bounded (pos x) f = ap not (ne_eqb x 1000000000 (λ e. absurd (omega arith)))
    bounded (negsuc x) f = refl

    free : (c : ℤ) → Stored c → (Finite c → ⊥) → is_bound c ≡ false
    free (pos x) s f = ap not (eq-eqb x 1000000000 (top x s f))
      where
        top : (x : ℕ) → x ≤ 1000000000 + 0 → (x < 1000000000 + 0 → ⊥) → x ≡ 1000000000
        top x s f = end (dec_lt x 1000000000)
          where
            end : Dec (x < 1000000000) → x ≡ 1000000000
            end (yes l) = absurd (f (omega arith))
            end (no l) = omega arith
    free (negsuc x) s f = absurd (f (omega arith))

    go : Dec (Finite (d a b)) → BestE (Sol d n) a b (as_entry (d a b))
    go (yes f) =
        let w = entry_tight d n a b k ha hb f in
        rw (bounded (d a b) f) (record { bounds = λ x s. s.holds a b ha hb f; at = w.0; is = w.1; reaches = omega (arith, w.2) })
    go (no f) = rw (free (d a b) s f) (record { at = entry_unbounded d n a b k ha hb f })

-- an entry inside, and one outside
pub entry_inside : (l : List ℤ) (i j : ℕ) → i < 17 → j < 17 → entry_at l i j ≡ as_entry (at l i j)
entry_inside l i j h k = rw (lt-ltb i 17 h, lt-ltb j 17 k) refl

zero_entry : (c : ℤ) → c ≡ pos 0 → as_entry c ≡ some (pos 0)
zero_entry c e = rw e refl

pub entry_zero : (l : List ℤ) (i j : ℕ) → (i < 17 → j < 17 → at l i j ≡ pos 0) → entry_at l i j ≡ some (pos 0)
entry_zero l i j f = go (dec_lt i 17) (dec_lt j 17)
  where
    go : Dec (i < 17) → Dec (j < 17) → entry_at l i j ≡ some (pos 0)
    go (yes h) (yes k) = entry_inside l i j h k ∙ zero_entry (at l i j) (f h k)
    go (yes h) (no k) = rw (lt-ltb i 17 h, le-ltb j 17 (omega arith)) refl
    go (no h) k = rw (le-ltb i 17 (omega arith)) refl

pub zeros_entry : (i j : ℕ) → entry_at (replicate 289 (pos 0)) i j ≡ some (pos 0)
zeros_entry i j = entry_zero (replicate 289 (pos 0)) i j (λ h k. zeros_z 289 (i * 17 + j))

-- ---- the step

module _ (m : Model) (z : Z.Zone) (st : Step) (rm : RangedModel m) (rz : RangedZone m z) (few : variables m z.order ≤ 17) (p : Plan) (q : Planned m (home_of_zone z) st p)
    (after : variables m (order_of p.home) ≤ 17) where
  pub order_is : order_of p.home ≡ (home_at m z st).order
  order_is = ap (λ (h : Home). h.order) q.home

  pub many_is : p.variables ≡ variables m (home_at m z st).order
  many_is = q.many ∙ ap (variables m) order_is

  -- no state takes the step: none is shown
  pub reply_empty : NoneMeet (source_bounds m z st) → (r : Reply) → r.home ≡ home_at m z st → r.empty ≡ true → ((i j : ℕ) → r.entry i j ≡ some (pos 0)) → RightReply m z st r
  reply_empty w r h n f = record {
    home = h;
    none_shown = λ _. none_shown m z st rm (source_none m z st w);
    zeros = λ _. f;
    tightest = λ u. absurd (never n u);
    beyond = λ u. absurd (never n u);
  }

  -- the image of a valuation, by the tables and by the plan
  pub image : (x y : ℕ → ℕ) → ((i : ℕ) → i < variables m (home_at m z st).order → M.Shifted (M.off m (plan_at m z st) i) (x (M.from m (plan_at m z st) i)) (y i))
      → Image p.variables (I.var p.from) (ent p.off) x y
  image x y f a h =
      subst (λ (c : ℤ). y a + under c ≡ x (I.var p.from a) + over c) (sym (q.off a h))
      (subst (λ (k : ℕ). y a + under (M.off m (plan_at m z st) a) ≡ x k + over (M.off m (plan_at m z st) a)) (sym (q.from a h)) (f a (omega (arith, many_is))))

  pub image_back : (x y : ℕ → ℕ) → Image p.variables (I.var p.from) (ent p.off) x y
      → (i : ℕ) → i < p.variables → M.Shifted (M.off m (plan_at m z st) i) (x (M.from m (plan_at m z st) i)) (y i)
  image_back x y f a h =
      subst (λ (c : ℤ). y a + under c ≡ x (M.from m (plan_at m z st) a) + over c) (q.off a h)
      (subst (λ (k : ℕ). y a + under (ent p.off a) ≡ x k + over (ent p.off a)) (q.from a h) (f a h))

  -- those that take it are the solutions of a matrix
  module _ (t : List ℤ) (w : MatrixOf (source_bounds m z st) t) where
    pub source : (x : ℕ → ℕ) → Sol (at t) 17 x → Source m z st x
    source x s = (source_iff m z st (Sol (at t) 17) w.solves x).0 s

    -- the plan's tables take solutions to values
    pub map_of : Map (at t) 17 p.variables (I.var p.from) (ent p.off)
    map_of = record {
      some = omega (arith, many_is);
      into = λ a h. omega (arith, q.from a h, from_in m (home_of_zone z) st a);
      zero = q.from 0 (omega (arith, many_is));
      still = q.off 0 (omega (arith, many_is));
      stays = λ x s a h.
          subst (λ (c : ℤ). under c ≤ x (I.var p.from a) + over c) (sym (q.off a h))
          (subst (λ (k : ℕ). under (M.off m (plan_at m z st) a) ≤ x k + over (M.off m (plan_at m z st) a)) (sym (q.from a h))
          (source_room m z st rm rz x (source x s) a (omega (arith, many_is))));
    }

    pub maps_of : M.head_time m z.order ≤ 10000 → Maps t p.variables p.from p.off
    maps_of c = record {
      n₀ = 17;
      few = omega arith;
      closed = w.ready.closed;
      map = map_of;
      size = λ a h.
          let y = off_size m (home_of_zone z) st a in
          subst (λ (u : ℤ). Size u 100000000) (sym (q.off a h)) (record { high = omega (arith, y.0, y.1); low = omega (arith, y.0, y.1) });
    }

    module _ (r : List ℤ) (u : Remapped t 17 p.variables p.from p.off r) where
      -- the states shown are the solutions of the new matrix
      to : (s : State) → Shown m z st s → Sol (at r) p.variables (var s)
      to s h =
          let l = shown_leads m z st rm s h in
          let x = l.0 in
          let v = l.1 in
          u.to x (var s) ((source_iff m z st (Sol (at t) 17) w.solves x).1 v.source) (image x (var s) v.at)

      of : (y : ℕ → ℕ) → Sol (at r) p.variables y → (s : State) × Shown m z st s × ((i : ℕ) → i < p.variables → y i ≡ var s i)
      of y h =
          let b = u.from y h in
          let x = b.0 in
          let l = leads_shown m z st rm rz x (source x b.1) in
          (l.0, l.1, λ i k. omega (arith, image_back x y b.2 i k, l.2.at i (omega (arith, many_is))))

      pub reply_some : (a : Reply) → a.home ≡ home_at m z st → a.empty ≡ false → ((i j : ℕ) → a.entry i j ≡ entry_at r i j) → RightReply m z st a
      reply_some a h n f = record {
        home = h;
        none_shown = λ y. absurd (never y n);
        zeros = λ y. absurd (never y n);
        tightest = λ y i j hi hj.
            let len = ap (λ (x : Home). variables m x.order) h in
            let ki : i < p.variables = omega (arith, many_is) in
            let kj : j < p.variables = omega (arith, many_is) in
            subst (Entry (Shown m z st) i j) (sym (f i j ∙ entry_inside r i j (omega (arith, q.many)) (omega (arith, q.many))))
            (entry_as_is (Shown m z st) (Sol (at r) p.variables) p.variables to of i j ki kj (as_entry (at r i j))
            (best_entry (at r) p.variables i j u.closed ki kj (u.stored i j ki kj)));
        beyond = λ y i j b.
            let len = ap (λ (x : Home). variables m x.order) h in
            f i j ∙ entry_zero r i j (λ hi hj. u.outside (i * 17 + j) (⊎_elim (λ c. inl (omega (arith, many_is))) (λ c. inr (omega (arith, many_is))) b));
      }

-- ---- the reply to a zone that is lent, with its unused cells

module _ (m : Model) (right : RightModel m) (z : Zone) (lent : Lendable m z) (st : Step) (p : Plan) (q : Planned m (home_of_zone (zone_of z)) st p) where
  ranged : RangedModel m
  ranged = right_ranged m right

  few : variables m (order_of z.home) ≤ 17
  few = variables_few m right z.home.count z.home.tasks lent.home.few

  after : variables m (order_of p.home) ≤ 17
  after = variables_few m right p.home.count p.home.tasks q.few

  -- no state takes the step: all bounds are 0
  pub step_empty : NoneMeet (source_bounds m (zone_of z) st) → RightStep m (zone_of z) st (record { empty = true; home = p.home; bounds = replicate 289 (pos 0) })
  step_empty w = record {
    reply = reply_empty m (zone_of z) st ranged (lent_ranged m z lent) few p q after w _ q.home refl zeros_entry;
    few = q.few;
    unused = q.unused;
  }

  -- else they are those of the moved matrix
  module _ (t : List ℤ) (w : MatrixOf (source_bounds m (zone_of z) st) t) where
    pub step_maps : Maps t p.variables p.from p.off
    step_maps = maps_of m (zone_of z) st ranged (lent_ranged m z lent) few p q after t w (head_small m right (order_of z.home))

    pub step_some : (r : List ℤ) → ((n : ℕ) → Closed (at t) n → Map (at t) n p.variables (I.var p.from) (ent p.off) → Remapped t n p.variables p.from p.off r)
        → RightStep m (zone_of z) st (record { empty = false; home = p.home; bounds = r })
    step_some r f = record {
      reply = reply_some m (zone_of z) st ranged (lent_ranged m z lent) few p q after t w r (f 17 w.ready.closed (map_of m (zone_of z) st ranged (lent_ranged m z lent) few p q after t w)) _ q.home refl
          (λ i j. refl);
      few = q.few;
      unused = q.unused;
    }
