-- From what the functions find of a step's matrix to what they say of its obligation, kind by kind.
-- Assumes nothing.
use mathlib.Core.Path.{◌≡◌, refl, sym, ◌∙◌, ap, subst}
use mathlib.Core.Logic.{inl, ◌≢◌}
use mathlib.Core.Bool.{true, false}
use mathlib.Core.List.{List}
use mathlib.Core.Option.{Option, some}
use Prim.Native.Nat.{ℕ, zero, suc, ◌-◌, ◌≤◌, ◌<◌}
use native.Mathlib.Omega.{arith}
use lib.IntN.{ℤ, pos, ◌+ℤ◌}
use lib.ListN.{get_or}
use Rattle.meaning.specs.Lists.{nth1}
use Rattle.meaning.specs.Model.{Model, task_at}
use Rattle.meaning.specs.Zones.Variables.{var, variables}
use Rattle.meaning.specs.Zones.Zone.{Zone, Proposal}
use Rattle.meaning.specs.Zones.Reached.{Home, home_of_zone}
use Rattle.meaning.specs.Check.Obligations.{Follow, follows}
use Rattle.meaning.specs.Check.Faults as F
use Rattle.meaning.specs.Check.Faults.{BreaksZone, Breaks}
use Rattle.meaning.specs.Text.RightModel.{RightModel}
use Rattle.meaning.specs.Text.ProposalReader.{Given}
use Rattle.meaning.specs.Text.ProposalTable.{zone_in, decode}
use Rattle.meaning.proofs.Tests.{never}
use Rattle.meaning.specs.Text.Ranges.{bound_most}
use Rattle.meaning.specs.Inner.Bounds.{Ranged}
use Rattle.meaning.specs.Inner.Slots.{age_at}
use Rattle.meaning.specs.Inner.StepBounds.{RangedModel}
use Rattle.meaning.specs.Inner.Sources.{step_overflows, source_bounds, plan_at, home_at, moved_state}
use Rattle.meaning.specs.Inner.Smallest.{ApartBefore}
use Rattle.meaning.proofs.Text.BoundLaws.{over_of, under_of}
use Rattle.meaning.proofs.Numbers.{sum_parts, shift_parts}
use Rattle.meaning.proofs.Exact.Bounds.{ranged_mem}
use Rattle.meaning.proofs.Machine.Proper.{right_formed}
use Rattle.meaning.specs.Inner.Plans as Moves
use Rattle.meaning.proofs.Exact.Reached.{shown_leads}
use Rattle.meaning.proofs.Exact.Solved.{source_iff, source_none}
use Rattle.meaning.proofs.Exact.Faulty.{OnTime, Kept, Clear, none_holds, on_time_of, on_time_all, over_fails_moved, late_fails, unclaimed_fails, elsewhere_fails, breaks_fails, not_elsewhere_at, clear_holds}
use Rattle.std.proofs.Common.{None}
use Rattle.bounds.specs.Matrix.{ent, at, Sol}
use Rattle.bounds.specs.Images as I
use Rattle.bounds.specs.Claims as C
use Rattle.bounds.specs.Claims.{cell}
use Rattle.bounds.specs.Results.{Met, FirstAt, FirstBroken}
use Rattle.machine.specs.declared.State.{State}
use Rattle.home.specs.Stands.{order_of}
use Rattle.zone_bounds.specs.Narrowed.{Narrowed}
use Rattle.step_bounds.proofs.RangeLaws.{right_ranged}
use Rattle.step_reach.specs.declared.plan.Plan.{Plan}
use Rattle.step_reach.proofs.ReplyLaws.{many_is, source, image, image_back}
use Rattle.zone_table.specs.Sound.{zones_in}
use Rattle.zone_table.proofs.ZoneParts.{zone_is}
use Rattle.shown.specs.Drawn as shown
use Rattle.shown.specs.Drawn.{Drawn, ApartBy, SmallestIs, SmallestApart, FirstLate}
use Rattle.verdict.specs.declared.answer.Fault.TheVariants.{Late, Over, Unclaimed, Elsewhere}
use Rattle.verdict.specs.declared.answer.Fault.TheVariants as W
use Rattle.meaning.specs.Check.Faults.{Fails}
use Rattle.verdict.specs.Judged.{Judged}
use Rattle.verdict.proofs.FoundLaws.{found, judged_fails}
use Rattle.verdict.proofs.ClaimLaws.{start_of, kept, zone_ranged, writes_at, broken_there}

module _ (m : Model) (w : RightModel m) (p : Proposal) (f : Follow) where
  rm : RangedModel m
  rm = right_ranged m w

  -- no state takes the step
  pub judged_none : Narrowed (source_bounds m f.zone f.step) None → Judged m p (follows f) None
  judged_none n = none_holds m p f rm (source_none m f.zone f.step n)

  module _ (t : List ℤ) (l : Plan) (d : Drawn m f.zone f.step t l) where
    -- kind 2
    pub judged_over : step_overflows m (home_of_zone f.zone) f.step ≡ true → (r : State) → SmallestIs m f.zone f.step r → Judged m p (follows f) (found Over r)
    judged_over o r s = judged_fails m p (follows f) Over (moved_state m f.zone f.step s.at) r (over_fails_moved m p f rm d.ranged s.at s.lowest o) s.is

    module _ (o : step_overflows m (home_of_zone f.zone) f.step ≡ false) where
      on_time_to : (late : ℕ) (q : shown.FirstAt m f.zone f.step late) (i : ℕ) → i ≤ q.k → OnTime m p f i
      on_time_to late q zero h = λ u r t. never t refl
      on_time_to late q (suc i) h = on_time_of m p f rm i (omega (arith, q.few)) (λ y x b. q.before i (omega arith) (y, x, b))

      -- kind 1
      pub judged_late : (late : ℕ) (q : shown.FirstAt m f.zone f.step late) (r : State)
          → SmallestApart m f.zone f.step (age_at m q.k) 0 (pos (task_at m (get_or (home_at m f.zone f.step).order q.k 0)).D) r
          → Judged m p (follows f) (found (Late late) r)
      judged_late late q r s =
          judged_fails m p (follows f) (Late late) (moved_state m f.zone f.step s.at) r
          (subst (λ (x : ℕ). Fails m p (follows f) (F.late_at x) (moved_state m f.zone f.step s.at)) (sym q.is)
          (late_fails m p f rm d.ranged o q.k s.at q.few s.lowest (on_time_to late q))) s.is

      -- no kind 1
      module _ (q : FirstLate m f.zone f.step None) where
        on_time : (k : ℕ) → OnTime m p f k
        on_time = on_time_all m p f (λ k h. on_time_of m p f rm k h (λ y x b. q k h (y, x, b)))

        clear_claim : Clear m p f 3
        clear_claim = record {
          late = λ b. on_time;
          over = λ b. o;
          claim = λ b. absurd (omega arith);
          home = λ b. absurd (omega arith);
          bounds = λ b. absurd (omega arith);
        }

        -- kind 3
        pub judged_unclaimed : f.claim ≡ 0 → (r : State) → SmallestIs m f.zone f.step r → Judged m p (follows f) (found Unclaimed r)
        judged_unclaimed c r s =
            judged_fails m p (follows f) Unclaimed (moved_state m f.zone f.step s.at) r
            (unclaimed_fails m p f rm d.ranged o s.at s.lowest clear_claim c) s.is

        module _ (c : f.claim ≢ 0) (y : Zone) (e : nth1 p.zones f.claim ≡ some y) where
          clear_home : Clear m p f 4
          clear_home = record {
            late = λ b. on_time;
            over = λ b. o;
            claim = λ b. c;
            home = λ b. absurd (omega arith);
            bounds = λ b. absurd (omega arith);
          }

          -- kind 4
          pub judged_elsewhere : (home_at m f.zone f.step ≡ home_of_zone y → ⊥) → (r : State) → SmallestIs m f.zone f.step r
              → Judged m p (follows f) (found Elsewhere r)
          judged_elsewhere h r s =
              judged_fails m p (follows f) Elsewhere (moved_state m f.zone f.step s.at) r
              (elsewhere_fails m p f rm d.ranged o y e s.at s.lowest clear_home h) s.is

          module _ (h : home_at m f.zone f.step ≡ home_of_zone y) where
            clear_bounds : Clear m p f 5
            clear_bounds = record {
              late = λ b. on_time;
              over = λ b. o;
              claim = λ b. c;
              home = λ b. not_elsewhere_at m p f y e h;
              bounds = λ b. absurd (omega arith);
            }

            -- a bound of variables that the zone lacks is not written
            kept_within : Ranged (variables m y.order) y.bounds → (i j : ℕ) → (i < variables m y.order → j < variables m y.order → Kept m p f i j) → Kept m p f i j
            kept_within g i j k u r b =
                let v : BreaksZone y i j u = subst (λ (x : Option Zone). Breaks x i j u) e b in
                let z = ranged_mem (variables m y.order) y.bounds g v.bound v.written in
                k (subst (λ (x : ℕ). x < variables m y.order) v.row z.0) (subst (λ (x : ℕ). x < variables m y.order) v.column z.1) u r b

-- ── kind 5, where the bounds of the claimed zone stand in the proposal's table ─────────────────

module _ (m : Model) (w : RightModel m) (u : List ℕ) (g : Given m u) (f : Follow) (a : 1 ≤ f.claim) (b : f.claim ≤ zones_in u) (t : List ℤ) (l : Plan)
    (d : Drawn m f.zone f.step t l) (after : variables m (order_of l.home) ≤ 17) where
  ranged : RangedModel m
  ranged = right_ranged m w

  many : l.variables ≡ variables m (home_at m f.zone f.step).order
  many = many_is m f.zone f.step ranged d.ranged d.few l d.planned after

  few : l.variables ≤ 17
  few = omega (arith, d.planned.many)

  -- the bound at a place that no image breaks is kept by every reached state
  pub met_kept : (i j : ℕ) → i < l.variables → j < l.variables → Met t 17 l.variables l.from l.off u (start_of f.claim) i j → Kept m (decode u) f i j
  met_kept i j hi hj h s r x =
      let v = shown_leads m f.zone f.step ranged s (inl r) in
      let e = zone_is m w u g f.claim a b in
      let k : BreaksZone (zone_in u (f.claim - 1)) i j s = subst (λ (z : Option Zone). Breaks z i j s) e x in
      h v.0 (var s)
      ((source_iff m f.zone f.step (Sol (at t) 17) d.narrowed.solves v.0).1 v.1.source)
      (image m f.zone f.step ranged d.ranged d.few l d.planned after v.0 (var s) v.1.at)
      (broken_there m w u g f.claim a b i j (omega (arith, few)) (omega (arith, few)) s k)

  -- an image that breaks it is one that is so far apart
  pub broken_apart : (i j : ℕ) → i < l.variables → j < l.variables → (x y : ℕ → ℕ) → I.Image l.variables (I.var l.from) (ent l.off) x y
      → C.Breaks u (start_of f.claim) i j y → ApartBefore m f.zone f.step i j (kept (cell u (start_of f.claim) i j) +ℤ pos 1) x
  broken_apart i j hi hj x y q k =
      let pl = plan_at m f.zone f.step in
      let c = kept (cell u (start_of f.claim) i j) in
      let e = shift_parts (c +ℤ pos 1) (Moves.off m pl j) (Moves.off m pl i) in
      let o = image_back m f.zone f.step ranged d.ranged d.few l d.planned after x y q in
      let v = o i hi in
      let z = o j hj in
      omega (arith, k.there, k.above, sum_parts c (pos 1), over_of bound_most (cell u (start_of f.claim) i j - 1), under_of bound_most (cell u (start_of f.claim) i j - 1))

  -- the claimed zone
  abbrev claimed_zone : Zone
  claimed_zone = zone_in u (f.claim - 1)

  is_claimed : nth1 (decode u).zones f.claim ≡ some claimed_zone
  is_claimed = zone_is m w u g f.claim a b

  claimed_ranged : Ranged (variables m claimed_zone.order) claimed_zone.bounds
  claimed_ranged = zone_ranged m w u g f.claim a b

  unclaimed_not : f.claim ≢ 0
  unclaimed_not e = omega arith

  -- some image breaks the bound at (i, j)
  pub apart_by : (i j : ℕ) → FirstAt t 17 l.variables l.from l.off u (start_of f.claim) i j → ApartBy m t l i j (kept (cell u (start_of f.claim) i j) +ℤ pos 1)
  apart_by i j k =
      let x = k.here in
      let n = k.inside in
      record {
        zone = f.zone;
        step = f.step;
        drawn = d;
        at = x.x;
        source = source m f.zone f.step ranged d.ranged d.few l d.planned after t d.narrowed x.x x.sol;
        apart = broken_apart i j n.0 n.1 x.x x.y x.image x.breaks;
      }

  module _ (o : step_overflows m (home_of_zone f.zone) f.step ≡ false) (q : FirstLate m f.zone f.step None)
      (h : home_at m f.zone f.step ≡ home_of_zone claimed_zone) where
    same_many : variables m claimed_zone.order ≡ l.variables
    same_many = ap (λ (x : Home). variables m x.order) (sym h) ∙ sym many

    pub judged_breaks : (i j : ℕ) → FirstAt t 17 l.variables l.from l.off u (start_of f.claim) i j → (r : State) → SmallestApart m f.zone f.step i j (kept (cell u (start_of f.claim) i j) +ℤ pos 1) r
        → Judged m (decode u) (follows f) (found (W.Breaks i j) r)
    judged_breaks i j k r s =
        let n = k.inside in
        judged_fails m (decode u) (follows f) (W.Breaks i j) (moved_state m f.zone f.step s.at) r
        (breaks_fails m (decode u) f ranged d.ranged o claimed_zone is_claimed i j (kept (cell u (start_of f.claim) i j))
        (writes_at m w u g f.claim a b i j (omega (arith, few, n.0)) (omega (arith, few, n.1)) k.here.breaks.there)
        (omega (arith, many, n.0)) (omega (arith, many, n.1)) s.at s.lowest
        (clear_bounds m w (decode u) f t l d o q unclaimed_not claimed_zone is_claimed h)
        (λ x y v.
        kept_within m w (decode u) f t l d o q unclaimed_not claimed_zone is_claimed h claimed_ranged x y
        (λ c e'. let c' : x < l.variables = omega (arith, same_many) in
        let e'' : y < l.variables = omega (arith, same_many) in
        met_kept x y c' e'' (k.first x y c' e'' v))))
        s.is

    pub judged_clear : FirstBroken t 17 l.variables l.from l.off u (start_of f.claim) None → Judged m (decode u) (follows f) None
    judged_clear k =
        clear_holds m (decode u) f (right_formed m w) (omega arith) (record {
          late = λ _. on_time m w (decode u) f t l d o q;
          over = λ _. o;
          claim = λ _. unclaimed_not;
          home = λ _. not_elsewhere_at m (decode u) f claimed_zone is_claimed h;
          bounds = λ _ x y.
              kept_within m w (decode u) f t l d o q unclaimed_not claimed_zone is_claimed h claimed_ranged x y
              (λ c v. let c' : x < l.variables = omega (arith, same_many) in
              let v' : y < l.variables = omega (arith, same_many) in
              met_kept x y c' v' (k x y c' v'));
        })
