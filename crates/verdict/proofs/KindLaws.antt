-- What the functions of single kinds ask and give, where the values stand in tables and arrays.
-- Assumes nothing.
use mathlib.Core.Path.{◌≡◌, sym, ◌∙◌, ap, subst}
use mathlib.Core.Logic.{◌↔◌}
use mathlib.Core.Bool.{false}
use mathlib.Core.List.{List}
use Prim.Native.Nat.{ℕ, suc, ◌+◌, ◌-◌, ◌≤◌, ◌<◌}
use native.Mathlib.Omega.{arith}
use lib.IntN.{ℤ, pos, ◌+ℤ◌}
use mir.Syntax.{w32}
use mir.Val.{SFits}
use lib.ListN.{length, get_or}
use Rattle.meaning.specs.Numbers.{over, under}
use Rattle.meaning.specs.Model.{Model, task_at}
use Rattle.meaning.specs.Zones.Variables.{variables}
use Rattle.meaning.specs.Zones.Zone.{Zone, Proposal}
use Rattle.meaning.specs.Zones.Steps.{Step}
use Rattle.meaning.specs.Zones.Reached.{home_of_zone}
use Rattle.meaning.specs.Check.Obligations.{Follow}
use Rattle.meaning.specs.Text.RightModel.{RightModel}
use Rattle.meaning.specs.Text.ProposalReader as reader
use Rattle.meaning.specs.Text.ProposalTable as table
use Rattle.meaning.specs.Text.ProposalTable.{zone_in}
use Rattle.meaning.specs.Text.ModelTable.{decode, clocks}
use Rattle.meaning.specs.Text.Ranges.{bound_most}
use Rattle.meaning.specs.Inner.Slots.{age_at}
use Rattle.meaning.specs.Inner.Sources.{step_overflows, home_at}
use Rattle.meaning.specs.Inner.Smallest.{ApartBefore}
use Rattle.meaning.proofs.Numbers.{sum_parts, parts_one}
use Rattle.meaning.proofs.Text.BoundLaws.{over_of, under_of}
use Rattle.model_table.specs.Right.{RightTable}
use Rattle.model_table.specs.Parts.{deadline_in}
use Rattle.model_table.proofs.PartLaws.{clocks_is, deadline_small}
use Rattle.std.proofs.Common.{None, Some}
use Rattle.bounds.specs.Matrix.{ent, at, Size, Entries, Closed}
use Rattle.bounds.specs.Images.{Map, Maps}
use Rattle.bounds.specs.Images as I
use Rattle.bounds.specs.Results.{FirstAt, FirstBroken}
use Rattle.bounds.specs.Claims.{cell, Cells}
use Rattle.bounds.specs.Inner.{Claimed}
use Rattle.bounds.proofs.Signed.{rd, back, fits_make, sum_fits}
use Rattle.machine.specs.declared.State.{State}
use Rattle.home.specs.declared.Home.{Home}
use Rattle.home.specs.Stands.{order_of, home_of}
use Rattle.step_bounds.proofs.RangeLaws.{right_ranged}
use Rattle.step_reach.specs.declared.plan.Plan.{Plan}
use Rattle.step_reach.proofs.ReplyLaws.{variables_few, head_small, map_of, maps_of}
use Rattle.zone_table.specs.Sound.{zones_in, queue_in}
use Rattle.zone_table.specs.Read.{HomeRead}
use Rattle.zone_table.proofs.SoundGiven.{zones_few}
use Rattle.zone_table.proofs.ZoneParts.{zone_is, home_at_lem, home_right}
use Rattle.shown.specs.Drawn.{Drawn, DrawnBy, ApartBy, SmallestIs, SmallestApart, LateAt, FirstLate}
use Rattle.shown.proofs.LateLaws.{count_is, age_low, D-is}
use Rattle.verdict.specs.declared.answer.Fault.{Fault}
use Rattle.verdict.specs.declared.answer.Fault.TheVariants.{Late, Elsewhere}
use Rattle.verdict.specs.declared.answer.Found.{Found}
use Rattle.verdict.specs.Judged.{following, Judged}
use Rattle.verdict.specs.Kinds.{LateBy, above, BrokenBy, BrokenIs}
use Rattle.verdict.proofs.FoundLaws.{found}
use Rattle.verdict.proofs.ClaimLaws.{start_of, kept, cells_of}
use Rattle.verdict.proofs.JudgeLaws.{judged_late, judged_elsewhere, apart_by, judged_breaks, judged_clear}

-- ---- kind 1

module _ (t : List ℕ) (g : RightTable t) (a : List ℤ) (p : Plan) (six : length p.home.tasks ≡ 6) where
  -- where the age of the job behind k others stands
  age_is : (k : ℕ) → age_at (decode t) k ≡ suc (suc (clocks t) + (k + k))
  age_is k = omega (arith, clocks_is t g)

  module _ (late : ℕ) (l : LateBy (decode t) a p late) where
    -- the job is the one behind k others
    k_is : l.first.k ≡ late - 1
    k_is = omega (arith, l.first.is)

    here : late - 1 < p.home.count
    here = omega (arith, l.first.few, k_is, count_is t g a p six l.zone l.step l.drawn)

    pub late_index : late - 1 < 6
    late_index = omega (arith, here, l.drawn.planned.few)

    module _ (i : ℕ) (v : i ≡ suc (suc (clocks t) + ((late - 1) + (late - 1)))) (d : ℕ) (e : d ≡ deadline_in t (get_or p.home.tasks (late - 1) 0)) where
      at_age : age_at (decode t) (late - 1) ≡ i
      at_age = age_is (late - 1) ∙ sym v

      D-here : (z : Zone) (st : Step) → Drawn (decode t) z st a p → pos (task_at (decode t) (get_or (home_at (decode t) z st).order (late - 1) 0)).D ≡ pos d
      D-here z st w = ap pos (D-is t g a p six z st w (late - 1) here ∙ sym e)

      pub late_asks : (i < p.variables) × (0 < p.variables) × Size (pos d) 100000 × ApartBy (decode t) a p i 0 (pos d)
      late_asks =
          let x = subst (LateAt (decode t) l.zone l.step) k_is l.first.here in
          let low = age_low t g a p six l.zone l.step l.drawn (late - 1) here in (
            omega (arith, low, v),
            omega (arith, low),
            record { high = omega (arith, deadline_small t g (get_or p.home.tasks (late - 1) 0)); low = omega arith },
            record {
              zone = l.zone;
              step = l.step;
              drawn = l.drawn;
              at = x.0;
              source = x.1;
              apart = subst (λ (k : ℕ). ApartBefore (decode t) l.zone l.step k 0 (pos d) x.0) at_age
                  (subst (λ (c : ℤ). ApartBefore (decode t) l.zone l.step (age_at (decode t) (late - 1)) 0 c x.0) (D-here l.zone l.step l.drawn) x.2);
            },
          )

      pub late_judged : (r : State) → ((z : Zone) (st : Step) → Drawn (decode t) z st a p → SmallestApart (decode t) z st i 0 (pos d) r)
          → (q : Proposal) (n x c : ℕ) (z : Zone) (st : Step) → Drawn (decode t) z st a p → step_overflows (decode t) (home_of_zone z) st ≡ false
          → FirstLate (decode t) z st (Some late) → Judged (decode t) q (following n x z st c) (found (Late late) r)
      late_judged r s q n x c z st w o f =
          let e : late - 1 ≡ f.k = omega (arith, f.is) in
          judged_late (decode t) g.right q (record { number = n; place = x; zone = z; step = st; claim = c }) a p w o late f r
          (subst (λ (k : ℕ). SmallestApart (decode t) z st (age_at (decode t) k) 0 (pos (task_at (decode t) (get_or (home_at (decode t) z st).order k 0)).D) r) e
          (subst (λ (k : ℕ). SmallestApart (decode t) z st k 0 (pos (task_at (decode t) (get_or (home_at (decode t) z st).order (late - 1) 0)).D) r) (sym at_age)
          (subst (λ (c : ℤ). SmallestApart (decode t) z st i 0 c r) (sym (D-here z st w)) (s z st w))))

-- ---- kind 5

module _ (u : List ℕ) (start i j : ℕ) (most : cell u start i j ≤ 64001) (some : 0 < cell u start i j) (r : ℤ) (w : Claimed (cell u start i j) r) where
  -- what is read is the bound of the cell
  claimed_kept : r ≡ kept (cell u start i j)
  claimed_kept =
      let v = cell u start i j in
      parts_one r (kept v) (omega (arith, w.bound some, over_of bound_most (v - 1), under_of bound_most (v - 1)))

  claimed_small : Size r 40000
  claimed_small =
      let v = cell u start i j in
      let e = claimed_kept in
      record {
        high = omega (arith, ap over e, ap under e, over_of bound_most (v - 1), under_of bound_most (v - 1));
        low = omega (arith, ap over e, ap under e, over_of bound_most (v - 1), under_of bound_most (v - 1));
      }

  -- one more is in range
  read_fits : SFits w32 r
  read_fits = fits_make (omega (arith, claimed_small.high)) (omega (arith, claimed_small.low))

  pub above_fits : SFits w32 (rd r +ℤ pos 1)
  above_fits = sum_fits {a = r} {b = pos 1} read_fits (fits_make (omega arith) (omega arith)) (omega (arith, claimed_small.high, claimed_small.low)) (omega (arith, claimed_small.high, claimed_small.low))

  pub above_is : rd (rd r +ℤ pos 1) ≡ above u start i j
  above_is = back (rd r +ℤ pos 1) above_fits ∙ ap (λ (c : ℤ). c +ℤ pos 1) (back r read_fits ∙ claimed_kept)

  pub above_small : Size (above u start i j) 100000
  above_small =
      let e = claimed_kept in
      let q = sum_parts (kept (cell u start i j)) (pos 1) in
      record {
        high = omega (arith, q, claimed_small.high, ap over e, ap under e);
        low = omega (arith, q, claimed_small.low, ap over e, ap under e);
      }

-- ---- the claimed zone

module _ (t : List ℕ) (g : RightTable t) (a : List ℤ) (p : Plan) (u : List ℕ) (h : reader.Given (decode t) u) (claim : ℕ) (low : 1 ≤ claim) (high : claim ≤ zones_in u) where
  abbrev m : Model
  m = decode t

  right : RightModel m
  right = g.right

  -- the obligation of a step with this claim
  abbrev follow : ℕ → ℕ → Zone → Step → Follow
  follow n x z st = record { number = n; place = x; zone = z; step = st; claim = claim }

  pub claim_few : claim ≤ 48
  claim_few = omega (arith, zones_few u)

  after : (z : Zone) (st : Step) → Drawn m z st a p → variables m (order_of p.home) ≤ 17
  after z st d = variables_few m right p.home.count p.home.tasks d.planned.few

  -- its location and queue order, as they are read
  module _ (y : Home) (e : HomeRead u (claim - 1) (queue_in u (claim - 1)) y) where
    pub claimed_few : y.count ≤ 6
    claimed_few = (home_right m right u h claim low high y e).few

    -- those of the plan are the step's
    same_home : (z : Zone) (st : Step) → Drawn m z st a p → (home_of p.home ≡ home_of y) ↔ (home_at m z st ≡ home_of_zone (zone_in u (claim - 1)))
    same_home z st d =
        let q = home_at_lem m right u h claim low high y e in
        (λ w. sym d.planned.home ∙ w ∙ q, λ w. d.planned.home ∙ w ∙ sym q)

    -- kind 4
    pub elsewhere_judged : (home_of p.home ≡ home_of y → ⊥) → (r : State) → ((z : Zone) (st : Step) → Drawn m z st a p → SmallestIs m z st r)
        → (n x : ℕ) (z : Zone) (st : Step) → Drawn m z st a p → step_overflows m (home_of_zone z) st ≡ false → FirstLate m z st None
        → Judged m (table.decode u) (following n x z st claim) (found Elsewhere r)
    elsewhere_judged k r s n x z st d o f =
        judged_elsewhere m right (table.decode u) (follow n x z st) a p d o f (λ e. omega arith) (zone_in u (claim - 1)) (zone_is m right u h claim low high)
        (λ e. k ((same_home z st d).1 e)) r (s z st d)

  -- its bounds, from where they begin
  module _ (start : ℕ) (at_start : start ≡ start_of claim) where
    -- what `first_broken` asks
    pub broken_asks : DrawnBy m a p → (p.variables ≤ 17) × Entries a × Maps a p.variables p.from p.off × Cells u start
    broken_asks b =
        let d = b.drawn in (
          omega (arith, after b.zone b.step d, d.planned.many),
          d.narrowed.ready.entries,
          maps_of m b.zone b.step (right_ranged m right) d.ranged d.few p d.planned (after b.zone b.step d) a d.narrowed (head_small m right b.zone.order),
          subst (Cells u) (sym at_start) (cells_of m right u h claim low high),
        )

    -- what `first_broken` found, from where the claimed zone's bounds begin
    module _ (z : Zone) (st : Step) (d : Drawn m z st a p) where
      closed_here : Closed (at a) 17
      closed_here = d.narrowed.ready.closed

      map_here : Map (at a) 17 p.variables (I.var p.from) (ent p.off)
      map_here = map_of m z st (right_ranged m right) d.ranged d.few p d.planned (after z st d) a d.narrowed

    -- some state breaks the bound
    pub broken_by : (i j : ℕ) → ((n : ℕ) → Closed (at a) n → Map (at a) n p.variables (I.var p.from) (ent p.off) → FirstAt a n p.variables p.from p.off u start i j)
        → DrawnBy m a p → BrokenBy m u a p start i j
    broken_by i j k b =
        let d = b.drawn in
        let f = subst (λ (x : ℕ). FirstAt a 17 p.variables p.from p.off u x i j) at_start (k 17 (closed_here b.zone b.step d) (map_here b.zone b.step d)) in
        subst (λ (x : ℕ). BrokenBy m u a p x i j) (sym at_start) (record {
          cells = cells_of m right u h claim low high;
          row = f.inside.0;
          column = f.inside.1;
          there = f.here.breaks.there;
          apart = apart_by m right u h (follow 0 0 b.zone b.step) low high a p d (after b.zone b.step d) i j f;
        })

    module _ (y : Home) (q : HomeRead u (claim - 1) (queue_in u (claim - 1)) y) (same : home_of p.home ≡ home_of y) (n x : ℕ) (z : Zone) (st : Step) (d : Drawn m z st a p)
        (o : step_overflows m (home_of_zone z) st ≡ false) (f : FirstLate m z st None) where
      -- kind 5
      pub breaks_judged : (i j : ℕ) → ((n : ℕ) → Closed (at a) n → Map (at a) n p.variables (I.var p.from) (ent p.off) → FirstAt a n p.variables p.from p.off u start i j)
          → (r : Found) → BrokenIs m u z st start i j r → Judged m (table.decode u) (following n x z st claim) (Some r)
      breaks_judged i j k r b =
          subst (λ (w : Fault). Judged m (table.decode u) (following n x z st claim) (found w r.state)) (sym b.fault)
          (judged_breaks m right u h (follow n x z st) low high a p d (after z st d) o f ((same_home y q z st d).0 same) i j
          (subst (λ (x : ℕ). FirstAt a 17 p.variables p.from p.off u x i j) at_start (k 17 (closed_here z st d) (map_here z st d))) r.state
          (subst (λ (w : ℕ). SmallestApart m z st i j (above u w i j) r.state) at_start b.state))

      -- no kind
      pub clear_judged : ((n : ℕ) → Closed (at a) n → Map (at a) n p.variables (I.var p.from) (ent p.off) → FirstBroken a n p.variables p.from p.off u start None)
          → Judged m (table.decode u) (following n x z st claim) None
      clear_judged k =
          judged_clear m right u h (follow n x z st) low high a p d (after z st d) o f ((same_home y q z st d).0 same)
          (subst (λ (x : ℕ). FirstBroken a 17 p.variables p.from p.off u x None) at_start (k 17 (closed_here z st d) (map_here z st d)))
