-- Laws of the smallest solution of a step's matrix: it is the smallest valuation of the states that take the step, and its values are small; and likewise
-- where two variables are so far apart.
-- Assumes nothing.
use mathlib.Core.Path.{refl}
use Rattle.std.specs.Prelude.{Option, None, Some, IsSome}
use mathlib.Core.List.{List, [], ◌∷◌, ◌++◌}
use Prim.Native.Nat.{ℕ, ◌+◌, ◌*◌, ◌≤◌, ◌<◌}
use native.Mathlib.Omega.{arith}
use native.Mathlib.Decide.{dec_lt}
use lib.IntN.{ℤ, neg_ℤ}
use Rattle.meaning.specs.Model.{Bound, Model}
use Rattle.meaning.specs.Zones.Variables.{variables}
use Rattle.meaning.specs.Zones.Zone.{Zone}
use Rattle.meaning.specs.Zones.Steps.{Step}
use Rattle.meaning.specs.Inner.Words.{shift}
use Rattle.meaning.specs.Inner.Bounds.{bound}
use Rattle.meaning.specs.Inner.Sources.{source_bounds, Source, plan_at}
use Rattle.meaning.specs.Inner.Smallest.{Lowest, ApartBefore}
use Rattle.meaning.proofs.Exact.Bounds.{apart_meets, met_append}
use Rattle.meaning.specs.Inner.Plans as E
use Rattle.meaning.proofs.Exact.Smallest.{lowest_same}
use Rattle.meaning.proofs.Exact.Solved.{source_lowest}
use Rattle.bounds.specs.Matrix.{at, ent, Sol}
use Rattle.bounds.specs.Images.{var}
use Rattle.bounds.specs.Range.{Ready}
use Rattle.bounds.specs.Results.{Smallest}
use Rattle.bounds.proofs.Points.{low, low_sol}
use Rattle.zone_bounds.specs.Narrowed.{bound_size, Narrowed, Narrows}
use Rattle.step_reach.specs.declared.plan.Plan.{Plan}
use Rattle.shown.specs.Drawn.{Drawn}
use Rattle.shown.specs.Moving.{ShownBy}

-- the smallest solution has small values
least_low : (l : List ℤ) (x : List ℕ) → Ready l 17 17 bound_size → Smallest l 17 x → (k : ℕ) → var x k ≤ 300000000
least_low l x r w k = go (dec_lt k 17)
  where
    go : Dec (k < 17) → var x k ≤ 300000000
    go (yes h) = omega (arith, w.least (low (at l)) (low_sol (at l) 17 r.closed) k h, (r.entries (0 * 17 + k) (omega arith)).low)
    go (no h) = omega (arith, w.outside k (omega arith))

-- "variable i is at least c above variable j after the step" as a bound before it, by the plan's tables
abbrev pub bound_before : Plan → ℕ → ℕ → ℤ → Bound
bound_before p i j c = bound (var p.from j) (var p.from i) (neg_ℤ (shift c (ent p.off j) (ent p.off i)))

module _ (m : Model) (z : Zone) (st : Step) (t : List ℤ) (p : Plan) (d : Drawn m z st t p) where
  -- ---- of all

  module _ (x : List ℕ) (w : Smallest t 17 x) where
    pub lowest : Lowest (variables m z.order) (Source m z st) (var x)
    lowest =
        source_lowest m z st (Sol (at t) 17) d.narrowed.solves (variables m z.order) (var x)
        (record { is = w.sol; least = λ y s i h. w.least y s i (omega (arith, d.few)) })

    pub lowest_shown : ShownBy m p x
    lowest_shown = record {
      zone = z;
      step = st;
      ranged = d.ranged;
      few = d.few;
      planned = d.planned;
      source = lowest.is;
      low = least_low t x d.narrowed.ready w;
    }

  -- ---- of those in which variable i is at least c above variable j

  module _ (i j : ℕ) (c : ℤ) (hi : i < p.variables) (hj : j < p.variables) where
    -- the same bound, by the step
    abbrev as_bound : Bound
    as_bound =
        bound (E.from m (plan_at m z st) j) (E.from m (plan_at m z st) i) (neg_ℤ (shift c (E.off m (plan_at m z st) j) (E.off m (plan_at m z st) i)))

    narrowed : (r : Option (List ℤ)) → Narrows (bound_before p i j c ∷ []) (Some t) r → Narrowed (source_bounds m z st ++ (as_bound ∷ [])) r
    narrowed r w =
        let q = d.planned in
        (rw (q.from j hj, q.from i hi, q.off j hj, q.off i hi) at w).more (source_bounds m z st) d.narrowed

    -- some state is so
    pub apart_some : (r : Option (List ℤ)) → Narrows (bound_before p i j c ∷ []) (Some t) r → (y : ℕ → ℕ) → Source m z st y → ApartBefore m z st i j c y → IsSome r
    apart_some None w y s a =
        absurd (narrowed None w y s.origin
        ((met_append y (source_bounds m z st) (as_bound ∷ [])).1
        (s.met, ((apart_meets y (E.from m (plan_at m z st) i) (E.from m (plan_at m z st) j) (shift c (E.off m (plan_at m z st) j) (E.off m (plan_at m z st) i))).0 a, tt))))
    apart_some (Some r) w y s a = refl

    module _ (r : List ℤ) (w : Narrows (bound_before p i j c ∷ []) (Some t) (Some r)) (x : List ℕ) (l : Smallest r 17 x) where
      pub lowest_apart : Lowest (variables m z.order) (λ (y : ℕ → ℕ). Source m z st y × ApartBefore m z st i j c y) (var x)
      lowest_apart =
          let k = (narrowed (Some r) w).solves in
          let u = E.from m (plan_at m z st) in
          let v = E.off m (plan_at m z st) in
          lowest_same (variables m z.order) (Sol (at r) 17) (λ (y : ℕ → ℕ). Source m z st y × ApartBefore m z st i j c y) (var x)
          (λ y. (
            λ s.
                let b = (met_append y (source_bounds m z st) (as_bound ∷ [])).0 (k.sound y s) in
                (record { origin = k.origin y s; met = b.0 }, (apart_meets y (u i) (u j) (shift c (v j) (v i))).1 b.1.0),
            λ s. k.whole y s.0.origin ((met_append y (source_bounds m z st) (as_bound ∷ [])).1 (s.0.met, ((apart_meets y (u i) (u j) (shift c (v j) (v i))).0 s.1, tt))),
          ))
          (record { is = l.sol; least = λ y s a h. l.least y s a (omega (arith, d.few)) })

      pub apart_shown : ShownBy m p x
      apart_shown = record {
        zone = z;
        step = st;
        ranged = d.ranged;
        few = d.few;
        planned = d.planned;
        source = lowest_apart.is.0;
        low = least_low r x w.usable l;
      }
