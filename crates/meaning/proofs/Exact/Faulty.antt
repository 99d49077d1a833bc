-- From what a scan of one obligation finds to what it says: that it holds, or by what kind it fails, with the smallest state at fault. What
-- is found is said of valuations before the step: that there are none, the smallest, the smallest in which two variables are so far apart.
-- Assumes nothing.
use mathlib.Core.Path.{◌≡◌, refl, sym, ◌∙◌, subst}
use mathlib.Core.Logic.{◌↔◌, ◌⊎◌, inl, inr, ◌≢◌}
use mathlib.Core.Bool.{true, false}
use mathlib.Core.List.{Memᴰ}
use mathlib.Core.Option.{Option, some}
use Prim.Native.Nat.{ℕ, zero, suc, ◌+◌, ◌≤◌, ◌<◌}
use native.Mathlib.Omega.{arith}
use lib.IntN.{ℤ, pos, ◌+ℤ◌}
use lib.ListN.{length, get_or}
use Rattle.meaning.specs.Numbers.{under, over as overZ}
use Rattle.meaning.specs.Lists.{nth1}
use Rattle.meaning.specs.Model.{Bound, Model, task_at}
use Rattle.meaning.specs.Machine.State.{State}
use Rattle.meaning.specs.Zones.Variables.{var, variables}
use Rattle.meaning.specs.Zones.Zone.{Zone, Proposal}
use Rattle.meaning.specs.Zones.Reached.{home_of_zone, ReachedBy, OverBy}
use Rattle.meaning.specs.Check.Obligations.{Follow, follows, Holds}
use Rattle.meaning.specs.Check.Faults.{Fault, late_at, over, unclaimed, elsewhere, breaks, kind_of, row_of, column_of, late_test, Elsewhere, BreaksZone, Breaks, AtFault, Fails}
use Rattle.meaning.specs.Inner.Bounds.{bound, Apart, Ranged}
use Rattle.meaning.specs.Inner.Slots.{age_at, state_of, RangedZone}
use Rattle.meaning.specs.Inner.StepBounds.{RangedModel}
use Rattle.meaning.specs.Inner.Sources.{step_overflows, Source, home_at, Image, moved_state}
use Rattle.meaning.specs.Inner.Smallest.{Least, Lowest, ApartBefore, LateBefore}
use Rattle.meaning.proofs.Tests.{never}
use Rattle.meaning.proofs.Numbers.{sum_parts, within_false, within_break}
use Rattle.meaning.proofs.Machine.Proper.{WellFormed}
use Rattle.meaning.proofs.Zones.Home.{reached_lies}
use Rattle.meaning.proofs.Check.Faults.{Named, no_fault_holds, RowByRow}
use Rattle.meaning.proofs.Exact.Bounds.{ranged_mem}
use Rattle.meaning.proofs.Exact.Reached.{own_source, shown_leads, reached_no_overflow, over_overflow}
use Rattle.meaning.proofs.Exact.Smallest.{least_same, reached_least, over_least, over_least_as_is, reached_apart_least, none_apart}
use Rattle.meaning.proofs.Exact.Late.{late_position, late_apart}

-- ── the bound that a zone writes between two variables ─────────────────────────────────────────

-- c is written in the zone between i and j, and nothing tighter
pub record Writes (z : Zone) (i j : ℕ) (c : ℤ) : Type 0 where
  pub written : Memᴰ (bound i j c) z.bounds
  pub tightest : (b : Bound) → Memᴰ b z.bounds → b.i ≡ i → b.j ≡ j → overZ c + under b.c ≤ overZ b.c + under c

-- the state breaks it exactly if the variables are further apart
pub breaks_apart : (z : Zone) (i j : ℕ) (c : ℤ) → Writes z i j c → (u : State) → BreaksZone z i j u ↔ Apart (var u) i j (c +ℤ pos 1)
breaks_apart z i j c w u =
    let e = sum_parts c (pos 1) in (
      λ h.
          let b = h.bound in
          let t = w.tightest b h.written h.row h.column in
          let f = within_false (var u b.i) (var u b.j) b.c h.broken in
          let g : var u j + overZ b.c < var u i + under b.c =
          subst (λ (k : ℕ). var u k + overZ b.c < var u i + under b.c) h.column
          (subst (λ (k : ℕ). var u b.j + overZ b.c < var u k + under b.c) h.row f) in
          omega arith,
      λ h. record { bound = bound i j c; written = w.written; row = refl; column = refl; broken = within_break (var u i) (var u j) c (omega arith) },
    )

-- nothing is written between them: nothing is broken
pub unwritten : (z : Zone) (i j : ℕ) → ((b : Bound) → Memᴰ b z.bounds → b.i ≡ i → b.j ≡ j → ⊥) → (u : State) → BreaksZone z i j u → ⊥
unwritten z i j h u b = h b.bound b.written b.row b.column

-- ── which fault comes first ────────────────────────────────────────────────────────────────────

module _ (m : Model) (p : Proposal) (f : Follow) where
  -- no reached state is late at position k, or breaks a bound of the claimed zone between i and j
  abbrev pub OnTime : ℕ → Type 0
  OnTime k = (u : State) → ReachedBy m f.zone f.step u → late_test m (nth1 u.queue k) ≡ true → ⊥

  abbrev pub Kept : ℕ → ℕ → Type 0
  Kept i j = (u : State) → ReachedBy m f.zone f.step u → Breaks (nth1 p.zones f.claim) i j u → ⊥

  -- what holds of an obligation once the kinds below c are ruled out
  pub record Clear (c : ℕ) : Type 0 where
    pub late : 1 < c → (k : ℕ) → OnTime k
    pub over : 2 < c → step_overflows m (home_of_zone f.zone) f.step ≡ false
    pub claim : 3 < c → f.claim ≢ 0
    pub home : 4 < c → (u : State) → ReachedBy m f.zone f.step u → Elsewhere (nth1 p.zones f.claim) u → ⊥
    pub bounds : 5 < c → (i j : ℕ) → Kept i j

  pub clear_none : (c : ℕ) → Clear c → (g : Fault) → kind_of g < c → (u : State) → AtFault m p (follows f) g u → ⊥
  clear_none c h (late_at k) b u a = h.late b k u a.0 a.1
  clear_none c h over b u a = never (over_overflow m f.zone f.step u a) (h.over b)
  clear_none c h unclaimed b u a = h.claim b a.1
  clear_none c h elsewhere b u a = h.home b u a.0 a.1
  clear_none c h (breaks i j) b u a = h.bounds b i j u a.0 a.1

  -- the kinds below are ruled out, and those of the same kind that come before
  pub fails_of : (g : Fault) (t : State) → Least (AtFault m p (follows f) g) t → Clear (kind_of g)
      → ((e : Fault) → kind_of e ≡ kind_of g → RowByRow (row_of e) (column_of e) (row_of g) (column_of g) → (u : State) → AtFault m p (follows f) e u → ⊥)
      → Fails m p (follows f) g t
  fails_of g t l c h = record { at = l.is; least = l.least; first = earlier }
    where
      earlier : (e : Fault) → (kind_of e < kind_of g) ⊎ ((kind_of e ≡ kind_of g) × RowByRow (row_of e) (column_of e) (row_of g) (column_of g))
          → (u : State) → AtFault m p (follows f) e u → ⊥
      earlier e (inl k) u a = clear_none (kind_of g) c e k u a
      earlier e (inr k) u a = h e k.0 k.1 u a

  -- kind 1: late at position k, and at none before it
  pub fails_late : (k : ℕ) (t : State) → Least (λ (u : State). ReachedBy m f.zone f.step u × (late_test m (nth1 u.queue k) ≡ true)) t
      → ((i : ℕ) → i < k → OnTime i) → Fails m p (follows f) (late_at k) t
  fails_late k t l h = fails_of (late_at k) t (record { is = l.is; least = l.least }) none_below same
    where
      none_below : Clear 1
      none_below = record {
        late = λ b. absurd (omega arith);
        over = λ b. absurd (omega arith);
        claim = λ b. absurd (omega arith);
        home = λ b. absurd (omega arith);
        bounds = λ b. absurd (omega arith);
      }

      same : (e : Fault) → kind_of e ≡ 1 → RowByRow (row_of e) (column_of e) k 0 → (u : State) → AtFault m p (follows f) e u → ⊥
      same (late_at i) q (inl b) u a = h i b u a.0 a.1
      same (late_at i) q (inr b) u a = omega (arith, b.1)
      same over q b u a = omega arith
      same unclaimed q b u a = omega arith
      same elsewhere q b u a = omega arith
      same (breaks i j) q b u a = omega arith

  -- kind 2: where the release overflows nothing is reached, so nothing is late
  pub fails_over : (t : State) → step_overflows m (home_of_zone f.zone) f.step ≡ true → Least (OverBy m f.zone f.step) t
      → Fails m p (follows f) over t
  fails_over t n l =
      fails_of over t (record { is = l.is; least = l.least }) (record {
        late = λ b k u r w. never n (reached_no_overflow m f.zone f.step u r);
        over = λ b. absurd (omega arith);
        claim = λ b. absurd (omega arith);
        home = λ b. absurd (omega arith);
        bounds = λ b. absurd (omega arith);
      })
      none_before
    where
      none_before : (e : Fault) → kind_of e ≡ 2 → RowByRow (row_of e) (column_of e) 0 0 → (u : State) → AtFault m p (follows f) e u → ⊥
      none_before e q (inl b) u a = omega arith
      none_before e q (inr b) u a = omega (arith, b.1)

  -- kinds 3 and 4: all reached states are at fault
  pub fails_unclaimed : (t : State) → Clear 3 → f.claim ≡ 0 → Least (ReachedBy m f.zone f.step) t → Fails m p (follows f) unclaimed t
  fails_unclaimed t c e l = fails_of unclaimed t (record { is = (l.is, e); least = λ u h. l.least u h.0 }) c none_before
    where
      none_before : (e : Fault) → kind_of e ≡ 3 → RowByRow (row_of e) (column_of e) 0 0 → (u : State) → AtFault m p (follows f) e u → ⊥
      none_before e q (inl b) u a = omega arith
      none_before e q (inr b) u a = omega (arith, b.1)

  pub fails_elsewhere : (t : State) → Clear 4 → ((u : State) → ReachedBy m f.zone f.step u → Elsewhere (nth1 p.zones f.claim) u)
      → Least (ReachedBy m f.zone f.step) t → Fails m p (follows f) elsewhere t
  fails_elsewhere t c e l = fails_of elsewhere t (record { is = (l.is, e t l.is); least = λ u h. l.least u h.0 }) c none_before
    where
      none_before : (e : Fault) → kind_of e ≡ 4 → RowByRow (row_of e) (column_of e) 0 0 → (u : State) → AtFault m p (follows f) e u → ⊥
      none_before e q (inl b) u a = omega arith
      none_before e q (inr b) u a = omega (arith, b.1)

  -- kind 5: a bound between i and j is broken, and none before it
  pub fails_breaks : (i j : ℕ) (t : State) → Clear 5 → ((a b : ℕ) → RowByRow a b i j → Kept a b)
      → Least (λ (u : State). ReachedBy m f.zone f.step u × Breaks (nth1 p.zones f.claim) i j u) t → Fails m p (follows f) (breaks i j) t
  fails_breaks i j t c h l = fails_of (breaks i j) t (record { is = l.is; least = l.least }) c same
    where
      same : (e : Fault) → kind_of e ≡ 5 → RowByRow (row_of e) (column_of e) i j → (u : State) → AtFault m p (follows f) e u → ⊥
      same (late_at k) q b u a = omega arith
      same over q b u a = omega arith
      same unclaimed q b u a = omega arith
      same elsewhere q b u a = omega arith
      same (breaks k l) q b u a = h k l b u a.0 a.1

  -- no kind: it holds
  pub clear_holds : WellFormed m → Named p f.claim → Clear 6 → Holds m p (follows f)
  clear_holds w n c = no_fault_holds m p w (follows f) n (λ g t a. clear_none 6 c g (kind_low g) t a)
    where
      kind_low : (g : Fault) → kind_of g < 6
      kind_low (late_at k) = omega arith
      kind_low over = omega arith
      kind_low unclaimed = omega arith
      kind_low elsewhere = omega arith
      kind_low (breaks i j) = omega arith

  -- ── what is ruled out ────────────────────────────────────────────────────────────────────────

  -- the positions of the queue are enough
  pub on_time_all : ((k : ℕ) → k < length (home_at m f.zone f.step).order → OnTime (suc k)) → (k : ℕ) → OnTime k
  on_time_all h zero u r t = never t refl
  on_time_all h (suc k) u r t = h k (late_position m f.zone f.step u r k t) u r t

  -- the variables of the claimed zone are enough
  pub kept_all : (y : Zone) → nth1 p.zones f.claim ≡ some y → (n : ℕ) → Ranged n y.bounds → ((i j : ℕ) → i < n → j < n → Kept i j) → (i j : ℕ) → Kept i j
  kept_all y e n r h i j u q b =
      let b' : BreaksZone y i j u = subst (λ (x : Option Zone). Breaks x i j u) e b in
      let w = ranged_mem n y.bounds r b'.bound b'.written in
      h i j (subst (λ (k : ℕ). k < n) b'.row w.0) (subst (λ (k : ℕ). k < n) b'.column w.1) u q b

  pub kept_unwritten : (y : Zone) → nth1 p.zones f.claim ≡ some y → (i j : ℕ) → ((b : Bound) → Memᴰ b y.bounds → b.i ≡ i → b.j ≡ j → ⊥) → Kept i j
  kept_unwritten y e i j h u q b = unwritten y i j h u (subst (λ (x : Option Zone). Breaks x i j u) e b)

  -- a reached state lies elsewhere exactly if the step's home is another than the claimed zone's
  pub elsewhere_iff : (y : Zone) (u : State) → ReachedBy m f.zone f.step u
      → Elsewhere (some y) u ↔ (home_at m f.zone f.step ≡ home_of_zone y → ⊥)
  elsewhere_iff y u r = let h = (reached_lies m f.zone f.step u r).home in (λ w e. w (h ∙ e), λ w e. w (sym h ∙ e))

  pub not_elsewhere_at : (y : Zone) → nth1 p.zones f.claim ≡ some y → home_at m f.zone f.step ≡ home_of_zone y
      → (u : State) → ReachedBy m f.zone f.step u → Elsewhere (nth1 p.zones f.claim) u → ⊥
  not_elsewhere_at y e h u r w = (elsewhere_iff y u r).0 (subst (λ (x : Option Zone). Elsewhere x u) e w) h

-- ── from the valuations before the step ────────────────────────────────────────────────────────

module _ (m : Model) (p : Proposal) (f : Follow) (rm : RangedModel m) where
  -- no state takes the step
  pub none_holds : ((x : ℕ → ℕ) → Source m f.zone f.step x → ⊥) → Holds m p (follows f)
  none_holds h s i w = absurd (h (var s) (own_source m f.zone f.step rm s i w))

  -- kind 1 at position k + 1 is ruled out: by what is known before the step, or after it
  pub on_time_of : (k : ℕ) → k < length (home_at m f.zone f.step).order
      → ((y : ℕ → ℕ) → Source m f.zone f.step y → LateBefore m f.zone f.step k y → ⊥) → OnTime m p f (suc k)
  on_time_of k l h u r t =
      none_apart m f.zone f.step rm (age_at m k) 0 (pos (task_at m (get_or (home_at m f.zone f.step).order k 0)).D) (omega arith) (omega arith) h u (inl r)
      ((late_apart m f.zone f.step u r k l).0 t)

  pub on_time_image : (k : ℕ) → k < length (home_at m f.zone f.step).order
      → ((x v : ℕ → ℕ) → Source m f.zone f.step x → Image m f.zone f.step x v
      → v (age_at m k) < (task_at m (get_or (home_at m f.zone f.step).order k 0)).D)
      → OnTime m p f (suc k)
  on_time_image k l h u r t =
      let x = shown_leads m f.zone f.step rm u (inl r) in
      omega (arith, h x.0 (var u) x.1.source x.1.at, (late_apart m f.zone f.step u r k l).0 t)

  -- kind 5 between i and j is ruled out
  module _ (y : Zone) (e : nth1 p.zones f.claim ≡ some y) (i j : ℕ) (c : ℤ) (w : Writes y i j c) where
    pub kept_of : i < variables m (home_at m f.zone f.step).order → j < variables m (home_at m f.zone f.step).order
        → ((v : ℕ → ℕ) → Source m f.zone f.step v → ApartBefore m f.zone f.step i j (c +ℤ pos 1) v → ⊥) → Kept m p f i j
    kept_of hi hj h u r b =
        none_apart m f.zone f.step rm i j (c +ℤ pos 1) hi hj h u (inl r)
        ((breaks_apart y i j c w u).0 (subst (λ (x : Option Zone). Breaks x i j u) e b))

    pub kept_image : ((x v : ℕ → ℕ) → Source m f.zone f.step x → Image m f.zone f.step x v → Apart v i j (c +ℤ pos 1) → ⊥) → Kept m p f i j
    kept_image h u r b =
        let x = shown_leads m f.zone f.step rm u (inl r) in
        h x.0 (var u) x.1.source x.1.at ((breaks_apart y i j c w u).0 (subst (λ (v : Option Zone). Breaks v i j u) e b))

module _ (m : Model) (p : Proposal) (f : Follow) (rm : RangedModel m) (rz : RangedZone m f.zone) where
  -- a step that overflows, as its states stand
  pub over_fails : (x : ℕ → ℕ) → Lowest (variables m f.zone.order) (Source m f.zone f.step) x
      → step_overflows m (home_of_zone f.zone) f.step ≡ true → Fails m p (follows f) over (state_of m (home_of_zone f.zone) x)
  over_fails x l n = fails_over m p f (state_of m (home_of_zone f.zone) x) n (over_least_as_is m f.zone f.step rm rz x l n)

  -- the same, moved by the step's plan
  pub over_fails_moved : (x : ℕ → ℕ) → Lowest (variables m f.zone.order) (Source m f.zone f.step) x
      → step_overflows m (home_of_zone f.zone) f.step ≡ true → Fails m p (follows f) over (moved_state m f.zone f.step x)
  over_fails_moved x l n = fails_over m p f (moved_state m f.zone f.step x) n (over_least m f.zone f.step rm rz x l n)

  -- ── a step that does not overflow ────────────────────────────────────────────────────────────
  module _ (n : step_overflows m (home_of_zone f.zone) f.step ≡ false) where
    -- kind 1: late at position k + 1
    pub late_fails : (k : ℕ) (x : ℕ → ℕ) → k < length (home_at m f.zone f.step).order
        → Lowest (variables m f.zone.order) (λ (y : ℕ → ℕ). Source m f.zone f.step y × LateBefore m f.zone f.step k y) x
        → ((i : ℕ) → i ≤ k → OnTime m p f i) → Fails m p (follows f) (late_at (suc k)) (moved_state m f.zone f.step x)
    late_fails k x q l h =
        let D = (task_at m (get_or (home_at m f.zone f.step).order k 0)).D in
        fails_late m p f (suc k) (moved_state m f.zone f.step x)
        (least_same (λ (u : State). ReachedBy m f.zone f.step u × Apart (var u) (age_at m k) 0 (pos D))
        (λ (u : State). ReachedBy m f.zone f.step u × (late_test m (nth1 u.queue (suc k)) ≡ true)) (moved_state m f.zone f.step x)
        (λ u. (λ w. (w.0, (late_apart m f.zone f.step u w.0 k q).1 w.1), λ w. (w.0, (late_apart m f.zone f.step u w.0 k q).0 w.1)))
        (reached_apart_least m f.zone f.step rm (age_at m k) 0 (pos D) (omega arith) (omega arith) rz n x l))
        (λ i b. h i (omega arith))

    -- kinds 3 and 4: the smallest of all
    pub unclaimed_fails : (x : ℕ → ℕ) → Lowest (variables m f.zone.order) (Source m f.zone f.step) x → Clear m p f 3 → f.claim ≡ 0
        → Fails m p (follows f) unclaimed (moved_state m f.zone f.step x)
    unclaimed_fails x l c e =
        fails_unclaimed m p f (moved_state m f.zone f.step x) c e (reached_least m f.zone f.step rm rz x l n)

    module _ (y : Zone) (e : nth1 p.zones f.claim ≡ some y) where
      pub elsewhere_fails : (x : ℕ → ℕ) → Lowest (variables m f.zone.order) (Source m f.zone f.step) x → Clear m p f 4
          → (home_at m f.zone f.step ≡ home_of_zone y → ⊥) → Fails m p (follows f) elsewhere (moved_state m f.zone f.step x)
      elsewhere_fails x l c h =
          fails_elsewhere m p f (moved_state m f.zone f.step x) c
          (λ u r. subst (λ (w : Option Zone). Elsewhere w u) (sym e) ((elsewhere_iff m p f y u r).1 h)) (reached_least m f.zone f.step rm rz x l n)

      -- kind 5: the bound c that the claimed zone writes between i and j
      module _ (i j : ℕ) (c : ℤ) (w : Writes y i j c) (hi : i < variables m (home_at m f.zone f.step).order)
          (hj : j < variables m (home_at m f.zone f.step).order) where
        pub breaks_fails : (x : ℕ → ℕ)
            → Lowest (variables m f.zone.order) (λ (v : ℕ → ℕ). Source m f.zone f.step v × ApartBefore m f.zone f.step i j (c +ℤ pos 1) v) x
            → Clear m p f 5 → ((a b : ℕ) → RowByRow a b i j → Kept m p f a b) → Fails m p (follows f) (breaks i j) (moved_state m f.zone f.step x)
        breaks_fails x l q h =
            fails_breaks m p f i j (moved_state m f.zone f.step x) q h
            (least_same (λ (u : State). ReachedBy m f.zone f.step u × Apart (var u) i j (c +ℤ pos 1))
            (λ (u : State). ReachedBy m f.zone f.step u × Breaks (nth1 p.zones f.claim) i j u) (moved_state m f.zone f.step x)
            (λ u. (
              λ b. (b.0, subst (λ (v : Option Zone). Breaks v i j u) (sym e) ((breaks_apart y i j c w u).1 b.1)),
              λ b. (b.0, (breaks_apart y i j c w u).0 (subst (λ (v : Option Zone). Breaks v i j u) e b.1)),
            ))
            (reached_apart_least m f.zone f.step rm i j (c +ℤ pos 1) hi hj rz n x l))
