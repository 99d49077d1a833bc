-- The widest zone holds exactly the proper states of its location and queue order, and the zone of a proper state exactly that state.
-- Assumes nothing.
use mathlib.Core.Path.{◌≡◌, refl, sym, ◌∙◌, ap, subst}
use mathlib.Core.Logic.{◌↔◌}
use mathlib.Core.Bool.{true}
use mathlib.Core.List.Memᴰ
use mathlib.Core.List.{List, [], ◌∷◌}
use Prim.Native.Nat.{ℕ, zero, suc, ◌+◌, ◌≤◌, ◌<◌}
use native.Mathlib.Omega.{arith}
use lib.IntN.{pos}
use lib.ListN.{length, get_or, length-map}
use Rattle.meaning.specs.Model.{Bound, Model}
use Rattle.meaning.specs.Machine.State.{Job, State, order}
use Rattle.meaning.specs.Zones.Variables.{vars, var, variables}
use Rattle.meaning.specs.Zones.Proper.{fits, Proper}
use Rattle.meaning.specs.Zones.Zone.{InZone, widest, exactly, clock_bounds, queue_bounds, zone_of}
use Rattle.meaning.specs.Zones.Reached.{Home, home_of}
use Rattle.meaning.specs.Inner.Bounds.{Met, Ranged}
use Rattle.meaning.specs.Inner.Slots.{Slot, slots, Reads, Agrees, RangedZone}
use Rattle.meaning.proofs.Numbers.{over_neg, under_neg, within_make}
use Rattle.meaning.proofs.Zones.Home.{mk_home, home_in, Lies}
use Rattle.meaning.proofs.Exact.Bounds.{met_mem, tests_met}
use Rattle.meaning.proofs.Exact.Valuations.{agrees_vars, agrees_state, state_back}

-- ── the widest zone ────────────────────────────────────────────────────────────────────────────

-- "the widest zone of a location and queue"
pub widest_holds : (m : Model) (l : ℕ) (o : List ℕ) (s : State) → InZone m (widest l o) s ↔ ((home_of s ≡ mk_home l o) × Proper m s)
widest_holds m l o s = (
  λ h. (home_in m (widest l o) s h, h.proper),
  λ h. record {
    location = ap (λ (x : Home). x.location) h.0;
    queue = ap (λ (x : Home). x.order) h.0;
    proper = h.1;
    bounds = λ b w. absurd (Memᴰ.not-nil w);
  },
)

pub widest_ranged : (m : Model) (l : ℕ) (o : List ℕ) → fits m o ≡ true → RangedZone m (widest l o)
widest_ranged m l o f = record { bounds = tt; fit = f }

-- ── the zone of one state ──────────────────────────────────────────────────────────────────────

module _ (x : ℕ → ℕ) where
  -- both bounds say that the difference is v
  exactly_met : (i j v : ℕ) (bs : List Bound) → Met x (exactly i j v bs) ↔ ((x i ≡ x j + v) × Met x bs)
  exactly_met i j v bs = (
    λ h. (omega (arith, h.0, h.1.0, over_neg (pos v), under_neg (pos v)), h.1.1),
    λ h. (omega (arith, h.0), (omega (arith, h.0, over_neg (pos v), under_neg (pos v)), h.1)),
  )

  clocks_met : x 0 ≡ 0 → (n : ℕ) (cs : List ℕ) (bs : List Bound)
      → Met x (clock_bounds n cs bs) ↔ (((i : ℕ) → i < length cs → x (n + i) ≡ get_or cs i 0) × Met x bs)
  clocks_met z n [] bs = (λ h. (λ i l. absurd (omega arith), h), λ h. h.1)
  clocks_met z n (c ∷ cs) bs =
      let e = exactly_met n 0 c (clock_bounds (suc n) cs bs) in
      let r = clocks_met z (suc n) cs bs in (
        λ h. (at (e.0 h).0 (r.0 (e.0 h).1).0, (r.0 (e.0 h).1).1),
        λ h. e.1 (
          (let k : n + 0 ≡ n = omega arith in ap x (sym k) ∙ h.0 0 (omega arith) ∙ omega arith),
          r.1 (λ i l. (let k : suc n + i ≡ n + suc i = omega arith in ap x k ∙ h.0 (suc i) (omega arith)), h.1),
        ),
      )
    where
      at : x n ≡ x 0 + c → ((i : ℕ) → i < length cs → x (suc n + i) ≡ get_or cs i 0) → (i : ℕ) → i < suc (length cs) → x (n + i) ≡ get_or (c ∷ cs) i 0
      at q f zero l = let k : n + 0 ≡ n = omega arith in ap x k ∙ q ∙ omega arith
      at q f (suc i) l = let k : n + suc i ≡ suc n + i = omega arith in ap x k ∙ f i (omega arith)

  queue_met : x 0 ≡ 0 → (a n : ℕ) (q : List Job) → Met x (queue_bounds a n q) ↔ Reads x a (slots n (order q)) q
  queue_met z a n [] = (λ h. tt, λ h. tt)
  queue_met z a n (j ∷ js) =
      let e = exactly_met n a j.done (exactly (suc n) 0 j.age (queue_bounds n (suc (suc n)) js)) in
      let g = exactly_met (suc n) 0 j.age (queue_bounds n (suc (suc n)) js) in
      let r = queue_met z n (suc (suc n)) js in (
        λ h. (refl, (e.0 h).0, omega (arith, (g.0 (e.0 h).1).0), r.0 (g.0 (e.0 h).1).1),
        λ h. e.1 (h.1, g.1 (omega (arith, h.2), r.1 h.3)),
      )

  -- the bounds of the zone of s say that x is the valuation of s
  agrees_iff : (m : Model) (s : State) → x 0 ≡ 0 → length s.clocks ≡ m.clocks → Met x (zone_of s).bounds ↔ Agrees m (order s.queue) x s
  agrees_iff m s z c =
      let q = queue_met z 0 (suc (length s.clocks)) s.queue in
      let k = clocks_met z 1 s.clocks (queue_bounds 0 (suc (length s.clocks)) s.queue) in
      let same : slots (suc (length s.clocks)) (order s.queue) ≡ slots (suc m.clocks) (order s.queue) =
      ap (λ (n : ℕ). slots (suc n) (order s.queue)) c in (
        λ h. record {
          origin = z;
          size = c;
          clock = λ i l. let e : suc i ≡ 1 + i = omega arith in ap x e ∙ (k.0 h).0 i (omega arith);
          queue = subst (λ (ss : List Slot). Reads x 0 ss s.queue) same (q.0 (k.0 h).1);
        },
        λ g. k.1 (
          λ i l. (let e : 1 + i ≡ suc i = omega arith in ap x e ∙ g.clock i (omega arith)),
          q.1 (subst (λ (ss : List Slot). Reads x 0 ss s.queue) (sym same) g.queue),
        ),
      )

own_in : (m : Model) (s : State) → Proper m s → InZone m (zone_of s) s
own_in m s p =
    let h = (agrees_iff (var s) m s refl p.clocks).1 (agrees_vars m (order s.queue) s p.clocks refl) in
    record {
      location = refl;
      queue = refl;
      proper = p;
      bounds = λ b w. within_make (var s b.i) (var s b.j) b.c (met_mem (var s) (zone_of s).bounds h b w);
    }

only_own : (m : Model) (s t : State) → Proper m s → InZone m (zone_of s) t → t ≡ s
only_own m s t p h =
    let g = (agrees_iff (var t) m s refl p.clocks).0 (tests_met (vars t) (zone_of s).bounds h.bounds) in
    let l : Lies m (home_of s) t = record { home = home_in m (zone_of s) t h; clocks = h.proper.clocks } in
    sym (state_back m (home_of s) t l) ∙ sym (agrees_state g s.location refl)

-- "the zone that holds exactly one given state"
pub zone_of_holds : (m : Model) (s t : State) → Proper m s → InZone m (zone_of s) t ↔ (t ≡ s)
zone_of_holds m s t p = (only_own m s t p, λ e. subst (InZone m (zone_of s)) (sym e) (own_in m s p))

-- ── its bounds speak of its variables ──────────────────────────────────────────────────────────

module _ (k : ℕ) (z : 0 < k) where
  ranged_queue : (a n : ℕ) (q : List Job) → a < k → n + (length q + length q) ≤ k → Ranged k (queue_bounds a n q)
  ranged_queue a n [] h l = tt
  ranged_queue a n (j ∷ js) h l =
      let r = ranged_queue n (suc (suc n)) js (omega arith) (omega arith) in
      (omega arith, h, (h, omega arith, (omega arith, z, (z, omega arith, r))))

  ranged_clocks : (n : ℕ) (cs : List ℕ) (bs : List Bound) → n + length cs ≤ k → Ranged k bs → Ranged k (clock_bounds n cs bs)
  ranged_clocks n [] bs l r = r
  ranged_clocks n (c ∷ cs) bs l r = (omega arith, z, (z, omega arith, ranged_clocks (suc n) cs bs (omega arith) r))

pub zone_of_ranged : (m : Model) (s : State) → Proper m s → RangedZone m (zone_of s)
zone_of_ranged m s p =
    let n = variables m (order s.queue) in
    let c = p.clocks in
    let q = length-map s.queue (λ (j : Job). j.task) in
    record {
      bounds =
          ranged_clocks n (omega arith) 1 s.clocks (queue_bounds 0 (suc (length s.clocks)) s.queue) (omega arith)
          (ranged_queue n (omega arith) 0 (suc (length s.clocks)) s.queue (omega arith) (omega arith));
      fit = p.fit;
    }
