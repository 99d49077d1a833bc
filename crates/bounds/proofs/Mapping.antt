-- New variables for old: a is the old variable p a with off a added. The matrix r of the old bounds so moved is closed, and its solutions are the images of those of d. And how the range goes through `remap`.
-- Assumes nothing.
use mathlib.Core.Path.{◌≡◌, refl, sym, ap, ap₂, subst}
use mathlib.Core.List.{List}
use Prim.Native.Nat.{ℕ, ◌+◌, ◌-◌, ◌*◌, ◌<◌, ◌≤◌}
use native.Mathlib.Omega.{arith}
use native.Mathlib.Decide.{dec_lt, ℕ_discrete}
use lib.IntN.{ℤ, pos, neg_ℤ}
use Rattle.meaning.specs.Numbers.{over, under}
use Rattle.bounds.specs.Matrix.{ent, at, Outside, none, Finite, Entry, Entries, Sol, Closed, Size}
use Rattle.bounds.specs.Range.{From, Ready}
use Rattle.bounds.specs.Images.{var, Map, Image, Maps}
use Rattle.bounds.specs.Results.{Remapped}
use Rattle.bounds.specs.Inner.{Shift}
use Rattle.meaning.proofs.Numbers.{over_neg, under_neg}
use Rattle.bounds.proofs.Signed.{eq_read}
use Rattle.bounds.proofs.Points.{pick, pick_ind, finite?, low, low_sol, most, most_above, most_below}
use Rattle.bounds.proofs.Ranges.{pick_z, pick_z_ind, range_entries, limit}

-- what new variable a asks of the old variable v, from below
abbrev asks : (ℕ → ℕ → ℤ) → (ℕ → ℕ) → (ℕ → ℤ) → (ℕ → ℕ) → ℕ → ℕ → ℕ
asks d p off y v a = pick (finite? d (p a) v) (y a + under (off a) + under (d (p a) v) - (over (off a) + over (d (p a) v))) 0

-- the least point of the old variables that meets y
abbrev pub whole : (ℕ → ℕ → ℤ) → ℕ → (ℕ → ℕ) → (ℕ → ℤ) → (ℕ → ℕ) → ℕ → ℕ
whole d n p off y v = most (asks d p off y v) n

-- that no value falls below 0, said of the smallest solution
least_of : (d : ℕ → ℕ → ℤ) (n₀ n : ℕ) (p : ℕ → ℕ) (off : ℕ → ℤ) → Closed d n₀ → Map d n₀ n p off → (a : ℕ) → a < n → over (d 0 (p a)) + under (off a) ≤ under (d 0 (p a)) + over (off a)
least_of d n₀ n p off K P a ha = omega (arith, K.row (p a) (P.into a ha), P.stays (low d) (low_sol d n₀ K) a ha)

still : (d : ℕ → ℕ → ℤ) (n₀ n : ℕ) (p : ℕ → ℕ) (off : ℕ → ℤ) → Map d n₀ n p off → over (off 0) ≡ under (off 0)
still d n₀ n p off P = omega (arith, eq_read P.still)

module _ (d r : ℕ → ℕ → ℤ) (n₀ n : ℕ) (p : ℕ → ℕ) (off : ℕ → ℤ) (K : Closed d n₀) (P : Map d n₀ n p off)
    (U : (a b : ℕ) → a < n → b < n → Shift (d (p a) (p b)) (off a) (off b) (r a b)) where
  there : (a b : ℕ) → a < n → b < n → Finite (r a b) → Finite (d (p a) (p b))
  there a b ha hb f = go (finite? d (p a) (p b))
    where
      go : Dec (Finite (d (p a) (p b))) → Finite (d (p a) (p b))
      go (yes g) = g
      go (no g) = omega (arith, eq_read ((U a b ha hb).kept g))

  fin_diag : (v : ℕ) → v < n₀ → Finite (d v v)
  fin_diag v h = omega (arith, K.diag v h)

  -- row 0 of d, as it stands at p 0
  row_at : (v : ℕ) → v < n₀ → over (d (p 0) v) ≤ under (d (p 0) v)
  row_at v h = subst (λ (q : ℕ). over (d q v) ≤ under (d q v)) (sym P.zero) (K.row v h)

  pub remap_closed : Closed r n
  remap_closed = record {
    some = P.some;
    diag = λ a ha. let k = K.diag (p a) (P.into a ha) in omega (arith, ((U a a ha ha).some (omega arith)).1);
    tri = λ a k b ha hk hb f g.
        let f' = there a k ha hk f in
        let g' = there k b hk hb g in
        let t = K.tri (p a) (p k) (p b) (P.into a ha) (P.into k hk) (P.into b hb) f' g' in
        let u = (U a b ha hb).some t.0 in
        (u.0, omega (arith, t.1, u.1, ((U a k ha hk).some f').1, ((U k b hk hb).some g').1));
    row = λ b hb.
        let k = row_at (p b) (P.into b hb) in
        let l = subst (λ (q : ℕ). over (d q (p b)) + under (off b) ≤ under (d q (p b)) + over (off b)) (sym P.zero) (least_of d n₀ n p off K P b hb) in
        let u = (U 0 b P.some hb).some (omega arith) in
        omega (arith, u.1, still d n₀ n p off P);
  }

  pub remap_to : (x x' : ℕ → ℕ) → Sol d n₀ x → Image n p off x x' → Sol r n x'
  remap_to x x' s h = record {
    zero = omega (arith, h 0 P.some, still d n₀ n p off P, ap x P.zero, s.zero);
    holds = λ a b ha hb f.
        let f' = there a b ha hb f in
        omega (arith, h a ha, h b hb, s.holds (p a) (p b) (P.into a ha) (P.into b hb) f', ((U a b ha hb).some f').1);
  }

  module _ (y : ℕ → ℕ) (s : Sol r n y) where
    -- the old value of p a is no less than 0
    above : (a : ℕ) → a < n → over (off a) ≤ y a + under (off a)
    above a ha =
        let k = row_at (p a) (P.into a ha) in
        let u = (U 0 a P.some ha).some (omega arith) in
        omega (arith, u.1, s.zero, s.holds 0 a P.some ha u.0, still d n₀ n p off P)

    asked : (v a : ℕ) → a < n → Finite (d (p a) v) → y a + under (off a) + under (d (p a) v) ≤ whole d n p off y v + (over (off a) + over (d (p a) v))
    asked v a ha f = go (most_above (asks d p off y v) n a ha)
      where
        go : asks d p off y v a ≤ most (asks d p off y v) n → y a + under (off a) + under (d (p a) v) ≤ most (asks d p off y v) n + (over (off a) + over (d (p a) v))
        go = pick_ind (finite? d (p a) v) _ _ (λ t. t ≤ most (asks d p off y v) n → y a + under (off a) + under (d (p a) v) ≤ most (asks d p off y v) n + (over (off a) + over (d (p a) v)))
            (λ g h. omega arith) (λ g. absurd (g f))

    pub whole_read : Image n p off (whole d n p off y) y
    whole_read b hb =
        let A = above b hb in
        let hi : whole d n p off y (p b) ≤ y b + under (off b) - over (off b) = most_below (asks d p off y (p b)) n (y b + under (off b) - over (off b)) each in
        omega (arith, asked (p b) b hb (fin_diag (p b) (P.into b hb)), K.diag (p b) (P.into b hb))
      where
        each : (a : ℕ) → a < n → asks d p off y (p b) a ≤ y b + under (off b) - over (off b)
        each a ha = pick_ind (finite? d (p a) (p b)) _ _ (λ t. t ≤ y b + under (off b) - over (off b))
            (λ g. let u = (U a b ha hb).some g in omega (arith, u.1, s.holds a b ha hb u.0, above b hb))
            (λ g. omega arith)

    pub whole_sol : Sol d n₀ (whole d n p off y)
    whole_sol = record {
      zero = subst (λ (q : ℕ). whole d n p off y q ≡ 0) P.zero (omega (arith, whole_read 0 P.some, still d n₀ n p off P, s.zero));
      holds = λ u v hu hv f.
          let k = row_at u hu in
          let t = K.tri (p 0) u v (P.into 0 P.some) hu hv (omega arith) f in
          let l : under (d u v) ≤ whole d n p off y v + over (d u v) = omega (arith, t.1, asked v 0 P.some t.0, still d n₀ n p off P, s.zero) in
          let m : whole d n p off y u ≤ whole d n p off y v + over (d u v) - under (d u v) = most_below (asks d p off y u) n (whole d n p off y v + over (d u v) - under (d u v)) (each u v hu hv f l) in
          omega arith;
    }
      where
        each : (u v : ℕ) → u < n₀ → v < n₀ → Finite (d u v) → under (d u v) ≤ whole d n p off y v + over (d u v) → (a : ℕ) → a < n → asks d p off y u a ≤ whole d n p off y v + over (d u v) - under (d u v)
        each u v hu hv f l a ha = pick_ind (finite? d (p a) u) _ _ (λ t. t ≤ whole d n p off y v + over (d u v) - under (d u v))
            (λ g. let t = K.tri (p a) u v (P.into a ha) hu hv g f in omega (arith, t.1, asked v a ha t.0))
            (λ g. omega arith)

  pub remap_from : (y : ℕ → ℕ) → Sol r n y → (x : ℕ → ℕ) × Sol d n₀ x × Image n p off x y
  remap_from y s = (whole d n p off y, whole_sol y s, whole_read y s)

-- ---- where the new matrix comes from: the old raw matrix behind the new variables, each of which is tied to its old one
abbrev tied : (ℕ → ℕ → ℤ) → ℕ → (ℕ → ℕ) → (ℕ → ℤ) → ℕ → ℕ → ℤ
tied e n p off c k =
    pick_z (dec_lt c n)
    (pick_z (dec_lt k n) none (pick_z (ℕ_discrete (n + p c) k) (off c) none))
    (pick_z (dec_lt k n) (pick_z (ℕ_discrete (n + p k) c) (neg_ℤ (off k)) none) (e (c - n) (k - n)))

module _ (e : ℕ → ℕ → ℤ) (n : ℕ) (p : ℕ → ℕ) (off : ℕ → ℤ) where
  tied_ind : (c k : ℕ) (Q : ℤ → Type 0)
      → Q none
      → (c < n → n + p c ≡ k → Q (off c))
      → (k < n → n + p k ≡ c → Q (neg_ℤ (off k)))
      → (n ≤ c → n ≤ k → Q (e (c - n) (k - n)))
      → Q (tied e n p off c k)
  tied_ind c k Q q₀ q₁ q₂ q₃ = pick_z_ind (dec_lt c n) _ _ Q
      (λ l. pick_z_ind (dec_lt k n) _ _ Q (λ _. q₀) (λ _. pick_z_ind (ℕ_discrete (n + p c) k) _ _ Q (λ h. q₁ l h) (λ _. q₀)))
      (λ l. pick_z_ind (dec_lt k n) _ _ Q
      (λ g. pick_z_ind (ℕ_discrete (n + p k) c) _ _ Q (λ h. q₂ g h) (λ _. q₀))
      (λ g. q₃ (omega arith) (omega arith)))

  tied_above : (a : ℕ) → a < n → tied e n p off a (n + p a) ≡ off a
  tied_above a ha = pick_z_ind (dec_lt a n) _ _ (λ v. v ≡ off a)
      (λ _. pick_z_ind (dec_lt (n + p a) n) _ _ (λ v. v ≡ off a)
      (λ l. absurd (omega arith))
      (λ _. pick_z_ind (ℕ_discrete (n + p a) (n + p a)) _ _ (λ v. v ≡ off a) (λ _. refl) (λ q. absurd (q refl))))
      (λ q. absurd (q ha))

  tied_below : (a : ℕ) → a < n → tied e n p off (n + p a) a ≡ neg_ℤ (off a)
  tied_below a ha = pick_z_ind (dec_lt (n + p a) n) _ _ (λ v. v ≡ neg_ℤ (off a))
      (λ l. absurd (omega arith))
      (λ _. pick_z_ind (dec_lt a n) _ _ (λ v. v ≡ neg_ℤ (off a))
      (λ _. pick_z_ind (ℕ_discrete (n + p a) (n + p a)) _ _ (λ v. v ≡ neg_ℤ (off a)) (λ _. refl) (λ q. absurd (q refl)))
      (λ q. absurd (q ha)))

  tied_old : (a b : ℕ) → tied e n p off (n + a) (n + b) ≡ e a b
  tied_old a b = pick_z_ind (dec_lt (n + a) n) _ _ (λ v. v ≡ e a b)
      (λ l. absurd (omega arith))
      (λ _. pick_z_ind (dec_lt (n + b) n) _ _ (λ v. v ≡ e a b) (λ l. absurd (omega arith)) (λ _. ap₂ e (omega arith) (omega arith)))

-- the new variables, and the old ones behind them
abbrev both : ℕ → (ℕ → ℕ) → (ℕ → ℕ) → ℕ → ℕ
both n x y k = pick (dec_lt k n) (x k) (y (k - n))

both_new : (n : ℕ) (x y : ℕ → ℕ) (k : ℕ) → k < n → both n x y k ≡ x k
both_new n x y k h = pick_ind (dec_lt k n) _ _ (λ v. v ≡ x k) (λ _. refl) (λ q. absurd (q h))

both_old : (n : ℕ) (x y : ℕ → ℕ) (k : ℕ) → n ≤ k → both n x y k ≡ y (k - n)
both_old n x y k h = pick_ind (dec_lt k n) _ _ (λ v. v ≡ y (k - n)) (λ q. absurd (omega arith)) (λ _. refl)

module _ (d r : ℕ → ℕ → ℤ) (n₀ n N B : ℕ) (p : ℕ → ℕ) (off : ℕ → ℤ) (P : Map d n₀ n p off)
    (moved : (x y : ℕ → ℕ) → Sol d n₀ x → Image n p off x y → Sol r n y)
    (comes : (y : ℕ → ℕ) → Sol r n y → (x : ℕ → ℕ) × Sol d n₀ x × Image n p off x y)
    (hB : B < 1000000000) (Z : (a : ℕ) → a < n → Size (off a) B) (F : From d n₀ N B) where
  module _ (x : ℕ → ℕ) (s : Sol (tied F.raw n p off) (n + N) x) where
    link : (a : ℕ) → a < n → x a + under (off a) ≡ x (n + p a) + over (off a)
    link a ha =
        let z = Z a ha in
        let i = P.into a ha in
        let m = F.more in
        let u = subst (λ (v : ℤ). Finite v → x a + under v ≤ x (n + p a) + over v) (tied_above F.raw n p off a ha) (s.holds a (n + p a) (omega arith) (omega arith)) (omega arith) in
        let w = subst (λ (v : ℤ). Finite v → x (n + p a) + under v ≤ x a + over v) (tied_below F.raw n p off a ha) (s.holds (n + p a) a (omega arith) (omega arith)) (omega (arith, over_neg (off a), under_neg (off a))) in
        omega (arith, over_neg (off a), under_neg (off a))

    old_sol : Sol F.raw N (λ v. x (n + v))
    old_sol = record {
      zero = subst (λ (q : ℕ). x (n + q) ≡ 0) P.zero (omega (arith, link 0 P.some, s.zero, still d n₀ n p off P));
      holds = λ a b ha hb. subst (λ (v : ℤ). Finite v → x (n + a) + under v ≤ x (n + b) + over v) (tied_old F.raw n p off a b) (s.holds (n + a) (n + b) (omega arith) (omega arith));
    }

  module _ (x : ℕ → ℕ) (s : Sol r n x) where
    old : (y : ℕ → ℕ) × Sol F.raw N y × ((a : ℕ) → a < n → x a + under (off a) ≡ y (p a) + over (off a))
    old =
        let t = comes x s in
        let w = F.back t.0 t.1 in
        (w.0, w.1, λ a ha. omega (arith, t.2 a ha, w.2 (p a) (P.into a ha)))

    both_sol : Sol (tied F.raw n p off) (n + N) (both n x old.0)
    both_sol = record {
      zero = omega (arith, both_new n x old.0 0 P.some, s.zero);
      holds = λ c k hc hk. tied_ind F.raw n p off c k (λ v. Finite v → both n x old.0 c + under v ≤ both n x old.0 k + over v)
          (λ f. absurd (omega arith))
          (λ l h f. let e : k - n ≡ p c = omega arith in omega (arith, both_new n x old.0 c l, both_old n x old.0 k (omega arith), ap old.0 e, old.2 c l))
          (λ l h f. let e : c - n ≡ p k = omega arith in omega (arith, both_new n x old.0 k l, both_old n x old.0 c (omega arith), ap old.0 e, old.2 k l, over_neg (off k), under_neg (off k)))
          (λ l h f. omega (arith, both_old n x old.0 c l, both_old n x old.0 k h, old.1.holds (c - n) (k - n) (omega arith) (omega arith) f));
    }

  pub from_remap : From r n (n + N) B
  from_remap = record {
    raw = tied F.raw n p off;
    more = omega arith;
    sized = λ c k hc hk. tied_ind F.raw n p off c k (λ v. Finite v → Size v B)
        (λ f. absurd (omega arith))
        (λ l h f. Z c l)
        (λ l h f. let z = Z k l in omega (arith, over_neg (off k), under_neg (off k)))
        (λ l h. F.sized (c - n) (k - n) (omega arith) (omega arith));
    to = λ x s. moved (λ v. x (n + v)) x (F.to (λ v. x (n + v)) (old_sol x s)) (link x s);
    back = λ x s. (both n x (old x s).0, both_sol x s, λ a ha. both_new n x (old x s).0 a ha);
  }

-- ---- of the matrices as they are stored
pub remapped : (m r : List ℤ) (n₀ n : ℕ) (p : List ℕ) (off : List ℤ) → Entries m → ((a : ℕ) → a < n → var p a < 17)
    → ((a b : ℕ) → a < n → b < n → Shift (at m (var p a) (var p b)) (ent off a) (ent off b) (at r a b))
    → ((k : ℕ) → Outside n k → ent r k ≡ pos 0)
    → Closed (at m) n₀ → Map (at m) n₀ n (var p) (ent off) → Remapped m n₀ n p off r
remapped m r n₀ n p off E I U rest K P = record {
  closed = remap_closed (at m) (at r) n₀ n (var p) (ent off) K P U;
  stored = λ a b ha hb. most a b ha hb (dec_lt (over (at m (var p a) (var p b))) (1000000000 + under (at m (var p a) (var p b))));
  to = remap_to (at m) (at r) n₀ n (var p) (ent off) K P U;
  from = remap_from (at m) (at r) n₀ n (var p) (ent off) K P U;
  outside = rest;
}
  where
    most : (a b : ℕ) → a < n → b < n → Dec (Finite (at m (var p a) (var p b))) → over (at r a b) ≤ 1000000000 + under (at r a b)
    most a b ha hb (yes f) = omega (arith, ((U a b ha hb).some f).0)
    most a b ha hb (no f) = omega (arith, eq_read ((U a b ha hb).kept f), (E (var p a * 17 + var p b) (omega (arith, I a ha, I b hb))).most)

-- what `remap` and `first_broken` ask of p and off
pub ready_maps : (m : List ℤ) (n₀ n N B : ℕ) (p : List ℕ) (off : List ℤ) → Ready m n₀ N B → n₀ ≤ 17 → B ≤ 100000000 → Map (at m) n₀ n (var p) (ent off) → ((a : ℕ) → a < n → Size (ent off a) B) → Maps m n p off
ready_maps m n₀ n N B p off R h k P Z = record { n₀ = n₀; few = h; closed = R.closed; map = P; size = λ a ha. omega (arith, (Z a ha).high, (Z a ha).low) }

pub maps_index : (m : List ℤ) (n : ℕ) (p : List ℕ) (off : List ℤ) → Maps m n p off → (a : ℕ) → a < n → var p a < 17
maps_index m n p off M a ha = omega (arith, M.few, M.map.into a ha)

pub ready_remap : (m : List ℤ) (n₀ n : ℕ) (p : List ℕ) (off r : List ℤ) (N B : ℕ) → Ready m n₀ N B → (n + N) * B ≤ 300000000 → Map (at m) n₀ n (var p) (ent off)
    → ((a : ℕ) → a < n → Size (ent off a) B) → Remapped m n₀ n p off r → Ready r n (n + N) B
ready_remap m n₀ n p off r N B R small P Z x =
    let F : From (at r) n (n + N) B = from_remap (at m) (at r) n₀ n N B (var p) (ent off) P x.to x.from (omega (arith, limit n (n + N) B P.some (omega arith) small)) Z R.from in
    record {
      entries = range_entries r n (n + N) B x.stored (λ k h o. subst Entry (sym (x.outside k o)) (omega arith)) x.closed F small;
      closed = x.closed;
      from = F;
    }
