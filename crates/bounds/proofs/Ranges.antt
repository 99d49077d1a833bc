-- The range of a closed matrix: where its solutions are those of a matrix whose bounds are at most B in size, its own bounds are at most n * B. And how the range goes through `top` and `tighten`.
-- Assumes nothing.
use mathlib.Core.Path.{◌≡◌, refl, sym, ap, subst}
use mathlib.Core.List.{List}
use mathlib.Core.Logic.{◌⊎◌, inl, inr}
use Prim.Native.Nat.{ℕ, zero, suc, ◌+◌, ◌-◌, ◌*◌, ◌/◌, ◌%◌, ◌<◌, ◌≤◌}
use native.Mathlib.Omega.{arith}
use native.Mathlib.Decide.{dec_lt, dec_le, ℕ_discrete}
use lib.IntN.{ℤ}
use native.Mathlib.Nat.{mul-le-mul, le_refl}
use Rattle.meaning.specs.Numbers.{over, under}
use Rattle.bounds.specs.Matrix.{ent, at, Outside, none, Finite, Stored, Entry, Entries, Sol, Closed, Size}
use Rattle.bounds.specs.Range.{From, Ready}
use Rattle.bounds.specs.Results.{Widest, Exact}
use Rattle.bounds.proofs.Points.{pick, pick_ind, far, far_sol, far_apart}

-- ---- a sum over the numbers below n
abbrev pub tally : (ℕ → ℕ) → ℕ → ℕ
tally f zero = 0
tally f (suc n) = tally f n + f n

tally_most : (f : ℕ → ℕ) (n : ℕ) → ((k : ℕ) → f k ≤ 1) → tally f n ≤ n
tally_most f zero h = omega arith
tally_most f (suc n) h = omega (arith, tally_most f n h, h n)

tally_mono : (f g : ℕ → ℕ) (n : ℕ) → ((k : ℕ) → f k ≤ g k) → tally f n ≤ tally g n
tally_mono f g zero h = omega arith
tally_mono f g (suc n) h = omega (arith, tally_mono f g n h, h n)

tally_less : (f g : ℕ → ℕ) (n m : ℕ) → ((k : ℕ) → f k ≤ g k) → m < n → f m < g m → tally f n < tally g n
tally_less f g zero m h l s = absurd (omega arith)
tally_less f g (suc n) m h l s = go (ℕ_discrete m n) (tally_less f g n m h)
  where
    go : Dec (m ≡ n) → (m < n → f m < g m → tally f n < tally g n) → tally f (suc n) < tally g (suc n)
    go (yes e) r = let t = subst (λ (q : ℕ). f q < g q) e s in omega (arith, tally_mono f g n h)
    go (no e) r = omega (arith, r (omega arith) s, h n)

-- ---- a gap: between lo and hi a number u that is at or below no y m by B or less
find : (y : ℕ → ℕ) (B u n : ℕ) → ((m : ℕ) × (m < n) × (y m ≤ u) × (u < y m + B)) ⊎ ((m : ℕ) → m < n → (u < y m) ⊎ (y m + B ≤ u))
find y B u zero = inr (λ m h. absurd (omega arith))
find y B u (suc n) = go (find y B u n) (dec_lt u (y n)) (dec_lt u (y n + B))
  where
    last : ((m : ℕ) → m < n → (u < y m) ⊎ (y m + B ≤ u)) → (u < y n) ⊎ (y n + B ≤ u) → (m : ℕ) → m < suc n → (u < y m) ⊎ (y m + B ≤ u)
    last f g m h = at (ℕ_discrete m n)
      where
        at : Dec (m ≡ n) → (u < y m) ⊎ (y m + B ≤ u)
        at (yes e) = subst (λ (q : ℕ). (u < y q) ⊎ (y q + B ≤ u)) (sym e) g
        at (no e) = f m (omega arith)

    go : ((m : ℕ) × (m < n) × (y m ≤ u) × (u < y m + B)) ⊎ ((m : ℕ) → m < n → (u < y m) ⊎ (y m + B ≤ u)) → Dec (u < y n) → Dec (u < y n + B)
        → ((m : ℕ) × (m < suc n) × (y m ≤ u) × (u < y m + B)) ⊎ ((m : ℕ) → m < suc n → (u < y m) ⊎ (y m + B ≤ u))
    go (inl w) p q = inl (w.0, omega arith, w.2, w.3)
    go (inr f) (yes p) q = inr (last f (inl p))
    go (inr f) (no p) (yes q) = inl (n, omega arith, omega arith, q)
    go (inr f) (no p) (no q) = inr (last f (inr (omega arith)))

-- 1 where u is below y m + B
abbrev ahead : (ℕ → ℕ) → ℕ → ℕ → ℕ → ℕ
ahead y B u m = pick (dec_lt u (y m + B)) 1 0

ahead_most : (y : ℕ → ℕ) (B u m : ℕ) → ahead y B u m ≤ 1
ahead_most y B u m = pick_ind (dec_lt u (y m + B)) 1 0 (λ r. r ≤ 1) (λ p. omega arith) (λ p. omega arith)

ahead_mono : (y : ℕ → ℕ) (B u v m : ℕ) → u ≤ v → ahead y B v m ≤ ahead y B u m
ahead_mono y B u v m h = pick_ind (dec_lt v (y m + B)) 1 0 (λ r. r ≤ ahead y B u m)
    (λ p. pick_ind (dec_lt u (y m + B)) 1 0 (λ r. 1 ≤ r) (λ q. omega arith) (λ q. absurd (omega arith)))
    (λ p. omega arith)

ahead_less : (y : ℕ → ℕ) (B u m : ℕ) → u < y m + B → ahead y B (y m + B) m < ahead y B u m
ahead_less y B u m h = pick_ind (dec_lt (y m + B) (y m + B)) 1 0 (λ r. r < ahead y B u m)
    (λ p. absurd (omega arith))
    (λ p. pick_ind (dec_lt u (y m + B)) 1 0 (λ r. 0 < r) (λ q. omega arith) (λ q. absurd (omega arith)))

pub record Gap (y : ℕ → ℕ) (n B lo hi : ℕ) : Type 0 where
  pub u : ℕ
  pub above : lo ≤ u
  pub below : u < hi
  pub clear : (m : ℕ) → m < n → (u < y m) ⊎ (y m + B ≤ u)

greedy : (y : ℕ → ℕ) (n B hi k u : ℕ) → tally (ahead y B u) n ≤ k → u + k * B < hi → Gap y n B u hi
greedy y n B hi zero u t h = go (find y B u n)
  where
    go : ((m : ℕ) × (m < n) × (y m ≤ u) × (u < y m + B)) ⊎ ((m : ℕ) → m < n → (u < y m) ⊎ (y m + B ≤ u)) → Gap y n B u hi
    go (inl w) = absurd (omega (arith, tally_less (ahead y B (y w.0 + B)) (ahead y B u) n w.0 (λ k. ahead_mono y B u (y w.0 + B) k (omega arith)) w.1 (ahead_less y B u w.0 w.3)))
    go (inr f) = record { u = u; above = omega arith; below = omega arith; clear = f }
greedy y n B hi (suc k) u t h = go (find y B u n) (greedy y n B hi k)
  where
    go : ((m : ℕ) × (m < n) × (y m ≤ u) × (u < y m + B)) ⊎ ((m : ℕ) → m < n → (u < y m) ⊎ (y m + B ≤ u))
        → ((u : ℕ) → tally (ahead y B u) n ≤ k → u + k * B < hi → Gap y n B u hi) → Gap y n B u hi
    go (inl w) r =
        let l = tally_less (ahead y B (y w.0 + B)) (ahead y B u) n w.0 (λ k. ahead_mono y B u (y w.0 + B) k (omega arith)) w.1 (ahead_less y B u w.0 w.3) in
        let g = r (y w.0 + B) (omega arith) (omega arith) in
        record { u = g.u; above = omega (arith, g.above); below = g.below; clear = g.clear }
    go (inr f) r = record { u = u; above = omega arith; below = omega arith; clear = f }

pub gap : (y : ℕ → ℕ) (n B lo hi : ℕ) → lo + n * B < hi → Gap y n B lo hi
gap y n B lo hi h = greedy y n B hi n lo (tally_most (ahead y B lo) n (ahead_most y B lo)) h

-- ---- every variable above u moved by 1, over a gap
abbrev raise : (ℕ → ℕ) → ℕ → ℕ → ℕ
raise y u k = pick (dec_lt u (y k)) (y k + 1) (y k)

abbrev lower : (ℕ → ℕ) → ℕ → ℕ → ℕ
lower y u k = pick (dec_lt u (y k)) (y k - 1) (y k)

module _ (e : ℕ → ℕ → ℤ) (n B : ℕ) (sized : (a b : ℕ) → a < n → b < n → Finite (e a b) → Size (e a b) B)
    (y : ℕ → ℕ) (s : Sol e n y) (u : ℕ) (clear : (m : ℕ) → m < n → (u < y m) ⊎ (y m + B ≤ u)) where
  clear_below : (m : ℕ) → m < n → (u < y m → ⊥) → y m + B ≤ u
  clear_below m h f = go (clear m h)
    where
      go : (u < y m) ⊎ (y m + B ≤ u) → y m + B ≤ u
      go (inl p) = absurd (f p)
      go (inr p) = p

  raise_sol : Sol e n (raise y u)
  raise_sol = record {
    zero = let z = s.zero in pick_ind (dec_lt u (y 0)) _ _ (λ r. r ≡ 0) (λ p. absurd (omega arith)) (λ p. z);
    holds = λ a b ha hb f.
        let h = s.holds a b ha hb f in
        let z = (sized a b ha hb f).high in
        pick_ind (dec_lt u (y a)) _ _ (λ r. r + under (e a b) ≤ raise y u b + over (e a b))
        (λ p. pick_ind (dec_lt u (y b)) _ _ (λ r. y a + 1 + under (e a b) ≤ r + over (e a b))
        (λ q. omega arith) (λ q. omega (arith, clear_below b hb q)))
        (λ p. pick_ind (dec_lt u (y b)) _ _ (λ r. y a + under (e a b) ≤ r + over (e a b))
        (λ q. omega arith) (λ q. h));
  }

  lower_sol : Sol e n (lower y u)
  lower_sol = record {
    zero = let z = s.zero in pick_ind (dec_lt u (y 0)) _ _ (λ r. r ≡ 0) (λ p. absurd (omega arith)) (λ p. z);
    holds = λ a b ha hb f.
        let h = s.holds a b ha hb f in
        let z = (sized a b ha hb f).low in
        pick_ind (dec_lt u (y a)) _ _ (λ r. r + under (e a b) ≤ lower y u b + over (e a b))
        (λ p. pick_ind (dec_lt u (y b)) _ _ (λ r. y a - 1 + under (e a b) ≤ r + over (e a b))
        (λ q. omega arith) (λ q. omega arith))
        (λ p. pick_ind (dec_lt u (y b)) _ _ (λ r. y a + under (e a b) ≤ r + over (e a b))
        (λ q. omega (arith, clear_below a ha p)) (λ q. h));
  }

-- ---- the range
module _ (d : ℕ → ℕ → ℤ) (n N B : ℕ) (K : Closed d n) (F : From d n N B) (a b : ℕ) (ha : a < n) (hb : b < n) (f : Finite (d a b)) where
  module _ (y : ℕ → ℕ) (s : Sol F.raw N y) (tight : y b + over (d a b) ≤ y a + under (d a b)) where
    too_high : N * B + under (d a b) < over (d a b) → ⊥
    too_high l =
        let g = gap y N B (y b) (y a) (omega (arith, (F.to y s).holds a b ha hb f)) in
        let above = g.above in
        let below = g.below in
        let r = (F.to _ (raise_sol F.raw N B F.sized y s g.u g.clear)).holds a b ha hb f in
        absurd (pick_ind (dec_lt g.u (y a)) _ _ (λ r. r + under (d a b) ≤ raise y g.u b + over (d a b) → ⊥)
        (λ p. pick_ind (dec_lt g.u (y b)) _ _ (λ r. y a + 1 + under (d a b) ≤ r + over (d a b) → ⊥)
        (λ q. absurd (omega arith)) (λ q h. omega arith))
        (λ p. absurd (p below)) r)

    too_low : N * B + over (d a b) < under (d a b) → ⊥
    too_low l =
        let g = gap y N B (y a) (y b) (omega (arith, (F.to y s).holds a b ha hb f)) in
        let above = g.above in
        let below = g.below in
        let r = (F.to _ (lower_sol F.raw N B F.sized y s g.u g.clear)).holds a b ha hb f in
        absurd (pick_ind (dec_lt g.u (y a)) _ _ (λ r. r + under (d a b) ≤ lower y g.u b + over (d a b) → ⊥)
        (λ p. absurd (omega arith))
        (λ p. pick_ind (dec_lt g.u (y b)) _ _ (λ r. y a + under (d a b) ≤ r + over (d a b) → ⊥)
        (λ q h. omega arith) (λ q. absurd (q below))) r)

  -- a solution in which a is as far above b as it may be
  far_back : (y : ℕ → ℕ) × Sol F.raw N y × (y b + over (d a b) ≤ y a + under (d a b))
  far_back =
      let w = F.back (far d a b (d a b)) (far_sol d n a b (d a b) K ha hb (λ _. omega arith)) in
      let p = w.2 a ha in
      let q = w.2 b hb in
      let h = far_apart d n a b (d a b) K ha hb (λ _. omega arith) in
      (w.0, w.1, rw (p, q) h)

  pub range : Size (d a b) (N * B)
  range = record { high = high (dec_le (over (d a b)) (N * B + under (d a b))); low = low (dec_le (under (d a b)) (N * B + over (d a b))) }
    where
      high : Dec (over (d a b) ≤ N * B + under (d a b)) → over (d a b) ≤ N * B + under (d a b)
      high (yes p) = p
      high (no p) = let w = far_back in absurd (too_high w.0 w.1 w.2 (omega arith))

      low : Dec (under (d a b) ≤ N * B + over (d a b)) → under (d a b) ≤ N * B + over (d a b)
      low (yes p) = p
      low (no p) = let w = far_back in absurd (too_low w.0 w.1 w.2 (omega arith))

-- a matrix whose bounds are at most B in size comes from itself
pub own : (d : ℕ → ℕ → ℤ) (n B : ℕ) → ((a b : ℕ) → a < n → b < n → Finite (d a b) → Size (d a b) B) → From d n n B
own d n B h = record { raw = d; more = omega arith; sized = h; to = λ x s. s; back = λ x s. (x, s, λ a ha. refl) }

-- the claim in plain words: e has bounds of at most B, and the solutions of d; then the bounds of d are at most n * B
pub range_plain : (d e : ℕ → ℕ → ℤ) (n B : ℕ) → Closed d n
    → ((a b : ℕ) → a < n → b < n → Finite (e a b) → Size (e a b) B)
    → ((x : ℕ → ℕ) → Sol e n x → Sol d n x)
    → ((x : ℕ → ℕ) → Sol d n x → Sol e n x)
    → (a b : ℕ) → a < n → b < n → Finite (d a b) → Size (d a b) (n * B)
range_plain d e n B K z to back = range d n n B K (record { raw = e; more = omega arith; sized = z; to = to; back = λ x s. (x, back x s, λ a ha. refl) })

-- a larger limit
pub from_more : (d : ℕ → ℕ → ℤ) (n N B B' : ℕ) → B ≤ B' → From d n N B → From d n N B'
from_more d n N B B' h F = record {
  raw = F.raw;
  more = F.more;
  sized = λ a b ha hb f. let z = F.sized a b ha hb f in omega arith;
  to = F.to;
  back = F.back;
}

-- ---- one more bound: the raw matrix with the least of c and what stands there at i, j
abbrev pub pick_z : {P : Type 0} → Dec P → ℤ → ℤ → ℤ
pick_z (yes p) a b = a
pick_z (no p) a b = b

pub pick_z_ind : {P : Type 0} (t : Dec P) (a b : ℤ) (Q : ℤ → Type 0) → (P → Q a) → ((P → ⊥) → Q b) → Q (pick_z t a b)
pick_z_ind (yes p) a b Q f g = f p
pick_z_ind (no p) a b Q f g = g p

abbrev joined : (ℕ → ℕ → ℤ) → ℕ → ℕ → ℤ → ℕ → ℕ → ℤ
joined e i j c a b = pick_z (ℕ_discrete a i) (pick_z (ℕ_discrete b j) (pick_z (dec_lt (over c + under (e a b)) (over (e a b) + under c)) c (e a b)) (e a b)) (e a b)

module _ (e : ℕ → ℕ → ℤ) (i j : ℕ) (c : ℤ) where
  joined_ind : (a b : ℕ) (Q : ℤ → Type 0)
      → (a ≡ i → b ≡ j → over c + under (e a b) < over (e a b) + under c → Q c)
      → ((a ≡ i → b ≡ j → over (e a b) + under c ≤ over c + under (e a b)) → Q (e a b))
      → Q (joined e i j c a b)
  joined_ind a b Q f g = pick_z_ind (ℕ_discrete a i) _ _ Q
      (λ p. pick_z_ind (ℕ_discrete b j) _ _ Q
      (λ q. pick_z_ind (dec_lt (over c + under (e a b)) (over (e a b) + under c)) _ _ Q (λ l. f p q l) (λ l. g (λ _ _. omega arith)))
      (λ q. g (λ _ r. absurd (q r))))
      (λ p. g (λ r _. absurd (p r)))

pub from_tight : (d r : ℕ → ℕ → ℤ) (n i j : ℕ) (c : ℤ) (N B : ℕ) → i < n → j < n → Finite c
    → ((x : ℕ → ℕ) → Sol r n x → Sol d n x × (x i + under c ≤ x j + over c))
    → ((x : ℕ → ℕ) → Sol d n x → x i + under c ≤ x j + over c → Sol r n x)
    → From d n N B → Size c B → From r n N B
from_tight d r n i j c N B hi hj fc sound whole F z = record {
  raw = joined e i j c;
  more = F.more;
  sized = λ a b ha hb. joined_ind e i j c a b (λ v. Finite v → Size v B) (λ p q l f. z) (λ k. F.sized a b ha hb);
  to = λ x s. whole x (F.to x (record {
    zero = s.zero;
    holds = λ a b ha hb f. joined_ind e i j c a b (λ v. (Finite v → x a + under v ≤ x b + over v) → x a + under (e a b) ≤ x b + over (e a b))
        (λ p q l h. omega (arith, h fc)) (λ k h. h f) (s.holds a b ha hb);
  }))
      (joined_ind e i j c i j (λ v. (Finite v → x i + under v ≤ x j + over v) → x i + under c ≤ x j + over c)
      (λ p q l h. h fc) (λ k h. let l = k refl refl in omega (arith, h (omega arith))) (s.holds i j (omega (arith, F.more)) (omega (arith, F.more))));
  back = λ x s.
      let t = sound x s in
      let w = F.back x t.0 in
      let y = w.0 in
      let u = w.1 in
      let yi = w.2 i hi in
      let yj = w.2 j hj in (
        y,
        record {
          zero = u.zero;
          holds = λ a b ha hb. joined_ind e i j c a b (λ v. Finite v → y a + under v ≤ y b + over v)
              (λ p q l f. omega (arith, t.1, ap y p, ap y q)) (λ k. u.holds a b ha hb);
        },
        w.2,
      );
}
  where
    e : ℕ → ℕ → ℤ
    e = F.raw

-- ---- what is stored: a closed matrix with such an origin may be tightened, moved and read
pub range_entries : (r : List ℤ) (n N B : ℕ)
    → ((a b : ℕ) → a < n → b < n → Stored (at r a b))
    → ((k : ℕ) → k < 289 → Outside n k → Entry (ent r k))
    → Closed (at r) n → From (at r) n N B → N * B ≤ 300000000 → Entries r
range_entries r n N B most rest K F small k h = go (dec_lt (k / 17) n) (dec_lt (k % 17) n)
  where
    here : (a b : ℕ) → a < n → b < n → Entry (at r a b)
    here a b ha hb = entry (dec_lt (over (at r a b)) (1000000000 + under (at r a b)))
      where
        entry : Dec (Finite (at r a b)) → Entry (at r a b)
        entry (yes f) = let z = range (at r) n N B K F a b ha hb f in record { most = omega arith; high = λ _. omega (arith, z.high); low = omega (arith, z.low) }
        entry (no f) = record { most = most a b ha hb; high = λ g. absurd (f g); low = omega arith }

    go : Dec (k / 17 < n) → Dec (k % 17 < n) → Entry (ent r k)
    go (yes p) (yes q) =
        let e : k / 17 * 17 + k % 17 ≡ k = omega arith in
        subst (λ (s : ℕ). Entry (ent r s)) e (here (k / 17) (k % 17) p q)
    go (yes p) (no q) = rest k h (inr (omega arith))
    go (no p) q = rest k h (inl (omega arith))

-- a bound's limit, where there is a variable at all
pub limit : (n N B : ℕ) → 0 < n → n ≤ N → N * B ≤ 300000000 → B ≤ 300000000
limit n N B h m small = let one : 1 ≤ N = omega arith in omega (arith, mul-le-mul one (le_refl B), small)

-- document 01's numbers, and ten times its bounds, are small enough for many stages
pub room : (N B : ℕ) → N ≤ 400 → B ≤ 640002 → N * B ≤ 300000000
room N B h k = omega (arith, mul-le-mul h k)

pub ready_top : (r : List ℤ) (n B : ℕ) → Widest r → 0 < n → n ≤ 17 → Ready r n n B
ready_top r n B w h₀ hn = record {
  entries = w.entries;
  closed = record {
    some = h₀;
    diag = λ a ha. w.closed.diag a (omega arith);
    tri = λ a k b ha hk hb. w.closed.tri a k b (omega arith) (omega arith) (omega arith);
    row = λ b hb. w.closed.row b (omega arith);
  };
  from = record {
    raw = λ a b. none;
    more = omega arith;
    sized = λ a b ha hb f. absurd (omega arith);
    to = λ x s. let t = w.all x s.zero in record { zero = s.zero; holds = λ a b ha hb. t.holds a b (omega arith) (omega arith) };
    back = λ x s. (x, record { zero = s.zero; holds = λ a b ha hb f. absurd (omega arith) }, λ a ha. refl);
  };
}

-- the size that `tighten` asks of its bound
pub ready_size : (m : List ℤ) (n N B : ℕ) (c : ℤ) → Ready m n N B → N * B ≤ 300000000 → Size c B → Size c 300000000
ready_size m n N B c R small z = omega (arith, limit n N B R.closed.some R.from.more small, z.high, z.low)

pub ready_tighten : (m : List ℤ) (n i j : ℕ) (c : ℤ) (r : List ℤ) (N B : ℕ) → i < n → j < n → Ready m n N B → N * B ≤ 300000000 → Size c B → Exact m n i j c r → Ready r n N B
ready_tighten m n i j c r N B hi hj R small z x =
    let s = ready_size m n N B c R small z in
    let F = from_tight (at m) (at r) n i j c N B hi hj (omega arith) x.sound x.whole R.from z in
    record {
      entries = range_entries r n N B x.stored (λ k h o. subst Entry (sym (x.outside k o)) (R.entries k h)) x.closed F small;
      closed = x.closed;
      from = F;
    }
