-- Tick, finish, reset and insertion are instances of one map: what each asks of p and off, that they take every solution to values not below 0, and what the image is. With n clocks, clocks are variables 1 to n; queue position k, from 1 on, has its running sum at n + 2k − 1 and its age at n + 2k.
-- Assumes nothing.
use mathlib.Core.Path.{◌≡◌, refl, sym, ◌∙◌, ap, subst}
use mathlib.Core.Bool.{Bool, true, false}
use Prim.Native.Nat.{ℕ, ◌+◌, ◌-◌, ◌*◌, ◌/◌, ◌%◌, ◌<◌, ◌≤◌}
use native.Mathlib.Omega.{arith}
use native.Mathlib.Decide.{dec_lt, dec_le, ℕ_discrete}
use lib.IntN.{ℤ, pos, ◌-ℤ◌}
use Rattle.meaning.specs.Numbers.{over, under}
use Rattle.bounds.specs.Matrix.{Sol, Closed}
use Rattle.bounds.specs.Images.{Map, Image}
use Rattle.bounds.proofs.Signed.{eq_read, diff_law}

-- how many variables n clocks and q jobs have
abbrev pub vars : ℕ → ℕ → ℕ
vars n q = 1 + n + 2 * q

-- the variables of queue position k
abbrev pub sum_of : ℕ → ℕ → ℕ
sum_of n k = n + 2 * k - 1

abbrev pub age_of : ℕ → ℕ → ℕ
age_of n k = n + 2 * k

-- maps that agree on the first variables are one map
pub same_map : (d : ℕ → ℕ → ℤ) (n₀ n : ℕ) (p p' : ℕ → ℕ) (off off' : ℕ → ℤ) → ((a : ℕ) → a < n → p a ≡ p' a) → ((a : ℕ) → a < n → off a ≡ off' a)
    → Map d n₀ n p off → Map d n₀ n p' off'
same_map d n₀ n p p' off off' e f P = record {
  some = P.some;
  into = λ a ha. omega (arith, e a ha, P.into a ha);
  zero = sym (e 0 P.some) ∙ P.zero;
  still = sym (f 0 P.some) ∙ P.still;
  stays = λ x s a ha. omega (arith, P.stays x s a ha, ap x (e a ha), eq_read (f a ha));
}

-- ---- tick: all variables but 0 grow by 1
pub record TickMap (v : ℕ) (p : ℕ → ℕ) (off : ℕ → ℤ) : Type 0 where
  pub same : (a : ℕ) → a < v → p a ≡ a
  pub zero : off 0 ≡ pos 0
  pub one : (a : ℕ) → 0 < a → a < v → off a ≡ pos 1

pub record Ticked (v : ℕ) (x y : ℕ → ℕ) : Type 0 where
  pub zero : y 0 ≡ 0
  pub grown : (a : ℕ) → 0 < a → a < v → y a ≡ x a + 1

module _ (d : ℕ → ℕ → ℤ) (v : ℕ) (p : ℕ → ℕ) (off : ℕ → ℤ) (K : Closed d v) (M : TickMap v p off) where
  tick_off : (a : ℕ) → a < v → (a ≡ 0 → over (off a) ≡ under (off a)) × (0 < a → over (off a) ≡ under (off a) + 1)
  tick_off a ha = (
    (λ e. let q = eq_read (ap off e) in omega (arith, eq_read M.zero)),
    (λ l. omega (arith, eq_read (M.one a l ha))),
  )

  pub tick_map : Map d v v p off
  tick_map = record {
    some = K.some;
    into = λ a ha. omega (arith, M.same a ha);
    zero = M.same 0 K.some;
    still = M.zero;
    stays = λ x s a ha. stays' x a ha (dec_lt 0 a);
  }
    where
      stays' : (x : ℕ → ℕ) (a : ℕ) → a < v → Dec (0 < a) → under (off a) ≤ x (p a) + over (off a)
      stays' x a ha (yes l) = omega (arith, (tick_off a ha).1 l)
      stays' x a ha (no l) = omega (arith, (tick_off a ha).0 (omega arith))

  pub tick_image : (x y : ℕ → ℕ) → x 0 ≡ 0 → Ticked v x y → Image v p off x y
  tick_image x y z t a ha = go (dec_lt 0 a)
    where
      go : Dec (0 < a) → y a + under (off a) ≡ x (p a) + over (off a)
      go (yes l) = omega (arith, (tick_off a ha).1 l, ap x (M.same a ha), t.grown a l ha)
      go (no l) = let e : a ≡ 0 = omega arith in omega (arith, (tick_off a ha).0 e, ap x (M.same a ha), ap x e, ap y e, z, t.zero)

  pub image_tick : (x y : ℕ → ℕ) → x 0 ≡ 0 → Image v p off x y → Ticked v x y
  image_tick x y z i = record {
    zero = omega (arith, i 0 K.some, (tick_off 0 K.some).0 refl, ap x (M.same 0 K.some), z);
    grown = λ a l ha. omega (arith, i a ha, (tick_off a ha).1 l, ap x (M.same a ha));
  }

-- ---- reset: the new value of each clock named is that of variable 0
pub record ResetMap (v : ℕ) (named : ℕ → Bool) (p : ℕ → ℕ) (off : ℕ → ℤ) : Type 0 where
  pub back : (a : ℕ) → a < v → named a ≡ true → p a ≡ 0
  pub same : (a : ℕ) → a < v → named a ≡ false → p a ≡ a
  pub still : (a : ℕ) → a < v → off a ≡ pos 0

pub record Cleared (v : ℕ) (named : ℕ → Bool) (x y : ℕ → ℕ) : Type 0 where
  pub back : (a : ℕ) → a < v → named a ≡ true → y a ≡ 0
  pub kept : (a : ℕ) → a < v → named a ≡ false → y a ≡ x a

module _ (d : ℕ → ℕ → ℤ) (v : ℕ) (named : ℕ → Bool) (p : ℕ → ℕ) (off : ℕ → ℤ) (K : Closed d v) (M : ResetMap v named p off) where
  reset_into : (a : ℕ) → a < v → (t : Bool) → named a ≡ t → p a < v
  reset_into a ha true e = omega (arith, M.back a ha e, K.some)
  reset_into a ha false e = omega (arith, M.same a ha e)

  reset_zero : (t : Bool) → named 0 ≡ t → p 0 ≡ 0
  reset_zero true e = M.back 0 K.some e
  reset_zero false e = M.same 0 K.some e

  pub reset_map : Map d v v p off
  reset_map = record {
    some = K.some;
    into = λ a ha. reset_into a ha (named a) refl;
    zero = reset_zero (named 0) refl;
    still = M.still 0 K.some;
    stays = λ x s a ha. omega (arith, eq_read (M.still a ha));
  }

  pub reset_image : (x y : ℕ → ℕ) → x 0 ≡ 0 → Cleared v named x y → Image v p off x y
  reset_image x y z t a ha = go (named a) refl
    where
      go : (b : Bool) → named a ≡ b → y a + under (off a) ≡ x (p a) + over (off a)
      go true e = omega (arith, eq_read (M.still a ha), ap x (M.back a ha e), t.back a ha e, z)
      go false e = omega (arith, eq_read (M.still a ha), ap x (M.same a ha e), t.kept a ha e)

  pub image_reset : (x y : ℕ → ℕ) → x 0 ≡ 0 → Image v p off x y → Cleared v named x y
  image_reset x y z i = record {
    back = λ a ha e. omega (arith, i a ha, eq_read (M.still a ha), ap x (M.back a ha e), z);
    kept = λ a ha e. omega (arith, i a ha, eq_read (M.still a ha), ap x (M.same a ha e));
  }

-- ---- a variable is 0, a clock, a running sum or an age
pub data Kind (n q a : ℕ) : Type 0 where
  zeroth : a ≡ 0 → Kind n q a
  clock : 0 < a → a ≤ n → Kind n q a
  sum : (k : ℕ) → 1 ≤ k → k ≤ q → a ≡ sum_of n k → Kind n q a
  age : (k : ℕ) → 1 ≤ k → k ≤ q → a ≡ age_of n k → Kind n q a

pub kind : (n q a : ℕ) → a < vars n q → Kind n q a
kind n q a h = go (ℕ_discrete a 0) (dec_le a n) (ℕ_discrete ((a - n) % 2) 0)
  where
    go : Dec (a ≡ 0) → Dec (a ≤ n) → Dec ((a - n) % 2 ≡ 0) → Kind n q a
    go (yes e) l t = zeroth e
    go (no e) (yes l) t = clock (omega arith) l
    go (no e) (no l) (yes t) = age ((a - n) / 2) (omega arith) (omega arith) (omega arith)
    go (no e) (no l) (no t) = sum ((a - n) / 2 + 1) (omega arith) (omega arith) (omega arith)

-- ---- finish: all grow by 1, the head's two variables go, the others move two down, and C is taken from every other running sum; ages are kept
pub record FinishMap (n q C : ℕ) (p : ℕ → ℕ) (off : ℕ → ℤ) : Type 0 where
  pub low : (a : ℕ) → a ≤ n → p a ≡ a
  pub high : (a : ℕ) → n < a → a < vars n q → p a ≡ a + 2
  pub zero : off 0 ≡ pos 0
  pub clocks : (a : ℕ) → 0 < a → a ≤ n → off a ≡ pos 1
  pub sums : (k : ℕ) → 1 ≤ k → k ≤ q → off (sum_of n k) ≡ pos 1 -ℤ pos C
  pub ages : (k : ℕ) → 1 ≤ k → k ≤ q → off (age_of n k) ≡ pos 1

pub record Finished (n q C : ℕ) (x y : ℕ → ℕ) : Type 0 where
  pub zero : y 0 ≡ 0
  pub clocks : (a : ℕ) → 0 < a → a ≤ n → y a ≡ x a + 1
  pub sums : (k : ℕ) → 1 ≤ k → k ≤ q → y (sum_of n k) + C ≡ x (sum_of n (k + 1)) + 1
  pub ages : (k : ℕ) → 1 ≤ k → k ≤ q → y (age_of n k) ≡ x (age_of n (k + 1)) + 1

-- the head's sum reaches C with this tick, and no running sum is below that of the head
module _ (d : ℕ → ℕ → ℤ) (n q C : ℕ) (p : ℕ → ℕ) (off : ℕ → ℤ) (K : Closed d (vars n (q + 1))) (M : FinishMap n q C p off)
    (reaches : (x : ℕ → ℕ) → Sol d (vars n (q + 1)) x → C ≤ x (sum_of n 1) + 1)
    (rising : (x : ℕ → ℕ) → Sol d (vars n (q + 1)) x → (k : ℕ) → 1 ≤ k → k ≤ q → x (sum_of n 1) ≤ x (sum_of n (k + 1))) where
  finish_clock : (a : ℕ) → 0 < a → a ≤ n → over (off a) ≡ under (off a) + 1
  finish_clock a l h = omega (arith, eq_read (M.clocks a l h))

  finish_sum : (k : ℕ) → 1 ≤ k → k ≤ q → (p (sum_of n k) ≡ sum_of n (k + 1)) × (over (off (sum_of n k)) + C ≡ under (off (sum_of n k)) + 1)
  finish_sum k l h = (omega (arith, M.high (sum_of n k) (omega arith) (omega arith)), omega (arith, eq_read (M.sums k l h), diff_law (pos 1) (pos C)))

  finish_age : (k : ℕ) → 1 ≤ k → k ≤ q → (p (age_of n k) ≡ age_of n (k + 1)) × (over (off (age_of n k)) ≡ under (off (age_of n k)) + 1)
  finish_age k l h = (omega (arith, M.high (age_of n k) (omega arith) (omega arith)), omega (arith, eq_read (M.ages k l h)))

  pub finish_map : Map d (vars n (q + 1)) (vars n q) p off
  finish_map = record {
    some = omega arith;
    into = λ a ha. into' a ha (dec_le a n);
    zero = M.low 0 (omega arith);
    still = M.zero;
    stays = λ x s a ha. stays' x s a (kind n q a ha);
  }
    where
      into' : (a : ℕ) → a < vars n q → Dec (a ≤ n) → p a < vars n (q + 1)
      into' a ha (yes l) = omega (arith, M.low a l)
      into' a ha (no l) = omega (arith, M.high a (omega arith) ha)

      stays' : (x : ℕ → ℕ) → Sol d (vars n (q + 1)) x → (a : ℕ) → Kind n q a → under (off a) ≤ x (p a) + over (off a)
      stays' x s a (zeroth e) = omega (arith, eq_read (ap off e), eq_read M.zero)
      stays' x s a (clock l h) = omega (arith, finish_clock a l h)
      stays' x s a (sum k l h e) =
          let z = finish_sum k l h in
          let g : under (off (sum_of n k)) ≤ x (p (sum_of n k)) + over (off (sum_of n k)) = omega (arith, reaches x s, rising x s k l h, ap x z.0, z.1) in
          subst (λ (b : ℕ). under (off b) ≤ x (p b) + over (off b)) (sym e) g
      stays' x s a (age k l h e) =
          let z = finish_age k l h in
          let g : under (off (age_of n k)) ≤ x (p (age_of n k)) + over (off (age_of n k)) = omega (arith, z.1) in
          subst (λ (b : ℕ). under (off b) ≤ x (p b) + over (off b)) (sym e) g

  pub finish_image : (x y : ℕ → ℕ) → x 0 ≡ 0 → Finished n q C x y → Image (vars n q) p off x y
  finish_image x y z t a ha = go (kind n q a ha)
    where
      go : Kind n q a → y a + under (off a) ≡ x (p a) + over (off a)
      go (zeroth e) = subst (λ (b : ℕ). y b + under (off b) ≡ x (p b) + over (off b)) (sym e) (omega (arith, eq_read M.zero, ap x (M.low 0 (omega arith)), z, t.zero))
      go (clock l h) = omega (arith, finish_clock a l h, ap x (M.low a h), t.clocks a l h)
      go (sum k l h e) =
          let w = finish_sum k l h in
          subst (λ (b : ℕ). y b + under (off b) ≡ x (p b) + over (off b)) (sym e) (omega (arith, w.1, ap x w.0, t.sums k l h))
      go (age k l h e) =
          let w = finish_age k l h in
          subst (λ (b : ℕ). y b + under (off b) ≡ x (p b) + over (off b)) (sym e) (omega (arith, w.1, ap x w.0, t.ages k l h))

  pub image_finish : (x y : ℕ → ℕ) → x 0 ≡ 0 → Image (vars n q) p off x y → Finished n q C x y
  image_finish x y z i = record {
    zero = omega (arith, i 0 (omega arith), eq_read M.zero, ap x (M.low 0 (omega arith)), z);
    clocks = λ a l h. omega (arith, i a (omega arith), finish_clock a l h, ap x (M.low a h));
    sums = λ k l h. let w = finish_sum k l h in omega (arith, i (sum_of n k) (omega arith), w.1, ap x w.0);
    ages = λ k l h. let w = finish_age k l h in omega (arith, i (age_of n k) (omega arith), w.1, ap x w.0);
  }

-- ---- insertion at position k: the new job's running sum is that of the job just ahead, or variable 0 as head; its age is variable 0; later jobs move two up
pub record InsertMap (n q k : ℕ) (p : ℕ → ℕ) (off : ℕ → ℤ) : Type 0 where
  pub same : (a : ℕ) → a < sum_of n k → p a ≡ a
  pub head : k ≡ 1 → p (sum_of n k) ≡ 0
  pub ahead : 1 < k → p (sum_of n k) ≡ sum_of n (k - 1)
  pub age : p (age_of n k) ≡ 0
  pub later : (a : ℕ) → age_of n k < a → a < vars n (q + 1) → p a ≡ a - 2
  pub still : (a : ℕ) → a < vars n (q + 1) → off a ≡ pos 0

pub record Inserted (n q k : ℕ) (x y : ℕ → ℕ) : Type 0 where
  pub same : (a : ℕ) → a < sum_of n k → y a ≡ x a
  pub head : k ≡ 1 → y (sum_of n k) ≡ 0
  pub ahead : 1 < k → y (sum_of n k) ≡ x (sum_of n (k - 1))
  pub age : y (age_of n k) ≡ 0
  pub sums : (l : ℕ) → k ≤ l → l ≤ q → y (sum_of n (l + 1)) ≡ x (sum_of n l)
  pub ages : (l : ℕ) → k ≤ l → l ≤ q → y (age_of n (l + 1)) ≡ x (age_of n l)

-- where variable a stands to position k
data Side (n q k a : ℕ) : Type 0 where
  below : a < sum_of n k → Side n q k a
  first : k ≡ 1 → a ≡ sum_of n k → Side n q k a
  behind : 1 < k → a ≡ sum_of n k → Side n q k a
  new : a ≡ age_of n k → Side n q k a
  above : age_of n k < a → Side n q k a

side : (n q k a : ℕ) → 1 ≤ k → Side n q k a
side n q k a h = go (dec_lt a (sum_of n k)) (ℕ_discrete a (sum_of n k)) (ℕ_discrete a (age_of n k)) (ℕ_discrete k 1)
  where
    go : Dec (a < sum_of n k) → Dec (a ≡ sum_of n k) → Dec (a ≡ age_of n k) → Dec (k ≡ 1) → Side n q k a
    go (yes l) s t u = below l
    go (no l) (yes s) t (yes u) = first u s
    go (no l) (yes s) t (no u) = behind (omega arith) s
    go (no l) (no s) (yes t) u = new t
    go (no l) (no s) (no t) u = above (omega arith)

module _ (d : ℕ → ℕ → ℤ) (n q k : ℕ) (p : ℕ → ℕ) (off : ℕ → ℤ) (h₁ : 1 ≤ k) (hq : k ≤ q + 1) (K : Closed d (vars n q)) (M : InsertMap n q k p off) where
  pub insert_map : Map d (vars n q) (vars n (q + 1)) p off
  insert_map = record {
    some = omega arith;
    into = λ a ha. into' a ha (side n q k a h₁);
    zero = M.same 0 (omega arith);
    still = M.still 0 (omega arith);
    stays = λ x s a ha. omega (arith, eq_read (M.still a ha));
  }
    where
      into' : (a : ℕ) → a < vars n (q + 1) → Side n q k a → p a < vars n q
      into' a ha (below l) = omega (arith, M.same a l)
      into' a ha (first u e) = omega (arith, ap p e, M.head u)
      into' a ha (behind u e) = omega (arith, ap p e, M.ahead u)
      into' a ha (new e) = omega (arith, ap p e, M.age)
      into' a ha (above l) = omega (arith, M.later a l ha)

  pub insert_image : (x y : ℕ → ℕ) → x 0 ≡ 0 → Inserted n q k x y → Image (vars n (q + 1)) p off x y
  insert_image x y z t a ha = go (side n q k a h₁)
    where
      o : over (off a) ≡ under (off a)
      o = omega (arith, eq_read (M.still a ha))

      later : Kind n (q + 1) a → age_of n k < a → y a ≡ x (a - 2)
      later (zeroth e) g = absurd (omega arith)
      later (clock u e) g = absurd (omega arith)
      later (sum j u w e) g =
          let e₁ : a ≡ sum_of n (j - 1 + 1) = omega arith in
          let e₂ : a - 2 ≡ sum_of n (j - 1) = omega arith in
          omega (arith, ap y e₁, ap x e₂, t.sums (j - 1) (omega arith) (omega arith))
      later (age j u w e) g =
          let e₁ : a ≡ age_of n (j - 1 + 1) = omega arith in
          let e₂ : a - 2 ≡ age_of n (j - 1) = omega arith in
          omega (arith, ap y e₁, ap x e₂, t.ages (j - 1) (omega arith) (omega arith))

      go : Side n q k a → y a + under (off a) ≡ x (p a) + over (off a)
      go (below l) = omega (arith, o, ap x (M.same a l), t.same a l)
      go (first u e) = omega (arith, o, ap y e, ap x (ap p e ∙ M.head u), t.head u, z)
      go (behind u e) = omega (arith, o, ap y e, ap x (ap p e ∙ M.ahead u), t.ahead u)
      go (new e) = omega (arith, o, ap y e, ap x (ap p e ∙ M.age), t.age, z)
      go (above l) = omega (arith, o, ap x (M.later a l ha), later (kind n (q + 1) a ha) l)

  pub image_insert : (x y : ℕ → ℕ) → x 0 ≡ 0 → Image (vars n (q + 1)) p off x y → Inserted n q k x y
  image_insert x y z i = record {
    same = λ a l. omega (arith, o a (omega arith), i a (omega arith), ap x (M.same a l));
    head = λ u. omega (arith, o (sum_of n k) (omega arith), i (sum_of n k) (omega arith), ap x (M.head u), z);
    ahead = λ u. omega (arith, o (sum_of n k) (omega arith), i (sum_of n k) (omega arith), ap x (M.ahead u));
    age = omega (arith, o (age_of n k) (omega arith), i (age_of n k) (omega arith), ap x M.age, z);
    sums = λ l g h.
        let e : p (sum_of n (l + 1)) ≡ sum_of n l = omega (arith, M.later (sum_of n (l + 1)) (omega arith) (omega arith)) in
        omega (arith, o (sum_of n (l + 1)) (omega arith), i (sum_of n (l + 1)) (omega arith), ap x e);
    ages = λ l g h.
        let e : p (age_of n (l + 1)) ≡ age_of n l = omega (arith, M.later (age_of n (l + 1)) (omega arith) (omega arith)) in
        omega (arith, o (age_of n (l + 1)) (omega arith), i (age_of n (l + 1)) (omega arith), ap x e);
  }
    where
      o : (a : ℕ) → a < vars n (q + 1) → over (off a) ≡ under (off a)
      o a ha = omega (arith, eq_read (M.still a ha))
