-- Reading a text of records and writing it: each is the other's inverse, and what a text gives is told without the text.
-- Proved once, for any text of records that is lawful.
-- Assumes nothing.
use Prim.Native.Nat.{◌+◌, ◌-◌, ◌<◌, ◌≤◌, suc, zero, ℕ}
use mathlib.Core.Bool.{Bool, false, true}
use mathlib.Core.List.{List, [], ◌++◌, append_assoc, append-nil}
use mathlib.Core.Path.{◌∙◌, ◌≡◌, ap, refl, subst, sym}
use native.Mathlib.Nat.{add-zero, zero-add}
use native.Mathlib.Omega.{arith}
use lib.ListN.{drop, length}
use Rattle.meaning.proofs.Text.Choices.{by_lt}
use Rattle.meaning.proofs.Text.Places.{here_in}
use Rattle.meaning.specs.Text.Choice.{pick}
use Rattle.meaning.specs.Text.Records.{Format, Seen, done, end, fault, lines_to, read, rec, run, turn, write}

-- what a format has to meet
pub record Lawful {M W : Type 0} (F : Format M W) : Type 1 where
  pub Good : M → ℕ → Type 0
  pub Ok : M → ℕ → W → Type 0
  pub Full : M → Type 0
  pub good_start : Good F.start 0
  pub good_put : (m : M) (i j : ℕ) (v : W) → Good m i → Ok m j v → i ≤ j → Good (F.put m j v) (suc j)
  pub in_size : (m : M) (j : ℕ) (v : W) → Ok m j v → j < F.size
  pub get_start : (k : ℕ) → k < F.size → F.get F.start k ≡ F.none
  pub get_same : (m : M) (i j : ℕ) (v : W) → Good m i → Ok m j v → F.get (F.put m j v) j ≡ v
  pub get_other : (m : M) (i j : ℕ) (v : W) (k : ℕ) → Good m i → Ok m j v → k < F.size → (k ≡ j → ⊥) → F.get (F.put m j v) k ≡ F.get m k
  pub none_none : F.is_none F.none ≡ true
  pub some : (m : M) (j : ℕ) (v : W) → Ok m j v → F.is_none v ≡ false
  pub none_is : (v : W) → F.is_none v ≡ true → v ≡ F.none
  pub line_none : (j : ℕ) → F.line j F.none ≡ []
  pub last_some : 0 < length F.last
  -- what was seen tells what stands there
  pub rec_inv : (s : List ℕ) (at i : ℕ) (m : M) (j : ℕ) (v : W) (next : ℕ) → Good m i → F.look s at i m ≡ rec j v next
      → Ok m j v × (i ≤ j) × (drop at s ≡ F.line j v ++ drop next s)
  pub end_inv : (s : List ℕ) (at i : ℕ) (m : M) → Good m i → F.look s at i m ≡ end → Full m × (drop at s ≡ F.last)
  -- what stands there is seen
  pub rec_read : (s : List ℕ) (at i : ℕ) (m : M) (j : ℕ) (v : W) (r : List ℕ) → Good m i → Ok m j v → i ≤ j → drop at s ≡ F.line j v ++ r
      → (next : ℕ) × (F.look s at i m ≡ rec j v next) × (drop next s ≡ r) × (at < next)
  pub end_read : (s : List ℕ) (at i : ℕ) (m : M) → Good m i → Full m → drop at s ≡ F.last → F.look s at i m ≡ end

module _ {M W : Type 0} (F : Format M W) (L : Lawful F) where
  -- the same slots, the same lines
  lines_to_same : (m n : M) (k : ℕ) → k ≤ F.size → ((x : ℕ) → x < k → F.get n x ≡ F.get m x) → lines_to F n k ≡ lines_to F m k
  unfolding lines_to
  lines_to_same m n zero h e = refl
  lines_to_same m n (suc k) h e = rw (lines_to_same m n k (omega arith) (λ x l. e x (omega arith)), e k (omega arith))

  -- empty slots have no lines
  lines_to_none : (m : M) (i d : ℕ) → ((x : ℕ) → i ≤ x → x < i + d → F.get m x ≡ F.none) → lines_to F m (i + d) ≡ lines_to F m i
  unfolding lines_to
  lines_to_none m i zero e = rw (add-zero i)
  lines_to_none m i (suc d) e =
      let p : i + suc d ≡ suc (i + d) = omega arith in
      rw (p, e (i + d) (omega arith) (omega arith), L.line_none, append-nil) (lines_to_none m i d (λ x a b. e x a (omega arith)))

  lines_to_gap : (m : M) (i j : ℕ) → i ≤ j → ((x : ℕ) → i ≤ x → x < j → F.get m x ≡ F.none) → lines_to F m j ≡ lines_to F m i
  lines_to_gap m i j h e =
      let p : i + (j - i) ≡ j = omega arith in
      rw p at (lines_to_none m i (j - i) (λ x a b. e x a (omega arith)))

  -- the slots from i on are empty
  abbrev Bare : M → ℕ → Type 0
  Bare m i = (x : ℕ) → i ≤ x → x < F.size → F.get m x ≡ F.none

  lines_to_put : (m : M) (i j : ℕ) (v : W) → L.Good m i → L.Ok m j v → i ≤ j → Bare m i → lines_to F (F.put m j v) (suc j) ≡ lines_to F m i ++ F.line j v
  unfolding lines_to
  lines_to_put m i j v g o h e =
      let z = L.in_size m j v o in
      rw (
        L.get_same m i j v g o,
        lines_to_same m (F.put m j v) j (omega arith) (λ x l. L.get_other m i j v x g o (omega arith) (omega arith)),
        lines_to_gap m i j h (λ x a b. e x a (omega arith)),
      )

  bare_put : (m : M) (i j : ℕ) (v : W) → L.Good m i → L.Ok m j v → i ≤ j → Bare m i → Bare (F.put m j v) (suc j)
  bare_put m i j v g o h e x a b = L.get_other m i j v x g o b (omega arith) ∙ e x (omega arith) b

  -- a text that is read is what it is written as
  writes : (f : ℕ) (s : List ℕ) (at i : ℕ) (m out : M) → L.Good m i → i ≤ F.size → Bare m i → s ≡ lines_to F m i ++ drop at s → run F f s at i m ≡ done out → write F out ≡ s
  unfolding run turn write
  writes zero s at i m out g z b h e = absurd (let q : ◌≡◌ {A = ℕ} 0 1 = cc in omega arith)
  writes (suc f) s at i m out g z b h e = go (F.look s at i m) refl (λ a' i' m'. writes f s a' i' m' out) e
    where
      go : (x : Seen W) → F.look s at i m ≡ x
          → ((a' i' : ℕ) (m' : M) → L.Good m' i' → i' ≤ F.size → Bare m' i' → s ≡ lines_to F m' i' ++ drop a' s → run F f s a' i' m' ≡ done out → write F out ≡ s)
          → turn F (run F f s) m x ≡ done out → write F out ≡ s
      go (rec j v next) l ih q =
          let w = L.rec_inv s at i m j v next g l in
          ih next (suc j) (F.put m j v) (L.good_put m i j v g w.0 w.1) (L.in_size m j v w.0) (bare_put m i j v g w.0 w.1 b)
          (rw (lines_to_put m i j v g w.0 w.1 b, append_assoc) (h ∙ ap (λ (r : List ℕ). lines_to F m i ++ r) w.2)) q
      go end l ih q =
          let o : m ≡ out = cc in
          let w = L.end_inv s at i m g l in
          ap (write F) (sym o) ∙ ap (λ (r : List ℕ). r ++ F.last) (lines_to_gap m i F.size z b) ∙ sym (h ∙ ap (λ (r : List ℕ). lines_to F m i ++ r) w.1)
      go (fault k p) l ih q = absurd (let q : ◌≡◌ {A = ℕ} 0 1 = cc in omega arith)

  pub read_write : (s : List ℕ) (out : M) → read F s ≡ done out → write F out ≡ s
  unfolding read lines_to
  read_write s out e = writes (length s + 1) s 0 0 F.start out L.good_start (omega arith) (λ x a b. L.get_start x b) refl e

  -- ---- reading what was written

  -- the first i slots of m, put in one by one
  unfoldable pub part : M → ℕ → M
  part m zero = F.start
  part m (suc i) = pick (F.is_none (F.get m i)) (part m i) (F.put (part m i) i (F.get m i))

  -- what some text gives
  pub record Proper (m : M) : Type 0 where
    pub right : (i : ℕ) → i < F.size → F.is_none (F.get m i) ≡ false → L.Ok (part m i) i (F.get m i)
    pub full : L.Full m
    pub whole : part m F.size ≡ m

  -- the lines of d slots from i on
  unfoldable from : M → ℕ → ℕ → List ℕ
  from m i zero = []
  from m i (suc d) = F.line i (F.get m i) ++ from m (suc i) d

  from_lines_to : (m : M) (d i : ℕ) → lines_to F m (i + d) ≡ lines_to F m i ++ from m i d
  unfolding from lines_to
  from_lines_to m zero i = rw (add-zero i, append-nil)
  from_lines_to m (suc d) i =
      let p : i + suc d ≡ suc i + d = omega arith in
      rw (p, from_lines_to m d (suc i), append_assoc)

  part_none : (m : M) (i : ℕ) → F.is_none (F.get m i) ≡ true → part m (suc i) ≡ part m i
  unfolding part
  part_none m i e = rw e

  part_some : (m : M) (i : ℕ) → F.is_none (F.get m i) ≡ false → part m (suc i) ≡ F.put (part m i) i (F.get m i)
  unfolding part
  part_some m i e = rw e

  module _ (m : M) (p : Proper m) (s : List ℕ) where
    reads : (d i c at f : ℕ) → L.Good (part m i) c → i + d ≡ F.size → c ≤ i → drop at s ≡ from m i d ++ F.last → length s < at + f → at ≤ length s
        → run F f s at c (part m i) ≡ done m
    unfolding from run turn
    reads d i c at zero g q k e h l = absurd (omega arith)
    reads zero i c at (suc f) g q k e h l =
        let u : i ≡ F.size = omega arith in
        let w : part m i ≡ m = ap (part m) u ∙ p.whole in
        rw (w, L.end_read s at c m (subst (λ (y : M). L.Good y c) w g) p.full e)
    reads (suc d) i c at (suc f) g q k e h l = go (F.is_none (F.get m i)) refl (reads d (suc i) c at (suc f)) (λ a'. reads d (suc i) (suc i) a' f)
      where
        go : (t : Bool) → F.is_none (F.get m i) ≡ t
            → (L.Good (part m (suc i)) c → suc i + d ≡ F.size → c ≤ suc i → drop at s ≡ from m (suc i) d ++ F.last → length s < at + suc f → at ≤ length s
            → run F (suc f) s at c (part m (suc i)) ≡ done m)
            → ((a' : ℕ) → L.Good (part m (suc i)) (suc i) → suc i + d ≡ F.size → suc i ≤ suc i → drop a' s ≡ from m (suc i) d ++ F.last → length s < a' + f → a' ≤ length s
            → run F f s a' (suc i) (part m (suc i)) ≡ done m)
            → run F (suc f) s at c (part m i) ≡ done m
        go true b ih₁ ih₂ =
            let n = L.none_is (F.get m i) b in
            let e' : drop at s ≡ from m (suc i) d ++ F.last = e ∙ rw (n, L.line_none) in
            rw (part_none m i b) at (ih₁ (rw (part_none m i b) g) (omega arith) (omega arith) e' h l)
        go false b ih₁ ih₂ =
            let o = p.right i (omega arith) b in
            let x = L.rec_read s at c (part m i) i (F.get m i) (from m (suc i) d ++ F.last) g o k
            (e ∙ append_assoc (F.line i (F.get m i)) (from m (suc i) d) F.last) in
            let y = here_in s x.0 (from m (suc i) d) F.last L.last_some x.2 in
            let w = x.3 in
            rw x.1 (rw (part_some m i b) at (ih₂ x.0 (rw (part_some m i b) (L.good_put (part m i) c i (F.get m i) g o k)) (omega arith) (omega arith) x.2 (omega arith) y))

  -- what some text gives is read back from what it is written as
  pub write_read : (m : M) → Proper m → read F (write F m) ≡ done m
  unfolding read write lines_to part
  write_read m p =
      reads m p (write F m) F.size 0 0 0 (length (write F m) + 1) L.good_start (omega arith) (omega arith)
      (ap (λ (l : List ℕ). l ++ F.last) (rw (zero-add F.size) at (from_lines_to m F.size 0))) (omega arith) (omega arith)

  -- ---- what a text gives is proper

  part_same : (m n : M) (k : ℕ) → k ≤ F.size → ((x : ℕ) → x < k → F.get n x ≡ F.get m x) → part n k ≡ part m k
  unfolding part
  part_same m n zero h e = refl
  part_same m n (suc k) h e = rw (part_same m n k (omega arith) (λ x l. e x (omega arith)), e k (omega arith))

  part_gap : (m : M) (i d : ℕ) → i + d ≤ F.size → ((x : ℕ) → i ≤ x → x < i + d → F.get m x ≡ F.none) → part m (i + d) ≡ part m i
  part_gap m i zero h e = rw (add-zero i)
  part_gap m i (suc d) h e =
      let p : i + suc d ≡ suc (i + d) = omega arith in
      rw p (part_none m (i + d) (ap F.is_none (e (i + d) (omega arith) (omega arith)) ∙ L.none_none) ∙ part_gap m i d (omega arith) (λ x a b. e x a (omega arith)))

  -- a model that was read up to slot i
  record Read (m : M) (i : ℕ) : Type 0 where
    good : L.Good m i
    within : i ≤ F.size
    bare : Bare m i
    right : (k : ℕ) → k < i → F.is_none (F.get m k) ≡ false → L.Ok (part m k) k (F.get m k)
    whole : part m i ≡ m

  read_put : (m : M) (i j : ℕ) (v : W) → Read m i → L.Ok m j v → i ≤ j → Read (F.put m j v) (suc j)
  read_put m i j v r o h =
      let z = L.in_size m j v o in
      let same : (x : ℕ) → x < j → F.get (F.put m j v) x ≡ F.get m x = λ x l. L.get_other m i j v x r.good o (omega arith) (omega arith) in
      let gap : part m j ≡ m = (let q : i + (j - i) ≡ j = omega arith in rw q at (part_gap m i (j - i) (omega arith) (λ x a b. r.bare x a (omega arith)))) ∙ r.whole in
      let at_j : part (F.put m j v) j ≡ m = part_same m (F.put m j v) j (omega arith) same ∙ gap in
      let val = L.get_same m i j v r.good o in
      let some : F.is_none (F.get (F.put m j v) j) ≡ false = ap F.is_none val ∙ L.some m j v o in
      record {
        good = L.good_put m i j v r.good o h;
        within = z;
        bare = bare_put m i j v r.good o h r.bare;
        right = λ k l n. by_lt k j
            (λ k<j. rw (part_same m (F.put m j v) k (omega arith) (λ x y. same x (omega arith)), same k k<j)
            (by_lt k i (λ k<i. r.right k k<i (rw (same k k<j) at n))
            (λ i≤k. absurd (let e : false ≡ true = sym n ∙ ap F.is_none (same k k<j ∙ r.bare k i≤k (omega arith)) ∙ L.none_none in let q : ◌≡◌ {A = ℕ} 0 1 = cc in omega arith))))
            (λ j≤k. let e : k ≡ j = omega arith in rw (e, at_j, val) o);
        whole = part_some (F.put m j v) j some ∙ rw (at_j, val);
      }

  gives : (f : ℕ) (s : List ℕ) (at i : ℕ) (m out : M) → Read m i → run F f s at i m ≡ done out → Proper out
  unfolding run turn
  gives zero s at i m out r e = absurd (let q : ◌≡◌ {A = ℕ} 0 1 = cc in omega arith)
  gives (suc f) s at i m out r e = go (F.look s at i m) refl (λ a' i' m'. gives f s a' i' m' out) e
    where
      go : (x : Seen W) → F.look s at i m ≡ x → ((a' i' : ℕ) (m' : M) → Read m' i' → run F f s a' i' m' ≡ done out → Proper out) → turn F (run F f s) m x ≡ done out → Proper out
      go (rec j v next) l ih q = let w = L.rec_inv s at i m j v next r.good l in ih next (suc j) (F.put m j v) (read_put m i j v r w.0 w.1) q
      go end l ih q =
          let o : m ≡ out = cc in
          subst Proper o (record {
            full = (L.end_inv s at i m r.good l).0;
            right = λ k h n. by_lt k i (λ a. r.right k a n)
                (λ a. absurd (let e : false ≡ true = sym n ∙ ap F.is_none (r.bare k a h) ∙ L.none_none in let q : ◌≡◌ {A = ℕ} 0 1 = cc in omega arith));
            whole = (let q : i + (F.size - i) ≡ F.size = (let z = r.within in omega arith) in rw q at (part_gap m i (F.size - i) (let z = r.within in omega arith) (λ x a b. r.bare x a (let z = r.within in omega arith)))) ∙ r.whole;
          })
      go (fault k p) l ih q = absurd (let q : ◌≡◌ {A = ℕ} 0 1 = cc in omega arith)

  pub read_proper : (s : List ℕ) (out : M) → read F s ≡ done out → Proper out
  unfolding read part
  read_proper s out e =
      gives (length s + 1) s 0 0 F.start out
      (record { good = L.good_start; within = omega arith; bare = λ x a b. L.get_start x b; right = λ k h n. absurd (omega arith); whole = refl }) e
