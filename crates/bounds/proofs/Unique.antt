-- Any two results that a contract allows coincide.
-- Assumes nothing.
use mathlib.Core.Path.{◌≡◌, refl, sym, ◌∙◌, ap, subst}
use mathlib.Core.List.{List}
use mathlib.Core.Logic.{inl, inr}
use Prim.Native.Nat.{ℕ, ◌+◌, ◌*◌, ◌/◌, ◌%◌, ◌<◌, ◌≤◌}
use native.Mathlib.Omega.{arith}
use native.Mathlib.Decide.{dec_lt, dec_le, ℕ_discrete}
use lib.IntN.{ℤ, pos, ◌+ℤ◌}
use lib.ListN.{length}
use lib.Seq.{ext_get_or}
use Rattle.std.specs.Prelude.{Option, None, Some, IfSome}
use Rattle.meaning.specs.Numbers.{over, under}
use Rattle.bounds.specs.Matrix.{ent, at, Outside, Finite, Stored, Sol, Closed}
use Rattle.bounds.specs.Images.{var, Map, Maps}
use Rattle.bounds.specs.Claims.{Before}
use Rattle.bounds.specs.Results.{Got, Widest, Tightened, Remapped, Smallest, FirstAt, FirstBroken}
use Rattle.bounds.specs.Inner.{Shift, Claimed}
use Rattle.bounds.specs.declared.broken.Broken.{Broken}
use Rattle.meaning.proofs.Numbers.{parts_one}
use Rattle.bounds.proofs.Signed.{sum_law}
use Rattle.bounds.proofs.Points.{finite?, far, far_sol, far_apart}

-- ---- a closed matrix is determined by its solutions
-- where every solution of e is one of d, no entry of e is above that of d
pub entry_below : (d e : ℕ → ℕ → ℤ) (n a b : ℕ) → Closed e n → a < n → b < n → ((x : ℕ → ℕ) → Sol e n x → Sol d n x) → Finite (d a b)
    → over (e a b) + under (d a b) ≤ over (d a b) + under (e a b)
entry_below d e n a b K ha hb h f = go (dec_le (over (e a b) + under (d a b)) (over (d a b) + under (e a b)))
  where
    go : Dec (over (e a b) + under (d a b) ≤ over (d a b) + under (e a b)) → over (e a b) + under (d a b) ≤ over (d a b) + under (e a b)
    go (yes l) = l
    go (no l) =
        let room : Finite (e a b) → over (d a b +ℤ pos 1) + under (e a b) ≤ over (e a b) + under (d a b +ℤ pos 1) = λ _. omega (arith, sum_law (d a b) (pos 1)) in
        let s = h (far e a b (d a b +ℤ pos 1)) (far_sol e n a b (d a b +ℤ pos 1) K ha hb room) in
        absurd (omega (arith, s.holds a b ha hb f, far_apart e n a b (d a b +ℤ pos 1) K ha hb room, sum_law (d a b) (pos 1)))

pub entry_same : (d e : ℕ → ℕ → ℤ) (n a b : ℕ) → Closed d n → Closed e n → a < n → b < n → Stored (d a b) → Stored (e a b)
    → ((x : ℕ → ℕ) → Sol d n x → Sol e n x) → ((x : ℕ → ℕ) → Sol e n x → Sol d n x) → d a b ≡ e a b
entry_same d e n a b K L ha hb u v to from = go (finite? d a b) (finite? e a b)
  where
    go : Dec (Finite (d a b)) → Dec (Finite (e a b)) → d a b ≡ e a b
    go (yes f) (yes g) = parts_one (d a b) (e a b) (omega (arith, entry_below d e n a b L ha hb from f, entry_below e d n a b K ha hb to g))
    go (yes f) (no g) = absurd (g (omega (arith, entry_below d e n a b L ha hb from f)))
    go (no f) (yes g) = absurd (f (omega (arith, entry_below e d n a b K ha hb to g)))
    go (no f) (no g) = parts_one (d a b) (e a b) (omega arith)

-- the same matrix: the same solutions over the first n variables, and the same entries outside
pub matrix_same : (n : ℕ) (r r' : List ℤ) → n ≤ 17 → length r ≡ 289 → length r' ≡ 289 → Closed (at r) n → Closed (at r') n
    → ((a b : ℕ) → a < n → b < n → Stored (at r a b)) → ((a b : ℕ) → a < n → b < n → Stored (at r' a b))
    → ((x : ℕ → ℕ) → Sol (at r) n x → Sol (at r') n x) → ((x : ℕ → ℕ) → Sol (at r') n x → Sol (at r) n x)
    → ((k : ℕ) → Outside n k → ent r k ≡ ent r' k) → r ≡ r'
matrix_same n r r' hn l l' K L u v to from rest = ext_get_or (pos 0) r r' (l ∙ sym l') (λ k h. go k (dec_lt (k / 17) n) (dec_lt (k % 17) n))
  where
    go : (k : ℕ) → Dec (k / 17 < n) → Dec (k % 17 < n) → ent r k ≡ ent r' k
    go k (yes p) (yes q) =
        let e : k / 17 * 17 + k % 17 ≡ k = omega arith in
        subst (λ (s : ℕ). ent r s ≡ ent r' s) e (entry_same (at r) (at r') n (k / 17) (k % 17) K L p q (u (k / 17) (k % 17) p q) (v (k / 17) (k % 17) p q) to from)
    go k (yes p) (no q) = rest k (inr (omega arith))
    go k (no p) q = rest k (inl (omega arith))

-- ---- the operations
pub top_unique : (r r' : List ℤ) → length r ≡ 289 → length r' ≡ 289 → Widest r → Widest r' → r ≡ r'
top_unique r r' l l' w w' = ext_get_or (pos 0) r r' (l ∙ sym l') (λ k h.
    let e : k / 17 * 17 + k % 17 ≡ k = omega arith in
    subst (λ (s : ℕ). ent r s ≡ ent r' s) e
    (entry_same (at r) (at r') 17 (k / 17) (k % 17) w.closed w'.closed (omega arith) (omega arith)
    (w.entries (k / 17 * 17 + k % 17) (omega arith)).most (w'.entries (k / 17 * 17 + k % 17) (omega arith)).most
    (λ x s. w'.all x s.zero) (λ x s. w.all x s.zero)))

pub tighten_unique : (m : List ℤ) (n i j : ℕ) (c : ℤ) (r r' : Option (List ℤ)) → n ≤ 17 → IfSome r (λ t. length t ≡ 289) → IfSome r' (λ t. length t ≡ 289)
    → Tightened m n i j c r → Tightened m n i j c r' → r ≡ r'
tighten_unique m n i j c None None hn l l' t t' = refl
tighten_unique m n i j c None (Some r') hn l l' t d =
    let s = d.sound d.some.0 d.some.1 in
    absurd (t d.some.0 s.0 s.1)
tighten_unique m n i j c (Some r) None hn l l' d t =
    let s = d.sound d.some.0 d.some.1 in
    absurd (t d.some.0 s.0 s.1)
tighten_unique m n i j c (Some r) (Some r') hn l l' d d' =
    ap Some (matrix_same n r r' hn l l' d.closed d'.closed d.stored d'.stored
    (λ x s. let w = d.sound x s in d'.whole x w.0 w.1)
    (λ x s. let w = d'.sound x s in d.whole x w.0 w.1)
    (λ k o. d.outside k o ∙ sym (d'.outside k o)))

pub remap_unique : (m : List ℤ) (n : ℕ) (p : List ℕ) (off r r' : List ℤ) → n ≤ 17 → length r ≡ 289 → length r' ≡ 289 → Maps m n p off
    → ((n₀ : ℕ) → Closed (at m) n₀ → Map (at m) n₀ n (var p) (ent off) → Remapped m n₀ n p off r)
    → ((n₀ : ℕ) → Closed (at m) n₀ → Map (at m) n₀ n (var p) (ent off) → Remapped m n₀ n p off r') → r ≡ r'
remap_unique m n p off r r' hn l l' M w w' =
    let t = w M.n₀ M.closed M.map in
    let t' = w' M.n₀ M.closed M.map in
    matrix_same n r r' hn l l' t.closed t'.closed t.stored t'.stored
    (λ y s. let w = t.from y s in t'.to w.0 y w.1 w.2)
    (λ y s. let w = t'.from y s in t.to w.0 y w.1 w.2)
    (λ k o. t.outside k o ∙ sym (t'.outside k o))

pub least_unique : (m : List ℤ) (n : ℕ) (r r' : List ℕ) → length r ≡ 17 → length r' ≡ 17 → Smallest m n r → Smallest m n r' → r ≡ r'
least_unique m n r r' l l' s s' = ext_get_or 0 r r' (l ∙ sym l') (λ k h. go k (dec_lt k n))
  where
    go : (k : ℕ) → Dec (k < n) → var r k ≡ var r' k
    go k (yes p) = omega (arith, s.least (var r') s'.sol k p, s'.least (var r) s.sol k p)
    go k (no p) = s.outside k (omega arith) ∙ sym (s'.outside k (omega arith))

module _ (m : List ℤ) (n₀ n : ℕ) (p : List ℕ) (off : List ℤ) (claims : List ℕ) (start : ℕ) where
  -- of two first broken bounds neither comes before the other
  not_before : (i j i' j' : ℕ) → FirstAt m n₀ n p off claims start i j → FirstAt m n₀ n p off claims start i' j' → Before i j i' j' → ⊥
  not_before i j i' j' f f' h =
      let b = f.here in
      f'.first i j f.inside.0 f.inside.1 h b.x b.y b.sol b.image b.breaks

  clash : (i j : ℕ) → FirstAt m n₀ n p off claims start i j → FirstBroken m n₀ n p off claims start None → ⊥
  clash i j f none =
      let b = f.here in
      none i j f.inside.0 f.inside.1 b.x b.y b.sol b.image b.breaks

  same_place : (i j i' j' : ℕ) → FirstAt m n₀ n p off claims start i j → FirstAt m n₀ n p off claims start i' j' → (i ≡ i') × (j ≡ j')
  same_place i j i' j' f f' = rows (dec_lt i i') (dec_lt i' i)
    where
      columns : i ≡ i' → Dec (j < j') → Dec (j' < j) → (i ≡ i') × (j ≡ j')
      columns e (yes l) q = absurd (not_before i j i' j' f f' (inr (e, l)))
      columns e (no l) (yes q) = absurd (not_before i' j' i j f' f (inr (sym e, q)))
      columns e (no l) (no q) = (e, omega arith)

      rows : Dec (i < i') → Dec (i' < i) → (i ≡ i') × (j ≡ j')
      rows (yes l) q = absurd (not_before i j i' j' f f' (inl l))
      rows (no l) (yes q) = absurd (not_before i' j' i j f' f (inl q))
      rows (no l) (no q) = columns (omega arith) (dec_lt j j') (dec_lt j' j)

  same_pair : (i j i' j' : ℕ) → i ≡ i' → j ≡ j' → ◌≡◌ {A = Broken} (record { i = i; j = j }) (record { i = i'; j = j' })
  same_pair i j i' j' p q = rw (p, q)

  same_answer : (r r' : Option Broken) → FirstBroken m n₀ n p off claims start r → FirstBroken m n₀ n p off claims start r' → r ≡ r'
  same_answer None None f f' = refl
  same_answer None (Some w) f f' = absurd (clash w.i w.j f' f)
  same_answer (Some w) None f f' = absurd (clash w.i w.j f f')
  same_answer (Some w) (Some w') f f' = let e = same_place w.i w.j w'.i w'.j f f' in ap Some (same_pair w.i w.j w'.i w'.j e.0 e.1)

pub first_broken_unique : (m : List ℤ) (n : ℕ) (p : List ℕ) (off : List ℤ) (claims : List ℕ) (start : ℕ) (r r' : Option Broken) → Maps m n p off
    → ((n₀ : ℕ) → Closed (at m) n₀ → Map (at m) n₀ n (var p) (ent off) → FirstBroken m n₀ n p off claims start r)
    → ((n₀ : ℕ) → Closed (at m) n₀ → Map (at m) n₀ n (var p) (ent off) → FirstBroken m n₀ n p off claims start r') → r ≡ r'
first_broken_unique m n p off claims start r r' M w w' =
    same_answer m M.n₀ n p off claims start r r' (w M.n₀ M.closed M.map) (w' M.n₀ M.closed M.map)

-- ---- the accessors
pub get_unique : (m : List ℤ) (a b : ℕ) (r r' : ℤ) → Got m a b r → Got m a b r' → r ≡ r'
get_unique m a b r r' g g' = g.is ∙ sym g'.is

pub reached_unique : (v u w r r' : ℤ) → Shift v u w r → Shift v u w r' → r ≡ r'
reached_unique v u w r r' s s' = go (dec_lt (over v) (1000000000 + under v))
  where
    go : Dec (Finite v) → r ≡ r'
    go (yes f) = parts_one r r' (omega (arith, (s.some f).1, (s'.some f).1))
    go (no f) = s.kept f ∙ sym (s'.kept f)

pub claimed_unique : (v : ℕ) (r r' : ℤ) → Claimed v r → Claimed v r' → r ≡ r'
claimed_unique v r r' s s' = go (ℕ_discrete v 0)
  where
    go : Dec (v ≡ 0) → r ≡ r'
    go (yes e) = s.nothing e ∙ sym (s'.nothing e)
    go (no e) = parts_one r r' (omega (arith, s.bound (omega arith), s'.bound (omega arith)))
