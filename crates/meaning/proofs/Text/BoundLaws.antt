-- Bounds: a signed number and what is kept of it, each tells the other; and bounds row by row are bounds in the order of their keys.
-- Assumes nothing.
use Prim.Native.Nat.{◌*◌, ◌+◌, ◌-◌, ◌<◌, ◌≤◌, suc, zero, ℕ}
use mathlib.Core.Bool.{Bool, ◌&&◌, false, true}
use mathlib.Core.List.{List, [], ◌++◌, ◌∷◌}
use mathlib.Core.Path.{◌∙◌, ◌≡◌, ap, refl, sym}
use native.Mathlib.Nat.{mul-suc}
use native.Mathlib.Omega.{arith}
use lib.Dec.{eqb, leb, ltb}
use lib.IntN.{negsuc, pos, ℤ}
use borrow.Author.Tests.{eq-eqb, eqb-true, le-leb, le-ltb, leb-true, lt-ltb, ltb-true, ne_eqb}
use Rattle.meaning.proofs.Text.Choices.{and_true, by_eq, by_lt}
use Rattle.meaning.specs.Lists.{every}
use Rattle.meaning.specs.Model.{Bound}
use Rattle.meaning.specs.Numbers.{over, under}
use Rattle.meaning.specs.Text.Lines.{lowered_by, raised_by}
use Rattle.meaning.specs.Text.RightModel.{Each, Ordered, RightBound, before}

and_no : (t : Bool) → t && false ≡ false
and_no true = refl
and_no false = refl

module _ (k : ℕ) where
  pub raised_of : (v : ℕ) → raised_by k (lowered_by k v) ≡ v
  raised_of v = by_lt v k (λ h. rw (lt-ltb v k h) (omega arith)) (λ h. rw (le-ltb v k h) (omega arith))

  pub over_of : (v : ℕ) → over (lowered_by k v) ≡ v - k
  over_of v = by_lt v k (λ h. rw (lt-ltb v k h) (omega arith)) (λ h. rw (le-ltb v k h) (omega arith))

  pub under_of : (v : ℕ) → under (lowered_by k v) ≡ k - v
  under_of v = by_lt v k (λ h. rw (lt-ltb v k h) (omega arith)) (λ h. rw (le-ltb v k h) (omega arith))

  pub lowered_of : (c : ℤ) → under c ≤ k → lowered_by k (raised_by k c) ≡ c
  lowered_of (pos n) h =
      let e : k + n - 0 - k ≡ n = omega arith in
      rw (le-ltb (k + n - 0) k (omega arith)) (ap pos e)
  lowered_of (negsuc n) h =
      let e : k - suc (k + 0 - suc n) ≡ n = omega arith in
      rw (lt-ltb (k + 0 - suc n) k (omega arith)) (ap negsuc e)

-- rows of w
row_step : (w a b : ℕ) → a < b → w * a + w ≤ w * b
row_step w a zero h = absurd (omega arith)
row_step w a (suc b) h =
    by_lt a b (λ l. let i = row_step w a b l in omega (arith, mul-suc w b))
    (λ l. let z : a ≡ b = omega arith in rw z (omega (arith, mul-suc w b)))

-- in order row by row is in order of w i + j
pub key_rising : (w last end : ℕ) (a b : Bound) → last < w → RightBound last end a → RightBound last end b → before a b ≡ true → w * a.i + a.j < w * b.i + b.j
key_rising w last end a b n x y e =
    by_lt a.i b.i (λ l. let p = x.j in let q = row_step w a.i b.i l in omega arith)
    (λ l.
    let f : eqb a.i b.i && ltb a.j b.j ≡ true = rw (le-ltb a.i b.i l) at e in
    let g = and_true (eqb a.i b.i) (ltb a.j b.j) f in
    let i = eqb-true a.i b.i g.0 in
    let j = ltb-true a.j b.j g.1 in
    rw i (omega arith))

-- and the other way round
pub before_key : (w : ℕ) (a b : Bound) → a.j < w → b.j < w → before a b ≡ ltb (w * a.i + a.j) (w * b.i + b.j)
before_key w a b x y =
    by_lt a.i b.i
    (λ l. let q = row_step w a.i b.i l in rw (lt-ltb a.i b.i l) (sym (lt-ltb (w * a.i + a.j) (w * b.i + b.j) (omega arith))))
    (λ l. by_eq a.i b.i
    (λ e. by_lt a.j b.j
    (λ k. rw (le-ltb a.i b.i l, eq-eqb a.i b.i e, lt-ltb a.j b.j k, e) (sym (lt-ltb (w * b.i + a.j) (w * b.i + b.j) (omega arith))))
    (λ k. rw (le-ltb a.i b.i l, eq-eqb a.i b.i e, le-ltb a.j b.j k, e) (sym (le-ltb (w * b.i + a.j) (w * b.i + b.j) (omega arith)))))
    (λ n.
    let q = row_step w b.i a.i (omega arith) in
    rw (le-ltb a.i b.i l, ne_eqb a.i b.i n) (sym (le-ltb (w * a.i + a.j) (w * b.i + b.j) (omega arith)))))

-- ---- "rising": a new bound is held against the last one

module _ (w : ℕ) where
  -- one more than the key of the last bound; 0 where there is none
  abbrev pub cursor : List Bound → ℕ
  cursor [] = 0
  cursor (a ∷ []) = suc (w * a.i + a.j)
  cursor (a ∷ b ∷ bs) = cursor (b ∷ bs)

  pub cursor_last : (bs : List Bound) (b : Bound) → cursor (bs ++ b ∷ []) ≡ suc (w * b.i + b.j)
  cursor_last [] b = refl
  cursor_last (a ∷ []) b = refl
  cursor_last (a ∷ c ∷ bs) b = cursor_last (c ∷ bs) b

  cursor_above : (a : Bound) (bs : List Bound) → Each (λ (x : Bound). x.j < w) (a ∷ bs) → Ordered (λ (x y : Bound). before x y ≡ true) (a ∷ bs) → w * a.i + a.j < cursor (a ∷ bs)
  cursor_above a [] e o = omega arith
  cursor_above a (b ∷ bs) e o =
      let k = ltb-true (w * a.i + a.j) (w * b.i + b.j) (sym (before_key w a b e.0 e.1.0) ∙ o.0.0) in
      let i = cursor_above b bs e.1 o.1 in
      omega arith

  pub rising_cursor : (bs : List Bound) (b : Bound) → Each (λ (x : Bound). x.j < w) bs → Ordered (λ (x y : Bound). before x y ≡ true) bs → b.j < w
      → every (λ (a : Bound). before a b) bs ≡ leb (cursor bs) (w * b.i + b.j)
  rising_cursor [] b e o h = sym (le-leb 0 (w * b.i + b.j) (omega arith))
  rising_cursor (a ∷ []) b e o h =
      rw (before_key w a b e.0 h)
      (by_lt (w * a.i + a.j) (w * b.i + b.j)
      (λ l. rw (lt-ltb (w * a.i + a.j) (w * b.i + b.j) l))
      (λ l. rw (le-ltb (w * a.i + a.j) (w * b.i + b.j) l)))
  rising_cursor (a ∷ c ∷ bs) b e o h = go (leb (cursor (c ∷ bs)) (w * b.i + b.j)) refl (rising_cursor (c ∷ bs) b e.1 o.1 h)
    where
      go : (t : Bool) → leb (cursor (c ∷ bs)) (w * b.i + b.j) ≡ t → every (λ (a : Bound). before a b) (c ∷ bs) ≡ leb (cursor (c ∷ bs)) (w * b.i + b.j)
          → (before a b && every (λ (a : Bound). before a b) (c ∷ bs)) ≡ leb (cursor (c ∷ bs)) (w * b.i + b.j)
      go true t i =
          let k = ltb-true (w * a.i + a.j) (w * c.i + c.j) (sym (before_key w a c e.0 e.1.0) ∙ o.0.0) in
          let l = cursor_above c bs e.1 o.1 in
          let n = leb-true (cursor (c ∷ bs)) (w * b.i + b.j) t in
          let d : before a b ≡ true = before_key w a b e.0 h ∙ lt-ltb (w * a.i + a.j) (w * b.i + b.j) (omega arith) in
          ap (λ (x : Bool). x && every (λ (a : Bound). before a b) (c ∷ bs)) d ∙ i
      go false t i = ap (λ (x : Bool). before a b && x) (i ∙ t) ∙ and_no (before a b) ∙ sym t
