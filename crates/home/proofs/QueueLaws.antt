-- Laws of the rules of a queue: how often a task stands in it, and overflow.
-- Assumes nothing.
use Prim.Native.Nat.{ℕ, suc, ◌+◌, ◌<◌}
use mathlib.Core.Path.{◌≡◌, refl, sym, ◌∙◌, ap, ap₂}
use mathlib.Core.Bool.{Bool, true, false, cond, ◌||◌}
use mathlib.Core.List.{List, [], ◌∷◌, ◌++◌}
use native.Mathlib.Omega.{arith}
use native.Mathlib.Numerals.{add-one}
use lib.Dec.{eqb}
use lib.ListN.{length, get_or, take, drop}
use lib.Seq.{take-suc, length-take-le}
use Rattle.meaning.specs.Model.{Model}
use Rattle.meaning.specs.Machine.Release.{overflows, overflows_any}
use Rattle.home.specs.Asked.{often}
use Rattle.home.proofs.Walks.{rest_at}
use Rattle.std.proofs.Common.{count_by}
use Rattle.std.proofs.lemmas.List.Recursion.{is_count_by}

-- ---- how often

pub often_counted : (t : ℕ) (o : List ℕ) → count_by (λ (x : ℕ). eqb t x) o ≡ often t o
often_counted t o =
    sym (is_count_by (often t) (λ (x : ℕ). eqb t x) refl (λ x l. ap (λ (n : ℕ). cond (eqb t x) n (often t l)) (omega arith)) o)

often_cons : (t x : ℕ) (o : List ℕ) → often t (x ∷ o) ≡ cond (eqb t x) 1 0 + often t o
often_cons t x o = go (eqb t x) (often t o)
  where
    go : (b : Bool) (c : ℕ) → cond b (suc c) c ≡ cond {A = ℕ} b 1 0 + c
    go true c = omega arith
    go false c = omega arith

-- ---- overflow

-- the tasks ts put in front of o, one after the other: what a release that follows them meets
abbrev pub pushed : List ℕ → List ℕ → List ℕ
pushed [] o = o
pushed (t ∷ ts) o = pushed ts (t ∷ o)

pushed_snoc : (ts : List ℕ) (t : ℕ) (o : List ℕ) → pushed (ts ++ (t ∷ [])) o ≡ t ∷ pushed ts o
pushed_snoc [] t o = refl
pushed_snoc (u ∷ ts) t o = pushed_snoc ts t (u ∷ o)

often_pushed : (t : ℕ) (ts o : List ℕ) → often t (pushed ts o) ≡ often t o + often t ts
often_pushed t [] o = omega arith
often_pushed t (u ∷ ts) o =
    let a = often_pushed t ts (u ∷ o) in
    let b = often_cons t u o in
    let c = often_cons t u ts in
    a ∙ omega (arith, b, c)

length_pushed : (ts o : List ℕ) → length (pushed ts o) ≡ length o + length ts
length_pushed [] o = omega arith
length_pushed (u ∷ ts) o = let a = length_pushed ts (u ∷ o) in omega (arith, a)

-- none of the first k of the releases ts overflows
pub record Passed (m : Model) (ts o : List ℕ) (k : ℕ) : Type 0 where
  pub same : overflows_any m (drop k ts) (pushed (take k ts) o) ≡ overflows_any m ts o

module _ (m : Model) (ts o : List ℕ) (k : ℕ) (w : Passed m ts o k) where
  -- the next release meets so many of its task in the queue and so many among the releases before it
  module _ {a b : ℕ} {r : Bool} (h : k < length ts) (f : (q : List ℕ) → often (get_or ts k 0) q ≡ a + b → length q ≡ length o + k → r ≡ overflows m (get_or ts k 0) q)
      (e : a ≡ often (get_or ts k 0) o) (d : b ≡ often (get_or ts k 0) (take k ts)) where
    -- it, and those behind it
    step : overflows_any m ts o ≡ (r || overflows_any m (drop (k + 1) ts) (pushed (take (k + 1) ts) o))
    step =
        let t = get_or ts k 0 in
        let p = pushed (take k ts) o in
        let q : pushed (take (k + 1) ts) o ≡ t ∷ p = ap (λ (i : ℕ). pushed (take i ts) o) (add-one k) ∙ ap (λ (l : List ℕ). pushed l o) (take-suc ts k 0 h) ∙ pushed_snoc (take k ts) t o in
        let n = length-take-le k ts (omega arith) in
        let z : r ≡ overflows m t p = f p (often_pushed t (take k ts) o ∙ omega arith) (length_pushed (take k ts) o ∙ omega arith) in
        sym w.same ∙ ap (λ (l : List ℕ). overflows_any m l p) (rest_at ts k t h refl)
        ∙ ap₂ (λ (x : Bool) (l : List ℕ). x || overflows_any m (drop (k + 1) ts) l) (sym z) (sym q)

    pub passed_more : r ≡ false → Passed m ts o (k + 1)
    passed_more x = record { same = sym (rw x at step) }

    pub passed_stop : r ≡ true → true ≡ overflows_any m ts o
    passed_stop x = sym (rw x at step)
