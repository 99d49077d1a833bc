-- The mark at a place, found among the marks.
-- Assumes nothing.
use Prim.Native.Nat.{ℕ, ◌+◌, ◌<◌}
use mathlib.Core.Path.{◌≡◌, sym, ap, ◌∙◌}
use mathlib.Core.Bool.{Bool, true, false, ◌&&◌}
use mathlib.Core.List.{List, [], ◌∷◌}
use native.Mathlib.Omega.{arith}
use lib.Dec.{eqb}
use lib.ListN.{get_or}
use borrow.Author.Tests.{eqb-true, ne_eqb}
use lib.Pointwise.{pointwise}
use borrow.Author.Count.{below_more}
use Rattle.meaning.proofs.Text.Choices.{and_true, by_eq}
use Rattle.meaning.specs.Text.ModelText as meaning
use Rattle.meaning.specs.Text.ModelText.{other, form}
use Rattle.meaning.specs.Text.ModelReader.{is_mark, mark_of}
use Rattle.meaning.proofs.Text.ModelLaws.{bytes_mark}
use Rattle.model_text.specs.declared.marks.Mark.{Mark}
use Rattle.model_text.specs.declared.marks.Mark.TheVariants.{Policy, Clocks, Task, Location, Limit, Edge, Bound, Reset, End}
use Rattle.model_text.specs.Marks.{kind_of}

abbrev pub marks : List Mark
marks = Policy ∷ Clocks ∷ Task ∷ Location ∷ Limit ∷ Edge ∷ Bound ∷ Reset ∷ End ∷ []

-- the bytes a and b are none of the first i marks
pub record NoneOf (a b i : ℕ) : Type 0 where
  pub below : (k : ℕ) → k < i → is_mark (kind_of (get_or marks k Policy)) a b ≡ false

pub none_first : (a b : ℕ) → NoneOf a b 0
none_first a b = record { below = λ k h. absurd (omega arith) }

-- the bytes are compared as they are written
is_mark-same : (q : meaning.Mark) (a b : ℕ) → is_mark q a b ≡ pointwise eqb ((form q).first ∷ (form q).second ∷ []) (a ∷ b ∷ [])
unfolding is_mark
is_mark-same q a b = go (eqb a (form q).first) (eqb (form q).first a) (turned a (form q).first) (eqb b (form q).second) (eqb (form q).second b) (turned b (form q).second)
  where
    turned : (x y : ℕ) → eqb x y ≡ eqb y x
    turned x y = by_eq x y (λ e. rw e) (λ n. ne_eqb x y n ∙ sym (ne_eqb y x (λ e. n (sym e))))

    go : (s s' : Bool) → s ≡ s' → (t t' : Bool) → t ≡ t' → (s && t) ≡ (s' && (t' && true))
    go true s' e true t' f = rw (← e, ← f)
    go true s' e false t' f = rw (← e, ← f)
    go false s' e t t' f = rw (← e)

module _ (a b : ℕ) (x : List ℕ) (q : meaning.Mark) (bytes : x ≡ (form q).first ∷ (form q).second ∷ []) where
  pub here : pointwise eqb x (a ∷ b ∷ []) ≡ true → q ≡ mark_of a b
  unfolding is_mark
  here e =
      let w = and_true (eqb a (form q).first) (eqb b (form q).second) (is_mark-same q a b ∙ ap (λ (y : List ℕ). pointwise eqb y (a ∷ b ∷ [])) (sym bytes) ∙ e) in
      rw (eqb-true _ _ w.0, eqb-true _ _ w.1) (sym (bytes_mark q))

pub none_more : (a b i : ℕ) (x : List ℕ) → NoneOf a b i → x ≡ (form (kind_of (get_or marks i Policy))).first ∷ (form (kind_of (get_or marks i Policy))).second ∷ []
    → pointwise eqb x (a ∷ b ∷ []) ≡ false → NoneOf a b (i + 1)
none_more a b i x r bytes e = record { below = below_more _ _ r.below (is_mark-same (kind_of (get_or marks i Policy)) a b ∙ ap (λ (y : List ℕ). pointwise eqb y (a ∷ b ∷ [])) (sym bytes) ∙ e) }

pub none_of_all : (a b i : ℕ) → 9 ≡ i → NoneOf a b i → other ≡ mark_of a b
unfolding mark_of
none_of_all a b i e r =
    let f : (k : ℕ) → k < 9 → is_mark (kind_of (get_or marks k Policy)) a b ≡ false = λ k h. r.below k (omega arith) in
    rw (f 0 (omega arith), f 1 (omega arith), f 2 (omega arith), f 3 (omega arith), f 4 (omega arith), f 5 (omega arith), f 6 (omega arith), f 7 (omega arith), f 8 (omega arith))

pub ruleset none_laws = (none_first, none_more, none_of_all)
