-- A line with any number of numbers of one range is a line of just as many ranges; so the laws of such lines hold of it.
-- Assumes nothing.
use Prim.Native.Nat.{◌%◌, ◌*◌, ◌+◌, ◌-◌, ◌/◌, ◌<◌, ◌≤◌, suc, zero, ℕ}
use mathlib.Core.Bool.{Bool, false, true}
use mathlib.Core.List.{List, [], ◌++◌, ◌∷◌, map}
use mathlib.Core.Path.{◌∙◌, ◌≡◌, ap, refl, sym}
use native.Mathlib.Omega.{arith}
use lib.Dec.{eqb, ltb}
use lib.ListN.{drop, get_or, length, length-append, length-drop, replicate}
use borrow.Author.Tests.{eqb-true, le-ltb, lt-ltb}
use Rattle.meaning.proofs.Text.Choices.{by_lt, by_pick, nonsense}
use Rattle.meaning.proofs.Text.Collects.{each_append}
use Rattle.meaning.proofs.Text.LineLaws.{Tame, Within, belows, fields_inv, fields_read, join_inv, not_outside}
use Rattle.meaning.specs.Text.Lines.{Fields, Range, bad, field, fields, fields_more, fields_text, fields_then, fields_up_to, join, kept, kept_text, numbers_text, ok}
use Rattle.meaning.specs.Text.Numerals.{Numeral, dec, dec_f, num, num_text, stuck, too_large}
use Rattle.meaning.specs.Text.RightModel.{Each}

-- a field in front of a rest that was read: the rest, and that only what the rest comes to counts
then_inv : (f : Range) (at : ℕ) (rest : ℕ → Fields) (x : Numeral) (vs : List ℕ) (next : ℕ) → fields_then f at rest x ≡ ok vs next
    → (v k : ℕ) × (ws : List ℕ) × (vs ≡ v ∷ ws) × (rest k ≡ ok ws next) × ((rest' : ℕ → Fields) → rest' k ≡ ok ws next → fields_then f at rest' x ≡ ok vs next)
unfolding fields_then join
then_inv f at rest (stuck p) vs next e = nonsense (cc)
then_inv f at rest (num n v k) vs next e =
    let c = join_inv f (at + 1) (kept f.below n v) (rest k) vs next e in
    (kept f.below n v, k, c.0, c.1, c.2, λ rest' q. rw (q, not_outside f (kept f.below n v) c.3 c.4) (ap (λ (l : List ℕ). ok l next) (sym c.1)))

-- the line's end is not a field
no_field : (m : Bool) (s : List ℕ) (at : ℕ) → eqb (get_or s at 0) 10 ≡ true → field m s at ≡ stuck at
unfolding field
no_field m s at t = rw (eqb-true (get_or s at 0) 10 t)

up_to_inv : (n : ℕ) (e : Range) (s : List ℕ) (at : ℕ) (vs : List ℕ) (next : ℕ) → fields_up_to n e s at ≡ ok vs next
    → (k : ℕ) × (k ≤ n) × (fields (replicate k e) s at ≡ ok vs next)
unfolding fields_up_to fields
up_to_inv zero e s at vs next q = (0, omega arith, q)
up_to_inv (suc n) e s at vs next q =
    by_pick (eqb (get_or s at 0) 10) _ _ _ q
    (λ t r. (0, omega arith, rw t r))
    (λ t r.
    let c = then_inv e at (λ k. fields_up_to n e s k) (field (ltb 0 e.below) s at) vs next r in
    let i = up_to_inv n e s c.1 c.2 next c.4 in
    let h = i.1 in
    (suc i.0, omega arith, c.5 (λ k. fields (replicate i.0 e) s k) i.2))

up_to_read : (k n : ℕ) (e : Range) (s : List ℕ) (at : ℕ) (vs : List ℕ) (next : ℕ) → k ≤ n → fields (replicate k e) s at ≡ ok vs next → fields_up_to n e s at ≡ ok vs next
unfolding fields_up_to fields fields_then
up_to_read zero zero e s at vs next h q = q
up_to_read (suc k) zero e s at vs next h q = absurd (omega arith)
up_to_read zero (suc n) e s at vs next h q =
    by_pick (eqb (get_or s at 0) 10) _ _ _ q (λ t r. rw t r) (λ t r. nonsense (cc))
up_to_read (suc k) (suc n) e s at vs next h q = go (eqb (get_or s at 0) 10) refl (λ a ws r. up_to_read k n e s a ws next (omega arith) r)
  where
    go : (t : Bool) → eqb (get_or s at 0) 10 ≡ t → ((a : ℕ) (ws : List ℕ) → fields (replicate k e) s a ≡ ok ws next → fields_up_to n e s a ≡ ok ws next)
        → fields_up_to (suc n) e s at ≡ ok vs next
    go true t ih = nonsense (let r : bad at ≡ ok vs next = rw (no_field (ltb 0 e.below) s at t) at q in cc)
    go false t ih =
        let c = then_inv e at (λ k'. fields (replicate k e) s k') (field (ltb 0 e.below) s at) vs next q in
        rw t (c.5 (λ k'. fields_up_to n e s k') (ih c.1 c.2 c.4))

pub more_inv : (es : List Range) (n : ℕ) (e : Range) (s : List ℕ) (at : ℕ) (vs : List ℕ) (next : ℕ) → fields_more es n e s at ≡ ok vs next
    → (k : ℕ) × (k ≤ n) × (fields (es ++ replicate k e) s at ≡ ok vs next)
unfolding fields_more fields
more_inv [] n e s at vs next q = up_to_inv n e s at vs next q
more_inv (f ∷ es) n e s at vs next q =
    let c = then_inv f at (λ k. fields_more es n e s k) (field (ltb 0 f.below) s at) vs next q in
    let i = more_inv es n e s c.1 c.2 next c.4 in
    (i.0, i.1, c.5 (λ k. fields (es ++ replicate i.0 e) s k) i.2)

pub more_read : (es : List Range) (k n : ℕ) (e : Range) (s : List ℕ) (at : ℕ) (vs : List ℕ) (next : ℕ) → k ≤ n → fields (es ++ replicate k e) s at ≡ ok vs next
    → fields_more es n e s at ≡ ok vs next
unfolding fields_more fields
more_read [] k n e s at vs next h q = up_to_read k n e s at vs next h q
more_read (f ∷ es) k n e s at vs next h q =
    let c = then_inv f at (λ k'. fields (es ++ replicate k e) s k') (field (ltb 0 f.below) s at) vs next q in
    c.5 (λ k'. fields_more es n e s k') (more_read es k n e s c.1 c.2 next h c.4)

-- ---- numbers whose ranges do not go below 0

-- a range that does not go below 0, and that a number below 1,000,000 can fill
pub record Plain (e : Range) : Type 0 where
  pub below : e.below ≡ 0
  pub high : e.high < too_large

plain_tame : (es : List Range) → Each Plain es → Tame es
plain_tame [] a = tt
plain_tame (e ∷ es) a = let b = a.0.below in let c = a.0.high in (omega arith, c, plain_tame es a.1)

plain_belows : (es : List Range) (vs : List ℕ) → Each Plain es → Within es vs → belows es ≡ map (λ (v : ℕ). 0) vs
plain_belows [] [] a w = refl
plain_belows [] (v ∷ vs) a w = absurd w
plain_belows (e ∷ es) [] a w = absurd w
plain_belows (e ∷ es) (v ∷ vs) a w = rw (plain_belows es vs a.1 w.2) (ap (λ (k : ℕ). k ∷ map (λ (v : ℕ). 0) vs) a.0.below)

each_replicate : {A : Type 0} (P : A → Type 0) (k : ℕ) (x : A) → P x → Each P (replicate k x)
each_replicate P zero x p = tt
each_replicate P (suc k) x p = (p, each_replicate P k x p)

module _ (es : List Range) (e : Range) (pes : Each Plain es) (pe : Plain e) where
  plain_all : (k : ℕ) → Each Plain (es ++ replicate k e)
  plain_all k = each_append Plain es (replicate k e) pes (each_replicate Plain k e pe)

  pub plain_inv : (n : ℕ) (s : List ℕ) (at : ℕ) (vs : List ℕ) (next : ℕ) → fields_more es n e s at ≡ ok vs next
      → (k : ℕ) × (k ≤ n) × Within (es ++ replicate k e) vs × (drop at s ≡ numbers_text vs ++ drop next s)
  unfolding numbers_text
  plain_inv n s at vs next q =
      let c = more_inv es n e s at vs next q in
      let f = fields_inv (es ++ replicate c.0 e) s at vs next (plain_tame (es ++ replicate c.0 e) (plain_all c.0)) c.2 in
      (c.0, c.1, f.0, f.1 ∙ ap (λ (l : List ℕ). fields_text l vs ++ drop next s) (plain_belows (es ++ replicate c.0 e) vs (plain_all c.0) f.0))

  pub plain_read : (k n : ℕ) (vs r s : List ℕ) (at : ℕ) → k ≤ n → Within (es ++ replicate k e) vs → drop at s ≡ numbers_text vs ++ r
      → (next : ℕ) × (fields_more es n e s at ≡ ok vs next) × (drop next s ≡ r) × (at < next)
  unfolding numbers_text
  plain_read k n vs r s at h w q =
      let p = plain_all k in
      let f = fields_read (es ++ replicate k e) vs r s at (plain_tame (es ++ replicate k e) p) w (q ∙ ap (λ (l : List ℕ). fields_text l vs ++ r) (sym (plain_belows (es ++ replicate k e) vs p w))) in
      (f.0, more_read es k n e s at vs f.0 h f.1, f.2, f.3)

-- as many numbers as ranges, each in it
pub within_each : (e : Range) (k : ℕ) (vs : List ℕ) → Within (replicate k e) vs → (length vs ≡ k) × Each (λ (v : ℕ). (e.low ≤ v) × (v ≤ e.high)) vs
within_each e zero [] w = (refl, tt)
within_each e zero (v ∷ vs) w = absurd w
within_each e (suc k) [] w = absurd w
within_each e (suc k) (v ∷ vs) w = let i = within_each e k vs w.2 in (ap suc i.0, ((w.0, w.1), i.1))

pub each_within : (e : Range) (vs : List ℕ) → Each (λ (v : ℕ). (e.low ≤ v) × (v ≤ e.high)) vs → Within (replicate (length vs) e) vs
each_within e [] a = tt
each_within e (v ∷ vs) a = (a.0.0, a.0.1, each_within e vs a.1)

-- ---- a number takes two bytes at least: its space and a digit

dec_f_some : (f v : ℕ) → 1 ≤ length (dec_f (suc f) v)
unfolding dec_f
dec_f_some f v =
    by_lt v 10 (λ h. rw (lt-ltb v 10 h) (omega arith))
    (λ h. rw (le-ltb v 10 h) (omega (arith, length-append (dec_f f (v / 10)) ((48 + v % 10) ∷ []))))

kept_some : (k v : ℕ) → 1 ≤ length (kept_text k v)
unfolding kept_text num_text dec
kept_some k v = by_lt v k (λ h. rw (lt-ltb v k h) (omega arith)) (λ h. rw (le-ltb v k h) (dec_f_some 5 (v - k)))

pub numbers_long : (vs : List ℕ) → 1 + 2 * length vs ≤ length (numbers_text vs)
unfolding numbers_text fields_text
numbers_long [] = omega arith
numbers_long (v ∷ vs) = omega (arith, kept_some 0 v, numbers_long vs, length-append (kept_text 0 v) (fields_text (map (λ (v : ℕ). 0) vs) vs))

-- a line of numbers ends within the text
pub more_long : (e : Range) → Plain e → (n : ℕ) (s : List ℕ) (at : ℕ) (vs : List ℕ) (next : ℕ) → fields_up_to n e s at ≡ ok vs next → at + (1 + 2 * length vs) ≤ length s
unfolding fields_more
more_long e p n s at vs next q =
    let c = plain_inv [] e tt p n s at vs next q in
    omega (arith, sym (length-drop at s) ∙ ap length c.3, length-append (numbers_text vs) (drop next s), numbers_long vs)
