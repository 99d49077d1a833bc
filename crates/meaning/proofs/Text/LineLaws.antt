-- A line of numbers that was read is what it is written as, and a line that was written is read.
-- Assumes nothing.
use Prim.Native.Nat.{◌+◌, ◌-◌, ◌<◌, ◌≤◌, ℕ}
use mathlib.Core.Bool.{Bool, false, true}
use mathlib.Core.List.{List, [], ◌++◌, ◌∷◌, append_assoc}
use mathlib.Core.Path.{◌∙◌, ◌≡◌, ap, refl, sym}
use native.Mathlib.Omega.{arith}
use lib.Dec.{eqb, ltb}
use lib.ListN.{drop, get_or, length}
use borrow.Author.Tests.{eq-eqb, le-ltb, lt-ltb, ltb-false}
use Rattle.meaning.proofs.Text.Choices.{by_lt, by_pick, nonsense, or_false}
use Rattle.meaning.proofs.Text.NumeralRound.{Stops, number_inv}
use Rattle.meaning.proofs.Text.Places.{field_inv, field_next, field_read, here_cons, here_head, here_tail, in_text}
use Rattle.meaning.specs.Text.Lines.{Fields, Range, bad, field, fields, fields_text, fields_then, join, kept, kept_text, ok, out, outside}
use Rattle.meaning.specs.Text.Numerals.{Numeral, is_digit, num, num_text, stuck, too_large}

-- each number within its range
abbrev pub Within : List Range → List ℕ → Type 0
Within [] [] = Unit {0}
Within [] (v ∷ vs) = ⊥
Within (e ∷ es) [] = ⊥
Within (e ∷ es) (v ∷ vs) = (e.low ≤ v) × (v ≤ e.high) × Within es vs

abbrev pub belows : List Range → List ℕ
belows [] = []
belows (e ∷ es) = e.below ∷ belows es

-- ranges that a number below 100,000 can fill
abbrev pub Tame : List Range → Type 0
Tame [] = Unit {0}
Tame (e ∷ es) = (e.below < too_large) × (e.high < too_large) × Tame es

inside : (e : Range) (v : ℕ) → outside e v ≡ false → (e.low ≤ v) × (v ≤ e.high)
unfolding outside
inside e v h = let o = or_false _ _ h in (ltb-false v e.low o.0, ltb-false e.high v o.1)

pub not_outside : (e : Range) (v : ℕ) → e.low ≤ v → v ≤ e.high → outside e v ≡ false
unfolding outside
not_outside e v a b = rw (le-ltb v e.low a, le-ltb e.high v b)

-- ---- what was read

kept_small : (k : ℕ) (n : Bool) (v h : ℕ) → kept k n v ≤ h → h < too_large → k < too_large → v < too_large
unfolding kept
kept_small k true v h a b c = by_lt k v (λ l. absurd (let x : too_large ≤ h = rw (lt-ltb k v l) at a in omega arith)) (λ l. omega arith)
kept_small k false v h a b c = omega arith

kept_text_lem : (k : ℕ) (n : Bool) (v h : ℕ) → kept k n v ≤ h → h < too_large → (n ≡ true → 0 < v) → kept_text k (kept k n v) ≡ num_text n v
unfolding kept kept_text
kept_text_lem k true v h a b c =
    by_lt k v (λ l. absurd (let x : too_large ≤ h = rw (lt-ltb k v l) at a in omega arith))
    (λ l. let p = c refl in let x : k - (k - v) ≡ v = omega arith in rw (le-ltb k v l, lt-ltb (k - v) k (omega arith), x))
kept_text_lem k false v h a b c = let x : k + v - k ≡ v = omega arith in rw (le-ltb (k + v) k (omega arith), x)

field_sign : (m : Bool) (s : List ℕ) (at : ℕ) (n : Bool) (v k : ℕ) → field m s at ≡ num n v k → v < too_large → n ≡ true → 0 < v
unfolding field
field_sign m s at n v k e h =
    by_pick (eqb (get_or s at 0) 32) _ _ _ e
    (λ t q. (number_inv m (drop (at + 1) s) (at + 1) n v k q h).sign)
    (λ t q. nonsense (cc))

pub join_inv : (e : Range) (p v : ℕ) (x : Fields) (vs : List ℕ) (next : ℕ) → join e p v x ≡ ok vs next
    → (ws : List ℕ) × (vs ≡ v ∷ ws) × (x ≡ ok ws next) × (e.low ≤ v) × (v ≤ e.high)
unfolding join
join_inv e p v (ok ws k) vs next q =
    by_pick (outside e v) _ _ _ q (λ t r. nonsense (cc))
    (λ t r. let i = inside e v t in (ws, (cc), (cc), i.0, i.1))
join_inv e p v (bad k) vs next q = nonsense (cc)
join_inv e p v (out k) vs next q = nonsense (cc)

pub fields_inv : (es : List Range) (s : List ℕ) (at : ℕ) (vs : List ℕ) (next : ℕ) → Tame es → fields es s at ≡ ok vs next
    → Within es vs × (drop at s ≡ fields_text (belows es) vs ++ drop next s)
unfolding fields fields_then fields_text
fields_inv [] s at vs next z e =
    by_pick (eqb (get_or s at 0) 10) _ _ _ e
    (λ t q.
    let p : [] ≡ vs = cc in
    let k : at + 1 ≡ next = cc in
    rw (← p, ← k) (tt, here_cons s at 10 (omega arith) t))
    (λ t q. nonsense (cc))
fields_inv (f ∷ es) s at vs next z e = go (field (ltb 0 f.below) s at) refl (λ k ws w. fields_inv es s k ws next z.2 w) e
  where
    go : (x : Numeral) → field (ltb 0 f.below) s at ≡ x
        → ((k : ℕ) (ws : List ℕ) → fields es s k ≡ ok ws next → Within es ws × (drop k s ≡ fields_text (belows es) ws ++ drop next s))
        → fields_then f at (λ k. fields es s k) x ≡ ok vs next
        → Within (f ∷ es) vs × (drop at s ≡ fields_text (belows (f ∷ es)) vs ++ drop next s)
    go (stuck p) y ih q = nonsense (cc)
    go (num n v k) y ih q =
        let c = join_inv f (at + 1) (kept f.below n v) (fields es s k) vs next q in
        let h = ih k c.0 c.2 in
        let small = kept_small f.below n v f.high c.4 z.1 z.0 in
        let text = kept_text_lem f.below n v f.high c.4 z.1 (field_sign (ltb 0 f.below) s at n v k y small) in
        rw c.1 (
          (c.3, c.4, h.0),
          field_inv (ltb 0 f.below) s at n v k y small
              ∙ ap (λ (l : List ℕ). 32 ∷ l) (rw text (ap (λ (l : List ℕ). num_text n v ++ l) h.1 ∙ sym (append_assoc (num_text n v) (fields_text (belows es) c.0) (drop next s)))),
        )

-- ---- what was written

text_stops : (ks vs r : List ℕ) → Stops (fields_text ks vs ++ r)
unfolding fields_text is_digit
text_stops [] vs r = refl
text_stops (k ∷ ks) [] r = refl
text_stops (k ∷ ks) (v ∷ vs) r = refl

kept_read : (k v : ℕ) (r s : List ℕ) (at : ℕ) → v < too_large → k < too_large → drop at s ≡ 32 ∷ (kept_text k v ++ r) → Stops r
    → (n : Bool) × (w : ℕ) × (q : ℕ) × (field (ltb 0 k) s at ≡ num n w q) × (kept k n w ≡ v) × (drop q s ≡ r) × (at < q)
unfolding kept_text kept
kept_read k v r s at hv hk e t =
    by_lt v k
    (λ l.
    let e' : drop at s ≡ 32 ∷ (num_text true (k - v) ++ r) = rw (lt-ltb v k l) at e in
    let f = field_read (ltb 0 k) true (k - v) r s at e' (λ x. (lt-ltb 0 k (omega arith), omega arith)) (omega arith) t in
    (true, (k - v), (at + 1 + length (num_text true (k - v))), f.0, rw (le-ltb k (k - v) (omega arith)) (omega arith), f.1, omega arith))
    (λ l.
    let e' : drop at s ≡ 32 ∷ (num_text false (v - k) ++ r) = rw (le-ltb v k l) at e in
    let f = field_read (ltb 0 k) false (v - k) r s at e' (λ x. nonsense (cc)) (omega arith) t in
    (false, (v - k), (at + 1 + length (num_text false (v - k))), f.0, omega arith, f.1, omega arith))

pub fields_read : (es : List Range) (vs r s : List ℕ) (at : ℕ) → Tame es → Within es vs → drop at s ≡ fields_text (belows es) vs ++ r
    → (next : ℕ) × (fields es s at ≡ ok vs next) × (drop next s ≡ r) × (at < next)
unfolding fields fields_then fields_text join
fields_read [] [] r s at z w e = (at + 1, rw (eq-eqb (get_or s at 0) 10 (here_head s at 10 r e)), here_tail s at 10 r e, omega arith)
fields_read [] (v ∷ vs) r s at z w e = absurd w
fields_read (f ∷ es) [] r s at z w e = absurd w
fields_read (f ∷ es) (v ∷ vs) r s at z w e =
    let e' : drop at s ≡ 32 ∷ (kept_text f.below v ++ (fields_text (belows es) vs ++ r)) = e ∙ ap (λ (l : List ℕ). 32 ∷ l) (append_assoc (kept_text f.below v) (fields_text (belows es) vs) r) in
    let g = kept_read f.below v (fields_text (belows es) vs ++ r) s at (omega arith) z.0 e' (text_stops (belows es) vs r) in
    let h = fields_read es vs r s g.2 z.2 w.2 g.5 in
    let i = g.6 in
    let j = h.3 in
    (h.0, rw (g.3, h.1, g.4, not_outside f v w.0 w.1), h.2, omega arith)

-- where a line that was read ends
pub fields_next : (es : List Range) (s : List ℕ) (at : ℕ) (vs : List ℕ) (next : ℕ) → fields es s at ≡ ok vs next → (at < next) × (next ≤ length s)
unfolding fields fields_then
fields_next [] s at vs next e =
    by_pick (eqb (get_or s at 0) 10) _ _ _ e
    (λ t q. let k : at + 1 ≡ next = cc in let h = in_text s at 10 (omega arith) t in omega arith)
    (λ t q. nonsense (cc))
fields_next (f ∷ es) s at vs next e = go (field (ltb 0 f.below) s at) refl (λ k ws w. fields_next es s k ws next w) e
  where
    go : (x : Numeral) → field (ltb 0 f.below) s at ≡ x → ((k : ℕ) (ws : List ℕ) → fields es s k ≡ ok ws next → (k < next) × (next ≤ length s))
        → fields_then f at (λ k. fields es s k) x ≡ ok vs next → (at < next) × (next ≤ length s)
    go (stuck p) y ih q = nonsense (cc)
    go (num n v k) y ih q =
        let c = join_inv f (at + 1) (kept f.below n v) (fields es s k) vs next q in
        let h = ih k c.0 c.2 in
        let i = field_next (ltb 0 f.below) s at n v k y in
        omega arith
