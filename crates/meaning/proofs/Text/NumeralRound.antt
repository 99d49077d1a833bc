-- A number that was written is read back, and a number that was read is what would be written.
-- Assumes nothing.
use Prim.Native.Nat.{◌%◌, ◌*◌, ◌+◌, ◌-◌, ◌/◌, ◌<◌, ◌^◌, ◌≤◌, suc, zero, ℕ}
use mathlib.Core.Bool.{Bool, false, true}
use mathlib.Core.List.{List, [], ◌++◌, ◌∷◌, append_assoc, append-nil}
use mathlib.Core.Path.{◌∙◌, ◌≡◌, ap, refl, sym}
use native.Mathlib.Nat.{add-zero}
use native.Mathlib.Omega.{arith}
use lib.Dec.{eqb, leb}
use lib.ListN.{length}
use borrow.Author.Tests.{eqb-true, le-leb, le-ltb, lt-ltb, ne_eqb}
use Rattle.meaning.proofs.Text.Choices.{by_lt}
use Rattle.meaning.proofs.Text.NumeralLaws.{digit_low, push_le, two_tests}
use Rattle.meaning.specs.Text.Choice.{pick}
use Rattle.meaning.specs.Text.Numerals.{Numeral, dec, dec_f, digits, digits_most, is_digit, negated, num, num_text, number, positive, push, stuck, too_large}

-- bytes that are all digits
abbrev pub Digits : List ℕ → Type 0
Digits [] = Unit {0}
Digits (b ∷ bs) = (is_digit b ≡ true) × Digits bs

-- what may follow a number: the end, or a byte that is no digit
abbrev pub Stops : List ℕ → Type 0
Stops [] = Unit {0}
Stops (b ∷ bs) = is_digit b ≡ false

unfoldable pub value : ℕ → List ℕ → ℕ
value v [] = v
value v (b ∷ bs) = value (push v b) bs

value_snoc : (v : ℕ) (xs : List ℕ) (b : ℕ) → value v (xs ++ b ∷ []) ≡ push (value v xs) b
unfolding value
value_snoc v [] b = refl
value_snoc v (x ∷ xs) b = value_snoc (push v x) xs b

Digits-snoc : (xs : List ℕ) (b : ℕ) → Digits xs → is_digit b ≡ true → Digits (xs ++ b ∷ [])
Digits-snoc [] b d e = (e, tt)
Digits-snoc (x ∷ xs) b d e = (d.0, Digits-snoc xs b d.1 e)

digit_is : (v : ℕ) → v < 10 → is_digit (48 + v) ≡ true
unfolding is_digit
digit_is v h =
    let a : 48 ≤ 48 + v = omega arith in
    let b : 48 + v ≤ 57 = omega arith in
    rw (le-leb 48 (48 + v), le-leb (48 + v) 57)

-- the two cases of `dec_f`
dec_f_one : (f v : ℕ) → v < 10 → dec_f (suc f) v ≡ (48 + v) ∷ []
unfolding dec_f
dec_f_one f v h = rw (lt-ltb v 10)

dec_f_more : (f v : ℕ) → 10 ≤ v → dec_f (suc f) v ≡ dec_f f (v / 10) ++ (48 + v % 10) ∷ []
unfolding dec_f
dec_f_more f v h = rw (le-ltb v 10)

dec_digits : (f v : ℕ) → Digits (dec_f f v)
unfolding dec_f
dec_digits zero v = tt
dec_digits (suc f) v =
    by_lt v 10
    (λ h. rw (dec_f_one f v h) (digit_is v h, tt))
    (λ h. rw (dec_f_more f v h) (Digits-snoc (dec_f f (v / 10)) (48 + v % 10) (dec_digits f (v / 10)) (digit_is (v % 10) (omega arith))))

dec_value : (f v : ℕ) → v < 10 ^ f → v < too_large → value 0 (dec_f f v) ≡ v
unfolding dec_f value push
dec_value zero v h k = omega arith
dec_value (suc f) v h k =
    by_lt v 10
    (λ l. rw (dec_f_one f v l) (omega arith))
    (λ l. rw (dec_f_more f v l, value_snoc, dec_value f (v / 10) (omega arith) (omega arith)) (omega arith))

-- reading digits
digits_read : (xs r : List ℕ) (at v : ℕ) → Digits xs → Stops r → digits (xs ++ r) at v ≡ num false (value v xs) (at + length xs)
unfolding digits value
digits_read [] [] at v d t = ap (num false v) (omega arith)
digits_read [] (b ∷ r) at v d t = rw t (ap (num false v) (omega arith))
digits_read (x ∷ xs) r at v d t = rw d.0 (digits_read xs r (at + 1) (push v x) d.1 t ∙ ap (num false (value (push v x) xs)) (omega arith))

-- a number from 1 on begins with a digit from 1 on
record Heads (l : List ℕ) : Type 0 where
  head : ℕ
  tail : List ℕ
  is : l ≡ head ∷ tail
  low : 49 ≤ head
  high : head ≤ 57

heads_snoc : (l : List ℕ) (b : ℕ) → Heads l → Heads (l ++ b ∷ [])
heads_snoc l b h = record { head = h.head; tail = h.tail ++ b ∷ []; is = ap (λ (k : List ℕ). k ++ b ∷ []) h.is; low = h.low; high = h.high }

dec_heads : (f v : ℕ) → v < 10 ^ f → 0 < v → Heads (dec_f f v)
dec_heads zero v h k = absurd (omega arith)
dec_heads (suc f) v h k =
    by_lt v 10
    (λ l. record { head = 48 + v; tail = []; is = dec_f_one f v l; low = omega arith; high = omega arith })
    (λ l. rw (dec_f_more f v l) (heads_snoc (dec_f f (v / 10)) (48 + v % 10) (dec_heads f (v / 10) (omega arith) (omega arith))))

positive_read : (v : ℕ) (r : List ℕ) (at : ℕ) → 0 < v → v < too_large → Stops r → positive (dec v ++ r) at ≡ num false v (at + length (dec v))
unfolding positive dec
positive_read v r at p k t =
    let h = dec_heads digits_most v k p in
    let d = digits_read (dec_f digits_most v) r at 0 (dec_digits digits_most v) t ∙ ap (λ (n : ℕ). num false n (at + length (dec_f digits_most v))) (dec_value digits_most v k k) in
    rw (h.is, le-leb 49 h.head h.low, le-leb h.head 57 h.high) (rw h.is at d)

number_pos : (m : Bool) (b : ℕ) (bs : List ℕ) (at : ℕ) → 49 ≤ b → number m (b ∷ bs) at ≡ positive (b ∷ bs) at
unfolding number
number_pos true b bs at h = rw (ne_eqb b 48 (omega arith), ne_eqb b 45 (omega arith))
number_pos false b bs at h = rw (ne_eqb b 48 (omega arith))

number_read_pos : (m : Bool) (v : ℕ) (r : List ℕ) (at : ℕ) → 0 < v → v < too_large → Stops r → number m (dec v ++ r) at ≡ num false v (at + length (dec v))
number_read_pos m v r at p k t =
    let h = dec_heads digits_most v k p in
    let e : dec v ≡ h.head ∷ h.tail = unfold dec in h.is in
    rw e (number_pos m h.head (h.tail ++ r) at h.low ∙ (rw e at (positive_read v r at p k t)))

number_read_zero : (m : Bool) (r : List ℕ) (at : ℕ) → number m (dec 0 ++ r) at ≡ num false 0 (at + length (dec 0))
unfolding number dec dec_f
number_read_zero m r at = refl

-- a number that was written is read back
pub number_read : (m n : Bool) (v : ℕ) (r : List ℕ) (at : ℕ) → (n ≡ true → (m ≡ true) × (0 < v)) → v < too_large → Stops r
    → number m (num_text n v ++ r) at ≡ num n v (at + length (num_text n v))
unfolding number num_text negated
number_read m true v r at s k t =
    rw ((s refl).0, positive_read v r (at + 1) (s refl).1 k t) (ap (num true v) (omega arith))
number_read m false v r at s k t =
    by_lt 0 v (λ p. number_read_pos m v r at p k t) (λ p. let e : v ≡ 0 = omega arith in rw e (number_read_zero m r at))

-- ---- writing what was read

record Spanned (l : List ℕ) (at v : ℕ) (n : Bool) (w k : ℕ) : Type 0 where
  xs : List ℕ
  rest : List ℕ
  is : l ≡ xs ++ rest
  ok : Digits xs
  val : w ≡ value v xs
  next : k ≡ at + length xs
  sign : n ≡ false

digits_inv : (l : List ℕ) (at v : ℕ) (n : Bool) (w k : ℕ) → digits l at v ≡ num n w k → Spanned l at v n w k
unfolding digits value
digits_inv [] at v n w k e =
    let p : at ≡ k = cc in
    record { xs = []; rest = []; is = refl; ok = tt; val = cc; next = omega arith; sign = cc }
digits_inv (b ∷ bs) at v n w k e = go (is_digit b) refl (λ q. digits_inv bs (at + 1) (push v b) n w k q) e
  where
    go : (t : Bool) → is_digit b ≡ t → (digits bs (at + 1) (push v b) ≡ num n w k → Spanned bs (at + 1) (push v b) n w k) → pick t (digits bs (at + 1) (push v b)) (num false v at) ≡ num n w k → Spanned (b ∷ bs) at v n w k
    go true d ih q =
        let s = ih q in
        record { xs = b ∷ s.xs; rest = s.rest; is = ap (λ (l : List ℕ). b ∷ l) s.is; ok = (d, s.ok); val = s.val; next = s.next ∙ omega arith; sign = s.sign }
    go false d ih q =
        let p : at ≡ k = cc in
        record { xs = []; rest = b ∷ bs; is = refl; ok = tt; val = cc; next = omega arith; sign = cc }

add_suc_suc : (f n : ℕ) → f + suc n ≡ suc f + n
add_suc_suc f n = omega arith

value_ge : (v : ℕ) (xs : List ℕ) → v ≤ too_large → v ≤ value v xs
unfolding value push
value_ge v [] h = omega arith
value_ge v (x ∷ xs) h = omega (arith, value_ge (push v x) xs (push_le v x))

value_lt : (f v : ℕ) (xs : List ℕ) → Digits xs → v < 10 ^ f → value v xs < 10 ^ (f + length xs)
unfolding value push
value_lt f v [] d h = rw (add-zero f) h
value_lt f v (x ∷ xs) d h =
    let b = (digit_low x d.0).1 in
    rw (add_suc_suc f (length xs)) (value_lt (suc f) (push v x) xs d.1 (omega arith))

enough : (f g v : ℕ) → 0 < v → v < 10 ^ f → v < 10 ^ g → dec_f f v ≡ dec_f g v
enough zero g v p h k = absurd (omega arith)
enough (suc f) zero v p h k = absurd (omega arith)
enough (suc f) (suc g) v p h k =
    by_lt v 10
    (λ l. dec_f_one f v l ∙ sym (dec_f_one g v l))
    (λ l. rw (dec_f_more f v l, dec_f_more g v l, enough f g (v / 10) (omega arith) (omega arith) (omega arith)))

canonical : (xs : List ℕ) (f v : ℕ) → Digits xs → 0 < v → v < 10 ^ f → v ≤ too_large → value v xs < too_large → dec_f (f + length xs) (value v xs) ≡ dec_f f v ++ xs
unfolding value
canonical [] f v d p h g k = rw (add-zero f, append-nil)
canonical (x ∷ xs) f v d p h g k =
    let b = digit_low x d.0 in
    let u = value_ge (push v x) xs (push_le v x) in
    let e : push v x ≡ v * 10 + (x - 48) = unfold push in omega arith in
    let q : push v x / 10 ≡ v = omega arith in
    let m : 48 + push v x % 10 ≡ x = omega arith in
    let s : dec_f (suc f) (push v x) ≡ dec_f f v ++ x ∷ [] = rw (dec_f_more f (push v x) (omega arith), q, m) in
    rw (add_suc_suc f (length xs), canonical xs (suc f) (push v x) d.1 (omega arith) (omega arith) (push_le v x) k, s, append_assoc)

-- what reading a number tells of the text
pub record Wrote (l : List ℕ) (at : ℕ) (n : Bool) (w k : ℕ) : Type 0 where
  pub rest : List ℕ
  pub is : l ≡ num_text n w ++ rest
  pub next : k ≡ at + length (num_text n w)
  pub sign : n ≡ true → 0 < w

dec_is : (v : ℕ) → dec v ≡ dec_f digits_most v
unfolding dec
dec_is v = refl

dec_zero : dec 0 ≡ 48 ∷ []
unfolding dec dec_f
dec_zero = refl

first_digit : (b : ℕ) (bs : List ℕ) (at : ℕ) (n : Bool) (w k : ℕ) → 49 ≤ b → b ≤ 57 → w < too_large → Spanned bs (at + 1) (push 0 b) n w k
    → (r : List ℕ) × (b ∷ bs ≡ dec w ++ r) × (k ≡ at + length (dec w)) × (n ≡ false) × (0 < w)
first_digit b bs at n w k lo hi h s =
    let e : push 0 b ≡ b - 48 = unfold push in omega arith in
    let u = value_ge (push 0 b) s.xs (push_le 0 b) in
    let v = s.val in
    let c1 = canonical s.xs 1 (push 0 b) s.ok (omega arith) (omega arith) (push_le 0 b) (omega arith) in
    let c2 : dec_f 1 (push 0 b) ≡ b ∷ [] = dec_f_one 0 (push 0 b) (omega arith) ∙ ap (λ (x : ℕ). x ∷ []) (omega arith) in
    let c3 : dec_f digits_most w ≡ dec_f (1 + length s.xs) w =
    enough digits_most (1 + length s.xs) w (omega arith) h (rw v (value_lt 1 (push 0 b) s.xs s.ok (omega arith))) in
    let c4 : dec_f digits_most w ≡ b ∷ s.xs = c3 ∙ ap (λ (x : ℕ). dec_f (1 + length s.xs) x) v ∙ c1 ∙ ap (λ (x : List ℕ). x ++ s.xs) c2 in
    let c5 : dec w ≡ b ∷ s.xs = dec_is w ∙ c4 in
    (s.rest, rw c5 (ap (λ (x : List ℕ). b ∷ x) s.is), rw c5 (s.next ∙ omega arith), s.sign, omega arith)

positive_inv : (l : List ℕ) (at : ℕ) (n : Bool) (w k : ℕ) → positive l at ≡ num n w k → w < too_large
    → (r : List ℕ) × (l ≡ dec w ++ r) × (k ≡ at + length (dec w)) × (n ≡ false) × (0 < w)
unfolding positive digits
positive_inv [] at n w k e h = let z : ◌≡◌ {A = ℕ} 0 1 = cc in absurd (omega arith)
positive_inv (b ∷ bs) at n w k e h = go (pick (leb 49 b) (leb b 57) false) refl e
  where
    go : (t : Bool) → pick (leb 49 b) (leb b 57) false ≡ t → pick t (digits (b ∷ bs) at 0) (stuck at) ≡ num n w k
        → (r : List ℕ) × (b ∷ bs ≡ dec w ++ r) × (k ≡ at + length (dec w)) × (n ≡ false) × (0 < w)
    go true d q =
        let x = two_tests 49 57 b d in
        let i : is_digit b ≡ true = ap is_digit (omega arith) ∙ digit_is (b - 48) (omega arith) in
        first_digit b bs at n w k x.0 x.1 h (digits_inv bs (at + 1) (push 0 b) n w k (rw i at q))
    go false d q = let z : ◌≡◌ {A = ℕ} 0 1 = cc in absurd (omega arith)

negated_inv : (x : Numeral) (n : Bool) (w k : ℕ) → negated x ≡ num n w k → (n ≡ true) × ((m : Bool) × (x ≡ num m w k))
unfolding negated
negated_inv (num m v j) n w k e = (cc, (m, cc))
negated_inv (stuck j) n w k e = let z : ◌≡◌ {A = ℕ} 0 1 = cc in absurd (omega arith)

wrote_plain : (l r : List ℕ) (at : ℕ) (n : Bool) (w k : ℕ) → l ≡ dec w ++ r → k ≡ at + length (dec w) → n ≡ false → Wrote l at n w k
unfolding num_text
wrote_plain l r at n w k e j s = rw s (record { rest = r; is = e; next = j; sign = λ z. absurd (let y : ◌≡◌ {A = ℕ} 0 1 = cc in omega arith) })

wrote_minus : (b : ℕ) (bs r : List ℕ) (at : ℕ) (n : Bool) (w k : ℕ) → b ≡ 45 → bs ≡ dec w ++ r → k ≡ at + 1 + length (dec w) → n ≡ true → 0 < w
    → Wrote (b ∷ bs) at n w k
unfolding num_text
wrote_minus b bs r at n w k d e j s p = rw (s, d) (record { rest = r; is = ap (λ (x : List ℕ). 45 ∷ x) e; next = omega arith; sign = λ z. p })

-- a number that was read, and is not too large, is what would be written
pub number_inv : (m : Bool) (l : List ℕ) (at : ℕ) (n : Bool) (w k : ℕ) → number m l at ≡ num n w k → w < too_large → Wrote l at n w k
unfolding number
number_inv m [] at n w k e h = let z : ◌≡◌ {A = ℕ} 0 1 = cc in absurd (omega arith)
number_inv m (b ∷ bs) at n w k e h = zero? (eqb b 48) refl e
  where
    plain : positive (b ∷ bs) at ≡ num n w k → Wrote (b ∷ bs) at n w k
    plain q =
        let p = positive_inv (b ∷ bs) at n w k q h in
        wrote_plain (b ∷ bs) p.0 at n w k p.1 p.2 p.3

    minus? : (t : Bool) → eqb b 45 ≡ t → pick t (negated (positive bs (at + 1))) (positive (b ∷ bs) at) ≡ num n w k → Wrote (b ∷ bs) at n w k
    minus? true d q =
        let g = negated_inv (positive bs (at + 1)) n w k q in
        let p = positive_inv bs (at + 1) g.1.0 w k g.1.1 h in
        wrote_minus b bs p.0 at n w k (eqb-true b 45 d) p.1 p.2 g.0 p.4
    minus? false d q = plain q

    sign? : (t : Bool) → pick (pick t (eqb b 45) false) (negated (positive bs (at + 1))) (positive (b ∷ bs) at) ≡ num n w k → Wrote (b ∷ bs) at n w k
    sign? true q = minus? (eqb b 45) refl q
    sign? false q = plain q

    zero? : (t : Bool) → eqb b 48 ≡ t → pick t (num false 0 (at + 1)) (pick (pick m (eqb b 45) false) (negated (positive bs (at + 1))) (positive (b ∷ bs) at)) ≡ num n w k → Wrote (b ∷ bs) at n w k
    zero? true d q =
        let e0 : 0 ≡ w = cc in
        let e1 : at + 1 ≡ k = cc in
        let e2 = eqb-true b 48 d in
        wrote_plain (b ∷ bs) bs at n w k (rw (← e0, dec_zero, e2)) (rw (← e0, dec_zero) (sym e1)) (cc)
    zero? false d q = sign? m q

-- where no minus may stand a number has none
positive_plain : (l : List ℕ) (at : ℕ) (n : Bool) (w k : ℕ) → positive l at ≡ num n w k → n ≡ false
unfolding positive digits
positive_plain [] at n w k e = let z : ◌≡◌ {A = ℕ} 0 1 = cc in absurd (omega arith)
positive_plain (b ∷ bs) at n w k e = go (pick (leb 49 b) (leb b 57) false) e
  where
    go : (t : Bool) → pick t (digits (b ∷ bs) at 0) (stuck at) ≡ num n w k → n ≡ false
    go true q = (digits_inv (b ∷ bs) at 0 n w k q).sign
    go false q = let z : ◌≡◌ {A = ℕ} 0 1 = cc in absurd (omega arith)

pub number_plain_sign : (l : List ℕ) (at : ℕ) (n : Bool) (w k : ℕ) → number false l at ≡ num n w k → n ≡ false
unfolding number
number_plain_sign [] at n w k e = let z : ◌≡◌ {A = ℕ} 0 1 = cc in absurd (omega arith)
number_plain_sign (b ∷ bs) at n w k e = go (eqb b 48) e
  where
    go : (t : Bool) → pick t (num false 0 (at + 1)) (positive (b ∷ bs) at) ≡ num n w k → n ≡ false
    go true q = cc
    go false q = positive_plain (b ∷ bs) at n w k q
