-- Texts without a comma or a full stop, and what the whole text is held to before its records.
-- Assumes nothing.
use Prim.Native.Nat.{◌%◌, ◌+◌, ◌-◌, ◌/◌, ◌<◌, ◌≤◌, suc, zero, ℕ}
use mathlib.Core.Bool.{false}
use mathlib.Core.List.{List, [], ◌++◌, ◌∷◌}
use mathlib.Core.Path.{◌≡◌, ap, refl}
use native.Mathlib.Omega.{arith}
use lib.Dec.{ltb}
use lib.ListN.{length}
use borrow.Author.Tests.{le-ltb, lt-ltb, ltb-false, ne_eqb}
use Rattle.meaning.proofs.Text.Choices.{by_lt, by_pick, nonsense}
use Rattle.meaning.specs.Text.Lines.{fields_text, kept_text}
use Rattle.meaning.specs.Text.Numerals.{dec, dec_f, digits_most, num_text}
use Rattle.meaning.specs.Text.Ranges.{text_most}
use Rattle.meaning.specs.Text.Records.{Answer, done, first_stop, is_stop, whole_text}

abbrev pub Clear : List ℕ → Type 0
Clear [] = Unit {0}
Clear (b ∷ bs) = (is_stop b ≡ false) × Clear bs

pub clear_append : (xs ys : List ℕ) → Clear xs → Clear ys → Clear (xs ++ ys)
clear_append [] ys a b = b
clear_append (x ∷ xs) ys a b = (a.0, clear_append xs ys a.1 b)

clear_first : (s : List ℕ) → Clear s → first_stop s ≡ length s
unfolding first_stop
clear_first [] c = refl
clear_first (b ∷ bs) c = rw c.0 (ap suc (clear_first bs c.1))

digit_clear : (v : ℕ) → v < 10 → is_stop (48 + v) ≡ false
unfolding is_stop
digit_clear v h = rw (ne_eqb (48 + v) 44 (omega arith), ne_eqb (48 + v) 46 (omega arith))

dec_f_clear : (f v : ℕ) → Clear (dec_f f v)
unfolding dec_f
dec_f_clear zero v = tt
dec_f_clear (suc f) v =
    by_lt v 10 (λ h. rw (lt-ltb v 10 h) (digit_clear v h, tt))
    (λ h. rw (le-ltb v 10 h) (clear_append (dec_f f (v / 10)) ((48 + v % 10) ∷ []) (dec_f_clear f (v / 10)) (digit_clear (v % 10) (omega arith), tt)))

kept_clear : (k v : ℕ) → Clear (kept_text k v)
unfolding kept_text num_text dec is_stop
kept_clear k v = by_lt v k (λ h. rw (lt-ltb v k h) (refl, dec_f_clear digits_most (k - v))) (λ h. rw (le-ltb v k h) (dec_f_clear digits_most (v - k)))

pub fields_clear : (ks vs : List ℕ) → Clear (fields_text ks vs)
unfolding fields_text is_stop
fields_clear [] vs = (refl, tt)
fields_clear (k ∷ ks) [] = (refl, tt)
fields_clear (k ∷ ks) (v ∷ vs) = (refl, clear_append (kept_text k v) (fields_text ks vs) (kept_clear k v) (fields_clear ks vs))

-- ---- "1 and 2 over the whole text"

pub whole_clear : {M : Type 0} (s : List ℕ) (r : Answer M) → Clear s → length s ≤ text_most → whole_text s r ≡ r
unfolding whole_text
whole_clear s r c h =
    let f = clear_first s c in
    rw (le-ltb text_most (length s) h, le-ltb (first_stop s) (length s) (omega arith))

pub whole_done : {M : Type 0} (s : List ℕ) (r : Answer M) (x : M) → whole_text s r ≡ done x → (length s ≤ text_most) × (r ≡ done x)
unfolding whole_text
whole_done s r x e =
    by_pick (ltb text_most (length s)) _ _ _ e (λ _ e. nonsense (cc))
    (λ h e. by_pick (ltb (first_stop s) (length s)) _ _ _ e (λ _ e. nonsense (cc)) (λ _ e. (ltb-false text_most (length s) h, e)))
