-- The model's reader as it is called, and the writer: each is the other's inverse. No table's text is long, or has a comma or a full stop.
-- Assumes nothing.
use Prim.Native.Nat.{◌%◌, ◌*◌, ◌+◌, ◌-◌, ◌/◌, ◌≤◌, suc, zero, ℕ}
use mathlib.Core.Bool.{false}
use mathlib.Core.List.{List, [], ◌++◌, ◌∷◌, map}
use mathlib.Core.Logic.{◌↔◌}
use mathlib.Core.Path.{◌∙◌, ◌≡◌, refl}
use native.Mathlib.Omega.{arith}
use lib.Dec.{eqb}
use lib.ListN.{length, length-append}
use borrow.Author.Tests.{eqb-true, le-ltb, lt-ltb}
use Rattle.meaning.proofs.Text.Choices.{by_lt, by_pick, nonsense}
use Rattle.meaning.proofs.Text.ClearLaws.{Clear, clear_append, fields_clear, whole_clear, whole_done}
use Rattle.meaning.proofs.Text.ModelLaws.{lawful, model_read_proper, model_read_write, model_write_read}
use Rattle.meaning.proofs.Text.RecordLaws.{Proper}
use Rattle.meaning.specs.Text.Lines.{fields_text, kept_text}
use Rattle.meaning.specs.Text.ModelReader.{format, get, keys_at, line, line_of, mark_at, read_model}
use Rattle.meaning.specs.Text.ModelTable.{size}
use Rattle.meaning.specs.Text.ModelText.{Mark, ck, ed, en, form, gu, iv, lo, other, po, rs, tk}
use Rattle.meaning.specs.Text.Numerals.{dec, dec_f, digits_most, num_text}
use Rattle.meaning.specs.Text.Records.{done, is_stop, lines_to, read, write}

-- ---- lengths

dec_f_short : (f v : ℕ) → length (dec_f f v) ≤ f
unfolding dec_f
dec_f_short zero v = omega arith
dec_f_short (suc f) v =
    by_lt v 10 (λ h. rw (lt-ltb v 10 h) (omega arith))
    (λ h. rw (le-ltb v 10 h) (omega (arith, dec_f_short f (v / 10), length-append (dec_f f (v / 10)) ((48 + v % 10) ∷ []))))

kept_short : (k v : ℕ) → length (kept_text k v) ≤ 7
unfolding kept_text num_text dec
kept_short k v =
    by_lt v k (λ h. rw (lt-ltb v k h) (omega (arith, dec_f_short digits_most (k - v)))) (λ h. rw (le-ltb v k h) (omega (arith, dec_f_short digits_most (v - k))))

fields_short : (ks vs : List ℕ) → length (fields_text ks vs) ≤ 1 + 8 * length ks
unfolding fields_text
fields_short [] vs = omega arith
fields_short (k ∷ ks) [] = omega arith
fields_short (k ∷ ks) (v ∷ vs) = omega (arith, kept_short k v, fields_short ks vs, length-append (kept_text k v) (fields_text ks vs))

form_short : (q : Mark) → length (form q).below ≤ 3
unfolding form
form_short po = omega arith
form_short ck = omega arith
form_short tk = omega arith
form_short lo = omega arith
form_short iv = omega arith
form_short ed = omega arith
form_short gu = omega arith
form_short rs = omega arith
form_short en = omega arith
form_short other = omega arith

line_short : (j : ℕ) (v : List ℕ) → length (line j v) ≤ 27
unfolding line line_of
line_short j [] = omega arith
line_short j (x ∷ v) =
    omega (arith, form_short (mark_at j), fields_short (form (mark_at j)).below (keys_at (mark_at j) j ++ map (λ (y : ℕ). y - 1) (x ∷ v)))

lines_to_short : (m : List ℕ) (n : ℕ) → length (lines_to format m n) ≤ 27 * n
unfolding lines_to
lines_to_short m zero = omega arith
lines_to_short m (suc n) = omega (arith, lines_to_short m n, line_short n (get m n), length-append (lines_to format m n) (line n (get m n)))

-- any table's text, proper or not
pub text_short : (m : List ℕ) → length (write format m) ≤ 29487
unfolding write
text_short m = omega (arith, lines_to_short m size, length-append (lines_to format m size) (69 ∷ 78 ∷ 10 ∷ []))

-- ---- commas and full stops

form_clear : (q : Mark) → (is_stop (form q).first ≡ false) × (is_stop (form q).second ≡ false)
unfolding form is_stop
form_clear po = (refl, refl)
form_clear ck = (refl, refl)
form_clear tk = (refl, refl)
form_clear lo = (refl, refl)
form_clear iv = (refl, refl)
form_clear ed = (refl, refl)
form_clear gu = (refl, refl)
form_clear rs = (refl, refl)
form_clear en = (refl, refl)
form_clear other = (refl, refl)

line_clear : (j : ℕ) (v : List ℕ) → Clear (line j v)
unfolding line line_of
line_clear j [] = tt
line_clear j (x ∷ v) =
    let c = form_clear (mark_at j) in
    (c.0, (c.1, fields_clear (form (mark_at j)).below (keys_at (mark_at j) j ++ map (λ (y : ℕ). y - 1) (x ∷ v))))

lines_to_clear : (m : List ℕ) (n : ℕ) → Clear (lines_to format m n)
unfolding lines_to
lines_to_clear m zero = tt
lines_to_clear m (suc n) = clear_append (lines_to format m n) (line n (get m n)) (lines_to_clear m n) (line_clear n (get m n))

text_clear : (m : List ℕ) → Clear (write format m)
unfolding write is_stop
text_clear m = clear_append (lines_to format m size) (69 ∷ 78 ∷ 10 ∷ []) (lines_to_clear m size) (refl, (refl, (refl, tt)))

-- ---- the two round trips

pub model_written : (m : List ℕ) → Proper format lawful m → read_model size (write format m) ≡ done m
unfolding read_model
model_written m p = let h = text_short m in whole_clear (write format m) (read format (write format m)) (text_clear m) (omega arith) ∙ model_write_read m p

-- what a text that is read tells
pub record Told (n : ℕ) (s m : List ℕ) : Type 0 where
  pub whole : n ≡ size
  pub text : write format m ≡ s
  pub proper : Proper format lawful m

pub model_given : (n : ℕ) (s m : List ℕ) → read_model n s ≡ done m → Told n s m
unfolding read_model
model_given n s m e =
    by_pick (eqb n size) _ _ _ e
    (λ t e. let w = (whole_done s (read format s) m e).1 in record { whole = eqb-true n size t; text = model_read_write s m w; proper = model_read_proper s m w })
    (λ _ e. nonsense (cc))

-- so the tables that some text gives are just those that are read back from what they are written as: refusal 13 can be told by reading
pub proper_iff : (m : List ℕ) → Proper format lawful m ↔ (read_model size (write format m) ≡ done m)
proper_iff m = (model_written m, λ e. (model_given size (write format m) m e).proper)
