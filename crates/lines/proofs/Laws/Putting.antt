-- Writes one after another, and the fields of a line one after another.
-- Assumes nothing.
use Prim.Native.Nat.{ℕ, ◌+◌, ◌-◌, ◌≤◌, ◌<◌}
use mathlib.Core.Path.{◌≡◌, refl, sym, ap, ◌∙◌}
use mathlib.Core.List.{List, [], ◌∷◌, ◌++◌, append_assoc, map}
use mathlib.Core.Bool.{true, false}
use native.Mathlib.Omega.{arith}
use native.Mathlib.Numerals.{add-one}
use lib.ListN.{length, get_or, set, take, length-append}
use lib.Seq.{sets, length-sets, take-suc, take_all}
use borrow.Author.Tests.{lt-ltb, le-ltb}
use Rattle.std.specs.List.{flat_map}
use Rattle.std.proofs.lemmas.List.Folds.{length-flat_map-take}
use Rattle.std.proofs.lemmas.List.{flat_map_more}
use Rattle.meaning.specs.Text.Numerals.{num_text}
use Rattle.meaning.specs.Text.Lines.{kept_text, fields_text}
use Rattle.meaning.proofs.Text.WriteLaws.{dec_f_none, dec_f_last, dec_f_then, length_then, num_text_minus, num_text_plain, sets_append}
use Rattle.lines.specs.declared.writing.Field.{Field}
use Rattle.lines.specs.Put.{Put}

pub put_nothing : (b : List ℕ) (at : ℕ) → Put b at [] b at
put_nothing b at = record { next = omega arith; text = refl }

pub put_byte : (b : List ℕ) (at x : ℕ) → Put b at (x ∷ []) (set b at x) (at + 1)
put_byte b at x = record { next = refl; text = refl }

pub put_then : (b : List ℕ) (at : ℕ) (xs ys c d : List ℕ) (k l : ℕ) → Put b at xs c k → Put c k ys d l → Put b at (xs ++ ys) d l
put_then b at xs ys c d k l p q =
    let e = p.next in
    record {
      next = q.next ∙ omega (arith, length-append xs ys);
      text = q.text ∙ ap (λ (z : List ℕ). sets z k ys) p.text ∙ ap (λ (z : ℕ). sets (sets b at xs) z ys) e ∙ sym (sets_append b at xs ys);
    }

pub put_length : (b : List ℕ) (at : ℕ) (xs b' : List ℕ) (r : ℕ) → Put b at xs b' r → length b' ≡ length b
put_length b at xs b' r p = ap length p.text ∙ length-sets b at xs

-- a byte, and then the rest
pub put_cons : (b : List ℕ) (at x : ℕ) (xs b' : List ℕ) (r : ℕ) → Put (set b at x) (at + 1) xs b' r → Put b at (x ∷ xs) b' r
put_cons b at x xs b' r p = put_then b at (x ∷ []) xs (set b at x) b' (at + 1) r (put_byte b at x) p

-- ---- a number that is kept with `below` added

pub kept_minus : (k v : ℕ) → v < k → kept_text k v ≡ num_text true (k - v)
unfolding kept_text
kept_minus k v h = rw (lt-ltb v k h)

pub kept_plain : (k v : ℕ) → k ≤ v → kept_text k v ≡ num_text false (v - k)
unfolding kept_text
kept_plain k v h = rw (le-ltb v k h)

-- ---- the fields of a line

-- one field
abbrev pub field_text : Field → List ℕ
field_text f = 32 ∷ kept_text f.below f.number

-- the whole line is its fields and the line feed
pub fields_all : (fs : List Field) → fields_text (map (λ (f : Field). f.below) fs) (map (λ (f : Field). f.number) fs) ≡ flat_map field_text fs ++ 10 ∷ []
unfolding fields_text
fields_all [] = refl
fields_all (f ∷ fs) = rw (fields_all fs, append_assoc)

module _ (fs : List Field) (c c₁ : List ℕ) (at k p : ℕ) (d : Field) (x : Put c at (flat_map field_text (take k fs)) c₁ p) where
  -- there is room for one field more
  pub field_room : k < length fs → at + length (fields_text (map (λ (f : Field). f.below) fs) (map (λ (f : Field). f.number) fs)) ≤ length c
      → p + length (field_text (get_or fs k d)) ≤ length c
  field_room i h = omega (arith, x.next, length-flat_map-take field_text fs k d i, ap length (fields_all fs), length-append (flat_map field_text fs) (10 ∷ []))

  -- one field more
  pub put_field_more : (c₂ : List ℕ) (r : ℕ) → k < length fs → Put c₁ p (field_text (get_or fs k d)) c₂ r → Put c at (flat_map field_text (take (k + 1) fs)) c₂ r
  put_field_more c₂ r i y =
      let e : flat_map field_text (take (k + 1) fs) ≡ flat_map field_text (take k fs) ++ field_text (get_or fs k d) = rw (add-one, take-suc fs k d i) (sym (flat_map_more field_text [] (take k fs) (get_or fs k d))) in
      rw e (put_then c at (flat_map field_text (take k fs)) (field_text (get_or fs k d)) c₁ c₂ p r x y)

-- the line feed
pub put_line_feed : (fs : List Field) (c c₁ : List ℕ) (at k p : ℕ) → length fs ≤ k → Put c at (flat_map field_text (take k fs)) c₁ p
    → Put c at (fields_text (map (λ (f : Field). f.below) fs) (map (λ (f : Field). f.number) fs)) (set c₁ p 10) (p + 1)
put_line_feed fs c c₁ at k p h x =
    rw (fields_all fs) (put_then c at (flat_map field_text fs) (10 ∷ []) c₁ (set c₁ p 10) p (p + 1) (rw (take_all k fs h) at x) (put_byte c₁ p 10))

pub end_room : (fs : List Field) (c c₁ : List ℕ) (at k p : ℕ) → length fs ≤ k → Put c at (flat_map field_text (take k fs)) c₁ p
    → at + length (fields_text (map (λ (f : Field). f.below) fs) (map (λ (f : Field). f.number) fs)) ≤ length c → p < length c
end_room fs c c₁ at k p h x q = omega (arith, (rw (take_all k fs h) at x).next, ap length (fields_all fs), length-append (flat_map field_text fs) (10 ∷ []))

-- ---- what the writers are proved by

pub ruleset digits_laws = (put_nothing, put_byte, put_then, dec_f_none, dec_f_last, dec_f_then, length_then)

pub ruleset sign_laws = (put_cons, num_text_minus, num_text_plain)
