-- The fields of a line, after its mark. Document 01: "fields each after one space, a line feed".
-- s is the whole text and `at` a place in it. Past the end `get_or s at 0` is 0, which no rule lets stand, so no rule asks for the length.
-- Assumes nothing.
use Rattle.std.specs.Prelude.{ℕ, zero, suc, ◌+◌, ◌-◌, List, [], ◌∷◌, ◌++◌, map, Bool, true, false, ◌||◌, ltb, eqb, ℤ, get_or, drop}
use Rattle.std.proofs.Math.IntN.{sub_ℕ}
use Rattle.meaning.specs.Numbers.{over, under}
use Rattle.meaning.specs.Text.Choice.{pick}
use Rattle.meaning.specs.Text.Numerals.{Numeral, num, stuck, too_large, number, num_text}

-- "fields each after one space": 32, and a number
unfoldable pub field : Bool → List ℕ → ℕ → Numeral
field minus s at = pick (eqb (get_or s at 0) 32) (number minus (drop (at + 1) s) (at + 1)) (stuck at)

-- A range. A number is kept with `below` added, so that what is kept is never below 0; the two ends are kept so too.
pub record Range : Type 0 where
  pub below : ℕ
  pub low : ℕ
  pub high : ℕ

-- from a to b
abbrev pub between : ℕ → ℕ → Range
between a b = record { below = 0; low = a; high = b }

-- from −k to k
abbrev pub around : ℕ → Range
around k = record { below = k; low = 0; high = k + k }

-- "number outside its range"
unfoldable pub outside : Range → ℕ → Bool
outside e v = ltb v e.low || ltb e.high v

-- what is kept of a number with its sign; one below the range's low end may be kept as too_large, which is outside every range too
unfoldable pub kept : ℕ → Bool → ℕ → ℕ
kept k true v = pick (ltb k v) too_large (k - v)
kept k false v = k + v

-- What the fields of a line come to.
-- ok: the numbers as they are kept and the place after the line; bad: "first byte that can't go on, or the text's end"; out: the first byte of
-- the first number outside its range.
pub data Fields : Type 0 where
  ok : List ℕ → ℕ → Fields
  bad : ℕ → Fields
  out : ℕ → Fields

-- "in a line, 4 for all fields before 5": a number kept as v that stands at p, in front of what the rest of the line came to
unfoldable pub join : Range → ℕ → ℕ → Fields → Fields
join e p v (ok vs next) = pick (outside e v) (out p) (ok (v ∷ vs) next)
join e p v (bad q) = bad q
join e p v (out q) = out (pick (outside e v) p q)

-- a field, and then the rest of the line from the place after it
unfoldable pub fields_then : Range → ℕ → (ℕ → Fields) → Numeral → Fields
fields_then e at rest (stuck p) = bad p
fields_then e at rest (num n v k) = join e (at + 1) (kept e.below n v) (rest k)

-- a number for each range, with a minus "where the range goes below 0", and "a line feed": 10
unfoldable pub fields : List Range → List ℕ → ℕ → Fields
fields [] s at = pick (eqb (get_or s at 0) 10) (ok [] (at + 1)) (bad at)
fields (e ∷ es) s at = fields_then e at (λ k. fields es s k) (field (ltb 0 e.below) s at)

-- "0 to 6 tasks", "the claims": at most n numbers of one range, and "a line feed"
unfoldable pub fields_up_to : ℕ → Range → List ℕ → ℕ → Fields
fields_up_to zero e s at = fields [] s at
fields_up_to (suc n) e s at =
    pick (eqb (get_or s at 0) 10) (ok [] (at + 1)) (fields_then e at (λ k. fields_up_to n e s k) (field (ltb 0 e.below) s at))

-- a number for each range, then at most n numbers of one range
unfoldable pub fields_more : List Range → ℕ → Range → List ℕ → ℕ → Fields
fields_more [] n e s at = fields_up_to n e s at
fields_more (f ∷ es) n e s at = fields_then f at (λ k. fields_more es n e s k) (field (ltb 0 f.below) s at)

-- a signed number as it is kept, with k added
abbrev pub raised_by : ℕ → ℤ → ℕ
raised_by k c = k + over c - under c

-- a signed number from what is kept of it: k less
abbrev pub lowered_by : ℕ → ℕ → ℤ
lowered_by k v = sub_ℕ v k

-- the text of a number that is kept with k added
unfoldable pub kept_text : ℕ → ℕ → List ℕ
kept_text k v = pick (ltb v k) (num_text true (k - v)) (num_text false (v - k))

-- the text of the numbers vs, each kept with the number of the first list added, and the line feed
unfoldable pub fields_text : List ℕ → List ℕ → List ℕ
fields_text [] vs = 10 ∷ []
fields_text (k ∷ ks) [] = 10 ∷ []
fields_text (k ∷ ks) (v ∷ vs) = 32 ∷ (kept_text k v ++ fields_text ks vs)

-- the text of numbers whose ranges do not go below 0, and the line feed
unfoldable pub numbers_text : List ℕ → List ℕ
numbers_text vs = fields_text (map (λ (v : ℕ). 0) vs) vs
