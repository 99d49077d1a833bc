-- One number of a text, read and written. Document 01: "A number is 0 or digits without a leading 0; where the range goes below 0 a minus may
-- precede a number that isn't 0."
-- A number is read from the list of the bytes from its place on; `at` is the place of the list's first byte in the whole text.
-- Assumes nothing.
use Rattle.std.specs.Prelude.{ℕ, zero, suc, ◌+◌, ◌-◌, ◌*◌, ◌/◌, ◌%◌, min, List, [], ◌∷◌, ◌++◌, Bool, true, false, ltb, leb, eqb}
use Rattle.meaning.specs.Text.Choice.{pick}

-- no range has an end of more digits than these
abbrev pub digits_most : ℕ
digits_most = 6

-- 10 to the power of digits_most: numbers from here on are all taken for this one, which is out of every range
abbrev pub too_large : ℕ
too_large = 1000000

-- What reading a number comes to.
-- num: whether it has a minus, its size, and the place after it; stuck: "first byte that can't go on, or the text's end".
pub data Numeral : Type 0 where
  num : Bool → ℕ → ℕ → Numeral
  stuck : ℕ → Numeral

-- "digits": 48 to 57
unfoldable pub is_digit : ℕ → Bool
is_digit b = pick (leb 48 b) (leb b 57) false

-- one digit more behind those that came to v
unfoldable pub push : ℕ → ℕ → ℕ
push v b = min (v * 10 + (b - 48)) too_large

-- the digits from here on, behind those that came to v
unfoldable pub digits : List ℕ → ℕ → ℕ → Numeral
digits [] at v = num false v at
digits (b ∷ bs) at v = pick (is_digit b) (digits bs (at + 1) (push v b)) (num false v at)

-- "digits without a leading 0"
unfoldable pub positive : List ℕ → ℕ → Numeral
positive [] at = stuck at
positive (b ∷ bs) at = pick (pick (leb 49 b) (leb b 57) false) (digits (b ∷ bs) at 0) (stuck at)

-- the same number behind a minus
unfoldable pub negated : Numeral → Numeral
negated (num n v at) = num true v at
negated (stuck at) = stuck at

-- "0 or digits without a leading 0; where the range goes below 0 (minus) a minus may precede a number that isn't 0"
unfoldable pub number : Bool → List ℕ → ℕ → Numeral
number minus [] at = stuck at
number minus (b ∷ bs) at =
    pick (eqb b 48) (num false 0 (at + 1))
    (pick (pick minus (eqb b 45) false) (negated (positive bs (at + 1))) (positive (b ∷ bs) at))

-- the digits of a number of at most f digits, with no leading 0
unfoldable pub dec_f : ℕ → ℕ → List ℕ
dec_f zero v = []
dec_f (suc f) v = pick (ltb v 10) ((48 + v) ∷ []) (dec_f f (v / 10) ++ (48 + v % 10) ∷ [])

-- the text of a number below too_large
unfoldable pub dec : ℕ → List ℕ
dec v = dec_f digits_most v

-- the text of a number with its sign: 45 is the minus
unfoldable pub num_text : Bool → ℕ → List ℕ
num_text true v = 45 ∷ dec v
num_text false v = dec v
