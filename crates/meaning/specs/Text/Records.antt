-- Any text of records, read and written. Document 01: "Each record is a line", "Records stand in this order", "record by record".
-- A record goes into a slot; slots are numbered in the order of the text. The cursor is the slot after the last record's.
-- Assumes nothing.
use Rattle.std.specs.Prelude.{ℕ, zero, suc, ◌+◌, List, [], ◌∷◌, ◌++◌, Bool, ◌||◌, ltb, eqb, length}
use Rattle.meaning.specs.Text.Choice.{pick}
use Rattle.meaning.specs.Text.Ranges.{text_most}
use Rattle.meaning.specs.Text.Refusals.{too_long, comma_or_stop}

-- What stands at a place. rec: a record for a slot, what it says, and the place after it; end: the text's last record; fault: a refusal number
-- and its place.
pub data Seen (W : Type 0) : Type 0 where
  rec : ℕ → W → ℕ → Seen W
  end : Seen W
  fault : ℕ → ℕ → Seen W

-- What a reader answers: what it has read, or a refusal number and its place.
pub data Answer (M : Type 0) : Type 0 where
  done : M → Answer M
  refused : ℕ → ℕ → Answer M

-- A text of records: how many slots; what is read before the first record; a slot's content, taken out and put in; the content of a slot without
-- a record, and the test for it; a slot's line; the last line; what stands at a place of the text, with the cursor and what was read so far.
pub record Format (M W : Type 0) : Type 0 where
  pub size : ℕ
  pub start : M
  pub get : M → ℕ → W
  pub put : M → ℕ → W → M
  pub none : W
  pub is_none : W → Bool
  pub line : ℕ → W → List ℕ
  pub last : List ℕ
  pub look : List ℕ → ℕ → ℕ → M → Seen W

module _ {M W : Type 0} (F : Format M W) where
  -- what follows on what was seen; `on` is the rest of the reading
  unfoldable pub turn : (ℕ → ℕ → M → Answer M) → M → Seen W → Answer M
  turn on m (rec j v next) = on next (suc j) (F.put m j v)
  turn on m end = done m
  turn on m (fault k p) = refused k p

  -- "record by record": the text from `at` on, with the cursor at i after m was read; f is more than the records that are left
  unfoldable pub run : ℕ → List ℕ → ℕ → ℕ → M → Answer M
  run zero s at i m = refused 0 0
  run (suc f) s at i m = turn (run f s) m (F.look s at i m)

  -- the whole text; each record takes a byte at least
  unfoldable pub read : List ℕ → Answer M
  read s = run (length s + 1) s 0 0 F.start

  -- the lines of the first n slots
  unfoldable pub lines_to : M → ℕ → List ℕ
  lines_to m zero = []
  lines_to m (suc n) = lines_to m n ++ F.line n (F.get m n)

  -- the text of what was read
  unfoldable pub write : M → List ℕ
  write m = lines_to m F.size ++ F.last

-- ---- the whole text

-- "a comma or full stop": 44, 46
unfoldable pub is_stop : ℕ → Bool
is_stop b = eqb b 44 || eqb b 46

-- how many bytes stand before the first comma or full stop; all of them where there is none
unfoldable pub first_stop : List ℕ → ℕ
first_stop [] = 0
first_stop (b ∷ bs) = pick (is_stop b) 0 (suc (first_stop bs))

-- "1 and 2 over the whole text, then record by record": r is the answer of the records of the text s
unfoldable pub whole_text : {M : Type 0} → List ℕ → Answer M → Answer M
whole_text s r =
    pick (ltb text_most (length s)) (refused too_long text_most)
    (pick (ltb (first_stop s) (length s)) (refused comma_or_stop (first_stop s)) r)
