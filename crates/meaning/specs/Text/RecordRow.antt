-- Any text of records that are put one behind the other, read. Document 01: "Each record is a line", "record by record".
-- Where Records has a slot for each record that may stand, here what was read so far decides what may stand next.
-- Assumes nothing.
use Rattle.std.specs.Prelude.{ℕ, zero, suc, ◌+◌, List, length}
use Rattle.meaning.specs.Text.Records.{Answer, done, refused}

-- What stands at a place. next: a record, and the place after it; closed: the text's last record; wrong: a refusal number and its place.
pub data Met (W : Type 0) : Type 0 where
  next : W → ℕ → Met W
  closed : Met W
  wrong : ℕ → ℕ → Met W

-- A text of records: what is read before the first record; a record put behind what was read; a record's line; the last line; what stands at a
-- place of the text, after what was read so far.
pub record Row (M W : Type 0) : Type 0 where
  pub start : M
  pub put : M → W → M
  pub line : W → List ℕ
  pub last : List ℕ
  pub look : List ℕ → ℕ → M → Met W

module _ {M W : Type 0} (R : Row M W) where
  -- what follows on what was met; `on` is the rest of the reading
  unfoldable pub turn : (ℕ → M → Answer M) → M → Met W → Answer M
  turn on m (next w k) = on k (R.put m w)
  turn on m closed = done m
  turn on m (wrong k p) = refused k p

  -- "record by record": the text from `at` on, after m was read; f is more than the records that are left
  unfoldable pub run : ℕ → List ℕ → ℕ → M → Answer M
  run zero s at m = refused 0 0
  run (suc f) s at m = turn (run f s) m (R.look s at m)

  -- the whole text; each record takes a byte at least
  unfoldable pub read : List ℕ → Answer M
  read s = run (length s + 1) s 0 R.start
