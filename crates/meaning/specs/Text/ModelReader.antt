-- What a model's reader answers on any list of bytes. Document 01, "The two texts" and "Refusal numbers".
-- Records stand in the order of their slots, so the cursor tells what may still stand, and "rising" is: not below the cursor.
-- Assumes nothing.
use Rattle.std.specs.Prelude.{ℕ, zero, suc, ◌+◌, ◌-◌, ◌*◌, ◌/◌, ◌%◌, ◌≡◌, List, [], ◌∷◌, ◌++◌, map, Bool, true, false, ◌&&◌, ◌||◌, ltb, leb, eqb, length, get_or, drop, replicate}
use Rattle.std.proofs.lemmas.List.Edits.{sets}
use Rattle.meaning.specs.Text.Choice.{pick}
use Rattle.meaning.specs.Text.Ranges.{policies_most, clocks_most, time_most, prio_most, tasks_most, locations_most, edges_most}
use Rattle.meaning.specs.Text.Refusals.{mark_not_here, too_many, broken_line, out_of_range, work_over_deadline, wrong_priority, not_rising, wrong_room}
use Rattle.meaning.specs.Text.Lines.{Range, between, around, Fields, ok, bad, out, fields, fields_text}
use Rattle.meaning.specs.Text.Records.{Seen, rec, end, fault, Answer, done, refused, Format, read, whole_text}
use Rattle.meaning.specs.Text.ModelText.{Mark, po, ck, tk, lo, iv, ed, gu, rs, en, other, form}
use Rattle.meaning.specs.Text.ModelTable.{size, policy_slot, clocks_slot, task_slot, location_slot, edge_slot, there, clocks, tasks, locations, edges}

-- ---- the mark

-- is it the mark with these two bytes?
unfoldable pub is_mark : Mark → ℕ → ℕ → Bool
is_mark q a b = eqb a (form q).first && eqb b (form q).second

-- the mark with these two bytes
unfoldable pub mark_of : ℕ → ℕ → Mark
mark_of a b =
    pick (is_mark po a b) po (pick (is_mark ck a b) ck (pick (is_mark tk a b) tk (pick (is_mark lo a b) lo (pick (is_mark iv a b) iv
    (pick (is_mark ed a b) ed (pick (is_mark gu a b) gu (pick (is_mark rs a b) rs (pick (is_mark en a b) en other))))))))

-- ---- the rules

-- has one of the first n tasks this priority?
unfoldable pub used : List ℕ → ℕ → ℕ → Bool
used t p zero = false
used t p (suc n) = used t p n || eqb (get_or t (task_slot n + 2) 0) (p + 1)

-- "FPS: priority 0 or used before. EDF: not 0"; M-100, of PO 3: "priority must then be 0, else 8"
unfoldable pub misfit : List ℕ → ℕ → Bool
misfit t p = pick (eqb (get_or t policy_slot 0) 2) (eqb p 0 || used t p tasks_most) (ltb 0 p)

-- What a record is held to after what was read: whether what must stand before it is there; the last cursor at which it may stand; whether there
-- is room for one more; the ranges of its numbers; of its numbers the refusal 7, 8 or 6 that they get, or 0, and the slot that they go to.
pub record Rule : Type 0 where
  pub due : Bool
  pub latest : ℕ
  pub room : Bool
  pub ends : List Range
  pub wrong : List ℕ → ℕ
  pub slot : List ℕ → ℕ

-- the slot of the location, and of the edge, that was read last
abbrev pub location : List ℕ → ℕ
location t = location_slot (locations t - 1)

abbrev pub edge : List ℕ → ℕ
edge t = edge_slot (edges t - 1)

-- the table of "The two texts", mark by mark, after the table t was read
unfoldable pub rule : Mark → List ℕ → Rule
-- "1 FPS, 2 EDF"; M-100: "PO may be 3"; before all others
rule po t = record { due = true; latest = policy_slot; room = true; ends = between 1 policies_most ∷ []; wrong = λ v. 0; slot = λ v. policy_slot }
-- "clocks, 0 to 4"; after PO, once
rule ck t = record { due = there t policy_slot; latest = clocks_slot; room = true; ends = between 0 clocks_most ∷ []; wrong = λ v. 0; slot = λ v. clocks_slot }
-- "C and D, 1 to 10,000; priority 0 to 6"; after CK, not after a location
rule tk t = record {
  due = there t clocks_slot;
  latest = location_slot 0;
  room = ltb (tasks t) tasks_most;
  ends = between 1 time_most ∷ between 1 time_most ∷ between 0 prio_most ∷ [];
  wrong = λ v. pick (ltb (get_or v 1 0) (get_or v 0 0)) work_over_deadline (pick (misfit t (get_or v 2 0)) wrong_priority 0);
  slot = λ v. task_slot (tasks t);
}
-- "task released or 0"; after a task, not after an edge
rule lo t = record { due = there t (task_slot 0); latest = edge_slot 0; room = ltb (locations t) locations_most; ends = between 0 (tasks t) ∷ []; wrong = λ v. 0; slot = λ v. location_slot (locations t) }
-- "clock, limit 0 to 10,000"; under a location, not after an edge
rule iv t = record { due = there t (location_slot 0); latest = edge_slot 0; room = true; ends = between 1 (clocks t) ∷ between 0 time_most ∷ []; wrong = λ v. 0; slot = λ v. location t + get_or v 0 0 }
-- "from, to"; after a location
rule ed t = record { due = there t (location_slot 0); latest = size; room = ltb (edges t) edges_most; ends = between 1 (locations t) ∷ between 1 (locations t) ∷ []; wrong = λ v. 0; slot = λ v. edge_slot (edges t) }
-- "i, j, c from −10,000 to 10,000", "i ≠ j, clocks or 0"; under an edge, not after a reset of it
rule gu t = record {
  due = there t (edge_slot 0);
  latest = edge t + 27;
  room = true;
  ends = between 0 (clocks t) ∷ between 0 (clocks t) ∷ around time_most ∷ [];
  wrong = λ v. pick (eqb (get_or v 0 0) (get_or v 1 0)) not_rising 0;
  slot = λ v. edge t + 2 + 5 * get_or v 0 0 + get_or v 1 0;
}
-- "clock"; under an edge
rule rs t = record { due = there t (edge_slot 0); latest = size; room = true; ends = between 1 (clocks t) ∷ []; wrong = λ v. 0; slot = λ v. edge t + 26 + get_or v 0 0 }
-- "1, last"; after a location
rule en t = record { due = there t (location_slot 0); latest = size; room = true; ends = []; wrong = λ v. 0; slot = λ v. 0 }
-- two bytes that are no mark of the model text
rule other t = record { due = false; latest = 0; room = true; ends = []; wrong = λ v. 0; slot = λ v. 0 }

-- the cells of a record with these numbers
unfoldable pub cells : Mark → List ℕ → List ℕ
cells q v = map suc (drop (form q).keys v)

-- ---- reading

-- "from 3 to 9": 4, 5, then 3 for bytes after EN, 7, 8 and 6, of a record at `at` whose numbers came to the last argument
unfoldable pub judge : Mark → List ℕ → ℕ → ℕ → List ℕ → Fields → Seen (List ℕ)
judge q s at i t (bad p) = fault broken_line p
judge q s at i t (out p) = fault out_of_range p
judge q s at i t (ok v next) =
    pick (form q).closes
    (pick (ltb next (length s)) (fault mark_not_here next) end)
    (pick (ltb 0 ((rule q t).wrong v)) (fault ((rule q t).wrong v) at)
    (pick (ltb ((rule q t).slot v) i) (fault not_rising at) (rec ((rule q t).slot v) (cells q v) next)))

-- 3, then 10, then the numbers
unfoldable pub look_for : Mark → List ℕ → ℕ → ℕ → List ℕ → Seen (List ℕ)
look_for q s at i t =
    pick ((rule q t).due && leb i (rule q t).latest)
    (pick (rule q t).room (judge q s at i t (fields (rule q t).ends s (at + 2))) (fault too_many at))
    (fault mark_not_here at)

-- the record at `at` of the text s, with the cursor at i and the table t so far
unfoldable pub look : List ℕ → ℕ → ℕ → List ℕ → Seen (List ℕ)
look s at i t = look_for (mark_of (get_or s at 0) (get_or s (at + 1) 0)) s at i t

-- ---- writing

-- the mark of an edge's record by its place in the edge
unfoldable pub mark_in_edge : ℕ → Mark
mark_in_edge r = pick (eqb r 0) ed (pick (eqb r 1) other (pick (ltb r 27) gu rs))

-- the mark of a record by its slot; other: no record has this slot
unfoldable pub mark_at : ℕ → Mark
mark_at j =
    pick (ltb j 1) po (pick (ltb j 2) ck (pick (ltb j 20) (pick (eqb ((j - 2) % 3) 0) tk other)
    (pick (ltb j 100) (pick (eqb ((j - 20) % 5) 0) lo iv) (mark_in_edge ((j - 100) % 31)))))

-- the numbers of a record that only say where it belongs, by its slot: the clock of IV, i and j of GU
unfoldable pub keys_at : Mark → ℕ → List ℕ
keys_at po j = []
keys_at ck j = []
keys_at tk j = []
keys_at lo j = []
keys_at iv j = ((j - 20) % 5) ∷ []
keys_at ed j = []
keys_at gu j = (((j - 100) % 31 - 2) / 5) ∷ (((j - 100) % 31 - 2) % 5) ∷ []
keys_at rs j = []
keys_at en j = []
keys_at other j = []

-- the line of a record with this mark, slot and cells
unfoldable pub line_of : Mark → ℕ → List ℕ → List ℕ
line_of q j w = (form q).first ∷ (form q).second ∷ fields_text (form q).below (keys_at q j ++ map (λ (x : ℕ). x - 1) w)

-- the line of slot j with these cells; none where there are none
unfoldable pub line : ℕ → List ℕ → List ℕ
line j [] = []
line j (x ∷ w) = line_of (mark_at j) j (x ∷ w)

-- ---- the text as a text of records

-- n cells from k on
unfoldable pub words : List ℕ → ℕ → ℕ → List ℕ
words t k zero = []
words t k (suc n) = get_or t k 0 ∷ words t (suc k) n

-- how many cells a record has
unfoldable pub width : Mark → ℕ
width q = length (form q).below - (form q).keys

-- the cells of the record whose slot is k; none where no record is
unfoldable pub get : List ℕ → ℕ → List ℕ
get t k = pick (there t k) (words t k (width (mark_at k))) []

unfoldable pub is_none : List ℕ → Bool
is_none [] = true
is_none (x ∷ w) = false

-- the model text: the table is all zero before the first record; EN is the last line
abbrev pub format : Format (List ℕ) (List ℕ)
format = record { size = size; start = replicate size 0; get = get; put = sets; none = []; is_none = is_none; line = line; last = 69 ∷ 78 ∷ 10 ∷ []; look = look }

-- ---- the reader as it is called

-- "a reader's lent table not of its full size (tested before 1)": the text s, with a table of n cells lent
unfoldable pub read_model : ℕ → List ℕ → Answer (List ℕ)
read_model n s = pick (eqb n size) (whole_text s (read format s)) (refused wrong_room 0)

-- "A reader that refuses leaves its lent tables all zero": what is left in a lent table of n cells
unfoldable pub left : ℕ → Answer (List ℕ) → List ℕ
left n (done t) = t
left n (refused k p) = replicate n 0

-- "tables that no text within 1 gives" are those without this: a text that gives the table
pub record Given (t : List ℕ) : Type 0 where
  pub text : List ℕ
  pub reads : read_model size text ≡ done t
