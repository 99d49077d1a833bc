-- Document 01's console checks of texts, on the definitions: Model A, and the four refused TK lines.
-- Assumes nothing.
use Prim.Native.Nat.{ℕ}
use mathlib.Core.List.{List, [], ◌∷◌}
use mathlib.Core.Option.{Option, none, some}
use mathlib.Core.Path.{◌≡◌, refl}
use borrow.Author.Tests.{ne_eqb}
use Rattle.meaning.specs.Model.{Model}
use Rattle.meaning.specs.ConsoleChecks.{model_a}
use Rattle.meaning.specs.Text.Lines.{field, fields, fields_text, fields_then, join, kept, kept_text, outside}
use Rattle.meaning.specs.Text.ModelReader.{cells, is_mark, judge, look, look_for, mark_of, misfit, read_model, rule, used}
use Rattle.meaning.specs.Text.ModelTable.{cell, collect, count, decode, edge_cell, edge_in, edges, encode, guard_in, keyed, limits_in, location_cell, location_in, locations, lowered, resets_in, size, tabulate, task_cell, task_in, tasks}
use Rattle.meaning.specs.Text.ModelText.{bound_text, edge_text, form, limit_text, location_text, model_text, policy_number, policy_of, raised, record_text, reset_text, task_text, texts}
use Rattle.meaning.specs.Text.Numerals.{dec, dec_f, digits, is_digit, negated, num_text, number, positive, push}
use Rattle.meaning.specs.Text.Records.{Answer, done, first_stop, is_stop, read, refused, run, turn, whole_text}

-- "Model A", its bytes
abbrev pub text_a : List ℕ
text_a = 80 ∷ 79 ∷ 32 ∷ 50 ∷ 10 ∷ 67 ∷ 75 ∷ 32 ∷ 49 ∷ 10 ∷ 84 ∷ 75 ∷ 32 ∷ 50 ∷ 32 ∷ 52 ∷ 32 ∷ 48 ∷ 10 ∷ 76 ∷ 79 ∷ 32 ∷ 49 ∷ 10 ∷ 73 ∷ 86 ∷ 32 ∷ 49 ∷ 32 ∷ 53 ∷ 10 ∷ 69 ∷ 68 ∷ 32 ∷ 49 ∷ 32 ∷ 49 ∷ 10 ∷ 71 ∷ 85 ∷ 32 ∷ 48 ∷ 32 ∷ 49 ∷ 32 ∷ 45 ∷ 53 ∷ 10 ∷ 82 ∷ 83 ∷ 32 ∷ 49 ∷ 10 ∷ 69 ∷ 78 ∷ 10 ∷ []

-- the model of what was read
unfoldable pub model : Answer (List ℕ) → Option Model
model (done t) = some (decode t)
model (refused k p) = none

pub model_a_reads : model (read_model size text_a) ≡ some model_a
unfolding read_model whole_text first_stop is_stop read run turn look look_for judge rule mark_of is_mark form fields fields_then field join outside kept number positive negated digits is_digit push cells tasks locations edges count misfit used model decode collect task_in location_in limits_in edge_in guard_in resets_in lowered policy_of
model_a_reads = refl

pub model_a_text : model_text model_a ≡ text_a
unfolding model_text record_text texts task_text location_text limit_text edge_text bound_text reset_text policy_number raised form fields_text kept_text num_text dec dec_f
model_a_text = refl

pub model_a_table : some model_a ≡ some (decode (encode model_a))
unfolding decode collect task_in location_in limits_in edge_in guard_in resets_in lowered encode tabulate cell task_cell location_cell edge_cell keyed raised policy_number policy_of
model_a_table = refl

-- "`TK 2,5 4 0`: refusal 2"
pub comma : read_model size (80 ∷ 79 ∷ 32 ∷ 50 ∷ 10 ∷ 67 ∷ 75 ∷ 32 ∷ 49 ∷ 10 ∷ 84 ∷ 75 ∷ 32 ∷ 50 ∷ 44 ∷ 53 ∷ 32 ∷ 52 ∷ 32 ∷ 48 ∷ 10 ∷ 76 ∷ 79 ∷ 32 ∷ 49 ∷ 10 ∷ 73 ∷ 86 ∷ 32 ∷ 49 ∷ 32 ∷ 53 ∷ 10 ∷ 69 ∷ 68 ∷ 32 ∷ 49 ∷ 32 ∷ 49 ∷ 10 ∷ 71 ∷ 85 ∷ 32 ∷ 48 ∷ 32 ∷ 49 ∷ 32 ∷ 45 ∷ 53 ∷ 10 ∷ 82 ∷ 83 ∷ 32 ∷ 49 ∷ 10 ∷ 69 ∷ 78 ∷ 10 ∷ []) ≡ refused 2 14
unfolding read_model whole_text first_stop is_stop read run turn look look_for judge rule mark_of is_mark form fields fields_then field join outside kept number positive negated digits is_digit push cells tasks locations edges count misfit used
comma = refl

-- "`TK 5 4 0`: 7"
pub work_over : read_model size (80 ∷ 79 ∷ 32 ∷ 50 ∷ 10 ∷ 67 ∷ 75 ∷ 32 ∷ 49 ∷ 10 ∷ 84 ∷ 75 ∷ 32 ∷ 53 ∷ 32 ∷ 52 ∷ 32 ∷ 48 ∷ 10 ∷ 76 ∷ 79 ∷ 32 ∷ 49 ∷ 10 ∷ 73 ∷ 86 ∷ 32 ∷ 49 ∷ 32 ∷ 53 ∷ 10 ∷ 69 ∷ 68 ∷ 32 ∷ 49 ∷ 32 ∷ 49 ∷ 10 ∷ 71 ∷ 85 ∷ 32 ∷ 48 ∷ 32 ∷ 49 ∷ 32 ∷ 45 ∷ 53 ∷ 10 ∷ 82 ∷ 83 ∷ 32 ∷ 49 ∷ 10 ∷ 69 ∷ 78 ∷ 10 ∷ []) ≡ refused 7 10
unfolding read_model whole_text first_stop is_stop read run turn look look_for judge rule mark_of is_mark form fields fields_then field join outside kept number positive negated digits is_digit push cells tasks locations edges count misfit used
work_over = refl

-- "`TK 02 4 0`: 4"
pub leading_zero : read_model size (80 ∷ 79 ∷ 32 ∷ 50 ∷ 10 ∷ 67 ∷ 75 ∷ 32 ∷ 49 ∷ 10 ∷ 84 ∷ 75 ∷ 32 ∷ 48 ∷ 50 ∷ 32 ∷ 52 ∷ 32 ∷ 48 ∷ 10 ∷ 76 ∷ 79 ∷ 32 ∷ 49 ∷ 10 ∷ 73 ∷ 86 ∷ 32 ∷ 49 ∷ 32 ∷ 53 ∷ 10 ∷ 69 ∷ 68 ∷ 32 ∷ 49 ∷ 32 ∷ 49 ∷ 10 ∷ 71 ∷ 85 ∷ 32 ∷ 48 ∷ 32 ∷ 49 ∷ 32 ∷ 45 ∷ 53 ∷ 10 ∷ 82 ∷ 83 ∷ 32 ∷ 49 ∷ 10 ∷ 69 ∷ 78 ∷ 10 ∷ []) ≡ refused 4 14
unfolding read_model whole_text first_stop is_stop read run turn look look_for judge rule mark_of is_mark form fields fields_then field join outside kept number positive negated digits is_digit push cells tasks locations edges count misfit used
leading_zero = refl

-- "`TK 0 4 0`: 5"
pub zero_work : read_model size (80 ∷ 79 ∷ 32 ∷ 50 ∷ 10 ∷ 67 ∷ 75 ∷ 32 ∷ 49 ∷ 10 ∷ 84 ∷ 75 ∷ 32 ∷ 48 ∷ 32 ∷ 52 ∷ 32 ∷ 48 ∷ 10 ∷ 76 ∷ 79 ∷ 32 ∷ 49 ∷ 10 ∷ 73 ∷ 86 ∷ 32 ∷ 49 ∷ 32 ∷ 53 ∷ 10 ∷ 69 ∷ 68 ∷ 32 ∷ 49 ∷ 32 ∷ 49 ∷ 10 ∷ 71 ∷ 85 ∷ 32 ∷ 48 ∷ 32 ∷ 49 ∷ 32 ∷ 45 ∷ 53 ∷ 10 ∷ 82 ∷ 83 ∷ 32 ∷ 49 ∷ 10 ∷ 69 ∷ 78 ∷ 10 ∷ []) ≡ refused 5 13
unfolding read_model whole_text first_stop is_stop read run turn look look_for judge rule mark_of is_mark form fields fields_then field join outside kept number positive negated digits is_digit push cells tasks locations edges count misfit used
zero_work = refl

-- "a mark that may not stand here (a second PO or CK too)": the second PO
pub second_po : read_model size (80 ∷ 79 ∷ 32 ∷ 50 ∷ 10 ∷ 80 ∷ 79 ∷ 32 ∷ 50 ∷ 10 ∷ []) ≡ refused 3 5
unfolding read_model whole_text first_stop is_stop read run turn look look_for judge rule mark_of is_mark form fields fields_then field join outside kept number positive negated digits is_digit push cells tasks locations edges count misfit used
second_po = refl

-- "text ended where a mark is due"
pub no_text : read_model size (80 ∷ 79 ∷ 32 ∷ 50 ∷ 10 ∷ []) ≡ refused 3 5
unfolding read_model whole_text first_stop is_stop read run turn look look_for judge rule mark_of is_mark form fields fields_then field join outside kept number positive negated digits is_digit push cells tasks locations edges count misfit used
no_text = refl

-- "bytes after EN"
pub after_en : read_model size (80 ∷ 79 ∷ 32 ∷ 50 ∷ 10 ∷ 67 ∷ 75 ∷ 32 ∷ 48 ∷ 10 ∷ 84 ∷ 75 ∷ 32 ∷ 49 ∷ 32 ∷ 49 ∷ 32 ∷ 48 ∷ 10 ∷ 76 ∷ 79 ∷ 32 ∷ 48 ∷ 10 ∷ 69 ∷ 78 ∷ 10 ∷ 69 ∷ 78 ∷ 10 ∷ []) ≡ refused 3 27
unfolding read_model whole_text first_stop is_stop read run turn look look_for judge rule mark_of is_mark form fields fields_then field join outside kept number positive negated digits is_digit push cells tasks locations edges count misfit used
after_en = refl

-- "or the text's end": EN without its line feed
pub no_line_feed : read_model size (80 ∷ 79 ∷ 32 ∷ 50 ∷ 10 ∷ 67 ∷ 75 ∷ 32 ∷ 48 ∷ 10 ∷ 84 ∷ 75 ∷ 32 ∷ 49 ∷ 32 ∷ 49 ∷ 32 ∷ 48 ∷ 10 ∷ 76 ∷ 79 ∷ 32 ∷ 48 ∷ 10 ∷ 69 ∷ 78 ∷ []) ≡ refused 4 26
unfolding read_model whole_text first_stop is_stop read run turn look look_for judge rule mark_of is_mark form fields fields_then field join outside kept number positive negated digits is_digit push cells tasks locations edges count misfit used
no_line_feed = refl

-- "FPS: priority 0 or used before"
pub priority_used : read_model size (80 ∷ 79 ∷ 32 ∷ 49 ∷ 10 ∷ 67 ∷ 75 ∷ 32 ∷ 48 ∷ 10 ∷ 84 ∷ 75 ∷ 32 ∷ 49 ∷ 32 ∷ 49 ∷ 32 ∷ 51 ∷ 10 ∷ 84 ∷ 75 ∷ 32 ∷ 49 ∷ 32 ∷ 49 ∷ 32 ∷ 51 ∷ 10 ∷ []) ≡ refused 8 19
unfolding read_model whole_text first_stop is_stop read run turn look look_for judge rule mark_of is_mark form fields fields_then field join outside kept number positive negated digits is_digit push cells tasks locations edges count misfit used
priority_used = refl

-- "not rising": the second limit of a clock
pub not_rising : read_model size (80 ∷ 79 ∷ 32 ∷ 50 ∷ 10 ∷ 67 ∷ 75 ∷ 32 ∷ 49 ∷ 10 ∷ 84 ∷ 75 ∷ 32 ∷ 49 ∷ 32 ∷ 49 ∷ 32 ∷ 48 ∷ 10 ∷ 76 ∷ 79 ∷ 32 ∷ 48 ∷ 10 ∷ 73 ∷ 86 ∷ 32 ∷ 49 ∷ 32 ∷ 53 ∷ 10 ∷ 73 ∷ 86 ∷ 32 ∷ 49 ∷ 32 ∷ 53 ∷ 10 ∷ []) ≡ refused 6 31
unfolding read_model whole_text first_stop is_stop read run turn look look_for judge rule mark_of is_mark form fields fields_then field join outside kept number positive negated digits is_digit push cells tasks locations edges count misfit used
not_rising = refl

-- a table that is not of its full size: 11, before all else
pub small_table : (n : ℕ) → (n ≡ size → ⊥) → (s : List ℕ) → read_model n s ≡ refused 11 0
unfolding read_model
small_table n h s = rw (ne_eqb n size h)
