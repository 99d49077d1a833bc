-- The text of a model. Document 01, "The two texts": marks, fields and their order.
-- Assumes nothing.
use Rattle.std.specs.Prelude.{ℕ, List, [], ◌∷◌, ◌++◌, Bool, true, false, eqb, ℤ}
use Rattle.meaning.specs.Model.{Policy, fps, edf, sjf, Task, Limit, Bound, Location, Edge, Model}
use Rattle.meaning.specs.Text.Choice.{pick}
use Rattle.meaning.specs.Text.Ranges.{time_most}
use Rattle.meaning.specs.Text.Lines.{fields_text, raised_by}

-- the column "Mark"; other: two bytes that are none of them
pub data Mark : Type 0 where
  po ck tk lo iv ed gu rs en other : Mark

-- What a mark's line looks like: its two bytes; for each of its numbers how far its range goes below 0; how many of its numbers, at the front,
-- only say where the record belongs; whether it is the last record.
pub record Form : Type 0 where
  pub first : ℕ
  pub second : ℕ
  pub below : List ℕ
  pub keys : ℕ
  pub closes : Bool

-- "a two-byte mark", and the column "Fields"
unfoldable pub form : Mark → Form
form po = record { first = 80; second = 79; below = 0 ∷ []; keys = 0; closes = false }
form ck = record { first = 67; second = 75; below = 0 ∷ []; keys = 0; closes = false }
form tk = record { first = 84; second = 75; below = 0 ∷ 0 ∷ 0 ∷ []; keys = 0; closes = false }
form lo = record { first = 76; second = 79; below = 0 ∷ []; keys = 0; closes = false }
form iv = record { first = 73; second = 86; below = 0 ∷ 0 ∷ []; keys = 1; closes = false }
form ed = record { first = 69; second = 68; below = 0 ∷ 0 ∷ []; keys = 0; closes = false }
form gu = record { first = 71; second = 85; below = 0 ∷ 0 ∷ time_most ∷ []; keys = 2; closes = false }
form rs = record { first = 82; second = 83; below = 0 ∷ []; keys = 0; closes = false }
form en = record { first = 69; second = 78; below = []; keys = 0; closes = true }
form other = record { first = 0; second = 0; below = []; keys = 0; closes = true }

-- "a line: a two-byte mark, fields each after one space, a line feed"; the numbers as they are kept
unfoldable pub record_text : Mark → List ℕ → List ℕ
record_text q v = (form q).first ∷ (form q).second ∷ fields_text (form q).below v

-- one text after another
unfoldable pub texts : {A : Type 0} → (A → List ℕ) → List A → List ℕ
texts t [] = []
texts t (x ∷ xs) = t x ++ texts t xs

-- "1 FPS, 2 EDF"; M-100: "PO may be 3"
unfoldable pub policy_number : Policy → ℕ
policy_number fps = 1
policy_number edf = 2
policy_number sjf = 3

-- the policy with this number
unfoldable pub policy_of : ℕ → Policy
policy_of n = pick (eqb n 1) fps (pick (eqb n 2) edf sjf)

-- "c from −10,000 to 10,000", as it is kept: with 10,000 added
unfoldable pub raised : ℤ → ℕ
raised c = raised_by time_most c

-- "C and D", "priority"
unfoldable pub task_text : Task → List ℕ
task_text t = record_text tk (t.C ∷ t.D ∷ t.prio ∷ [])

-- "clock, limit"
unfoldable pub limit_text : Limit → List ℕ
limit_text x = record_text iv (x.clock ∷ x.most ∷ [])

-- "task released or 0"; "IV, under LO"
unfoldable pub location_text : Location → List ℕ
location_text l = record_text lo (l.task ∷ []) ++ texts limit_text l.limits

-- "i, j, c"
unfoldable pub bound_text : Bound → List ℕ
bound_text b = record_text gu (b.i ∷ b.j ∷ raised b.c ∷ [])

-- "clock"
unfoldable pub reset_text : ℕ → List ℕ
reset_text k = record_text rs (k ∷ [])

-- "from, to"; "GU, under ED"; "RS, after GU"
unfoldable pub edge_text : Edge → List ℕ
edge_text e = record_text ed (e.from ∷ e.to ∷ []) ++ (texts bound_text e.guard ++ texts reset_text e.resets)

-- "Records stand in this order"; EN: "1, last"
unfoldable pub model_text : Model → List ℕ
model_text m =
    record_text po (policy_number m.policy ∷ []) ++ (record_text ck (m.clocks ∷ []) ++ (texts task_text m.tasks
    ++ (texts location_text m.locations ++ (texts edge_text m.edges ++ record_text en []))))
