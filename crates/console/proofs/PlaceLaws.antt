-- The place of a fault stands within the text, or at its end, and its number is none of those that no text gets: 11 and above.
-- Assumes nothing.
use Prim.Native.Nat.{ℕ, zero, suc, ◌+◌, ◌≤◌, ◌<◌}
use mathlib.Core.Path.{◌≡◌, refl, ap, subst, ◌∙◌}
use mathlib.Core.List.{List, [], ◌∷◌, tail}
use mathlib.Core.Bool.{Bool, true, false, ◌&&◌}
use native.Mathlib.Omega.{arith}
use lib.Dec.{ltb, leb, eqb}
use lib.ListN.{length, get_or, drop, length-drop, get_or-eq_default}
use borrow.Author.Tests.{ltb-true}
use Rattle.meaning.specs.Model.{Model}
use Rattle.meaning.specs.Text.Choice.{pick}
use Rattle.meaning.specs.Text.Numerals.{Numeral, num, stuck, is_digit, push, digits, positive, negated, number}
use Rattle.meaning.specs.Text.Lines.{Range, Fields, ok, bad, out, outside, join, kept, field, fields_then, fields, fields_up_to, fields_more}
use Rattle.meaning.specs.Text.Records.{Seen, rec, end, fault, Answer, done, refused, first_stop, is_stop, whole_text}
use Rattle.meaning.specs.Text.Records as records
use Rattle.meaning.specs.Text.RecordRow.{Met, next, closed, wrong}
use Rattle.meaning.specs.Text.RecordRow as row
use Rattle.meaning.specs.Text.Ranges.{text_most, zones_most}
use Rattle.meaning.specs.Text.ModelText.{Mark, po, ck, tk, lo, iv, ed, gu, rs, en, other, form}
use Rattle.meaning.specs.Text.ModelReader as model
use Rattle.meaning.specs.Text.ModelReader.{format, rule, judge, look_for, mark_of, read_model}
use Rattle.meaning.specs.Text.ProposalReader as proposal
use Rattle.meaning.specs.Text.ProposalReader.{Sofar, whole, begun, Entry, rises, bound_of, up_to_last, judged, look_order, look_bound, look_claims, look_end, is_mark, stored, read_proposal}
use Rattle.meaning.specs.Text.ModelTable.{size}
use Rattle.meaning.specs.Text.ProposalTable as table
use Rattle.meaning.specs.Text.RightProposal.{claims_fit}
use Rattle.meaning.specs.Zones.Proper.{fits}
use Rattle.meaning.proofs.Text.Choices.{by_lt, and_true, nonsense}
use Rattle.meaning.proofs.Text.Places.{in_text, field_next}

-- a choice, by its test
by_test : {X : Type 0} (P : X → Type 0) (t : Bool) (x y : X) → (t ≡ true → P x) → (t ≡ false → P y) → P (pick t x y)
by_test P true x y f g = f refl
by_test P false x y f g = g refl

-- ---- numbers

-- the place after a number, or of the byte that can't go on, is at most n
abbrev NumeralIn : ℕ → Numeral → Type 0
NumeralIn n (num m v k) = k ≤ n
NumeralIn n (stuck p) = p ≤ n

digits_in : (n : ℕ) (l : List ℕ) (at v : ℕ) → at + length l ≤ n → NumeralIn n (digits l at v)
unfolding digits
digits_in n [] at v h = omega (arith, h)
digits_in n (b ∷ bs) at v h =
    by_test (NumeralIn n) (is_digit b) _ _ (λ _. digits_in n bs (at + 1) (push v b) (omega (arith, h))) (λ _. omega (arith, h))

positive_in : (n : ℕ) (l : List ℕ) (at : ℕ) → at + length l ≤ n → NumeralIn n (positive l at)
unfolding positive
positive_in n [] at h = omega (arith, h)
positive_in n (b ∷ bs) at h =
    by_test (NumeralIn n) (pick (leb 49 b) (leb b 57) false) _ _ (λ _. digits_in n (b ∷ bs) at 0 h) (λ _. omega (arith, h))

negated_in : (n : ℕ) (x : Numeral) → NumeralIn n x → NumeralIn n (negated x)
unfolding negated
negated_in n (num m v k) h = h
negated_in n (stuck p) h = h

number_in : (n : ℕ) (minus : Bool) (l : List ℕ) (at : ℕ) → at + length l ≤ n → NumeralIn n (number minus l at)
unfolding number
number_in n minus [] at h = omega (arith, h)
number_in n minus (b ∷ bs) at h =
    by_test (NumeralIn n) (eqb b 48) _ _ (λ _. omega (arith, h))
    (λ _. by_test (NumeralIn n) (pick minus (eqb b 45) false) _ _
    (λ _. negated_in n (positive bs (at + 1)) (positive_in n bs (at + 1) (omega (arith, h))))
    (λ _. positive_in n (b ∷ bs) at h))

field_in : (minus : Bool) (s : List ℕ) (at : ℕ) → at ≤ length s → NumeralIn (length s) (field minus s at)
unfolding field
field_in minus s at h =
    by_test (NumeralIn (length s)) (eqb (get_or s at 0) 32) _ _
    (λ t. number_in (length s) minus (drop (at + 1) s) (at + 1) (omega (arith, in_text s at 32 (omega arith) t, length-drop (at + 1) s)))
    (λ _. h)

-- ---- the fields of a line

abbrev FieldsIn : ℕ → Fields → Type 0
FieldsIn n (ok vs k) = k ≤ n
FieldsIn n (bad p) = p ≤ n
FieldsIn n (out p) = p ≤ n

join_in : (n : ℕ) (e : Range) (p v : ℕ) (x : Fields) → p ≤ n → FieldsIn n x → FieldsIn n (join e p v x)
unfolding join
join_in n e p v (ok vs k) h i = by_test (FieldsIn n) (outside e v) _ _ (λ _. h) (λ _. i)
join_in n e p v (bad q) h i = i
join_in n e p v (out q) h i = by_test (λ (z : ℕ). z ≤ n) (outside e v) p q (λ _. h) (λ _. i)

then_in : (e : Range) (minus : Bool) (s : List ℕ) (at : ℕ) (rest : ℕ → Fields) → at ≤ length s → ((k : ℕ) → k ≤ length s → FieldsIn (length s) (rest k))
    → FieldsIn (length s) (fields_then e at rest (field minus s at))
unfolding fields_then
then_in e minus s at rest h i = go (field minus s at) refl (field_in minus s at h)
  where
    go : (x : Numeral) → field minus s at ≡ x → NumeralIn (length s) x → FieldsIn (length s) (fields_then e at rest x)
    go (stuck p) q j = j
    go (num m v k) q j = let w = field_next minus s at m v k q in join_in (length s) e (at + 1) (kept e.below m v) (rest k) (omega (arith, w.0, w.1)) (i k j)

fields_in : (es : List Range) (s : List ℕ) (at : ℕ) → at ≤ length s → FieldsIn (length s) (fields es s at)
unfolding fields
fields_in [] s at h = by_test (FieldsIn (length s)) (eqb (get_or s at 0) 10) _ _ (λ t. omega (arith, in_text s at 10 (omega arith) t)) (λ _. h)
fields_in (e ∷ es) s at h = then_in e (ltb 0 e.below) s at (λ k. fields es s k) h (λ k i. fields_in es s k i)

up_to_in : (n : ℕ) (e : Range) (s : List ℕ) (at : ℕ) → at ≤ length s → FieldsIn (length s) (fields_up_to n e s at)
unfolding fields_up_to
up_to_in zero e s at h = fields_in [] s at h
up_to_in (suc n) e s at h =
    by_test (FieldsIn (length s)) (eqb (get_or s at 0) 10) _ _ (λ t. omega (arith, in_text s at 10 (omega arith) t))
    (λ _. then_in e (ltb 0 e.below) s at (λ k. fields_up_to n e s k) h (λ k i. up_to_in n e s k i))

more_in : (es : List Range) (n : ℕ) (e : Range) (s : List ℕ) (at : ℕ) → at ≤ length s → FieldsIn (length s) (fields_more es n e s at)
unfolding fields_more
more_in [] n e s at h = up_to_in n e s at h
more_in (f ∷ es) n e s at h = then_in f (ltb 0 f.below) s at (λ k. fields_more es n e s k) h (λ k i. more_in es n e s k i)

-- ---- the answer of a reader

-- a refusal's place is at most n, and its number is one that a text gets
abbrev AnswerIn : {M : Type 0} → ℕ → Answer M → Type 0
AnswerIn n (done m) = Unit
AnswerIn n (refused k p) = (p ≤ n) × (k ≤ 10)

stop_in : (s : List ℕ) → first_stop s ≤ length s
unfolding first_stop
stop_in [] = omega arith
stop_in (b ∷ bs) = by_test (λ (k : ℕ). k ≤ length (b ∷ bs)) (is_stop b) 0 (suc (first_stop bs)) (λ _. omega arith) (λ _. omega (arith, stop_in bs))

whole_in : {M : Type 0} (s : List ℕ) (r : Answer M) → AnswerIn (length s) r → AnswerIn (length s) (whole_text s r)
unfolding whole_text
whole_in s r h =
    by_test (AnswerIn (length s)) (ltb text_most (length s)) _ _ (λ t. let l = ltb-true text_most (length s) t in (omega (arith, l), omega arith))
    (λ _. by_test (AnswerIn (length s)) (ltb (first_stop s) (length s)) _ _ (λ _. (stop_in s, omega arith)) (λ _. h))

-- ---- the model's text

abbrev SeenIn : {W : Type 0} → ℕ → Seen W → Type 0
SeenIn n (rec j v k) = k ≤ n
SeenIn n end = Unit
SeenIn n (fault k p) = (p ≤ n) × (k ≤ 10)

-- 7, 8 and 6
wrong_low : (q : Mark) (t v : List ℕ) → (rule q t).wrong v ≤ 10
unfolding rule
wrong_low po t v = omega arith
wrong_low ck t v = omega arith
wrong_low tk t v =
    by_test (λ (k : ℕ). k ≤ 10) (ltb (get_or v 1 0) (get_or v 0 0)) _ _ (λ _. omega arith)
    (λ _. by_test (λ (k : ℕ). k ≤ 10) (model.misfit t (get_or v 2 0)) _ _ (λ _. omega arith) (λ _. omega arith))
wrong_low lo t v = omega arith
wrong_low iv t v = omega arith
wrong_low ed t v = omega arith
wrong_low gu t v = by_test (λ (k : ℕ). k ≤ 10) (eqb (get_or v 0 0) (get_or v 1 0)) _ _ (λ _. omega arith) (λ _. omega arith)
wrong_low rs t v = omega arith
wrong_low en t v = omega arith
wrong_low other t v = omega arith

judge_in : (q : Mark) (s : List ℕ) (at i : ℕ) (t : List ℕ) (x : Fields) → at ≤ length s → FieldsIn (length s) x → SeenIn (length s) (judge q s at i t x)
unfolding judge
judge_in q s at i t (bad p) h j = (j, omega arith)
judge_in q s at i t (out p) h j = (j, omega arith)
judge_in q s at i t (ok v k) h j =
    by_test (SeenIn (length s)) (form q).closes _ _
    (λ _. by_test (SeenIn (length s)) (ltb k (length s)) _ _ (λ _. (j, omega arith)) (λ _. tt))
    (λ _. by_test (SeenIn (length s)) (ltb 0 ((rule q t).wrong v)) _ _ (λ _. (h, wrong_low q t v))
    (λ _. by_test (SeenIn (length s)) (ltb ((rule q t).slot v) i) _ _ (λ _. (h, omega arith)) (λ _. j)))

look_for_in : (q : Mark) (s : List ℕ) (at i : ℕ) (t : List ℕ) → at ≤ length s → ((rule q t).due ≡ true → at + 2 ≤ length s) → SeenIn (length s) (look_for q s at i t)
unfolding look_for
look_for_in q s at i t h d =
    by_test (SeenIn (length s)) ((rule q t).due && leb i (rule q t).latest) _ _
    (λ e. by_test (SeenIn (length s)) (rule q t).room _ _
    (λ _. judge_in q s at i t (fields (rule q t).ends s (at + 2)) h (fields_in (rule q t).ends s (at + 2) (d (and_true (rule q t).due (leb i (rule q t).latest) e).0)))
    (λ _. (h, omega arith)))
    (λ _. (h, omega arith))

-- without a second byte there is no mark
not_half : (b : Bool) → b && false ≡ false
not_half true = refl
not_half false = refl

half_mark : (q : Mark) (a : ℕ) → eqb 0 (form q).second ≡ false → model.is_mark q a 0 ≡ false
unfolding model.is_mark
half_mark q a e = ap (λ (b : Bool). eqb a (form q).first && b) e ∙ not_half (eqb a (form q).first)

no_mark : (a : ℕ) → mark_of a 0 ≡ other
unfolding mark_of form
no_mark a =
    rw (
      half_mark po a refl,
      half_mark ck a refl,
      half_mark tk a refl,
      half_mark lo a refl,
      half_mark iv a refl,
      half_mark ed a refl,
      half_mark gu a refl,
      half_mark rs a refl,
      half_mark en a refl,
    )

other_not_due : (t : List ℕ) → (rule other t).due ≡ false
unfolding rule
other_not_due t = refl

false_true : {X : Type 0} (b : Bool) → b ≡ false → b ≡ true → X
false_true true e f = nonsense (cc)
false_true false e f = nonsense (cc)

due_in : (s : List ℕ) (at : ℕ) (t : List ℕ) → (rule (mark_of (get_or s at 0) (get_or s (at + 1) 0)) t).due ≡ true → at + 2 ≤ length s
due_in s at t e =
    by_lt (at + 1) (length s) (λ l. omega (arith, l))
    (λ l. let z : get_or s (at + 1) 0 ≡ 0 = get_or-eq_default s 0 {n = at + 1} l in
    let q : mark_of (get_or s at 0) (get_or s (at + 1) 0) ≡ other = ap (mark_of (get_or s at 0)) z ∙ no_mark (get_or s at 0) in
    false_true (rule other t).due (other_not_due t) (subst (λ (m : Mark). (rule m t).due ≡ true) q e))

look_in : (s : List ℕ) (at i : ℕ) (t : List ℕ) → at ≤ length s → SeenIn (length s) (model.look s at i t)
unfolding model.look
look_in s at i t h = look_for_in (mark_of (get_or s at 0) (get_or s (at + 1) 0)) s at i t h (due_in s at t)

turn_in : (s : List ℕ) (on : ℕ → ℕ → List ℕ → Answer (List ℕ)) (t : List ℕ) (x : Seen (List ℕ)) → SeenIn (length s) x
    → ((k i : ℕ) (u : List ℕ) → k ≤ length s → AnswerIn (length s) (on k i u)) → AnswerIn (length s) (records.turn format on t x)
unfolding records.turn
turn_in s on t (rec j v k) h i = i k (suc j) (format.put t j v) h
turn_in s on t end h i = tt
turn_in s on t (fault k p) h i = h

run_in : (f : ℕ) (s : List ℕ) (at i : ℕ) (t : List ℕ) → at ≤ length s → AnswerIn (length s) (records.run format f s at i t)
unfolding records.run
run_in zero s at i t h = (omega arith, omega arith)
run_in (suc f) s at i t h = turn_in s (records.run format f s) t (model.look s at i t) (look_in s at i t h) (λ k j u l. run_in f s k j u l)

model_in : (s : List ℕ) → AnswerIn (length s) (read_model size s)
unfolding read_model records.read
model_in s = whole_in s (records.run format (length s + 1) s 0 0 format.start) (run_in (length s + 1) s 0 0 format.start (omega arith))

-- the place and the number of a fault of the model's text
pub model_refusal : (s : List ℕ) (k p : ℕ) → read_model size s ≡ refused k p → (p ≤ length s) × (k ≤ 10)
model_refusal s k p e = subst (AnswerIn (length s)) e (model_in s)

-- ---- the proposal's text

abbrev MetIn : {W : Type 0} → ℕ → Met W → Type 0
MetIn n (next w k) = k ≤ n
MetIn n closed = Unit
MetIn n (wrong k p) = (p ≤ n) × (k ≤ 10)

judged_in : (n : ℕ) (x : Fields) (f : List ℕ → ℕ → Met Entry) → FieldsIn n x → ((v : List ℕ) (k : ℕ) → k ≤ n → MetIn n (f v k)) → MetIn n (judged x f)
unfolding judged
judged_in n (bad p) f h i = (h, omega arith)
judged_in n (out p) f h i = (h, omega arith)
judged_in n (ok v k) f h i = i v k h

module _ (m : Model) (s : List ℕ) (at : ℕ) (h : at + 2 ≤ length s) where
  here : at ≤ length s
  here = omega (arith, h)

  order_in : (x : Sofar) → MetIn (length s) (look_order m s at x)
  unfolding look_order
  order_in (begun zs z) = (here, omega arith)
  order_in (whole zs) =
      by_test (MetIn (length s)) (ltb (length zs) zones_most) _ _
      (λ _. judged_in (length s) _ _ (more_in _ _ _ s (at + 2) h) (λ v k i. by_test (MetIn (length s)) (fits m (tail v)) _ _ (λ _. i) (λ _. (here, omega arith))))
      (λ _. (here, omega arith))

  bound_in_lem : (x : Sofar) → MetIn (length s) (look_bound m s at x)
  unfolding look_bound
  bound_in_lem (whole zs) = (here, omega arith)
  bound_in_lem (begun zs z) =
      judged_in (length s) _ _ (fields_in _ s (at + 2) h) (λ v k i. by_test (MetIn (length s)) (rises z.bounds (bound_of v)) _ _ (λ _. i) (λ _. (here, omega arith)))

  claims_in : (x : Sofar) → MetIn (length s) (look_claims m s at x)
  unfolding look_claims
  claims_in (whole zs) = (here, omega arith)
  claims_in (begun zs z) =
      judged_in (length s) _ _ (more_in _ _ _ s (at + 2) h) (λ v k i. by_test (MetIn (length s)) (claims_fit m z v) _ _ (λ _. i) (λ _. (here, omega arith)))

  end_in : (x : Sofar) → MetIn (length s) (look_end m s at x)
  unfolding look_end
  end_in (begun zs z) = (here, omega arith)
  end_in (whole zs) =
      by_test (MetIn (length s)) (ltb 0 (length zs)) _ _
      (λ _. judged_in (length s) _ _ (fields_in _ s (at + 2) h)
      (λ v k i. by_test (MetIn (length s)) (up_to_last (length zs) zs) _ _ (λ _. by_test (MetIn (length s)) (ltb k (length s)) _ _ (λ _. (i, omega arith)) (λ _. tt)) (λ _. (here, omega arith))))
      (λ _. (here, omega arith))

mark_in : (s : List ℕ) (at a b : ℕ) → 0 < b → is_mark s at a b ≡ true → at + 2 ≤ length s
unfolding is_mark
mark_in s at a b h e = let w = in_text s (at + 1) b h (and_true (eqb (get_or s at 0) a) (eqb (get_or s (at + 1) 0) b) e).1 in omega (arith, w)

met_in : (m : Model) (s : List ℕ) (at : ℕ) (x : Sofar) → at ≤ length s → MetIn (length s) (proposal.look m s at x)
unfolding proposal.look
met_in m s at x h =
    by_test (MetIn (length s)) (is_mark s at 90 78) _ _ (λ e. order_in m s at (mark_in s at 90 78 (omega arith) e) x)
    (λ _. by_test (MetIn (length s)) (is_mark s at 66 68) _ _ (λ e. bound_in_lem m s at (mark_in s at 66 68 (omega arith) e) x)
    (λ _. by_test (MetIn (length s)) (is_mark s at 71 79) _ _ (λ e. claims_in m s at (mark_in s at 71 79 (omega arith) e) x)
    (λ _. by_test (MetIn (length s)) (is_mark s at 69 78) _ _ (λ e. end_in m s at (mark_in s at 69 78 (omega arith) e) x) (λ _. (h, omega arith)))))

turn_row_in : (m : Model) (s : List ℕ) (on : ℕ → Sofar → Answer Sofar) (x : Sofar) (y : Met Entry) → MetIn (length s) y
    → ((k : ℕ) (z : Sofar) → k ≤ length s → AnswerIn (length s) (on k z)) → AnswerIn (length s) (row.turn (proposal.row m) on x y)
unfolding row.turn
turn_row_in m s on x (next w k) h i = i k ((proposal.row m).put x w) h
turn_row_in m s on x closed h i = tt
turn_row_in m s on x (wrong k p) h i = h

run_row_in : (m : Model) (f : ℕ) (s : List ℕ) (at : ℕ) (x : Sofar) → at ≤ length s → AnswerIn (length s) (row.run (proposal.row m) f s at x)
unfolding row.run
run_row_in m zero s at x h = (omega arith, omega arith)
run_row_in m (suc f) s at x h = turn_row_in m s (row.run (proposal.row m) f s) x (proposal.look m s at x) (met_in m s at x h) (λ k z l. run_row_in m f s k z l)

stored_in : (n : ℕ) (a : Answer Sofar) → AnswerIn n a → AnswerIn n (stored a)
unfolding stored
stored_in n (done x) h = tt
stored_in n (refused k p) h = h

proposal_in : (m : Model) (s : List ℕ) → AnswerIn (length s) (read_proposal true m table.size s)
unfolding read_proposal row.read
proposal_in m s = stored_in (length s) _ (whole_in s _ (run_row_in m (length s + 1) s 0 (proposal.row m).start (omega arith)))

-- the place and the number of a fault of the proposal's text
pub proposal_refusal : (m : Model) (s : List ℕ) (k p : ℕ) → read_proposal true m table.size s ≡ refused k p → (p ≤ length s) × (k ≤ 10)
proposal_refusal m s k p e = subst (AnswerIn (length s)) e (proposal_in m s)
