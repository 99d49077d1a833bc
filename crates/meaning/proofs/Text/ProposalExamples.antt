-- Document 01's console checks of proposal texts, on the definitions: Proposal A over Model A, and a refused text for each refusal.
-- Assumes nothing.
use Prim.Native.Nat.{ℕ, suc, zero}
use mathlib.Core.Bool.{false, true}
use mathlib.Core.List.{List, [], ◌++◌, ◌∷◌}
use mathlib.Core.Option.{some}
use mathlib.Core.Path.{◌≡◌, refl, subst}
use native.Mathlib.Omega.{arith}
use lib.IntN.{pos}
use lib.ListN.{replicate}
use borrow.Author.Tests.{ne_eqb}
use Rattle.meaning.proofs.Text.Choices.{nonsense}
use Rattle.meaning.proofs.Text.Examples.{model, text_a as modelBytes, model_a_reads}
use Rattle.meaning.proofs.Text.ModelTheorems.{given_right}
use Rattle.meaning.proofs.Text.ProposalRight.{read_told}
use Rattle.meaning.proofs.Text.ProposalTheorems.{proposal_decode_encode}
use Rattle.meaning.specs.ConsoleChecks.{model_a, proposal_a}
use Rattle.meaning.specs.Machine.Place.{behind}
use Rattle.meaning.specs.Machine.Release.{overflows}
use Rattle.meaning.specs.Model.{Model, leaves_at, released}
use Rattle.meaning.specs.Text.Lines.{field, fields, fields_more, fields_text, fields_then, fields_up_to, join, kept, kept_text, numbers_text, outside}
use Rattle.meaning.specs.Text.ModelReader.{left, read_model}
use Rattle.meaning.specs.Text.ModelTable.{decode as decodeModel, size as modelSize}
use Rattle.meaning.specs.Text.ModelText.{texts}
use Rattle.meaning.specs.Text.Numerals.{dec, dec_f, digits, is_digit, negated, num_text, number, positive, push}
use Rattle.meaning.specs.Text.ProposalReader.{is_mark, judged, look, look_bound, look_claims, look_end, look_order, proposal_of, put, read_proposal, row, stored, whole}
use Rattle.meaning.specs.Text.ProposalTable.{decode, encode, size}
use Rattle.meaning.specs.Text.ProposalText.{bound_text, claims_text, order_text, proposal_text, zone_text}
use Rattle.meaning.specs.Text.RecordRow.{read, run, turn}
use Rattle.meaning.specs.Text.Records.{Answer, done, first_stop, is_stop, refused, whole_text}
use Rattle.meaning.specs.Text.RightModel.{RightModel}
use Rattle.meaning.specs.Text.RightProposal.{RightProposal}
use Rattle.meaning.specs.Zones.Zone.{Proposal}

-- "Proposal A", its bytes
abbrev pub text_a : List ℕ
text_a = 90 ∷ 78 ∷ 32 ∷ 49 ∷ 32 ∷ 49 ∷ 10 ∷ 66 ∷ 68 ∷ 32 ∷ 49 ∷ 32 ∷ 50 ∷ 32 ∷ 48 ∷ 10 ∷ 66 ∷ 68 ∷ 32 ∷ 49 ∷ 32 ∷ 51 ∷ 32 ∷ 48 ∷ 10 ∷ 66 ∷ 68 ∷ 32 ∷ 50 ∷ 32 ∷ 49 ∷ 32 ∷ 48 ∷ 10 ∷ 66 ∷ 68 ∷ 32 ∷ 51 ∷ 32 ∷ 49 ∷ 32 ∷ 48 ∷ 10 ∷ 71 ∷ 79 ∷ 32 ∷ 49 ∷ 32 ∷ 50 ∷ 32 ∷ 48 ∷ 10 ∷ 90 ∷ 78 ∷ 32 ∷ 49 ∷ 10 ∷ 66 ∷ 68 ∷ 32 ∷ 48 ∷ 32 ∷ 49 ∷ 32 ∷ 45 ∷ 50 ∷ 10 ∷ 66 ∷ 68 ∷ 32 ∷ 49 ∷ 32 ∷ 48 ∷ 32 ∷ 53 ∷ 10 ∷ 71 ∷ 79 ∷ 32 ∷ 50 ∷ 32 ∷ 48 ∷ 32 ∷ 49 ∷ 10 ∷ 69 ∷ 78 ∷ 10 ∷ []

-- the same proposal, part by part
abbrev pub is_a : Proposal
is_a = proposal_a (pos 5)

-- Model A is a model that a text can say
model_is : (a : Answer (List ℕ)) (x : Model) → model a ≡ some x → (t : List ℕ) × (a ≡ done t) × (decodeModel t ≡ x)
unfolding model
model_is (done t) x e = (t, refl, (cc))
model_is (refused k p) x e = nonsense (cc)

pub model_a_right : RightModel model_a
model_a_right =
    let c = model_is (read_model modelSize modelBytes) model_a model_a_reads in
    subst RightModel c.2 (given_right c.0 (record { text = modelBytes; reads = c.1 }))

-- Proposal A is read, and gives its table
pub proposal_a_read : read (row model_a) text_a ≡ done (whole is_a.zones)
unfolding read run turn put look is_mark look_order look_bound look_claims look_end judged fields fields_up_to fields_more fields_then field join outside kept number positive negated digits is_digit push overflows leaves_at released behind
proposal_a_read = refl

pub proposal_a_reads : read_proposal true model_a size text_a ≡ done (encode is_a)
unfolding read_proposal stored proposal_of whole_text first_stop is_stop read run turn put look is_mark look_order look_bound look_claims look_end judged fields fields_up_to fields_more fields_then field join outside kept number positive negated digits is_digit push overflows leaves_at released behind
proposal_a_reads = refl

pub proposal_a_right : RightProposal model_a is_a
unfolding proposal_of
proposal_a_right = (read_told model_a model_a_right text_a (whole is_a.zones) proposal_a_read).right

pub proposal_a_text : proposal_text is_a ≡ text_a
unfolding proposal_text texts zone_text order_text bound_text claims_text numbers_text fields_text kept_text num_text dec dec_f
proposal_a_text = refl

-- the table holds it
pub proposal_a_held : decode (encode is_a) ≡ is_a
proposal_a_held = proposal_decode_encode model_a model_a_right is_a proposal_a_right (rw proposal_a_text (omega arith))

-- one text n times
abbrev times : ℕ → List ℕ → List ℕ
times zero l = []
times (suc n) l = l ++ times n l

-- a text for each refusal, and its place
pub record RefusedTexts : Type 0 where
  -- text ended where a mark is due: 3
  pub empty_text : read_proposal true model_a size ([]) ≡ refused 3 0
  -- a mark that may not stand here: 3, `ZN 1 1/BD 1 0 5/ZN 1`, where GO is due
  pub order_due : read_proposal true model_a size (90 ∷ 78 ∷ 32 ∷ 49 ∷ 32 ∷ 49 ∷ 10 ∷ 66 ∷ 68 ∷ 32 ∷ 49 ∷ 32 ∷ 48 ∷ 32 ∷ 53 ∷ 10 ∷ 90 ∷ 78 ∷ 32 ∷ 49 ∷ 10 ∷ []) ≡ refused 3 16
  -- bytes after EN: 3
  pub bytes_behind : read_proposal true model_a size (90 ∷ 78 ∷ 32 ∷ 49 ∷ 10 ∷ 71 ∷ 79 ∷ 32 ∷ 48 ∷ 32 ∷ 48 ∷ 32 ∷ 48 ∷ 10 ∷ 69 ∷ 78 ∷ 10 ∷ 88 ∷ []) ≡ refused 3 17
  -- a seventh task in ZN: 4 at the space after the sixth
  pub seventh_task : read_proposal true model_a size (90 ∷ 78 ∷ 32 ∷ 49 ∷ 32 ∷ 49 ∷ 32 ∷ 49 ∷ 32 ∷ 49 ∷ 32 ∷ 49 ∷ 32 ∷ 49 ∷ 32 ∷ 49 ∷ 32 ∷ 49 ∷ 10 ∷ []) ≡ refused 4 16
  -- `EN` without its line feed: 4 at the text's end
  pub no_line_end : read_proposal true model_a size (90 ∷ 78 ∷ 32 ∷ 49 ∷ 10 ∷ 71 ∷ 79 ∷ 32 ∷ 48 ∷ 32 ∷ 48 ∷ 32 ∷ 48 ∷ 10 ∷ 69 ∷ 78 ∷ []) ≡ refused 4 16
  -- a location naming nothing: 5
  pub no_location : read_proposal true model_a size (90 ∷ 78 ∷ 32 ∷ 50 ∷ 10 ∷ []) ≡ refused 5 3
  -- a variable that the zone lacks: 5
  pub no_variable : read_proposal true model_a size (90 ∷ 78 ∷ 32 ∷ 49 ∷ 10 ∷ 66 ∷ 68 ∷ 32 ∷ 48 ∷ 32 ∷ 50 ∷ 32 ∷ 48 ∷ 10 ∷ []) ≡ refused 5 10
  -- a bound above 32,000: 5
  pub bound_range : read_proposal true model_a size (90 ∷ 78 ∷ 32 ∷ 49 ∷ 10 ∷ 66 ∷ 68 ∷ 32 ∷ 48 ∷ 32 ∷ 49 ∷ 32 ∷ 51 ∷ 50 ∷ 48 ∷ 48 ∷ 49 ∷ 10 ∷ []) ≡ refused 5 12
  -- a claim above 48: 5, before 9
  pub claim_range : read_proposal true model_a size (90 ∷ 78 ∷ 32 ∷ 49 ∷ 10 ∷ 71 ∷ 79 ∷ 32 ∷ 52 ∷ 57 ∷ 10 ∷ []) ≡ refused 5 8
  -- "a task twice in ZN": 6
  pub task_twice : read_proposal true model_a size (90 ∷ 78 ∷ 32 ∷ 49 ∷ 32 ∷ 49 ∷ 32 ∷ 49 ∷ 10 ∷ []) ≡ refused 6 0
  -- "i = j": 6
  pub bound_same : read_proposal true model_a size (90 ∷ 78 ∷ 32 ∷ 49 ∷ 10 ∷ 66 ∷ 68 ∷ 32 ∷ 49 ∷ 32 ∷ 49 ∷ 32 ∷ 48 ∷ 10 ∷ []) ≡ refused 6 5
  -- "not rising": 6
  pub bound_falls : read_proposal true model_a size (90 ∷ 78 ∷ 32 ∷ 49 ∷ 10 ∷ 66 ∷ 68 ∷ 32 ∷ 49 ∷ 32 ∷ 48 ∷ 32 ∷ 48 ∷ 10 ∷ 66 ∷ 68 ∷ 32 ∷ 48 ∷ 32 ∷ 49 ∷ 32 ∷ 48 ∷ 10 ∷ []) ≡ refused 6 14
  -- "wrong number of claims": 9
  pub few_claims : read_proposal true model_a size (90 ∷ 78 ∷ 32 ∷ 49 ∷ 32 ∷ 49 ∷ 10 ∷ 71 ∷ 79 ∷ 32 ∷ 49 ∷ 32 ∷ 50 ∷ 10 ∷ []) ≡ refused 9 7
  -- "not 0 where 0 is due": 9, the head of an empty queue finishes
  pub zero_due : read_proposal true model_a size (90 ∷ 78 ∷ 32 ∷ 49 ∷ 10 ∷ 71 ∷ 79 ∷ 32 ∷ 49 ∷ 32 ∷ 49 ∷ 32 ∷ 49 ∷ 10 ∷ []) ≡ refused 9 5
  -- the release of a queued task: 9
  pub zero_overflow : read_proposal true model_a size (90 ∷ 78 ∷ 32 ∷ 49 ∷ 32 ∷ 49 ∷ 10 ∷ 71 ∷ 79 ∷ 32 ∷ 49 ∷ 32 ∷ 49 ∷ 32 ∷ 49 ∷ 10 ∷ []) ≡ refused 9 7
  -- "at EN: a claim above the last zone": 9
  pub claim_above : read_proposal true model_a size (90 ∷ 78 ∷ 32 ∷ 49 ∷ 10 ∷ 71 ∷ 79 ∷ 32 ∷ 50 ∷ 32 ∷ 48 ∷ 32 ∷ 49 ∷ 10 ∷ 69 ∷ 78 ∷ 10 ∷ 88 ∷ []) ≡ refused 9 14
  -- "49th ZN where that mark may stand": 10
  pub zone_49 : read_proposal true model_a size (times 49 (90 ∷ 78 ∷ 32 ∷ 49 ∷ 10 ∷ 71 ∷ 79 ∷ 32 ∷ 48 ∷ 32 ∷ 48 ∷ 32 ∷ 48 ∷ 10 ∷ [])) ≡ refused 10 672

pub refused_texts : RefusedTexts
unfolding read_proposal stored proposal_of whole_text first_stop is_stop read run turn put look is_mark look_order look_bound look_claims look_end judged fields fields_up_to fields_more fields_then field join outside kept number positive negated digits is_digit push overflows leaves_at released behind
refused_texts = record {
  empty_text = refl;
  order_due = refl;
  bytes_behind = refl;
  seventh_task = refl;
  no_line_end = refl;
  no_location = refl;
  no_variable = refl;
  bound_range = refl;
  claim_range = refl;
  task_twice = refl;
  bound_same = refl;
  bound_falls = refl;
  few_claims = refl;
  zero_due = refl;
  zero_overflow = refl;
  claim_above = refl;
  zone_49 = refl;
}

-- a model's table that no text gives: 13, before all else
pub model_refused : (n : ℕ) (s : List ℕ) → read_proposal false model_a n s ≡ refused 13 0
unfolding read_proposal
model_refused n s = refl

-- a table that is not of its full size: 11, before the text
pub small_table : (n : ℕ) → (n ≡ size → ⊥) → (s : List ℕ) → read_proposal true model_a n s ≡ refused 11 0
unfolding read_proposal
small_table n h s = rw (ne_eqb n size h)

-- "A reader that refuses leaves its lent tables all zero"
pub left_zero : left size (read_proposal true model_a size (90 ∷ 78 ∷ 32 ∷ 50 ∷ 10 ∷ [])) ≡ replicate size 0
unfolding left read_proposal stored proposal_of whole_text first_stop is_stop read run turn put look is_mark look_order look_bound look_claims look_end judged fields fields_up_to fields_more fields_then field join outside kept number positive negated digits is_digit push overflows leaves_at released behind
left_zero = refl
