-- Any two answers of the check on the same tables coincide.
-- Assumes nothing.
use mathlib.Core.Path.{◌≡◌, refl, sym, ◌∙◌, ap, subst}
use mathlib.Core.List.{List}
use Prim.Native.Nat.{ℕ}
use Rattle.std.specs.Prelude.{Result, Ok}
use Rattle.meaning.specs.Check.Faults as F
use Rattle.meaning.specs.Check.Answer as A
use Rattle.meaning.specs.Text.ModelTable.{decode}
use Rattle.meaning.specs.Text.ProposalTable as table
use Rattle.meaning.proofs.Check.Answer.{one_right}
use Rattle.refusals.specs.declared.Reason.{Reason}
use Rattle.verdict.specs.declared.answer.Fault.{Fault}
use Rattle.verdict.specs.declared.answer.Fault.TheVariants.{Late, Over, Unclaimed, Elsewhere, Breaks}
use Rattle.verdict.specs.declared.answer.Failure.{Failure}
use Rattle.verdict.specs.declared.answer.Verdict.{Verdict}
use Rattle.verdict.specs.declared.answer.Verdict.TheVariants.{Accepted, Failed}
use Rattle.verdict.specs.Answers.{fault_of, Says, Answered, unusable, right}

-- the case of the enum that says the kind
case_of : F.Fault → Fault
case_of (F.late_at k) = Late k
case_of F.over = Over
case_of F.unclaimed = Unclaimed
case_of F.elsewhere = Elsewhere
case_of (F.breaks i j) = Breaks i j

case_is : (d : Fault) → case_of (fault_of d) ≡ d
unfolding case_of
case_is (Late k) = refl
case_is Over = refl
case_is Unclaimed = refl
case_is Elsewhere = refl
case_is (Breaks i j) = refl

-- each kind, with its values, is said by one case
pub fault_once : (d e : Fault) → fault_of d ≡ fault_of e → d ≡ e
fault_once d e h = sym (case_is d) ∙ ap case_of h ∙ case_is e

same_fields : (r s : Failure) → r.number ≡ s.number → r.zone ≡ s.zone → r.place ≡ s.place → r.fault ≡ s.fault → r.state ≡ s.state → r ≡ s
same_fields r s a b c d e = (λ i. record { number = a i; zone = b i; place = c i; fault = d i; state = e i })

-- a right answer is said in one way
pub says_once : (a : A.Answer) (r s : Verdict) → Says a r → Says a s → r ≡ s
says_once (A.accepted n) (Accepted i) (Accepted k) p q = ap Accepted (p ∙ sym q)
says_once (A.accepted n) (Accepted i) (Failed s) p q = absurd q
says_once (A.accepted n) (Failed r) s p q = absurd p
says_once (A.failed x) (Accepted i) s p q = absurd p
says_once (A.failed x) (Failed r) (Accepted k) p q = absurd q
says_once (A.failed x) (Failed r) (Failed s) h k =
    ap Failed (same_fields r s (h.number ∙ sym k.number) (h.zone ∙ sym k.zone) (h.place ∙ sym k.place)
    (fault_once r.fault s.fault (h.fault ∙ sym k.fault)) (h.state ∙ sym k.state))

-- the tables have one answer
pub answered_once : (t u : List ℕ) (r s : Result Verdict Reason) → Answered t u r → Answered t u s → r ≡ s
answered_once t u r s (unusable h e) (unusable k f) = e ∙ sym f
answered_once t u r s (unusable h e) (right k b y v w f) = absurd (h k)
answered_once t u r s (right g a x v w e) (unusable k f) = absurd (k g)
answered_once t u r s (right g a x v w e) (right k b y v' w' f) =
    e ∙ ap Ok (says_once a v v' w (subst (λ (c : A.Answer). Says c v') (sym (one_right (decode t) (table.decode u) a b x y)) w')) ∙ sym f
