-- Any two right answers of the check coincide.
-- Assumes nothing.
use mathlib.Core.Path.{◌≡◌, sym, ◌∙◌, ap}
use mathlib.Core.Option.{some}
use Prim.Native.Nat.{ℕ, zero, suc, ◌<◌}
use native.Mathlib.Omega.{arith}
use native.Mathlib.Decide.{dec_lt}
use mathlib.Core.List.{List, Memᴰ}
use Rattle.meaning.specs.Lists.{nth1}
use Rattle.meaning.specs.Model.{Model}
use Rattle.meaning.specs.Machine.State.{State}
use Rattle.meaning.specs.Zones.Zone.{Proposal}
use Rattle.meaning.specs.Check.Obligations.{Obligation, obligations, Holds, Accepts}
use Rattle.meaning.specs.Check.Faults.{Fault, Fails}
use Rattle.meaning.specs.Check.Answer.{Failure, Answer, accepted, failed, zone_number, place_number, FailsAt, Right}
use Rattle.meaning.proofs.Lists.{at_mem}
use Rattle.meaning.proofs.Check.Faults.{holds_no_fault, one_failure}

-- an obligation does not both hold and fail
clash : (m : Model) (p : Proposal) (o : Obligation) (f : Fault) (t : State) → Holds m p o → Fails m p o f t → ⊥
clash m p o f t h k = holds_no_fault m p o h f t k.at

nth1_mem : {A : Type 0} (a : A) (l : List A) (k : ℕ) → nth1 l k ≡ some a → Memᴰ a l
nth1_mem a l zero e = absurd (let z : ◌≡◌ {A = ℕ} 0 1 = cc in omega arith)
nth1_mem a l (suc k) e = at_mem a l k e

not_both : (m : Model) (p : Proposal) (x : Failure) → Accepts m p → FailsAt m p x → ⊥
not_both m p x a k =
    clash m p k.obligation x.fault x.state
    (a.all k.obligation (nth1_mem k.obligation (obligations m p) x.number k.listed)) k.fails

one_failing : (m : Model) (p : Proposal) (x y : Failure) → FailsAt m p x → FailsAt m p y → x ≡ y
one_failing m p x y h k = go (dec_lt x.number y.number) (dec_lt y.number x.number)
  where
    same : x.number ≡ y.number → x ≡ y
    same e =
        let g : nth1 (obligations m p) x.number ≡ some k.obligation = rw e k.listed in
        let l = h.listed in
        let q : h.obligation ≡ k.obligation = cc in
        let r = one_failure m p k.obligation x.fault y.fault x.state y.state (rw q at h.fails) k.fails in
        let zon : x.zone ≡ y.zone = h.zone ∙ ap zone_number q ∙ sym k.zone in
        let pla : x.place ≡ y.place = h.place ∙ ap place_number q ∙ sym k.place in
        (λ i. record { number = e i; zone = zon i; place = pla i; fault = r.0 i; state = r.1 i })

    go : Dec (x.number < y.number) → Dec (y.number < x.number) → x ≡ y
    go (yes b) w = absurd (clash m p h.obligation x.fault x.state (k.earlier x.number b h.obligation h.listed) h.fails)
    go (no b) (yes w) = absurd (clash m p k.obligation y.fault y.state (h.earlier y.number w k.obligation k.listed) k.fails)
    go (no b) (no w) = same (omega arith)

-- any two right answers coincide
pub one_right : (m : Model) (p : Proposal) (a b : Answer) → Right m p a → Right m p b → a ≡ b
one_right m p (accepted n) (accepted n') h k = ap accepted (h.1 ∙ sym k.1)
one_right m p (accepted n) (failed x) h k = absurd (not_both m p x h.0 k)
one_right m p (failed x) (accepted n') h k = absurd (not_both m p x k.0 h)
one_right m p (failed x) (failed y) h k = ap failed (one_failing m p x y h k)
