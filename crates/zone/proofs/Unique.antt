-- Any two results that a contract allows coincide.
-- Assumes nothing.
use Prim.Native.Nat.{ℕ, ◌<◌}
use Rattle.std.specs.Prelude.{Result, Ok, Err, IfOk, MatchResult}
use mathlib.Core.Path.{◌≡◌, refl, sym, ◌∙◌, ap, subst}
use mathlib.Core.Bool.{Bool, true, false}
use mathlib.Core.List.{List, Memᴰ}
use native.Mathlib.Omega.{arith}
use lib.Dec.{eqb}
use lib.IntN.{ℤ, pos, negsuc}
use lib.ListN.{length, get_or}
use lib.Seq.{ext_get_or, get_or-take, length-take-le}
use borrow.Author.Tests.{eqb-true, not-false}
use Rattle.meaning.specs.Model.{Bound, Model}
use Rattle.meaning.specs.Machine.State as M
use Rattle.meaning.specs.Zones.Zone as Z
use Rattle.meaning.specs.Text.ModelTable.{decode}
use Rattle.meaning.proofs.Text.Choices.{by_lt}
use Rattle.machine.specs.Stands.{state_of}
use Rattle.machine.specs.declared.State.{State}
use Rattle.zone.specs.declared.Zone.{Zone}
use Rattle.refusals.specs.declared.Reason.{Reason}
use Rattle.refusals.specs.declared.Reason.TheVariants.{NotProper}
use Rattle.home.specs.declared.Home.{Home}
use Rattle.zone_bounds.specs.Entries.{no_bound, is_bound, bounds_in}
use Rattle.zone.specs.Stands.{order_of, bounds_of, zone_of, Lendable}
use Rattle.zone.specs.Promise.{WidestZone, ExactZone, MadeWidest, MadeExact}
use Rattle.zone.proofs.Writes.{at, written_make, written_read}

-- an array has its length
pub record Sized (z : Zone) : Type 0 where
  pub tasks : length z.home.tasks ≡ 6
  pub bounds : length z.bounds ≡ 289

-- ---- the entries are those whose bounds are written

-- an entry that is no bound is "no bound"
unwritten : (c : ℤ) → is_bound c ≡ false → c ≡ no_bound
unwritten (pos n) e = ap pos (eqb-true n 1000000000 (not-false (eqb n 1000000000) e))
unwritten (negsuc n) e = absurd (let q = eqb-true 0 1000000000 (not-false (eqb 0 1000000000) e) in omega arith)

-- two bounds of one place are one
same_place : (k q : ℕ) (c d : ℤ) → at k c ≡ at q d → c ≡ d
same_place k q c d e = ap (λ (x : Bound). x.c) e

place_of : (k q : ℕ) (c d : ℤ) → at k c ≡ at q d → k ≡ q
place_of k q c d e =
    let i = ap (λ (x : Bound). x.i) e in
    let j = ap (λ (x : Bound). x.j) e in
    omega arith

module _ (a b : List ℤ) (same : (x : Bound) → Memᴰ x (bounds_in a) → Memᴰ x (bounds_in b)) where
  entry_goes : (k : ℕ) → k < 289 → is_bound (get_or a k (pos 0)) ≡ true → get_or a k (pos 0) ≡ get_or b k (pos 0)
  entry_goes k h e =
      let r = written_read b (at k (get_or a k (pos 0))) (same (at k (get_or a k (pos 0))) (written_make a k h e)) in
      same_place k r.0 (get_or a k (pos 0)) (get_or b r.0 (pos 0)) r.3
      ∙ ap (λ (q : ℕ). get_or b q (pos 0)) (sym (place_of k r.0 (get_or a k (pos 0)) (get_or b r.0 (pos 0)) r.3))

entry_once : (a b : List ℤ) → ((x : Bound) → Memᴰ x (bounds_in a) → Memᴰ x (bounds_in b)) → ((x : Bound) → Memᴰ x (bounds_in b) → Memᴰ x (bounds_in a))
    → (k : ℕ) → k < 289 → get_or a k (pos 0) ≡ get_or b k (pos 0)
entry_once a b to from k h = go (is_bound (get_or a k (pos 0))) refl (is_bound (get_or b k (pos 0))) refl
  where
    go : (s : Bool) → is_bound (get_or a k (pos 0)) ≡ s → (t : Bool) → is_bound (get_or b k (pos 0)) ≡ t → get_or a k (pos 0) ≡ get_or b k (pos 0)
    go true e t f = entry_goes a b to k h e
    go false e true f = sym (entry_goes b a from k h f)
    go false e false f = unwritten (get_or a k (pos 0)) e ∙ sym (unwritten (get_or b k (pos 0)) f)

-- ---- a zone is what it stands for

tasks_once : (m : Model) (y z : Zone) → Sized y → Sized z → Lendable m y → Lendable m z → order_of y ≡ order_of z → (y.home.count ≡ z.home.count) × (y.home.tasks ≡ z.home.tasks)
tasks_once m y z u v k l e =
    let f = k.home.few in
    let g = l.home.few in
    let a = u.tasks in
    let b = v.tasks in
    let c = length-take-le y.home.count y.home.tasks (omega arith) in
    let d = length-take-le z.home.count z.home.tasks (omega arith) in
    let n : y.home.count ≡ z.home.count = omega (arith, ap length e) in (
      n,
      ext_get_or 0 y.home.tasks z.home.tasks (omega arith) (λ i h.
          by_lt i y.home.count
          (λ p. sym (get_or-take y.home.count y.home.tasks i 0 p) ∙ ap (λ (o : List ℕ). get_or o i 0) e ∙ get_or-take z.home.count z.home.tasks i 0 (omega arith))
          (λ p. k.home.unused i p ∙ sym (l.home.unused i (omega arith)))),
    )

-- zones that may be lent, with the same location, order and bounds
pub zone_once : (m : Model) (y z : Zone) → Sized y → Sized z → Lendable m y → Lendable m z → y.home.location ≡ z.home.location → order_of y ≡ order_of z
    → ((x : Bound) → Memᴰ x (bounds_of y) → Memᴰ x (bounds_of z)) → ((x : Bound) → Memᴰ x (bounds_of z) → Memᴰ x (bounds_of y)) → y ≡ z
zone_once m y z u v k l p e to from =
    let t = tasks_once m y z u v k l e in
    let c = t.0 in
    let ts = t.1 in
    let a = u.bounds in
    let b = v.bounds in
    let bs = ext_get_or (pos 0) y.bounds z.bounds (omega arith) (λ i h.
    entry_once y.bounds z.bounds
    to from i (omega arith)) in
    rw (p, c, ts, bs)

-- and those that stand for one zone
pub stands_once : (m : Model) (y z : Zone) → Sized y → Sized z → Lendable m y → Lendable m z → zone_of y ≡ zone_of z → y ≡ z
stands_once m y z u v k l e =
    let b = ap (λ (x : Z.Zone). x.bounds) e in
    zone_once m y z u v k l (ap (λ (x : Z.Zone). x.location) e) (ap (λ (x : Z.Zone). x.order) e)
    (λ x w. subst (Memᴰ x) b w) (λ x w. subst (Memᴰ x) (sym b) w)

-- ---- what is made

pub widest_once : (m : Model) (h : Home) (y z : Zone) → Sized y → Sized z → WidestZone m h y → WidestZone m h z → y ≡ z
widest_once m h y z u v p q = stands_once m y z u v p.lendable q.lendable (p.is ∙ sym q.is)

pub exact_once : (m : Model) (s : M.State) (y z : Zone) → Sized y → Sized z → ExactZone m s y → ExactZone m s z → y ≡ z
exact_once m s y z u v p q =
    zone_once m y z u v p.lendable q.lendable (p.location ∙ sym q.location) (p.order ∙ sym q.order)
    (λ x w. (q.bounds x).1 ((p.bounds x).0 w)) (λ x w. (p.bounds x).1 ((q.bounds x).0 w))

-- each answer is of one kind, and what it holds is one
made_once : (P : Type 0) (Q : Zone → Type 0) → ((y z : Zone) → Sized y → Sized z → Q y → Q z → y ≡ z) → (a b : Result Zone Reason) → IfOk a Sized → IfOk b Sized
    → MatchResult a (λ z. P × Q z) (λ e. (P → ⊥) × (e ≡ NotProper)) → MatchResult b (λ z. P × Q z) (λ e. (P → ⊥) × (e ≡ NotProper)) → a ≡ b
made_once P Q once (Ok y) (Ok z) u v p q = ap Ok (once y z u v p.1 q.1)
made_once P Q once (Ok y) (Err e) u v p q = absurd (q.0 p.0)
made_once P Q once (Err d) (Ok z) u v p q = absurd (p.0 q.0)
made_once P Q once (Err d) (Err e) u v p q = ap Err (p.1 ∙ sym q.1)

pub made_widest_once : (t : List ℕ) (h : Home) (a b : Result Zone Reason) → IfOk a Sized → IfOk b Sized → MadeWidest t h a → MadeWidest t h b → a ≡ b
made_widest_once t h a b u v p q = made_once _ _ (widest_once (decode t) h) a b u v p q

pub made_exact_once : (t : List ℕ) (s : State) (a b : Result Zone Reason) → IfOk a Sized → IfOk b Sized → MadeExact t s a → MadeExact t s b → a ≡ b
made_exact_once t s a b u v p q = made_once _ _ (exact_once (decode t) (state_of (decode t) s)) a b u v p q
