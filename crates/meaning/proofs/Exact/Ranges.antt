-- The plan of a step stays among the zone's variables; and what its tables hold, place by place.
-- Assumes nothing.
use mathlib.Core.Path.{◌≡◌, refl, sym, ◌∙◌, ap, subst}
use mathlib.Core.Bool.{Bool, true, false, cond}
use mathlib.Core.List.{List, [], ◌∷◌, tail}
use mathlib.Core.Option.{Option, none, some}
use Prim.Native.Nat.{ℕ, zero, suc, ◌+◌, ◌-◌, ◌≤◌, ◌<◌}
use native.Mathlib.Omega.{arith}
use native.Mathlib.Decide.{dec_lt}
use lib.IntN.{ℤ, pos}
use lib.ListN.{length, get_or}
use Rattle.meaning.specs.Numbers.{over, under}
use Rattle.meaning.specs.Lists.{nth1, elem}
use Rattle.meaning.specs.Model.{Edge, Model, released}
use Rattle.meaning.specs.Machine.Release.{overflows_any}
use Rattle.meaning.specs.Zones.Variables.{variables}
use Rattle.meaning.specs.Zones.Steps.{Step, go_on, finish, by_edge}
use Rattle.meaning.specs.Zones.Reached.{Home}
use Rattle.meaning.specs.Inner.Slots.{Slot, slots, slots_of}
use Rattle.meaning.specs.Inner.Places.{insert_slot, insert_slots}
use Rattle.meaning.specs.Inner.Plans.{Plan, head_time, stays, enters, plan_by, plan_of, unreset, slot_vars, slot_offs, from, off}
use Rattle.meaning.specs.Inner.Sources.{edge_overflows, step_overflows}
use Rattle.meaning.proofs.Tests.{never}
use Rattle.meaning.proofs.Numbers.{sub_size}
use Rattle.meaning.proofs.Exact.Moves.{from_clock, off_clock, from_slot, off_slot}

-- ── ranges ─────────────────────────────────────────────────────────────────────────────────────

-- the slots' variables are among the first n
abbrev pub SlotsIn : ℕ → List Slot → Type 0
SlotsIn n [] = Unit {0}
SlotsIn n (s ∷ ss) = (s.sum < n) × (s.age < n) × SlotsIn n ss

slots_in : (v n : ℕ) (o : List ℕ) → v + (length o + length o) ≤ n → SlotsIn n (slots v o)
slots_in v n [] h = tt
slots_in v n (t ∷ o) h = (omega arith, omega arith, slots_in (suc (suc v)) n o (omega arith))

tail_in : (n : ℕ) (ss : List Slot) → SlotsIn n ss → SlotsIn n (tail ss)
tail_in n [] h = tt
tail_in n (s ∷ ss) h = h.2

module _ (n : ℕ) (z : 0 < n) where
  insert_in : (k a t : ℕ) (ss : List Slot) → a < n → SlotsIn n ss → SlotsIn n (insert_slot k a t ss)
  insert_in zero a t ss l h = (l, z, h)
  insert_in (suc k) a t [] l h = (l, z, tt)
  insert_in (suc k) a t (s ∷ ss) l h = (h.0, h.1, insert_in k s.sum t ss h.0 h.2)

  inserts_in : (ts ps : List ℕ) (ss : List Slot) → SlotsIn n ss → SlotsIn n (insert_slots ts ps ss)
  inserts_in [] ps ss h = h
  inserts_in (t ∷ ts) [] ss h = h
  inserts_in (t ∷ ts) (p ∷ ps) ss h = inserts_in ts ps (insert_slot p 0 t ss) (insert_in p 0 t ss z h)

  vars_in : (ss : List Slot) (i : ℕ) → SlotsIn n ss → get_or (slot_vars ss) i 0 < n
  vars_in [] i h = z
  vars_in (s ∷ ss) zero h = h.0
  vars_in (s ∷ ss) (suc zero) h = h.1
  vars_in (s ∷ ss) (suc (suc i)) h = vars_in ss i h.2

unreset_le : (rs : List ℕ) (i : ℕ) → unreset rs i ≤ i
unreset_le rs i = go (elem i rs)
  where
    go : (b : Bool) → cond b 0 i ≤ i
    go true = omega arith
    go false = omega arith

module _ (m : Model) (h : Home) where
  own_in : SlotsIn (variables m h.order) (slots_of m h.order)
  own_in = slots_in (suc m.clocks) (variables m h.order) h.order (omega arith)

  plan_by_in : (ps : List ℕ) (d : Option Edge) → SlotsIn (variables m h.order) (plan_by m h ps d).slots
  plan_by_in ps none = own_in
  plan_by_in ps (some d) = go (overflows_any m (released m d) h.order)
    where
      go : (b : Bool) → SlotsIn (variables m h.order) (cond b (stays m h) (enters m h ps d)).slots
      go true = own_in
      go false = inserts_in (variables m h.order) (omega arith) (released m d) ps (slots_of m h.order) own_in

  plan_in : (st : Step) → SlotsIn (variables m h.order) (plan_of m h st).slots
  plan_in go_on = own_in
  plan_in finish = tail_in (variables m h.order) (slots_of m h.order) own_in
  plan_in (by_edge k ps) = plan_by_in ps (nth1 m.edges k)

  -- the variable from before is one of the zone's
  pub from_in : (st : Step) (i : ℕ) → from m (plan_of m h st) i < variables m h.order
  from_in st zero = omega arith
  from_in st (suc i) = go (dec_lt i m.clocks)
    where
      p : Plan
      p = plan_of m h st

      go : Dec (i < m.clocks) → from m p (suc i) < variables m h.order
      go (yes l) = omega (arith, from_clock m p i l, unreset_le p.resets (suc i))
      go (no l) =
          let e : suc (m.clocks + (i - m.clocks)) ≡ suc i = omega arith in
          subst (λ (u : ℕ). from m p u < variables m h.order) e
          (omega (arith, from_slot m p (i - m.clocks), vars_in (variables m h.order) (omega arith) p.slots (i - m.clocks) (plan_in st)))

-- ── the tables, place by place ─────────────────────────────────────────────────────────────────

module _ (t : ℕ) where
  pub length_insert_slot : (k a : ℕ) (ss : List Slot) → length (insert_slot k a t ss) ≡ suc (length ss)
  length_insert_slot zero a ss = refl
  length_insert_slot (suc k) a [] = refl
  length_insert_slot (suc k) a (s ∷ ss) = ap suc (length_insert_slot k s.sum ss)

-- what is added: to a running sum and to an age
pub offs_sum : (c d : ℤ) (ss : List Slot) (k : ℕ) → k < length ss → get_or (slot_offs c d ss) (k + k) (pos 0) ≡ c
offs_sum c d [] k h = absurd (omega arith)
offs_sum c d (s ∷ ss) zero h = refl
offs_sum c d (s ∷ ss) (suc k) h =
    let e : suc k + suc k ≡ suc (suc (k + k)) = omega arith in
    ap (λ (i : ℕ). get_or (slot_offs c d (s ∷ ss)) i (pos 0)) e ∙ offs_sum c d ss k (omega arith)

pub offs_age : (c d : ℤ) (ss : List Slot) (k : ℕ) → k < length ss → get_or (slot_offs c d ss) (suc (k + k)) (pos 0) ≡ d
offs_age c d [] k h = absurd (omega arith)
offs_age c d (s ∷ ss) zero h = refl
offs_age c d (s ∷ ss) (suc k) h =
    let e : suc k + suc k ≡ suc (suc (k + k)) = omega arith in
    ap (λ (i : ℕ). get_or (slot_offs c d (s ∷ ss)) (suc i) (pos 0)) e ∙ offs_age c d ss k (omega arith)

-- the same in the table: at the running sum and at the age of position k + 1
pub off_sum : (m : Model) (p : Plan) (k : ℕ) → k < length p.slots → off m p (suc (m.clocks + (k + k))) ≡ p.sum
off_sum m p k h = off_slot m p (k + k) ∙ offs_sum p.sum p.age p.slots k h

pub off_age : (m : Model) (p : Plan) (k : ℕ) → k < length p.slots → off m p (suc (m.clocks + suc (k + k))) ≡ p.age
off_age m p k h = off_slot m p (suc (k + k)) ∙ offs_age p.sum p.age p.slots k h

-- what holds of all that a plan adds, and of 0, holds of all that stands in the table
offs_each : (P : ℤ → Type 0) (c d : ℤ) → P (pos 0) → P c → P d → (ss : List Slot) (i : ℕ) → P (get_or (slot_offs c d ss) i (pos 0))
offs_each P c d z h k [] i = z
offs_each P c d z h k (s ∷ ss) zero = h
offs_each P c d z h k (s ∷ ss) (suc zero) = k
offs_each P c d z h k (s ∷ ss) (suc (suc i)) = offs_each P c d z h k ss i

pub off_each : (P : ℤ → Type 0) (m : Model) (p : Plan) → P (pos 0) → P p.clock → P p.sum → P p.age → (i : ℕ) → P (off m p i)
off_each P m p z c s a zero = z
off_each P m p z c s a (suc i) = go (dec_lt i m.clocks)
  where
    go : Dec (i < m.clocks) → P (off m p (suc i))
    go (yes w) = subst P (sym (off_clock m p i w)) c
    go (no w) =
        let e : suc (m.clocks + (i - m.clocks)) ≡ suc i = omega arith in
        subst (λ (k : ℕ). P (off m p k)) e
        (subst P (sym (off_slot m p (i - m.clocks))) (offs_each P p.sum p.age z s a p.slots (i - m.clocks)))

module _ (m : Model) (h : Home) where
  -- the plan of an edge is one of two
  plan_over : (ps : List ℕ) (d : Option Edge) → edge_overflows m h d ≡ true → plan_by m h ps d ≡ stays m h
  plan_over ps none e = refl
  plan_over ps (some d) e = ap (λ (b : Bool). cond b (stays m h) (enters m h ps d)) e

  pub plan_enters : (ps : List ℕ) (d : Edge) → overflows_any m (released m d) h.order ≡ false → plan_by m h ps (some d) ≡ enters m h ps d
  plan_enters ps d e = ap (λ (b : Bool). cond b (stays m h) (enters m h ps d)) e

  -- at an overflow everything stays
  pub over_plan : (st : Step) → step_overflows m h st ≡ true → plan_of m h st ≡ stays m h
  over_plan go_on e = absurd (never e refl)
  over_plan finish e = absurd (never e refl)
  over_plan (by_edge k ps) e = plan_over ps (nth1 m.edges k) e

  -- an edge adds nothing to any variable
  edge_by_off : (ps : List ℕ) (d : Option Edge) (i : ℕ) → off m (plan_by m h ps d) i ≡ pos 0
  edge_by_off ps none i = off_each (λ (c : ℤ). c ≡ pos 0) m (stays m h) refl refl refl refl i
  edge_by_off ps (some d) i = go (overflows_any m (released m d) h.order)
    where
      go : (b : Bool) → off m (cond b (stays m h) (enters m h ps d)) i ≡ pos 0
      go true = off_each (λ (c : ℤ). c ≡ pos 0) m (stays m h) refl refl refl refl i
      go false = off_each (λ (c : ℤ). c ≡ pos 0) m (enters m h ps d) refl refl refl refl i

  pub edge_off : (k : ℕ) (ps : List ℕ) (i : ℕ) → off m (plan_of m h (by_edge k ps)) i ≡ pos 0
  edge_off k ps i = edge_by_off ps (nth1 m.edges k) i

  -- no step adds more than 1 to a variable, or takes more than the head's C from it
  abbrev Small : ℤ → Type 0
  Small c = (over c ≤ 1) × (under c ≤ head_time m h.order)

  pub off_size : (st : Step) (i : ℕ) → (over (off m (plan_of m h st) i) ≤ 1) × (under (off m (plan_of m h st) i) ≤ head_time m h.order)
  off_size go_on i = off_each Small m (plan_of m h go_on) (omega arith, omega arith) (omega arith, omega arith) (omega arith, omega arith) (omega arith, omega arith) i
  off_size finish i =
      off_each Small m (plan_of m h finish) (omega arith, omega arith) (omega arith, omega arith)
      (sub_size 1 (head_time m h.order)) (omega arith, omega arith) i
  off_size (by_edge k ps) i = subst Small (sym (edge_off k ps i)) (omega arith, omega arith)
