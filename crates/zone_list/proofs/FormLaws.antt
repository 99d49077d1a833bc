-- Laws of the form of a step: it is tested cell by cell, and one step has one form.
-- Assumes nothing.
use mathlib.Core.Path.{◌≡◌, refl, sym, ◌∙◌, ap, ap₂}
use mathlib.Core.List.{List}
use Prim.Native.Nat.{ℕ, ◌-◌, ◌≤◌, ◌<◌}
use native.Mathlib.Omega.{arith}
use native.Mathlib.Decide.{dec_lt}
use lib.ListN.{length, get_or, take, length-map, get_or-map}
use lib.Seq.{ext_get_or, get_or-take, length-take-le}
use Rattle.zone_list.specs.declared.form.Kind.{Kind}
use Rattle.zone_list.specs.declared.form.Kind.TheVariants.{GoOn, Finish, Edge}
use Rattle.zone_list.specs.declared.form.Step.{Step}
use Rattle.zone_list.specs.Steps.{aheads, step_by, step_of, PlainTick, Formed}
use Rattle.zone_list.specs.Chosen.{Numbered}

-- ---- the whole

pub form_numbered : (s : Step) → Formed s → Numbered s.count s.positions
form_numbered s f = record { numbered = f.numbered; unused = f.unused }

-- ---- one step, one form

cells_once : (a b : List ℕ) (n k : ℕ) → length a ≡ 4 → length b ≡ 4 → n ≤ 4 → k ≤ 4 → Numbered n a → Numbered k b → aheads n a ≡ aheads k b → (n ≡ k) × (a ≡ b)
cells_once a b n k la lb hn hk p q e =
    let x = length-map (take n a) (λ (i : ℕ). i - 1) ∙ length-take-le n a (omega arith) in
    let y = length-map (take k b) (λ (i : ℕ). i - 1) ∙ length-take-le k b (omega arith) in
    let same : n ≡ k = sym x ∙ ap length e ∙ y in
    (same, ext_get_or 0 a b (la ∙ sym lb) (λ i h. go same i (dec_lt i n)))
  where
    at : (c : List ℕ) (m i : ℕ) → i < m → get_or (aheads m c) i 0 ≡ get_or c i 0 - 1
    at c m i h = get_or-map (λ (j : ℕ). j - 1) (take m c) i 0 ∙ ap (λ (j : ℕ). j - 1) (get_or-take m c i 0 h)

    go : n ≡ k → (i : ℕ) → Dec (i < n) → get_or a i 0 ≡ get_or b i 0
    go s i (yes h) =
        let z = sym (at a n i h) ∙ ap (λ (l : List ℕ). get_or l i 0) e ∙ at b k i (omega arith) in
        omega (arith, p.numbered i h, q.numbered i (omega arith))
    go s i (no h) = p.unused i (omega arith) ∙ sym (q.unused i (omega arith))

kind_once : (a b : Kind) (n k : ℕ) (ps qs : List ℕ) → PlainTick a n → PlainTick b k → step_by a (aheads n ps) ≡ step_by b (aheads k qs)
    → (a ≡ b) × (aheads n ps ≡ aheads k qs)
kind_once GoOn GoOn n k ps qs p q e = (refl, rw (p, q))
kind_once GoOn Finish n k ps qs p q e = absurd (cc)
kind_once GoOn (Edge j) n k ps qs p q e = absurd (cc)
kind_once Finish GoOn n k ps qs p q e = absurd (cc)
kind_once Finish Finish n k ps qs p q e = (refl, rw (p, q))
kind_once Finish (Edge j) n k ps qs p q e = absurd (cc)
kind_once (Edge i) GoOn n k ps qs p q e = absurd (cc)
kind_once (Edge i) Finish n k ps qs p q e = absurd (cc)
kind_once (Edge i) (Edge j) n k ps qs p q e =
    let f : i ≡ j = cc in
    let g : aheads n ps ≡ aheads k qs = cc in
    (ap Edge f, g)

-- an array by value has its length
pub step_once : (r s : Step) → length r.positions ≡ 4 → length s.positions ≡ 4 → Formed r → Formed s → step_of r ≡ step_of s → r ≡ s
step_once r s a b f g e =
    let k = kind_once r.kind s.kind r.count s.count r.positions s.positions f.tick g.tick e in
    let c = cells_once r.positions s.positions r.count s.count a b f.few g.few (form_numbered r f) (form_numbered s g) k.1 in
    ap (λ (x : Kind). record { kind = x; positions = r.positions; count = r.count }) k.0
    ∙ ap₂ (λ (x : List ℕ) (y : ℕ). record { kind = s.kind; positions = x; count = y }) c.1 c.0
