-- Bounds that are written into the entries, one pair after the other.
-- Assumes nothing.
use Prim.Native.Nat.{ℕ, ◌+◌, ◌*◌, ◌/◌, ◌%◌, ◌≤◌, ◌<◌}
use mathlib.Core.Path.{◌≡◌, sym, ◌∙◌, ap, subst}
use mathlib.Core.Logic.{◌⊎◌, inl, inr, ⊎_elim}
use mathlib.Core.Bool.{true}
use mathlib.Core.List.{List, Memᴰ}
use native.Mathlib.Omega.{arith}
use native.Mathlib.Decide.{ℕ_discrete}
use lib.IntN.{ℤ, pos, neg_ℤ}
use lib.ListN.{length, get_or, set, length-set}
use lib.Seq.{get_or-set_same, get_or-set_other}
use Rattle.meaning.specs.Numbers.{over}
use Rattle.meaning.specs.Model.{Bound}
use Rattle.meaning.specs.Zones.Zone.{exactly}
use Rattle.meaning.proofs.Numbers.{over_neg}
use Rattle.meaning.proofs.Text.Collects.{mem_collect, mem_collect_inv}
use Rattle.zone_bounds.specs.Entries.{no_bound, is_bound, bounds_in}
use Rattle.zone.specs.ByCell.{Empty, Written}
use Rattle.zone.proofs.EntryLaws.{bound_yes, bound_no}

-- what stands at place k, as a bound with c
abbrev pub at : ℕ → ℤ → Bound
at k c = record { i = k / 17; j = k % 17; c = c }

-- ---- what is written

module _ (b : List ℤ) where
  pub written_make : (k : ℕ) → k < 289 → is_bound (get_or b k (pos 0)) ≡ true → Memᴰ (at k (get_or b k (pos 0))) (bounds_in b)
  unfolding bounds_in
  written_make k h e = mem_collect 289 (λ k. is_bound (get_or b k (pos 0))) (λ k. at k (get_or b k (pos 0))) k h e

  pub written_read : (x : Bound) → Memᴰ x (bounds_in b) → (k : ℕ) × (k < 289) × (is_bound (get_or b k (pos 0)) ≡ true) × (x ≡ at k (get_or b k (pos 0)))
  unfolding bounds_in
  written_read x w = mem_collect_inv 289 (λ k. is_bound (get_or b k (pos 0))) (λ k. at k (get_or b k (pos 0))) x w

-- ---- one bound more, where none was

module _ (b : List ℤ) (k : ℕ) (c : ℤ) (l : length b ≡ 289) (h : k < 289) (f : get_or b k (pos 0) ≡ no_bound) (g : is_bound c ≡ true) where
  pub set_here : Memᴰ (at k c) (bounds_in (set b k c))
  set_here =
      let e = get_or-set_same b k c (pos 0) (omega arith) in
      subst (λ (z : ℤ). Memᴰ (at k z) (bounds_in (set b k c))) e (written_make (set b k c) k h (rw e g))

  pub set_keep : (x : Bound) → Memᴰ x (bounds_in b) → Memᴰ x (bounds_in (set b k c))
  set_keep x w = go (written_read b x w)
    where
      other : (q : ℕ) → is_bound (get_or b q (pos 0)) ≡ true → q ≡ k → ⊥
      other q e d = bound_no (get_or b q (pos 0)) (ap (λ (j : ℕ). over (get_or b j (pos 0))) d ∙ ap over f) e

      go : (q : ℕ) × (q < 289) × (is_bound (get_or b q (pos 0)) ≡ true) × (x ≡ at q (get_or b q (pos 0))) → Memᴰ x (bounds_in (set b k c))
      go r =
          let o = get_or-set_other b k r.0 c (pos 0) (other r.0 r.2) in
          subst (λ (y : Bound). Memᴰ y (bounds_in (set b k c))) (ap (at r.0) o ∙ sym r.3) (written_make (set b k c) r.0 r.1 (rw o r.2))

  pub set_read : (x : Bound) → Memᴰ x (bounds_in (set b k c)) → (x ≡ at k c) ⊎ Memᴰ x (bounds_in b)
  set_read x w = go (written_read (set b k c) x w)
    where
      go : (q : ℕ) × (q < 289) × (is_bound (get_or (set b k c) q (pos 0)) ≡ true) × (x ≡ at q (get_or (set b k c) q (pos 0))) → (x ≡ at k c) ⊎ Memᴰ x (bounds_in b)
      go r = by (ℕ_discrete r.0 k)
        where
          by : Dec (r.0 ≡ k) → (x ≡ at k c) ⊎ Memᴰ x (bounds_in b)
          by (yes e) = inl (r.3 ∙ ap (λ (q : ℕ). at q (get_or (set b k c) q (pos 0))) e ∙ ap (at k) (get_or-set_same b k c (pos 0) (omega arith)))
          by (no d) =
              let o = get_or-set_other b k r.0 c (pos 0) d in
              inr (subst (λ (y : Bound). Memᴰ y (bounds_in b)) (ap (at r.0) (sym o) ∙ sym r.3) (written_make b r.0 r.1 (rw o at r.2)))

-- ---- both bounds

-- a place is its row and column
at_is : (i j : ℕ) (c : ℤ) → j < 17 → at (i * 17 + j) c ≡ record { i = i; j = j; c = c }
at_is i j c h =
    let p : (i * 17 + j) / 17 ≡ i = omega arith in
    let q : (i * 17 + j) % 17 ≡ j = omega arith in
    rw (p, q)

module _ (all rest : List Bound) (b : List ℤ) (i j v : ℕ) (h : j < i) (k : i < 17) (s : v ≤ 32000) (w : Written all b i (exactly i j v rest)) where
  abbrev once : List ℤ
  once = set b (i * 17 + j) (pos v)

  abbrev twice : List ℤ
  twice = set once (j * 17 + i) (neg_ℤ (pos v))

  apart : j * 17 + i ≡ i * 17 + j → ⊥
  apart e = omega arith

  free_one : get_or b (i * 17 + j) (pos 0) ≡ no_bound
  free_one = w.free (i * 17 + j) (omega arith) (inl (omega arith))

  free_two : get_or once (j * 17 + i) (pos 0) ≡ no_bound
  free_two = get_or-set_other b (i * 17 + j) (j * 17 + i) (pos v) (pos 0) apart ∙ w.free (j * 17 + i) (omega arith) (inr (omega arith))

  long_one : length once ≡ 289
  long_one = length-set b (i * 17 + j) (pos v) ∙ w.long

  yes_one : is_bound (pos v) ≡ true
  yes_one = bound_yes (pos v) (λ e. omega arith)

  yes_two : is_bound (neg_ℤ (pos v)) ≡ true
  yes_two = bound_yes (neg_ℤ (pos v)) (λ e. omega (arith, over_neg (pos v)))

  in_one : Memᴰ (record { i = i; j = j; c = pos v }) (bounds_in twice)
  in_one =
      set_keep once (j * 17 + i) (neg_ℤ (pos v)) long_one (omega arith) free_two yes_two _
      (subst (λ (x : Bound). Memᴰ x (bounds_in once)) (at_is i j (pos v) (omega arith)) (set_here b (i * 17 + j) (pos v) w.long (omega arith) free_one yes_one))

  in_two : Memᴰ (record { i = j; j = i; c = neg_ℤ (pos v) }) (bounds_in twice)
  in_two =
      subst (λ (x : Bound). Memᴰ x (bounds_in twice)) (at_is j i (neg_ℤ (pos v)) (omega arith))
      (set_here once (j * 17 + i) (neg_ℤ (pos v)) long_one (omega arith) free_two yes_two)

  kept : (x : Bound) → Memᴰ x (bounds_in b) → Memᴰ x (bounds_in twice)
  kept x m =
      set_keep once (j * 17 + i) (neg_ℤ (pos v)) long_one (omega arith) free_two yes_two x
      (set_keep b (i * 17 + j) (pos v) w.long (omega arith) free_one yes_one x m)

  to_new : (x : Bound) → Memᴰ x (exactly i j v rest) → Memᴰ x (bounds_in twice) ⊎ Memᴰ x rest
  to_new x (Memᴰ.head e) = inl (subst (λ (y : Bound). Memᴰ y (bounds_in twice)) (sym e) in_one)
  to_new x (Memᴰ.tail (Memᴰ.head e)) = inl (subst (λ (y : Bound). Memᴰ y (bounds_in twice)) (sym e) in_two)
  to_new x (Memᴰ.tail (Memᴰ.tail m)) = inr m

  from_new : (x : Bound) → Memᴰ x (bounds_in twice) → Memᴰ x all
  from_new x m =
      ⊎_elim
      (λ e. w.from x (inr (Memᴰ.tail (Memᴰ.head (e ∙ at_is j i (neg_ℤ (pos v)) (omega arith))))))
      (λ n. ⊎_elim
      (λ e. w.from x (inr (Memᴰ.head (e ∙ at_is i j (pos v) (omega arith)))))
      (λ o. w.from x (inl o))
      (set_read b (i * 17 + j) (pos v) w.long (omega arith) free_one yes_one x n))
      (set_read once (j * 17 + i) (neg_ℤ (pos v)) long_one (omega arith) free_two yes_two x m)

  free_new : (q : ℕ) → q < 289 → (i + 1 ≤ q / 17) ⊎ (i + 1 ≤ q % 17) → get_or twice q (pos 0) ≡ no_bound
  free_new q l o =
      let a : q ≡ j * 17 + i → ⊥ = λ e. ⊎_elim (λ u. omega arith) (λ u. omega arith) o in
      let d : q ≡ i * 17 + j → ⊥ = λ e. ⊎_elim (λ u. omega arith) (λ u. omega arith) o in
      get_or-set_other once (j * 17 + i) q (neg_ℤ (pos v)) (pos 0) a ∙ get_or-set_other b (i * 17 + j) q (pos v) (pos 0) d
      ∙ w.free q l (⊎_elim (λ u. inl (omega arith)) (λ u. inr (omega arith)) o)

  pub write_both : Written all (set (set b (i * 17 + j) (pos v)) (j * 17 + i) (neg_ℤ (pos v))) (i + 1) rest
  write_both = record {
    long = length-set once (j * 17 + i) (neg_ℤ (pos v)) ∙ long_one;
    free = free_new;
    to = λ x m. ⊎_elim (λ o. inl (kept x o)) (λ n. to_new x n) (w.to x m);
    from = λ x m. ⊎_elim (λ o. from_new x o) (λ r. w.from x (inr (Memᴰ.tail (Memᴰ.tail r)))) m;
  }

-- ---- nothing is written

pub written_none : (b : List ℤ) → Empty b → (x : Bound) → Memᴰ x (bounds_in b) → ⊥
written_none b e x m =
    let r = written_read b x m in
    bound_no (get_or b r.0 (pos 0)) (ap over (e.none r.0 r.1)) r.2

pub write_start : (b : List ℤ) → Empty b → (all : List Bound) (v : ℕ) → Written all b v all
write_start b e all v = record {
  long = e.long;
  free = λ k h o. e.none k h;
  to = λ x m. inr m;
  from = λ x m. ⊎_elim (λ o. absurd (written_none b e x o)) (λ o. o) m;
}
