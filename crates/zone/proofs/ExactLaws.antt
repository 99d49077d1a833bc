-- The loops that write the bounds of one state: clock by clock, then job by job.
-- Assumes nothing.
use Prim.Native.Nat.{ℕ, suc, ◌+◌, ◌*◌, ◌≤◌, ◌<◌}
use mathlib.Core.Path.{◌≡◌, refl, sym, ◌∙◌, ap, subst}
use mathlib.Core.List.{List, [], ◌∷◌, map}
use native.Mathlib.Omega.{arith}
use native.Mathlib.Numerals.{add-one}
use lib.IntN.{ℤ, pos, neg_ℤ}
use lib.ListN.{length, get_or, drop, set, replicate, get_or-replicate, length-map, get_or-map, drop_of_length-le}
use lib.Seq.{drop-cons}
use Rattle.meaning.specs.Model.{Bound}
use Rattle.meaning.specs.Machine.State as M
use Rattle.meaning.specs.Zones.Zone.{exactly, clock_bounds, queue_bounds}
use Rattle.machine.specs.Stands.{job_of, no_job}
use Rattle.machine.specs.declared.Job.{Job}
use Rattle.zone_bounds.specs.Entries.{no_bound}
use Rattle.zone.specs.ByCell.{Empty, Written, ClocksWritten, JobsWritten}
use Rattle.zone.proofs.Writes.{write_both, write_start}

-- ---- the clocks

-- those of the first k clocks are written
pub record ClocksUpto (cs : List ℕ) (r : List ℤ) (k : ℕ) : Type 0 where
  pub all : (rest : List Bound) → Written (clock_bounds 1 cs rest) r (k + 1) (clock_bounds (k + 1) (drop k cs) rest)

module _ (cs : List ℕ) (h : length cs ≤ 4) where
  pub clocks_start : (r : List ℤ) → Empty r → ClocksUpto cs r 0
  clocks_start r w = record { all = λ rest. write_start r w (clock_bounds 1 cs rest) 1 }

  clocks_next : (k : ℕ) (rest : List Bound) → k < length cs
      → clock_bounds (k + 1) (drop k cs) rest ≡ exactly (k + 1) 0 (get_or cs k 0) (clock_bounds (k + 1 + 1) (drop (k + 1) cs) rest)
  clocks_next k rest l =
      ap (λ (o : List ℕ). clock_bounds (k + 1) o rest) (drop-cons cs k 0 l)
      ∙ ap (λ (p : ℕ). exactly (k + 1) 0 (get_or cs k 0) (clock_bounds p (drop (suc k) cs) rest)) (sym (add-one (k + 1)))
      ∙ ap (λ (p : ℕ). exactly (k + 1) 0 (get_or cs k 0) (clock_bounds (k + 1 + 1) (drop p cs) rest)) (sym (add-one k))

  pub clocks_more : (r : List ℤ) (k : ℕ) → ClocksUpto cs r k → k < length cs → get_or cs k 0 ≤ 32000
      → ClocksUpto cs (set (set r ((k + 1) * 17 + 0) (pos (get_or cs k 0))) (0 * 17 + (k + 1)) (neg_ℤ (pos (get_or cs k 0)))) (k + 1)
  clocks_more r k w l s = record {
    all = λ rest. write_both (clock_bounds 1 cs rest) (clock_bounds (k + 1 + 1) (drop (k + 1) cs) rest) r (k + 1) 0 (get_or cs k 0) (omega arith) (omega arith) s
        (subst (Written (clock_bounds 1 cs rest) r (k + 1)) (clocks_next k rest l) (w.all rest));
  }

  pub clocks_end : (r : List ℤ) (k : ℕ) → ClocksUpto cs r k → k ≡ length cs → ClocksWritten cs r
  clocks_end r k w q = record {
    all = λ rest. subst (λ (p : ℕ). Written (clock_bounds 1 cs rest) r (p + 1) rest) q
        (subst (Written (clock_bounds 1 cs rest) r (k + 1)) (ap (λ (o : List ℕ). clock_bounds (k + 1) o rest) (drop_of_length-le cs {i = k} (omega arith))) (w.all rest));
  }

-- ---- nothing to begin with

pub empty_made : (b : List ℤ) → b ≡ replicate 289 no_bound → Empty b
empty_made b e = subst Empty (sym e) (record { long = refl; none = λ k h. get_or-replicate 289 k no_bound (pos 0) h })

-- ---- the jobs

-- those of the first k jobs are written: the next running sum is variable v, the one ahead a
pub record JobsUpto (b : List ℤ) (n : ℕ) (js : List Job) (r : List ℤ) (a v k : ℕ) : Type 0 where
  pub sum : v ≡ n + 1 + 2 * k
  pub ahead : a < v
  pub all : (all : List Bound) → Written all b (n + 1) (queue_bounds 0 (n + 1) (map job_of js)) → Written all r v (queue_bounds a v (drop k (map job_of js)))

module _ (b : List ℤ) (n : ℕ) (js : List Job) (h : length js ≤ 6) where
  jobs_long : length (map job_of js) ≡ length js
  jobs_long = length-map js job_of

  jobs_next : (a v k : ℕ) → k < length js → (j : Job) → j ≡ get_or js k no_job
      → queue_bounds a v (drop k (map job_of js)) ≡ exactly v a j.done (exactly (v + 1) 0 j.age (queue_bounds v (v + 2) (drop (k + 1) (map job_of js))))
  jobs_next a v k l j q =
      let s : suc v ≡ v + 1 = omega arith in
      let t : suc (suc v) ≡ v + 2 = omega arith in
      ap (queue_bounds a v) (drop-cons (map job_of js) k (job_of no_job) (omega (arith, jobs_long)))
      ∙ ap (λ (x : M.Job). queue_bounds a v (x ∷ drop (suc k) (map job_of js))) (get_or-map job_of js k no_job ∙ ap job_of (sym q))
      ∙ ap (λ (p : ℕ). exactly v a j.done (exactly p 0 j.age (queue_bounds v (suc (suc v)) (drop (suc k) (map job_of js))))) s
      ∙ ap (λ (p : ℕ). exactly v a j.done (exactly (v + 1) 0 j.age (queue_bounds v p (drop (suc k) (map job_of js))))) t
      ∙ ap (λ (p : ℕ). exactly v a j.done (exactly (v + 1) 0 j.age (queue_bounds v (v + 2) (drop p (map job_of js))))) (sym (add-one k))

  pub jobs_more : (r r₁ r₂ : List ℤ) (a v k : ℕ) (j : Job) → n ≤ 4 → JobsUpto b n js r a v k → k < length js → j ≡ get_or js k no_job → j.done ≤ 32000 → j.age ≤ 32000
      → r₁ ≡ set (set r (v * 17 + a) (pos j.done)) (a * 17 + v) (neg_ℤ (pos j.done))
      → r₂ ≡ set (set r₁ ((v + 1) * 17 + 0) (pos j.age)) (0 * 17 + (v + 1)) (neg_ℤ (pos j.age))
      → JobsUpto b n js r₂ v (v + 2) (k + 1)
  jobs_more r r₁ r₂ a v k j f w l q s t e₁ e₂ =
      let u = w.sum in
      let g = w.ahead in
      let rest = queue_bounds v (v + 2) (drop (k + 1) (map job_of js)) in
      let p : v + 1 + 1 ≡ v + 2 = omega arith in
      record {
        sum = omega arith;
        ahead = omega arith;
        all = λ all x.
            let one = subst (Written all r v) (jobs_next a v k l j q) (w.all all x) in
            let two = subst (λ (y : List ℤ). Written all y (v + 1) (exactly (v + 1) 0 j.age rest)) (sym e₁)
            (write_both all (exactly (v + 1) 0 j.age rest) r v a j.done (omega arith) (omega arith) s one) in
            let three = subst (λ (y : List ℤ). Written all y (v + 1 + 1) rest) (sym e₂)
            (write_both all rest r₁ (v + 1) 0 j.age (omega arith) (omega arith) t two) in
            subst (λ (m : ℕ). Written all r₂ m rest) p three;
      }

  pub jobs_end : (r : List ℤ) (a v k : ℕ) → JobsUpto b n js r a v k → k ≡ length js → JobsWritten b n js r
  jobs_end r a v k w e =
      let s = w.sum in
      let q : v ≡ n + 1 + 2 * length js = omega arith in
      record {
        all = λ all x. subst (λ (m : ℕ). Written all r m []) q
            (subst (Written all r v) (ap (queue_bounds a v) (drop_of_length-le (map job_of js) {i = k} (omega (arith, jobs_long)))) (w.all all x));
      }
