-- How the variables of a state change with each step: as document 01 says.
-- Assumes nothing.
use mathlib.Core.Path.{◌≡◌, refl, sym, ◌∙◌, ap, ap₂}
use mathlib.Core.Bool.{true, false}
use mathlib.Core.List.{List, [], ◌∷◌, ◌++◌, map}
use Prim.Native.Nat.{ℕ, zero, suc, ◌+◌, ◌-◌, ◌<◌}
use native.Mathlib.Omega.{arith}
use Rattle.meaning.specs.Lists.{insert_at}
use Rattle.meaning.specs.Model.{Model, task_at}
use Rattle.meaning.specs.Machine.State.{Job, State}
use Rattle.meaning.specs.Machine.Release.{new_job}
use Rattle.meaning.specs.Machine.Tick.{older, finishes, served, ticked}
use Rattle.meaning.specs.Zones.Variables.{queue_vars, vars}
use Rattle.meaning.specs.Zones.Changes.{grown, less_c, without_head, with_new}
use Rattle.meaning.proofs.Lists.{map_append}
use Rattle.meaning.proofs.Hooks.{finishes_at}

-- ── tick, and the head goes on ─────────────────────────────────────────────────────────────────

-- behind a head that has done one more, sums and ages are one more
queue_vars_older : (a b : ℕ) (q : List Job) → b ≡ suc a → queue_vars b (map older q) ≡ grown (queue_vars a q)
queue_vars_older a b [] e = refl
queue_vars_older a b (j ∷ js) e =
    let h : b + j.done ≡ suc (a + j.done) = omega arith in
    ap₂ (λ (x : ℕ) (y : List ℕ). x ∷ suc j.age ∷ y) h (queue_vars_older (a + j.done) (b + j.done) js h)

-- "On a tick all variables but 0 grow by 1."
pub vars_go_on : (s : State) → vars (ticked s false) ≡ grown (vars s)
vars_go_on s = ap (λ (v : List ℕ). map suc s.clocks ++ v) (go s.queue) ∙ sym (map_append suc s.clocks (queue_vars 0 s.queue))
  where
    go : (q : List Job) → queue_vars 0 (served false q) ≡ grown (queue_vars 0 q)
    go [] = refl
    go (j ∷ js) =
        let h : 0 + suc j.done ≡ suc (0 + j.done) = omega arith in
        ap₂ (λ (x : ℕ) (y : List ℕ). x ∷ suc j.age ∷ y) h (queue_vars_older (0 + j.done) (0 + suc j.done) js h)

-- ── tick, and the head finishes ────────────────────────────────────────────────────────────────

-- behind jobs that have done c less, every running sum is c less
queue_vars_less : (c a b : ℕ) (q : List Job) → b ≡ a + c → queue_vars a q ≡ less_c c (queue_vars b q)
queue_vars_less c a b [] e = refl
queue_vars_less c a b (j ∷ js) e =
    let h : a + j.done ≡ b + j.done - c = omega arith in
    let g : b + j.done ≡ a + j.done + c = omega arith in
    ap₂ (λ (x : ℕ) (y : List ℕ). x ∷ j.age ∷ y) h (queue_vars_less c (a + j.done) (b + j.done) js g)

-- "When the head finishes, its C is taken from every other running sum, and ages are kept": after all have grown by 1
pub vars_finish : (m : Model) (j : Job) (js : List Job) → j.done < (task_at m j.task).C → finishes m (j ∷ js) ≡ true
    → queue_vars 0 (served true (j ∷ js)) ≡ without_head (task_at m j.task).C (grown (queue_vars 0 (j ∷ js)))
vars_finish m j js p e =
    let c : ℕ = (task_at m j.task).C in
    let h : suc j.done ≡ (task_at m j.task).C = finishes_at m j js p e in
    queue_vars_less (task_at m j.task).C 0 (task_at m j.task).C (map older js) (omega arith)
    ∙ ap (less_c (task_at m j.task).C) (queue_vars_older (0 + j.done) (task_at m j.task).C js (omega arith))

-- ── release ────────────────────────────────────────────────────────────────────────────────────

-- "A new job gets the running sum of the job just ahead, or 0 as head, and age 0."
pub vars_release : (k a t : ℕ) (q : List Job) → queue_vars a (insert_at k (new_job t) q) ≡ with_new k a (queue_vars a q)
vars_release zero a t q = let h : a + 0 ≡ a = omega arith in ap (λ (x : ℕ). x ∷ 0 ∷ queue_vars x q) h
vars_release (suc k) a t [] = let h : a + 0 ≡ a = omega arith in ap (λ (x : ℕ). x ∷ 0 ∷ []) h
vars_release (suc k) a t (j ∷ js) = ap (λ (v : List ℕ). (a + j.done) ∷ j.age ∷ v) (vars_release k (a + j.done) t js)
