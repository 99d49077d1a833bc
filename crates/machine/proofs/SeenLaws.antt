-- Laws of a walk over a lent list of jobs: what it has found is what the list is like, up to where it has come.
-- Assumes nothing.
use Prim.Native.Nat.{ℕ, zero, suc, ◌+◌, ◌≤◌, ◌<◌}
use mathlib.Core.Path.{◌≡◌, refl, sym, ◌∙◌, ap, subst}
use mathlib.Core.Bool.{Bool, true, ◌&&◌}
use mathlib.Core.List.{List, [], ◌∷◌, ◌++◌, map}
use native.Mathlib.Omega.{arith}
use lib.ListN.{length, get_or, take, set, length-append, length-set, length-take}
use lib.Seq.{take-suc}
use Rattle.meaning.specs.Lists.{every}
use Rattle.meaning.proofs.Tests.{and_left, and_right, and_both}
use Rattle.meaning.proofs.Lists.{map_append}
use Rattle.refusals.specs.declared.Reason.{Reason}
use Rattle.machine.specs.Stands.{no_job, task_of}
use Rattle.machine.specs.ByCell.{timely, beats_in}
use Rattle.machine.specs.BySeen.{Start, Next, NotNext}
use Rattle.machine.specs.declared.Job.{Job}
use Rattle.machine.specs.declared.seen.Seen.{Seen}
use Rattle.machine.proofs.AllCells.{every_append}

-- ---- one more at the end of a list

snoc_length : {A : Type 0} (q : List A) (x : A) → length (q ++ x ∷ []) ≡ suc (length q)
snoc_length q x = let e = length-append q (x ∷ []) in omega arith

set_take : {A : Type 0} (l : List A) (k : ℕ) (x : A) → k < length l → take (suc k) (set l k x) ≡ take k l ++ x ∷ []
set_take [] k x h = absurd (omega arith)
set_take (y ∷ l) zero x h = refl
set_take (y ∷ l) (suc k) x h = ap (λ z. y ∷ z) (set_take l k x (omega arith))

-- cells that hold what f says of each job of a list hold it with one more
noted : {A : Type 0} (f : Job → A) (l : List A) (q : List Job) (j : Job) → length q < length l → take (length q) l ≡ map f q
    → take (length (q ++ j ∷ [])) (set l (length q) (f j)) ≡ map f (q ++ j ∷ [])
noted f l q j h e =
    ap (λ (k : ℕ). take k (set l (length q) (f j))) (snoc_length q j) ∙ set_take l (length q) (f j) h ∙ ap (λ z. z ++ f j ∷ []) e ∙ sym (map_append f q (j ∷ []))

-- ---- what has been found in the list q

module _ (t : List ℕ) (n : ℕ) where
  -- the jobs have work and time left, and there is room for them
  pub record Rightly (q : List Job) : Type 0 where
    pub timely : every (timely t) q ≡ true
    pub few : length q ≤ 6

  -- what a walk knows of a list that is so
  pub record Sound (q : List Job) (s : Seen) : Type 0 where
    pub right : Rightly q
    pub count : s.count ≡ length q
    pub six_tasks : length s.tasks ≡ 6
    pub six_beaten : length s.beaten ≡ 6
    pub tasks : take (length q) s.tasks ≡ map task_of q
    pub beaten : take (length q) s.beaten ≡ map (beats_in t n) q

  pub sound_start : (s : Seen) → Start s → Sound [] s
  sound_start s e = record {
    right = record { timely = refl; few = omega arith };
    count = e.count;
    six_tasks = ap length e.tasks;
    six_beaten = ap length e.beaten;
    tasks = refl;
    beaten = refl;
  }

  timely_snoc : (q : List Job) (j : Job) → every (timely t) (q ++ j ∷ []) ≡ (every (timely t) q && (timely t j && true))
  timely_snoc q j = every_append (timely t) q (j ∷ [])

  right_last : (q : List Job) (j : Job) → Rightly (q ++ j ∷ []) → timely t j ≡ true
  right_last q j r = and_left (timely t j) true (and_right (every (timely t) q) (timely t j && true) (sym (timely_snoc q j) ∙ r.timely))

  right_room : (q : List Job) (j : Job) → Rightly (q ++ j ∷ []) → length q < 6
  right_room q j r = let a = r.few in let b = snoc_length q j in omega arith

  right_more : (q : List Job) (j : Job) → Rightly q → length q < 6 → timely t j ≡ true → Rightly (q ++ j ∷ [])
  right_more q j r h e = record {
    timely = timely_snoc q j ∙ and_both (every (timely t) q) (timely t j && true) r.timely (and_both (timely t j) true e refl);
    few = let b = snoc_length q j in omega arith;
  }

  sound_taken : (q : List Job) (s r : Seen) (j : Job) → Sound q s → Next t n s j r → Sound (q ++ j ∷ []) r
  sound_taken q s r j w e =
      let k = w.count in
      let h = e.room in
      let a = w.six_tasks in
      let b = w.six_beaten in
      let x : r.tasks ≡ set s.tasks (length q) j.task = e.taken.tasks ∙ ap (λ (i : ℕ). set s.tasks i j.task) k in
      let y : r.beaten ≡ set s.beaten (length q) (beats_in t n j) = e.taken.beaten ∙ ap (λ (i : ℕ). set s.beaten i (beats_in t n j)) k in
      record {
        right = right_more q j w.right (omega arith) e.timely;
        count = e.taken.count ∙ ap suc k ∙ sym (snoc_length q j);
        six_tasks = ap length x ∙ length-set s.tasks (length q) j.task ∙ a;
        six_beaten = ap length y ∙ length-set s.beaten (length q) (beats_in t n j) ∙ b;
        tasks = ap (take (length (q ++ j ∷ []))) x ∙ noted task_of s.tasks q j (omega arith) w.tasks;
        beaten = ap (take (length (q ++ j ∷ []))) y ∙ noted (beats_in t n) s.beaten q j (omega arith) w.beaten;
      }

-- ---- from the list's start on

one_more : (js : List Job) (k : ℕ) → k < length js → take (k + 1) js ≡ take k js ++ get_or js k no_job ∷ []
one_more js k h = let z : k + 1 ≡ suc k = omega arith in ap (λ (i : ℕ). take i js) z ∙ take-suc js k no_job h

pub sound_next : (t : List ℕ) (n : ℕ) (js : List Job) (k : ℕ) (s r : Seen) → Sound t n (take k js) s → k < length js → Next t n s (get_or js k no_job) r → Sound t n (take (k + 1) js) r
sound_next t n js k s r w h e = subst (λ (q : List Job). Sound t n q r) (sym (one_more js k h)) (sound_taken t n (take k js) s r (get_or js k no_job) w e)

-- what comes before a place in a list that is right is right
right_take : (t : List ℕ) (n : ℕ) (js : List Job) (k : ℕ) → Rightly t n js → Rightly t n (take k js)
right_take t n js k r = record {
  timely = every_take (timely t) js k r.timely;
  few = let a = r.few in let b = length-take k js in omega arith;
}
  where
    every_take : (f : Job → Bool) (l : List Job) (i : ℕ) → every f l ≡ true → every f (take i l) ≡ true
    every_take f l zero e = refl
    every_take f [] (suc i) e = refl
    every_take f (x ∷ l) (suc i) e = and_both (f x) (every f (take i l)) (and_left (f x) (every f l) e) (every_take f l i (and_right (f x) (every f l) e))

-- a list with a job that is not right is not right
pub wrong_next : (t : List ℕ) (n : ℕ) (js : List Job) (k : ℕ) (s : Seen) (e : Reason) → Sound t n (take k js) s → k < length js → NotNext t s (get_or js k no_job) e → Rightly t n js → ⊥
wrong_next t n js k s e v h f r =
    let c = v.count in
    let w : Rightly t n (take k js ++ get_or js k no_job ∷ []) = subst (Rightly t n) (one_more js k h) (right_take t n js (k + 1) r) in
    f.wrong (let m = right_room t n (take k js) (get_or js k no_job) w in omega arith) (right_last t n (take k js) (get_or js k no_job) w)
