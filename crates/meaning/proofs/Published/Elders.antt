-- Of the jobs of one task the older stands in front, in every state of every run of any model: a release goes behind them all, and a tick keeps it.
-- Assumes nothing.
use mathlib.Core.Path.{◌≡◌, sym, ◌∙◌, ap, subst}
use mathlib.Core.Logic.{⊎_elim}
use mathlib.Core.Bool.{Bool, true, false}
use mathlib.Core.List.Memᴰ
use mathlib.Core.List.{List, [], ◌∷◌, map, Memᴰ}
use Prim.Native.Nat.{ℕ, zero, suc}
use native.Mathlib.Omega.{arith}
use lib.ListN.{drop}
use Rattle.meaning.specs.Lists.{elem, insert_at}
use Rattle.meaning.specs.Model.{Model}
use Rattle.meaning.specs.Machine.State.{Job, State, order}
use Rattle.meaning.specs.Machine.Place.{place_of}
use Rattle.meaning.specs.Machine.Release.{overflows, new_job, put}
use Rattle.meaning.specs.Machine.Tick.{older, worked, served}
use Rattle.meaning.specs.Machine.Run.{Run}
use Rattle.meaning.proofs.Tests.{never}
use Rattle.meaning.proofs.Lists.{mem_map, mem_map_inv, mem_insert_at, mem_elem}
use Rattle.meaning.proofs.Hooks.{behind_last}
use Rattle.meaning.proofs.Machine.Place.{place_of_low}
use Rattle.meaning.proofs.Machine.Runs.{run_keeps}
use Rattle.meaning.proofs.Published.Order.{Elder}

-- of any two jobs of one task the one in front is the elder
abbrev pub Elders : List Job → Type 0
Elders [] = Unit
Elders (x ∷ q) = ((y : Job) → Memᴰ y q → x.task ≡ y.task → Elder x y) × Elders q

-- a new job with no job of its own task behind it
insert_elders : (t k : ℕ) (q : List Job) → elem t (drop k (order q)) ≡ false → Elders q → Elders (insert_at k (new_job t) q)
insert_elders t zero q h s = (none, s)
  where
    none : (y : Job) → Memᴰ y q → t ≡ y.task → Elder (new_job t) y
    none y w d = absurd (never (mem_elem t (order q) (subst (λ (u : ℕ). Memᴰ u (order q)) (sym d) (mem_map (λ (i : Job). i.task) w))) h)
insert_elders t (suc k) [] h s = (λ y w d. absurd (Memᴰ.not-nil w), tt)
insert_elders t (suc k) (x ∷ q) h s = (first, insert_elders t k q h s.1)
  where
    first : (y : Job) → Memᴰ y (insert_at k (new_job t) q) → x.task ≡ y.task → Elder x y
    first y w d =
        ⊎_elim (λ (e : y ≡ new_job t). subst (Elder x) (sym e) (record { task = d ∙ ap (λ (i : Job). i.task) e; age = omega arith; done = omega arith }))
        (λ (v : Memᴰ y q). s.0 y v d) (mem_insert_at k q w)

pub put_elders : (m : Model) (t : ℕ) (q : List Job) → overflows m t (order q) ≡ false → Elders q → Elders (put m t q)
put_elders m t q free s = insert_elders t (place_of m t q) q (behind_last m t (order q) free (place_of m t q) (place_of_low m t q)) s

older_elders : (q : List Job) → Elders q → Elders (map older q)
older_elders [] s = tt
older_elders (x ∷ q) s = (first, older_elders q s.1)
  where
    first : (y : Job) → Memᴰ y (map older q) → x.task ≡ y.task → Elder (older x) y
    first y w d =
        let r = mem_map_inv older q w in
        let e = s.0 r.0 r.1 (d ∙ ap (λ (i : Job). i.task) r.2) in
        let a = e.age in
        subst (Elder (older x)) (sym r.2) (record { task = e.task; age = omega arith; done = e.done })

pub served_elders : (b : Bool) (q : List Job) → Elders q → Elders (served b q)
served_elders b [] s = s
served_elders true (x ∷ q) s = older_elders q s.1
served_elders false (x ∷ q) s = (first, older_elders q s.1)
  where
    first : (y : Job) → Memᴰ y (map older q) → x.task ≡ y.task → Elder (worked x) y
    first y w d =
        let r = mem_map_inv older q w in
        let e = s.0 r.0 r.1 (d ∙ ap (λ (i : Job). i.task) r.2) in
        let a = e.age in
        let n = e.done in
        subst (Elder (worked x)) (sym r.2) (record { task = e.task; age = omega arith; done = omega arith })

-- M-110: "the older job first within a task", under every policy
pub run_elders : (m : Model) {s : State} → Run m s → Elders s.queue
run_elders m r = run_keeps m (λ t. Unit {0}) Elders (λ k e at t h. tt) (λ t h. tt) tt (λ t q n free s. put_elders m t q free s) served_elders r
