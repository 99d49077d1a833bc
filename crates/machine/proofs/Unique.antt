-- Any two replies that the machine's contracts allow coincide.
-- Assumes nothing.
use Prim.Native.Nat.{ℕ, ◌≤◌}
use mathlib.Core.Path.{◌≡◌, refl, sym, ◌∙◌, ap}
use mathlib.Core.Bool.{Bool, true, false}
use mathlib.Core.List.{List, map}
use native.Mathlib.Omega.{arith}
use native.Mathlib.Decide.{ℕ_discrete, dec_le}
use lib.ListN.{length, take}
use Rattle.meaning.specs.Lists.{same_list, every}
use Rattle.meaning.specs.Machine.Step.{Event}
use Rattle.meaning.specs.Zones.Proper.{fits}
use Rattle.meaning.specs.Text.ModelReader.{Given, format, read_model}
use Rattle.meaning.specs.Text.ModelTable.{size, decode, clocks, tasks, locations}
use Rattle.meaning.specs.Text.Records.{Answer, done, refused, write}
use Rattle.meaning.proofs.Lists.{same_list_eq, same_list_refl}
use Rattle.meaning.proofs.Tests.{never}
use Rattle.meaning.proofs.Text.ModelTheorems.{given_iff}
use Rattle.std.proofs.Common.{Result, Ok, Err}
use Rattle.refusals.specs.Number.{number_of}
use Rattle.refusals.specs.declared.Reason.{Reason}
use Rattle.refusals.proofs.Once.{number_once}
use Rattle.model_table.specs.Right.{RightTable}
use Rattle.model_table.proofs.GivenLaws.{given_table}
use Rattle.model_table.proofs.PartLaws.{tasks_is}
use Rattle.machine.specs.Stands.{job_of, task_of, Lendable}
use Rattle.machine.specs.Promise.{said, said_by, place_said, UsableState, Stepped, Started, Listed, Placing}
use Rattle.machine.specs.ByCell.{clocks_right, timely, jobs_right}
use Rattle.machine.specs.declared.Job.{Job}
use Rattle.machine.specs.declared.State.{State}
use Rattle.machine.specs.declared.Outcome.{Outcome}
use Rattle.machine.specs.declared.Outcome.TheVariants.{Went, Missed, Overflowed, Refused}
use Rattle.machine.specs.declared.Reply.{Reply}
use Rattle.machine.specs.declared.Placed.{Placed}
use Rattle.machine.specs.declared.Placed.TheVariants as Alt
use Rattle.machine.proofs.LendLaws.{lendable_make, lent_high, lent_few, lent_long, lent_room, lent_clocks_right, lent_jobs_right, lent_fit}
use Rattle.machine.proofs.PlaceLaws.{listed_timely, listed_fit, right_listed}

-- ---- what a test tells

by_test : {X : Type 0} (b : Bool) → (b ≡ true → X) → (b ≡ false → X) → X
by_test true f g = f refl
by_test false f g = g refl

-- ---- a table that a text gives, or not

is_answer : (t : List ℕ) (a : Answer (List ℕ)) → Dec (a ≡ done t)
is_answer t (done u) =
    by_test (same_list u t) (λ e. yes (ap done (same_list_eq u t e))) (λ e. no (λ h. let z : u ≡ t = cc in never (ap (λ (l : List ℕ). same_list l t) z ∙ same_list_refl t) e))
is_answer t (refused k p) = no (λ h. let z : ◌≡◌ {A = ℕ} 0 1 = cc in omega arith)

pub given_or_not : (t : List ℕ) → Dec (Given t)
given_or_not t = go (is_answer t (read_model size (write format t)))
  where
    go : Dec (read_model size (write format t) ≡ done t) → Dec (Given t)
    go (yes e) = yes ((given_iff t).1 e)
    go (no h) = no (λ g. h ((given_iff t).0 g))

-- ---- a state that may be lent, or not

pub lendable_or_not : (t : List ℕ) → RightTable t → (s : State) → Dec (Lendable (decode t) s)
lendable_or_not t g s =
    one (dec_le 1 s.location) (dec_le s.location (locations t)) (dec_le s.count 6) (ℕ_discrete (length s.clocks) 4) (ℕ_discrete (length s.jobs) 6)
  where
    one : Dec (1 ≤ s.location) → Dec (s.location ≤ locations t) → Dec (s.count ≤ 6) → Dec (length s.clocks ≡ 4) → Dec (length s.jobs ≡ 6) → Dec (Lendable (decode t) s)
    one (no a) b c d e = no (λ w. a w.location_low)
    one (yes a) (no b) c d e = no (λ w. b (lent_high t g s w))
    one (yes a) (yes b) (no c) d e = no (λ w. c (lent_few t g s w))
    one (yes a) (yes b) (yes c) (no d) e = no (λ w. d (lent_long t g s w))
    one (yes a) (yes b) (yes c) (yes d) (no e) = no (λ w. e (lent_room t g s w))
    one (yes a) (yes b) (yes c) (yes d) (yes e) =
        by_test (clocks_right s.clocks (clocks t))
        (λ cs. by_test (jobs_right t s.jobs s.count)
        (λ js. by_test (fits (decode t) (take s.count (map task_of s.jobs))) (λ f. yes (lendable_make t g s a b c d e cs js f)) (λ f. no (λ w. never (lent_fit t g s w) f)))
        (λ js. no (λ w. never (lent_jobs_right t g s w) js)))
        (λ cs. no (λ w. never (lent_clocks_right t g s w) cs))

usable_or_not : (t : List ℕ) (s : State) → Dec (UsableState t s)
usable_or_not t s = go (given_or_not t)
  where
    lent : (g : Given t) → Dec (Lendable (decode t) s) → Dec (UsableState t s)
    lent g (yes w) = yes (record { given = g; lendable = w })
    lent g (no h) = no (λ u. h u.lendable)

    go : Dec (Given t) → Dec (UsableState t s)
    go (yes g) = lent g (lendable_or_not t (given_table t g) s)
    go (no h) = no (λ u. h u.given)

-- ---- a reply is what it says

said_same : (a b : Outcome) (s u : State) → said_by a s ≡ said_by b u → ◌≡◌ {A = Reply} (record { outcome = a; state = s }) (record { outcome = b; state = u })
said_same Went Went s u e = let z : s ≡ u = cc in rw z
said_same Went (Missed k) s u e = absurd (let z : ◌≡◌ {A = ℕ} 0 1 = cc in omega arith)
said_same Went Overflowed s u e = absurd (let z : ◌≡◌ {A = ℕ} 0 1 = cc in omega arith)
said_same Went (Refused n) s u e = absurd (let z : ◌≡◌ {A = ℕ} 0 1 = cc in omega arith)
said_same (Missed k) Went s u e = absurd (let z : ◌≡◌ {A = ℕ} 0 1 = cc in omega arith)
said_same (Missed k) (Missed j) s u e = let z : s ≡ u = cc in let y : k ≡ j = cc in rw (z, y)
said_same (Missed k) Overflowed s u e = absurd (let z : ◌≡◌ {A = ℕ} 0 1 = cc in omega arith)
said_same (Missed k) (Refused n) s u e = absurd (let z : ◌≡◌ {A = ℕ} 0 1 = cc in omega arith)
said_same Overflowed Went s u e = absurd (let z : ◌≡◌ {A = ℕ} 0 1 = cc in omega arith)
said_same Overflowed (Missed k) s u e = absurd (let z : ◌≡◌ {A = ℕ} 0 1 = cc in omega arith)
said_same Overflowed Overflowed s u e = let z : s ≡ u = cc in rw z
said_same Overflowed (Refused n) s u e = absurd (let z : ◌≡◌ {A = ℕ} 0 1 = cc in omega arith)
said_same (Refused n) Went s u e = absurd (let z : ◌≡◌ {A = ℕ} 0 1 = cc in omega arith)
said_same (Refused n) (Missed k) s u e = absurd (let z : ◌≡◌ {A = ℕ} 0 1 = cc in omega arith)
said_same (Refused n) Overflowed s u e = absurd (let z : ◌≡◌ {A = ℕ} 0 1 = cc in omega arith)
said_same (Refused n) (Refused k) s u e = let z : s ≡ u = cc in let y : number_of n ≡ number_of k = cc in rw (z, number_once n k y)

-- ---- tick and edge

pub stepped_once : (t : List ℕ) (s : State) (ev : Event) (r r' : Reply) → Stepped t s ev r → Stepped t s ev r' → r ≡ r'
stepped_once t s ev r r' a b = said_same r.outcome r'.outcome r.state r'.state (go (usable_or_not t s))
  where
    go : Dec (UsableState t s) → said r ≡ said r'
    go (yes u) = a.usable u ∙ sym (b.usable u)
    go (no h) = a.unusable h ∙ sym (b.unusable h)

-- ---- start

pub started_once : (t : List ℕ) (r r' : Reply) → Started t r → Started t r' → r ≡ r'
started_once t r r' a b = said_same r.outcome r'.outcome r.state r'.state (go (given_or_not t))
  where
    go : Dec (Given t) → said r ≡ said r'
    go (yes g) = a.usable g ∙ sym (b.usable g)
    go (no h) = a.unusable h ∙ sym (b.unusable h)

-- ---- place

listed_or_not : (t : List ℕ) → RightTable t → (n : ℕ) (js : List Job) → Dec (Listed (decode t) n (map job_of js))
listed_or_not t g n js = go (dec_le 1 n) (dec_le n (tasks t))
  where
    go : Dec (1 ≤ n) → Dec (n ≤ tasks t) → Dec (Listed (decode t) n (map job_of js))
    go (no a) b = no (λ w. a w.low)
    go (yes a) (no b) = no (λ w. b (let e = tasks_is t g in let h = w.high in omega arith))
    go (yes a) (yes b) =
        by_test (every (timely t) js)
        (λ e. by_test (fits (decode t) (map task_of js)) (λ f. yes (right_listed t g n js a b e f)) (λ f. no (λ w. never (listed_fit t g n js w) f)))
        (λ e. no (λ w. never (listed_timely t g n js w) e))

place_same : (a b : Result Placed Reason) → place_said a ≡ place_said b → a ≡ b
place_same (Ok (Alt.At k)) (Ok (Alt.At j)) e = let z : k ≡ j = cc in rw z
place_same (Ok (Alt.At k)) (Ok Alt.Overflowed) e = absurd (let z : ◌≡◌ {A = ℕ} 0 1 = cc in omega arith)
place_same (Ok (Alt.At k)) (Err n) e = absurd (let z : ◌≡◌ {A = ℕ} 0 1 = cc in omega arith)
place_same (Ok Alt.Overflowed) (Ok (Alt.At k)) e = absurd (let z : ◌≡◌ {A = ℕ} 0 1 = cc in omega arith)
place_same (Ok Alt.Overflowed) (Ok Alt.Overflowed) e = refl
place_same (Ok Alt.Overflowed) (Err n) e = absurd (let z : ◌≡◌ {A = ℕ} 0 1 = cc in omega arith)
place_same (Err n) (Ok (Alt.At k)) e = absurd (let z : ◌≡◌ {A = ℕ} 0 1 = cc in omega arith)
place_same (Err n) (Ok Alt.Overflowed) e = absurd (let z : ◌≡◌ {A = ℕ} 0 1 = cc in omega arith)
place_same (Err n) (Err k) e = let z : number_of n ≡ number_of k = cc in rw (number_once n k z)

pub placing_once : (t : List ℕ) (js : List Job) (n : ℕ) (r r' : Result Placed Reason) → Placing t js n r → Placing t js n r' → r ≡ r'
placing_once t js n r r' a b = place_same r r' (go (given_or_not t))
  where
    listed : (g : Given t) → Dec (Listed (decode t) n (map job_of js)) → place_said r ≡ place_said r'
    listed g (yes w) = a.usable g w ∙ sym (b.usable g w)
    listed g (no h) = a.unusable (λ k. h) ∙ sym (b.unusable (λ k. h))

    go : Dec (Given t) → place_said r ≡ place_said r'
    go (yes g) = listed g (listed_or_not t (given_table t g) n js)
    go (no h) = a.unusable (λ g. absurd (h g)) ∙ sym (b.unusable (λ g. absurd (h g)))
