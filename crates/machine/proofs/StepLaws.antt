-- Laws of the steps: what the cells say of a tick, an edge and the start is what the machine's definitions say.
-- Assumes nothing.
use Prim.Native.Nat.{ℕ, zero, suc, ◌+◌, ◌≤◌, ◌<◌}
use mathlib.Core.Path.{◌≡◌, refl, sym, ◌∙◌, ap, ap₂}
use mathlib.Core.Bool.{Bool, true, false, cond, ◌&&◌}
use mathlib.Core.List.{List, [], ◌∷◌, map}
use mathlib.Core.Option.{Option, none, some}
use native.Mathlib.Omega.{arith}
use lib.Dec.{leb}
use lib.ListN.{length, take, set, replicate, length-map}
use Rattle.std.specs.List.{list_all}
use Rattle.meaning.specs.Lists.{nth1, nth1D, every}
use Rattle.meaning.specs.Model.{Bound, Edge, Model, location_at, released, released_at_start}
use Rattle.meaning.specs.Machine.State as M
use Rattle.meaning.specs.Machine.State.{order}
use Rattle.meaning.specs.Machine.Release.{overflows_any, put_all}
use Rattle.meaning.specs.Machine.Tick.{limit_test, finishes, served, tick_to, late}
use Rattle.meaning.specs.Machine.Edge.{bound_test, reset_all, guard_test, entered}
use Rattle.meaning.specs.Machine.Step as S
use Rattle.meaning.specs.Machine.Step.{tick, edge, edge_allowed, allowed, judged, moved_by, act}
use Rattle.meaning.specs.Machine.Run.{start}
use Rattle.meaning.specs.Text.Choice.{pick}
use Rattle.meaning.specs.Text.Refusals.{not_allowed, clock_end}
use Rattle.model_table.specs.Right.{RightTable}
use Rattle.meaning.specs.Text.ModelTable.{decode, clocks, edges}
use Rattle.meaning.proofs.Hooks.{releases_room, guard_test_is}
use Rattle.meaning.proofs.Tests.{never}
use Rattle.meaning.proofs.Text.Choices.{by_lt}
use Rattle.model_table.specs.Parts.{limits_of, guard_of, resets_of, edge_of}
use Rattle.model_table.proofs.PartLaws.{clocks_is, limits_is, edge_is, edge_no}
use Rattle.home.specs.Asked.{leaves_if, leaves_by, target_if, target_by, released_if, released_by}
use Rattle.home.proofs.HomeLaws.{released_right}
use Rattle.machine.specs.Stands.{clock_most, padded, cells_of, state_of, held, Lendable}
use Rattle.machine.specs.Promise.{went, missed, overflow, refused, within_end, told, answered}
use Rattle.machine.specs.Queues.{standing, Holds}
use Rattle.machine.specs.declared.queue.Queue.{Queue}
use Rattle.machine.specs.BySteps.{moved_said}
use Rattle.machine.specs.declared.Job.{Job}
use Rattle.machine.specs.declared.State.{State}
use Rattle.machine.proofs.AllCells.{all_padded}
use Rattle.machine.proofs.Arrays.{padded_read}
use Rattle.machine.proofs.QueueLaws.{holds_back}
use Rattle.machine.proofs.LendLaws.{lent_count}
use Rattle.machine.proofs.ReleaseLaws.{proper_tasks}

-- ---- tests of a list and of its cells

module _ {A : Type 0} where
  pub every_same : (f g : A → Bool) → ((x : A) → f x ≡ g x) → (l : List A) → every f l ≡ every g l
  every_same f g h [] = refl
  every_same f g h (x ∷ l) = ap₂ (λ (a b : Bool). a && b) (h x) (every_same f g h l)

pub nth1D_padded : (n : ℕ) (cs : List ℕ) → length cs ≤ n → (k : ℕ) → nth1D (padded 0 n cs) k 0 ≡ nth1D cs k 0
nth1D_padded n cs l zero = refl
nth1D_padded n cs l (suc k) = padded_read 0 n cs k l

-- ---- resets

set_padded : (n : ℕ) (cs : List ℕ) (k : ℕ) → set (padded 0 n cs) k 0 ≡ padded 0 n (set cs k 0)
set_padded zero cs k = refl
set_padded (suc n) [] zero = refl
set_padded (suc n) [] (suc k) = ap (λ (l : List ℕ). 0 ∷ l) (set_padded n [] k)
set_padded (suc n) (x ∷ cs) zero = refl
set_padded (suc n) (x ∷ cs) (suc k) = ap (λ (l : List ℕ). x ∷ l) (set_padded n cs k)

pub reset_padded : (n : ℕ) (rs cs : List ℕ) → reset_all rs (padded 0 n cs) ≡ padded 0 n (reset_all rs cs)
reset_padded n [] cs = refl
reset_padded n (zero ∷ rs) cs = reset_padded n rs cs
reset_padded n (suc k ∷ rs) cs = ap (reset_all rs) (set_padded n cs k) ∙ reset_padded n rs (set cs k 0)

-- ---- a reply

pub told_went : (s : State) (x : M.State) (k : ℕ) → k ≡ 0 → told s (judged x k) ≡ went (held x)
told_went s x zero e = refl
told_went s x (suc k) e = absurd (omega arith)

pub told_missed : (s : State) (x : M.State) (k : ℕ) → (k ≡ 0 → ⊥) → told s (judged x k) ≡ missed (held x) k
told_missed s x zero e = absurd (e refl)
told_missed s x (suc k) e = refl

-- ---- a tick

module _ (t : List ℕ) (g : RightTable t) (s : State) (w : Lendable (decode t) s) where
  abbrev m : Model
  m = decode t

  abbrev x : M.State
  x = state_of m s

  few : m.clocks ≤ 4
  few = g.right.clocks

  clocks_length : length x.clocks ≡ m.clocks
  clocks_length = w.proper.clocks

  grown_length : length (map suc x.clocks) ≤ 4
  grown_length = let a = length-map x.clocks suc in let b = clocks_length in let c = few in omega arith

  -- the clocks after the tick
  pub grown_is : (n : ℕ) (cs : List ℕ) → n ≡ clocks t → cs ≡ padded 0 4 (map suc (take n s.clocks)) → cs ≡ padded 0 4 (map suc x.clocks)
  grown_is n cs e f = f ∙ ap (λ (k : ℕ). padded 0 4 (map suc (take k s.clocks))) (e ∙ clocks_is t g)

  module _ (cs : List ℕ) (e : cs ≡ padded 0 4 (map suc x.clocks)) where
    tick_allowed : every (limit_test cs) (limits_of t s.location) ≡ allowed m x tick
    tick_allowed =
        ap (λ (l : List ℕ). every (limit_test l) (limits_of t s.location)) e
        ∙ ap (every (limit_test (padded 0 4 (map suc x.clocks)))) (limits_is t g s.location)
        ∙ every_same (limit_test (padded 0 4 (map suc x.clocks))) (limit_test (map suc x.clocks))
        (λ l. ap (λ (v : ℕ). leb v l.most) (nth1D_padded 4 (map suc x.clocks) grown_length l.clock)) (location_at m s.location).limits

    tick_within : list_all (λ (c : ℕ). leb c clock_most) cs ≡ within_end x tick
    tick_within = ap (list_all (λ (c : ℕ). leb c clock_most)) e ∙ all_padded (λ (c : ℕ). leb c clock_most) 0 refl 4 (map suc x.clocks) grown_length

    -- each way through a tick
    pub tick_broken : every (limit_test cs) (limits_of t s.location) ≡ false → refused not_allowed 0 s ≡ answered m s tick
    tick_broken a = rw (sym tick_allowed ∙ a)

    pub tick_ended : every (limit_test cs) (limits_of t s.location) ≡ true → list_all (λ (c : ℕ). leb c clock_most) cs ≡ false → refused clock_end 0 s ≡ answered m s tick
    tick_ended a b = rw (sym tick_allowed ∙ a, sym tick_within ∙ b)

    pub tick_answered : every (limit_test cs) (limits_of t s.location) ≡ true → list_all (λ (c : ℕ). leb c clock_most) cs ≡ true
        → told s (act m x tick) ≡ answered m s tick
    tick_answered a b = rw (sym tick_allowed ∙ a, sym tick_within ∙ b)

  -- the queue after the tick
  module _ (b : Bool) (c : Queue) (h : Holds c (served b x.queue)) where
    pub ticked_late : b ≡ finishes m x.queue → late m (standing c) ≡ late m (tick_to m x).queue
    ticked_late d = ap (late m) (holds_back c (served b x.queue) h) ∙ ap (λ (e : Bool). late m (served e x.queue)) d

    pub ticked_state : (cs : List ℕ) → cs ≡ padded 0 4 (map suc x.clocks) → b ≡ finishes m x.queue
        → record { location = s.location; clocks = cs; jobs = c.jobs; count = c.count } ≡ held (tick_to m x)
    ticked_state cs e d =
        ap (λ (y : List ℕ). record { location = s.location; clocks = y; jobs = c.jobs; count = c.count }) e
        ∙ ap₂ (λ (y : List Job) (k : ℕ). record { location = s.location; clocks = padded 0 4 (map suc x.clocks); jobs = y; count = k }) h.jobs h.count
        ∙ ap (λ (e : Bool). record { location = s.location; clocks = padded 0 4 (map suc x.clocks); jobs = cells_of (served e x.queue); count = length (served e x.queue) }) d

  -- ---- an edge

  -- an edge that leaves the location is in the model
  edge_there : (n : ℕ) → leaves_by m n s.location ≡ true → nth1 m.edges n ≡ some (edge_of t n)
  edge_there n e =
      by_lt (edges t) n (λ h. absurd (out (λ k. h)))
      (λ h. by_lt 0 n (λ k. edge_is t g n k h) (λ k. absurd (out (λ j. absurd (omega arith)))))
    where
      out : (1 ≤ n → edges t < n) → ⊥
      out h = never e (ap (λ (o : Option Edge). leaves_if o s.location) (edge_no t g n h))

  -- another is not allowed
  edge_not : (o : Option Edge) → leaves_if o s.location ≡ false → edge_allowed m x o ≡ false
  edge_not none e = refl
  edge_not (some y) e = ap (λ (b : Bool). b && guard_test m x y) e

  pub edge_elsewhere : (n : ℕ) → leaves_by m n s.location ≡ false → refused not_allowed 0 s ≡ answered m s (edge n)
  edge_elsewhere n e = rw (edge_not (nth1 m.edges n) e)

  guard_same : (n : ℕ) → every (bound_test s.clocks) (guard_of t n) ≡ every (bound_test x.clocks) (guard_of t n)
  guard_same n =
      let c = few in
      let l = clocks_length in
      let p = nth1D_padded 4 x.clocks (omega arith) in
      let z = ap (λ (y : State). y.clocks) w.unused in
      ap (λ (cs : List ℕ). every (bound_test cs) (guard_of t n)) z
      ∙ every_same (bound_test (padded 0 4 x.clocks)) (bound_test x.clocks) (λ b. ap₂ (λ (i j : ℕ). bound_is i j b) (p b.i) (p b.j)) (guard_of t n)
    where
      bound_is : ℕ → ℕ → Bound → Bool
      bound_is i j b = Rattle.meaning.specs.Numbers.within i j b.c

  edge_allowed_lem : (n : ℕ) → leaves_by m n s.location ≡ true → allowed m x (edge n) ≡ every (bound_test s.clocks) (guard_of t n)
  edge_allowed_lem n e =
      let h = edge_there n e in
      ap (edge_allowed m x) h
      ∙ ap₂ (λ (c d : Bool). c && d) (sym (ap (λ (o : Option Edge). leaves_if o s.location) h) ∙ e) (guard_test_is m x (edge_of t n)) ∙ sym (guard_same n)

  pub edge_guarded : (n : ℕ) → leaves_by m n s.location ≡ true → every (bound_test s.clocks) (guard_of t n) ≡ false
      → refused not_allowed 0 s ≡ answered m s (edge n)
  edge_guarded n e f = rw (edge_allowed_lem n e ∙ f)

  -- what the edge, if there is one, comes to
  told_moved : (o : Option Edge) (y : Edge) → o ≡ some y → (cs : List ℕ) → cs ≡ padded 0 4 (reset_all y.resets x.clocks)
      → pick (overflows_any m (released_if m o) (order x.queue)) (overflow s)
      (went (record { location = target_if o s.location; clocks = cs; jobs = cells_of (put_all m (released_if m o) x.queue); count = length (put_all m (released_if m o) x.queue) }))
      ≡ told s (moved_by m x o)
  told_moved o y h cs e = rw (h, e) (go (overflows_any m (released m y) (order x.queue)))
    where
      go : (b : Bool) → pick b (overflow s) (went (held (entered m x y))) ≡ told s (cond b S.overflow (S.went (entered m x y)))
      go true = refl
      go false = refl

  pub edge_moved : (n : ℕ) → leaves_by m n s.location ≡ true → every (bound_test s.clocks) (guard_of t n) ≡ true
      → (cs : List ℕ) → cs ≡ reset_all (resets_of t n) s.clocks → moved_said m s n cs ≡ answered m s (edge n)
  edge_moved n e f cs z =
      let r : reset_all (resets_of t n) s.clocks ≡ padded 0 4 (reset_all (resets_of t n) x.clocks) =
      ap (λ (y : State). reset_all (resets_of t n) y.clocks) w.unused ∙ reset_padded 4 (resets_of t n) x.clocks in
      told_moved (nth1 m.edges n) (edge_of t n) (edge_there n e) cs (z ∙ r) ∙ rw (edge_allowed_lem n e ∙ f)

  -- each way through an allowed edge
  module _ (n : ℕ) (cs : List ℕ) where
    pub moved_over : overflows_any m (released_by m n) (order x.queue) ≡ true → overflow s ≡ moved_said m s n cs
    moved_over e = rw e

    pub moved_went : overflows_any m (released_by m n) (order x.queue) ≡ false → (l : ℕ) (c : Queue) → l ≡ target_by m n s.location
        → Holds c (put_all m (released_by m n) x.queue) → went (record { location = l; clocks = cs; jobs = c.jobs; count = c.count }) ≡ moved_said m s n cs
    moved_went e l c a h = rw (e, a, h.jobs, h.count)

  -- the queue has room for what the edge releases
  pub moved_room : (n : ℕ) → overflows_any m (released_by m n) (order x.queue) ≡ false → s.count + length (released_by m n) ≤ 6
  moved_room n free =
      let a = releases_room m g.right.tasks_high (released_by m n) (order x.queue) w.proper.fit (proper_tasks m x.queue w.proper.jobs) (released_right m g.right n) free in
      let b = length-map x.queue (λ (j : M.Job). j.task) in
      let c = lent_count t g s w in
      omega arith

-- ---- the start

zeros : (n k : ℕ) → padded {A = ℕ} 0 n (replicate k 0) ≡ replicate n 0
zeros zero k = refl
zeros (suc n) zero = ap (λ (l : List ℕ). 0 ∷ l) (zeros n 0)
zeros (suc n) (suc k) = ap (λ (l : List ℕ). 0 ∷ l) (zeros n k)

pub start_held : (m : Model) (c : Queue) → Holds c (put_all m (released_at_start m) [])
    → record { location = 1; clocks = replicate 4 0; jobs = c.jobs; count = c.count } ≡ held (start m)
start_held m c h =
    ap₂ (λ (x : List Job) (k : ℕ). record { location = 1; clocks = replicate 4 0; jobs = x; count = k }) h.jobs h.count
    ∙ ap (λ (cs : List ℕ). record { location = 1; clocks = cs; jobs = cells_of (put_all m (released_at_start m) []); count = length (put_all m (released_at_start m) []) }) (sym (zeros 4 m.clocks))
