-- Laws of a step's plan: the slots by value, the queue order after the step, and the plan that the two tables make up.
-- Assumes nothing.
use mathlib.Core.Path.{◌≡◌, refl, sym, ◌∙◌, ap, ap₂, subst}
use mathlib.Core.Bool.{Bool, true, false, cond}
use mathlib.Core.List.{List, [], ◌∷◌, tail, Memᴰ}
use mathlib.Core.Option.{Option, none, some}
use Prim.Native.Nat.{ℕ, zero, suc, ◌+◌, ◌≤◌, ◌<◌}
use native.Mathlib.Omega.{arith}
use lib.IntN.{ℤ, pos, sub_ℕ}
use lib.ListN.{length, get_or, take}
use lib.Seq.{ext_get_or}
use Rattle.meaning.specs.Lists.{nth1, insert_at}
use Rattle.meaning.specs.Model.{Edge, Model, task_at, released, target}
use Rattle.meaning.specs.Machine.Release.{overflows_any}
use Rattle.meaning.specs.Zones.Steps.{Step, go_on, finish, by_edge, choices}
use Rattle.meaning.specs.Zones.Reached.{Home, insert_all, home_by, home_after}
use Rattle.meaning.specs.Text.ModelTable.{decode}
use Rattle.meaning.specs.Inner.Slots.{Slot, slots, slots_of, tasks_in}
use Rattle.meaning.specs.Inner.Places.{insert_slot, insert_slots}
use Rattle.meaning.specs.Inner.Plans.{head_time, plan_by, plan_of, stays, enters, from, off}
use Rattle.meaning.specs.Inner.Plans as M
use Rattle.meaning.specs.Inner.Sources.{step_overflows}
use Rattle.meaning.proofs.Lists.{length_insert_at, length_tab, get_d_tab}
use Rattle.meaning.proofs.Zones.Choices.{choice_in, choice_none}
use Rattle.meaning.proofs.Zones.Home.{mk_home}
use Rattle.meaning.proofs.Exact.Ranges.{plan_enters, over_plan}
use Rattle.meaning.proofs.Exact.Reached.{over_home}
use Rattle.model_table.specs.Parts.{resets_of, edge_of}
use Rattle.home.specs.Asked.{target_if, target_by}
use Rattle.slots.specs.declared.standing.Slots.{Slots}
use Rattle.slots.specs.Stands.{no_slot, slot_in, Stand}
use Rattle.slots.proofs.SlotLaws.{stand_tasks, tasks_insert}
use Rattle.step_reach.specs.Plans.{Planned, slots_in, plan_in, Adds, LeadsTo, Keeps}
use Rattle.step_reach.proofs.VariableLaws.{resets_none}

-- ---- the slots by value

module _ (ss : List Slot) (s : Slots) (w : Stand ss s) where
  pub stand_in : slots_in s ≡ ss
  stand_in =
      let n = length_tab 0 (slot_in s) s.count in
      ext_get_or no_slot (slots_in s) ss (n ∙ sym w.many) (λ k h.
      let e : 0 + k ≡ k = omega arith in
      get_d_tab 0 (slot_in s) s.count k no_slot (omega arith) ∙ ap (slot_in s) e ∙ sym (w.each k (omega arith)))

  pub stand_own : Stand (slots_in s) s
  stand_own = subst (λ (l : List Slot). Stand l s) (sym stand_in) w

-- ---- the queue order after a step

tasks_slots : (v : ℕ) (o : List ℕ) → tasks_in (slots v o) ≡ o
tasks_slots v [] = refl
tasks_slots v (t ∷ o) = ap (λ (l : List ℕ). t ∷ l) (tasks_slots (suc (suc v)) o)

tasks_tail : (ss : List Slot) → tasks_in (tail ss) ≡ tail (tasks_in ss)
tasks_tail [] = refl
tasks_tail (s ∷ ss) = refl

tasks_all : (ts ps : List ℕ) (ss : List Slot) → tasks_in (insert_slots ts ps ss) ≡ insert_all ts ps (tasks_in ss)
tasks_all [] ps ss = refl
tasks_all (t ∷ ts) [] ss = refl
tasks_all (t ∷ ts) (p ∷ ps) ss = tasks_all ts ps (insert_slot p 0 t ss) ∙ ap (insert_all ts ps) (tasks_insert p 0 t ss)

-- the jobs in the plan's slots are those of the queue order after the step
pub plan_order : (m : Model) (h : Home) (st : Step) → tasks_in (plan_of m h st).slots ≡ (home_after m h st).order
plan_order m h go_on = tasks_slots (suc m.clocks) h.order
plan_order m h finish = tasks_tail (slots_of m h.order) ∙ ap tail (tasks_slots (suc m.clocks) h.order)
plan_order m h (by_edge k ps) = by (nth1 m.edges k)
  where
    go : (e : Edge) (b : Bool)
        → tasks_in (cond b (stays m h) (enters m h ps e)).slots ≡ (cond b h (mk_home (target e h.location) (insert_all (released m e) ps h.order))).order
    go e true = tasks_slots (suc m.clocks) h.order
    go e false = tasks_all (released m e) ps (slots_of m h.order) ∙ ap (insert_all (released m e) ps) (tasks_slots (suc m.clocks) h.order)

    by : (x : Option Edge) → tasks_in (plan_by m h ps x).slots ≡ (home_by m h ps x).order
    by none = tasks_slots (suc m.clocks) h.order
    by (some e) = go e (overflows_any m (released m e) h.order)

-- ---- the tables

module _ (t : List ℕ) (h : Home) (st : Step) (l edge : ℕ) (s : Slots) (time sum : ℤ) (w : LeadsTo t h st l edge s time sum) (own : Stand (slots_in s) s)
    (tasks : List ℕ) (six : length tasks ≡ 6) (is : (k : ℕ) → get_or tasks k 0 ≡ (slot_in s k).task) (n : ℕ) (f : List ℕ) (u : List ℤ) (many : n ≡ suc ((decode t).clocks + (s.count + s.count))) where
  order_is : take s.count tasks ≡ (home_after (decode t) h st).order
  order_is = stand_tasks (slots_in s) s tasks own six is ∙ ap (λ (p : M.Plan). tasks_in p.slots) w.plan ∙ plan_order (decode t) h st

  long_is : length (take s.count tasks) ≡ s.count
  long_is = ap length (stand_tasks (slots_in s) s tasks own six is) ∙ tasks_long (slots_in s) ∙ own.many
    where
      tasks_long : (ss : List Slot) → length (tasks_in ss) ≡ length ss
      tasks_long [] = refl
      tasks_long (x ∷ ss) = ap suc (tasks_long ss)

  pub planned : ((i : ℕ) → i < n → get_or f i 0 ≡ from (decode t) (plan_in t edge s (pos 0) (pos 0)) i) → ((i : ℕ) → n ≤ i → get_or f i 0 ≡ 0)
      → ((i : ℕ) → i < n → Adds (decode t).clocks time sum i (get_or u i (pos 0))) → ((i : ℕ) → n ≤ i → get_or u i (pos 0) ≡ pos 0)
      → Planned (decode t) h st (record { home = record { location = l; tasks = tasks; count = s.count }; variables = n; from = f; off = u })
  planned a b c d = record {
    home = ap₂ mk_home w.location order_is;
    few = own.few;
    unused = λ k e. is k ∙ ap (λ (x : Slot). x.task) (own.unused k e);
    many = omega (arith, long_is, many);
    from = λ i e. a i e ∙ ap (λ (p : M.Plan). from (decode t) p i) w.plan;
    off = λ i e. (c i e).is (decode t) (plan_in t edge s time sum) refl refl refl refl (omega (arith, own.many, many))
        ∙ ap (λ (p : M.Plan). off (decode t) p i) w.plan;
    beyond = λ i e. (b i e, d i e);
  }

-- ---- step by step

-- C of the head
pub head_some : (m : Model) (n : ℕ) (tasks : List ℕ) → 0 < n → 0 < length tasks → (task_at m (get_or tasks 0 0)).C ≡ head_time m (take n tasks)
head_some m zero tasks h l = absurd (omega arith)
head_some m (suc n) [] h l = absurd (omega arith)
head_some m (suc n) (t ∷ tasks) h l = refl

module _ (t : List ℕ) (h : Home) (s : Slots) where
  -- everything stays, or grows by c
  pub keeps_leads : (st : Step) (c : ℤ) → Stand (slots_of (decode t) h.order) s → Keeps (decode t) h st c → LeadsTo t h st h.location 0 s c c
  keeps_leads st c w k = record {
    location = k.location;
    plan =
        ap₂ (λ (rs : List ℕ) (ss : List Slot). record { resets = rs; slots = ss; clock = c; sum = c; age = c }) (resets_none t)
        (stand_in (slots_of (decode t) h.order) s w) ∙ k.plan;
  }

  -- the head finishes
  pub finish_leads : (c : ℤ) → Stand (tail (slots_of (decode t) h.order)) s → c ≡ sub_ℕ 1 (head_time (decode t) h.order)
      → LeadsTo t h finish h.location 0 s (pos 1) c
  finish_leads c w e = record {
    location = refl;
    plan =
        ap₂ (λ (rs : List ℕ) (ss : List Slot). record { resets = rs; slots = ss; clock = pos 1; sum = c; age = pos 1 }) (resets_none t)
        (stand_in (tail (slots_of (decode t) h.order)) s w)
        ∙ ap (λ (x : ℤ). record { resets = []; slots = tail (slots_of (decode t) h.order); clock = pos 1; sum = x; age = pos 1 }) e;
  }

pub on_keeps : (m : Model) (h : Home) → Keeps m h go_on (pos 1)
on_keeps m h = record { location = refl; plan = refl }

pub over_keeps : (m : Model) (h : Home) (st : Step) → step_overflows m h st ≡ true → Keeps m h st (pos 0)
over_keeps m h st e = record { location = ap (λ (x : Home). x.location) (sym (over_home m h st e)); plan = sym (over_plan m h st e) }

-- ---- an edge that doesn't overflow

-- a choice has no job behind the queue as the job comes in
pub choice_few : (m : Model) (ts o ps : List ℕ) → Memᴰ ps (choices m ts o) → (k : ℕ) → k < length ps → get_or ps k 0 ≤ length o + k
choice_few m [] o ps w k h = let e = ap length ((choice_none m o ps).0 w) in absurd (omega arith)
choice_few m (t ∷ ts) o [] w k h = absurd (omega arith)
choice_few m (t ∷ ts) o (p ∷ ps) w zero h = omega (arith, ((choice_in m t ts o p ps).0 w).1)
choice_few m (t ∷ ts) o (p ∷ ps) w (suc k) h =
    let r = ((choice_in m t ts o p ps).0 w).2 in
    omega (arith, choice_few m ts (insert_at p t o) ps r k (omega arith), length_insert_at p t o)

-- number k names the edge, and it doesn't overflow
module _ (t : List ℕ) (h : Home) (k : ℕ) (ps : List ℕ) (is : nth1 (decode t).edges k ≡ some (edge_of t k))
    (e : overflows_any (decode t) (released (decode t) (edge_of t k)) h.order ≡ false) where
  home_is : home_after (decode t) h (by_edge k ps) ≡ mk_home (target (edge_of t k) h.location) (insert_all (released (decode t) (edge_of t k)) ps h.order)
  home_is =
      ap (home_by (decode t) h ps) is
      ∙ ap (λ (b : Bool). cond b h (mk_home (target (edge_of t k) h.location) (insert_all (released (decode t) (edge_of t k)) ps h.order))) e

  plan_is : plan_of (decode t) h (by_edge k ps) ≡ enters (decode t) h ps (edge_of t k)
  plan_is = ap (plan_by (decode t) h ps) is ∙ plan_enters (decode t) h ps (edge_of t k) e

  -- the edge is entered
  pub enter_leads : (s : Slots) (ts : List ℕ) (l : ℕ) → l ≡ target_by (decode t) k h.location → ts ≡ released (decode t) (edge_of t k)
      → Stand (insert_slots ts ps (slots_of (decode t) h.order)) s → LeadsTo t h (by_edge k ps) l k s (pos 0) (pos 0)
  enter_leads s ts l a b c = record {
    location = a ∙ ap (λ (x : Option Edge). target_if x h.location) is ∙ ap (λ (x : Home). x.location) (sym home_is);
    plan =
        ap (λ (ss : List Slot). record { resets = resets_of t k; slots = ss; clock = pos 0; sum = pos 0; age = pos 0 })
        (stand_in (insert_slots ts ps (slots_of (decode t) h.order)) s c
        ∙ ap (λ (us : List ℕ). insert_slots us ps (slots_of (decode t) h.order)) b)
        ∙ sym plan_is;
  }
