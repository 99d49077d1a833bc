-- Every reached state lies at the step's home, and a state is its home and its variables.
-- Assumes nothing.
use mathlib.Core.Path.{◌≡◌, refl, sym, ◌∙◌, ap, ap₂, subst}
use mathlib.Core.Bool.{Bool, true, false, cond}
use mathlib.Core.List.{List, [], ◌∷◌, ◌++◌, tail, List-discrete, nil≢cons, head-eq_of_cons-eq, tail-eq_of_cons-eq}
use mathlib.Core.Option.{Option, none, some}
use Prim.Native.Nat.{ℕ, zero, suc, ◌+◌}
use native.Mathlib.Omega.{arith}
use native.Mathlib.Decide.{ℕ_discrete}
use lib.ListN.{length, length-map, length-append}
use lib.Seq.{ext_get_or}
use Rattle.meaning.specs.Lists.{nth1, same_list}
use Rattle.meaning.specs.Model.{Edge, Model, target, released}
use Rattle.meaning.specs.Machine.State.{Job, State, order}
use Rattle.meaning.specs.Machine.Release.{overflows_any, put, put_all, positions}
use Rattle.meaning.specs.Machine.Tick.{finishes, served, tick_to, late}
use Rattle.meaning.specs.Machine.Edge.{entered}
use Rattle.meaning.specs.Machine.Step.{tick, overflow, went, judged, moved_by, act}
use Rattle.meaning.specs.Zones.Variables.{queue_vars, vars, variables}
use Rattle.meaning.specs.Zones.Zone.{Zone, InZone}
use Rattle.meaning.specs.Zones.Steps.{Step, go_on, finish, by_edge, event_of, taken_by, Takes}
use Rattle.meaning.specs.Zones.Reached.{Home, home_of, home_of_zone, insert_all, home_by, home_after, Lands, ReachedBy}
use Rattle.meaning.specs.Check.Faults.{Below}
use Rattle.meaning.proofs.Tests.{false_of_not}
use Rattle.meaning.proofs.Lists.{same_list_eq}
use Rattle.meaning.proofs.Machine.Place.{order_put}
use Rattle.meaning.proofs.Machine.Proper.{order_older, length_reset_all}

abbrev pub mk_home : ℕ → List ℕ → Home
mk_home l o = record { location = l; order = o }

pub home_dec : (a b : Home) → Dec (a ≡ b)
home_dec a b = go (ℕ_discrete a.location b.location) (List-discrete ℕ_discrete a.order b.order)
  where
    go : Dec (a.location ≡ b.location) → Dec (a.order ≡ b.order) → Dec (a ≡ b)
    go (yes h) (yes k) = yes (ap₂ mk_home h k)
    go (yes h) (no k) = no (λ e. k (ap (λ (x : Home). x.order) e))
    go (no h) k = no (λ e. h (ap (λ (x : Home). x.location) e))

pub home_in : (m : Model) (z : Zone) (s : State) → InZone m z s → home_of s ≡ home_of_zone z
home_in m z s h = ap₂ mk_home h.location h.queue

-- ── where the reached states are ───────────────────────────────────────────────────────────────

-- the state has this location and queue order, and the model's clocks
pub record Lies (m : Model) (h : Home) (t : State) : Type 0 where
  pub home : home_of t ≡ h
  pub clocks : length t.clocks ≡ m.clocks

order_served_on : (q : List Job) → order (served false q) ≡ order q
order_served_on [] = refl
order_served_on (j ∷ js) = ap (λ (o : List ℕ). j.task ∷ o) (order_older js)

order_served_off : (q : List Job) → order (served true q) ≡ tail (order q)
order_served_off [] = refl
order_served_off (j ∷ js) = order_older js

order_put_all : (m : Model) (ts : List ℕ) (q : List Job) → order (put_all m ts q) ≡ insert_all ts (positions m ts q) (order q)
order_put_all m [] q = refl
order_put_all m (t ∷ ts) q = order_put_all m ts (put m t q) ∙ ap (insert_all ts (positions m ts (put m t q))) (order_put m t q)

judged_lands : (s t : State) (k : ℕ) → Lands (judged s k) t → s ≡ t
judged_lands s t zero h = h
judged_lands s t (suc k) h = h

tick_lies : (m : Model) (h : Home) (s t : State) (b : Bool) → Lies m h s → finishes m s.queue ≡ b → Lands (act m s tick) t
    → Lies m (mk_home h.location (order (served b s.queue))) t
tick_lies m h s t b l e w =
    subst (Lies m (mk_home h.location (order (served b s.queue)))) (judged_lands (tick_to m s) t (late m (tick_to m s).queue) w)
    (record {
      home = ap₂ mk_home (ap (λ (x : Home). x.location) l.home) (ap (λ (x : Bool). order (served x s.queue)) e);
      clocks = length-map s.clocks suc ∙ l.clocks;
    })

-- the home of an edge's step, by whether the release overflows
edge_lies : (m : Model) (s t : State) (e : Edge) (ps : List ℕ) (b : Bool) → length s.clocks ≡ m.clocks
    → overflows_any m (released m e) (order s.queue) ≡ b
    → same_list (cond b [] (positions m (released m e) s.queue)) ps ≡ true
    → Lands (cond b overflow (went (entered m s e))) t
    → Lies m (cond b (home_of s) (mk_home (target e s.location) (insert_all (released m e) ps (order s.queue)))) t
edge_lies m s t e ps true c q h w = absurd w
edge_lies m s t e ps false c q h w =
    subst (Lies m (mk_home (target e s.location) (insert_all (released m e) ps (order s.queue)))) w
    (record {
      home = ap (mk_home (target e s.location)) (order_put_all m (released m e) s.queue
          ∙ ap (λ (x : List ℕ). insert_all (released m e) x (order s.queue)) (same_list_eq (positions m (released m e) s.queue) ps h));
      clocks = length_reset_all e.resets s.clocks ∙ c;
    })

edges_lie : (m : Model) (s t : State) (x : Option Edge) (ps : List ℕ) → length s.clocks ≡ m.clocks
    → taken_by m s ps x ≡ true → Lands (moved_by m s x) t → Lies m (home_by m (home_of s) ps x) t
edges_lie m s t none ps c h w = absurd w
edges_lie m s t (some e) ps c h w = edge_lies m s t e ps (overflows_any m (released m e) (order s.queue)) c refl h w

step_lies : (m : Model) (s t : State) (st : Step) → length s.clocks ≡ m.clocks → Takes m s st → Lands (act m s (event_of st)) t
    → Lies m (home_after m (home_of s) st) t
step_lies m s t go_on c k w =
    subst (λ (o : List ℕ). Lies m (mk_home s.location o) t) (order_served_on s.queue)
    (tick_lies m (home_of s) s t false (record { home = refl; clocks = c }) (false_of_not (finishes m s.queue) k.choice) w)
step_lies m s t finish c k w =
    subst (λ (o : List ℕ). Lies m (mk_home s.location o) t) (order_served_off s.queue)
    (tick_lies m (home_of s) s t true (record { home = refl; clocks = c }) k.choice w)
step_lies m s t (by_edge n ps) c k w = edges_lie m s t (nth1 m.edges n) ps c k.choice w

-- every reached state lies at the step's home
pub reached_lies : (m : Model) (z : Zone) (st : Step) (t : State) → ReachedBy m z st t → Lies m (home_after m (home_of_zone z) st) t
reached_lies m z st t r =
    subst (λ (h : Home). Lies m (home_after m h st) t) (home_in m z r.from r.inside)
    (step_lies m r.from t st r.inside.proper.clocks r.takes r.lands)

-- ── a state is its home and its variables ──────────────────────────────────────────────────────

queue_vars_inj : (a b : ℕ) (q r : List Job) → a ≡ b → order q ≡ order r → queue_vars a q ≡ queue_vars b r → q ≡ r
queue_vars_inj a b [] [] e o v = refl
queue_vars_inj a b [] (j ∷ r) e o v = absurd (nil≢cons o)
queue_vars_inj a b (i ∷ q) [] e o v = absurd (nil≢cons (sym o))
queue_vars_inj a b (i ∷ q) (j ∷ r) e o v =
    let s : a + i.done ≡ b + j.done = head-eq_of_cons-eq v in
    let g : i.age ≡ j.age = head-eq_of_cons-eq (tail-eq_of_cons-eq v) in
    let d : i.done ≡ j.done = omega arith in
    let n : i.task ≡ j.task = head-eq_of_cons-eq o in
    let rest = queue_vars_inj (a + i.done) (b + j.done) q r s (tail-eq_of_cons-eq o) (tail-eq_of_cons-eq (tail-eq_of_cons-eq v)) in
    (λ k. record { task = n k; done = d k; age = g k } ∷ rest k)

append_split : (a b c d : List ℕ) → length a ≡ length b → a ++ c ≡ b ++ d → (a ≡ b) × (c ≡ d)
append_split [] [] c d e h = (refl, h)
append_split [] (y ∷ b) c d e h = absurd (omega arith)
append_split (x ∷ a) [] c d e h = absurd (omega arith)
append_split (x ∷ a) (y ∷ b) c d e h =
    let r = append_split a b c d (omega arith) (tail-eq_of_cons-eq h) in
    (ap₂ (λ (n : ℕ) (l : List ℕ). n ∷ l) (head-eq_of_cons-eq h) r.0, r.1)

pub same_state : (m : Model) (h : Home) (t u : State) → Lies m h t → Lies m h u → vars t ≡ vars u → t ≡ u
same_state m h t u a b v =
    let hs : home_of t ≡ home_of u = a.home ∙ sym b.home in
    let len : length t.clocks ≡ length u.clocks = a.clocks ∙ sym b.clocks in
    let cs = append_split t.clocks u.clocks (queue_vars 0 t.queue) (queue_vars 0 u.queue) len v in
    let qs = queue_vars_inj 0 0 t.queue u.queue refl (ap (λ (x : Home). x.order) hs) cs.1 in
    (λ k. record { location = (hs k).location; clocks = cs.0 k; queue = qs k })

pub length_queue_vars : (a : ℕ) (q : List Job) → length (queue_vars a q) ≡ length (order q) + length (order q)
length_queue_vars a [] = refl
length_queue_vars a (j ∷ js) = let h = length_queue_vars (a + j.done) js in omega arith

-- as many variables, but for variable 0, as the home has
pub length_vars : (m : Model) (h : Home) (t : State) → Lies m h t → suc (length (vars t)) ≡ variables m h.order
length_vars m h t l =
    ap suc (length-append t.clocks (queue_vars 0 t.queue)
    ∙ ap₂ (λ (x y : ℕ). x + y) l.clocks
    (length_queue_vars 0 t.queue ∙ ap (λ (x : Home). length x.order + length x.order) l.home))

-- two states of one home, each below the other, are one
pub below_same : (m : Model) (h : Home) (t u : State) → Lies m h t → Lies m h u → Below t u → Below u t → t ≡ u
below_same m h t u a b x y =
    let e = length_vars m h t a in
    let f = length_vars m h u b in
    same_state m h t u a b (ext_get_or 0 (vars t) (vars u) (omega arith) (λ i w. omega (arith, x (suc i), y (suc i))))
