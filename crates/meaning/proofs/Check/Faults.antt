-- An obligation holds exactly where no state is at fault, and what a failure says is the only thing it can say.
-- Assumes nothing.
use mathlib.Core.Path.{◌≡◌, refl, sym, ◌∙◌, ap, subst}
use mathlib.Core.Logic.{◌⊎◌, inl, inr, ◌↔◌}
use mathlib.Core.Bool.{Bool, true, false, cond}
use mathlib.Core.List.{Memᴰ}
use mathlib.Core.Option.{Option, none, some}
use Prim.Native.Nat.{ℕ, zero, suc, ◌≤◌, ◌<◌}
use native.Mathlib.Omega.{arith}
use lib.ListN.{length, get_elem?}
use borrow.Author.Tests.{eqb-true}
use Rattle.meaning.specs.Lists.{nth1}
use Rattle.meaning.specs.Model.{Bound, Edge, Model, task_at, released}
use Rattle.meaning.specs.Machine.State.{Job, State, order}
use Rattle.meaning.specs.Machine.Release.{overflows_any}
use Rattle.meaning.specs.Machine.Tick.{tick_to, is_late, late}
use Rattle.meaning.specs.Machine.Edge.{bound_test, entered}
use Rattle.meaning.specs.Machine.Step.{Event, tick, edge, Outcome, went, missed, overflow, refused, edge_allowed, allowed, judged, moved_by, act}
use Rattle.meaning.specs.Machine.Run.{start}
use Rattle.meaning.specs.Zones.Variables.{vars}
use Rattle.meaning.specs.Zones.Proper.{Proper}
use Rattle.meaning.specs.Zones.Zone.{Zone, Proposal, InZone}
use Rattle.meaning.specs.Zones.Steps.{event_of}
use Rattle.meaning.specs.Zones.Reached.{Home, home_of, home_of_zone, home_after, Lands, ReachedBy}
use Rattle.meaning.specs.Check.Obligations.{Follow, Obligation, starts, follows, InNumber, Good, Holds}
use Rattle.meaning.specs.Check.Faults.{Fault, late_at, over, unclaimed, elsewhere, breaks, kind_of, row_of, column_of, Before, claim_of, Reached, Over, late_test, Elsewhere, BreaksZone, Breaks, AtFault, Fails}
use Rattle.meaning.proofs.Tests.{never}
use Rattle.meaning.proofs.Lists.{at_mem, nth_some, first_at}
use Rattle.meaning.proofs.Machine.Proper.{WellFormed, went_proper, start_proper}
use Rattle.meaning.proofs.Zones.Home.{home_dec, home_in, Lies, reached_lies, below_same}

-- a claim names a zone, or is 0: the reader of a proposal's text makes sure of it
abbrev pub Named : Proposal → ℕ → Type 0
Named p c = c ≤ length p.zones

-- ── no state at fault: the obligation holds ────────────────────────────────────────────────────

-- a bound that is not broken holds
bounds_hold : (t : State) (z : Zone) → ((i j : ℕ) → BreaksZone z i j t → ⊥) → (b : Bound) → Memᴰ b z.bounds → bound_test (vars t) b ≡ true
bounds_hold t z h b w = go (bound_test (vars t) b) refl
  where
    go : (x : Bool) → bound_test (vars t) b ≡ x → bound_test (vars t) b ≡ true
    go true e = e
    go false e = absurd (h b.i b.j (record { bound = b; written = w; row = refl; column = refl; broken = e }))

-- a proper state that is not elsewhere and breaks no bound of the zone is in it
pub inside_zone : (m : Model) (z : Zone) (t : State) → Proper m t → (Elsewhere (some z) t → ⊥)
    → ((i j : ℕ) → BreaksZone z i j t → ⊥) → InZone m z t
inside_zone m z t p h k = go (home_dec (home_of t) (home_of_zone z))
  where
    go : Dec (home_of t ≡ home_of_zone z) → InZone m z t
    go (yes e) = record {
      location = ap (λ (x : Home). x.location) e;
      queue = ap (λ (x : Home). x.order) e;
      proper = p;
      bounds = bounds_hold t z k;
    }
    go (no e) = absurd (h e)

-- the same of a zone by its number
inside_number : (m : Model) (p : Proposal) (c : ℕ) (t : State) → Proper m t → Named p c → (c ≡ 0 → ⊥)
    → (Elsewhere (nth1 p.zones c) t → ⊥) → ((i j : ℕ) → Breaks (nth1 p.zones c) i j t → ⊥)
    → InNumber m (nth1 p.zones c) t
inside_number m p zero t q n z h k = absurd (z refl)
inside_number m p (suc c) t q n z h k = go (get_elem? p.zones c) (nth_some p.zones c (omega arith)) refl h k
  where
    go : (x : Option Zone) → (y : Zone) × (get_elem? p.zones c ≡ some y) → get_elem? p.zones c ≡ x → (Elsewhere x t → ⊥)
        → ((i j : ℕ) → Breaks x i j t → ⊥) → InNumber m x t
    go none y e h k = absurd (let g = y.1 in let z : ◌≡◌ {A = ℕ} 0 1 = cc in omega arith)
    go (some x) y e h k = inside_zone m x t q h k

missed_late : (m : Model) (s t : State) (k : ℕ) (ev : Event) → act m s ev ≡ missed t k → late_test m (nth1 t.queue k) ≡ true
missed_late m s t k tick e = go (late m (tick_to m s).queue) refl e
  where
    go : (n : ℕ) → late m (tick_to m s).queue ≡ n → judged (tick_to m s) n ≡ missed t k → late_test m (nth1 t.queue k) ≡ true
    go zero q h = absurd (let z : ◌≡◌ {A = ℕ} 0 1 = cc in omega arith)
    go (suc n) q h =
        let r : tick_to m s ≡ t = cc in
        let l : suc n ≡ k = cc in
        let f = first_at (is_late m) (tick_to m s).queue n q in
        subst (λ (x : State). late_test m (nth1 x.queue k) ≡ true) r
        (subst (λ (x : ℕ). late_test m (nth1 (tick_to m s).queue x) ≡ true) l (ap (late_test m) f.1 ∙ f.2))
missed_late m s t k (edge i) e = go (nth1 m.edges i) e
  where
    go : (x : Option Edge) → moved_by m s x ≡ missed t k → late_test m (nth1 t.queue k) ≡ true
    go none h = absurd (let z : ◌≡◌ {A = ℕ} 0 1 = cc in omega arith)
    go (some d) h = go2 (overflows_any m (released m d) (order s.queue)) h
      where
        go2 : (b : Bool) → cond b overflow (went (entered m s d)) ≡ missed t k → late_test m (nth1 t.queue k) ≡ true
        go2 true g = absurd (let z : ◌≡◌ {A = ℕ} 0 1 = cc in omega arith)
        go2 false g = absurd (let z : ◌≡◌ {A = ℕ} 0 1 = cc in omega arith)

-- an allowed step is not refused
pub not_refused : (m : Model) (s : State) (ev : Event) → allowed m s ev ≡ true → act m s ev ≡ refused → ⊥
not_refused m s tick a e = go (late m (tick_to m s).queue) e
  where
    go : (n : ℕ) → judged (tick_to m s) n ≡ refused → ⊥
    go zero h = let z : ◌≡◌ {A = ℕ} 0 1 = cc in omega arith
    go (suc n) h = let z : ◌≡◌ {A = ℕ} 0 1 = cc in omega arith
not_refused m s (edge i) a e = go (nth1 m.edges i) a e
  where
    go : (x : Option Edge) → edge_allowed m s x ≡ true → moved_by m s x ≡ refused → ⊥
    go none a h = never a refl
    go (some d) a h = go2 (overflows_any m (released m d) (order s.queue)) h
      where
        go2 : (b : Bool) → cond b overflow (went (entered m s d)) ≡ refused → ⊥
        go2 true g = let z : ◌≡◌ {A = ℕ} 0 1 = cc in omega arith
        go2 false g = let z : ◌≡◌ {A = ℕ} 0 1 = cc in omega arith

no_fault_follows : (m : Model) (p : Proposal) → WellFormed m → (f : Follow) → Named p f.claim
    → ((g : Fault) (t : State) → AtFault m p (follows f) g t → ⊥) → Holds m p (follows f)
no_fault_follows m p w f n nf s hs ht = go (act m s (event_of f.step)) refl
  where
    reach : (t : State) → Lands (act m s (event_of f.step)) t → ReachedBy m f.zone f.step t
    reach t l = record { from = s; inside = hs; takes = ht; lands = l }

    go : (o : Outcome) → act m s (event_of f.step) ≡ o → Good m p f.claim o
    go (went t) e =
        let r = reach t (rw e refl) in
        inside_number m p f.claim t (went_proper m w s t (event_of f.step) hs.proper e) n
        (λ z. nf unclaimed t (r, z)) (λ h. nf elsewhere t (r, h)) (λ i j h. nf (breaks i j) t (r, h))
    go (missed t k) e = nf (late_at k) t (reach t (rw e refl), missed_late m s t k (event_of f.step) e)
    go overflow e = nf over s (record { inside = hs; takes = ht; over = e })
    go refused e = not_refused m s (event_of f.step) ht.allows e

no_fault_starts : (m : Model) (p : Proposal) → WellFormed m → Named p 1
    → ((g : Fault) (t : State) → AtFault m p starts g t → ⊥) → Holds m p starts
no_fault_starts m p w n nf =
    inside_number m p 1 (start m) (start_proper m w) n
    (λ e. omega arith) (λ h. nf elsewhere (start m) (refl, h)) (λ i j h. nf (breaks i j) (start m) (refl, h))

-- demand 2, one half: where no state is at fault the obligation holds
pub no_fault_holds : (m : Model) (p : Proposal) → WellFormed m → (o : Obligation) → Named p (claim_of o)
    → ((g : Fault) (t : State) → AtFault m p o g t → ⊥) → Holds m p o
no_fault_holds m p w starts n nf = no_fault_starts m p w n nf
no_fault_holds m p w (follows f) n nf = no_fault_follows m p w f n nf

-- ── a state at fault: the obligation does not hold ─────────────────────────────────────────────

pub not_late : (m : Model) (t : State) (k : ℕ) → Proper m t → late_test m (nth1 t.queue k) ≡ true → ⊥
not_late m t zero p h = never h refl
not_late m t (suc k) p h = go (get_elem? t.queue k) refl h
  where
    go : (x : Option Job) → get_elem? t.queue k ≡ x → late_test m x ≡ true → ⊥
    go none e h = never h refl
    go (some j) e h =
        let r = p.jobs j (at_mem j t.queue k e) in
        let a = eqb-true j.age (task_at m j.task).D h in
        omega (arith, r.age)

module _ (m : Model) (p : Proposal) where
  proper_in : (x : Option Zone) (t : State) → InNumber m x t → Proper m t
  proper_in none t h = absurd h
  proper_in (some z) t h = h.proper

  not_elsewhere : (x : Option Zone) (t : State) → InNumber m x t → Elsewhere x t → ⊥
  not_elsewhere none t h e = h
  not_elsewhere (some z) t h e = e (home_in m z t h)

  not_broken : (x : Option Zone) (t : State) (i j : ℕ) → InNumber m x t → Breaks x i j t → ⊥
  not_broken none t i j h e = h
  not_broken (some z) t i j h e = never (h.bounds e.bound e.written) e.broken

  good_lands : (c : ℕ) (o : Outcome) (t : State) → Good m p c o → Lands o t → InNumber m (nth1 p.zones c) t
  good_lands c (went s) t g l = subst (InNumber m (nth1 p.zones c)) l g
  good_lands c (missed s k) t g l = absurd g
  good_lands c overflow t g l = absurd g
  good_lands c refused t g l = absurd g

  reached_in : (o : Obligation) → Holds m p o → (t : State) → Reached m o t → InNumber m (nth1 p.zones (claim_of o)) t
  reached_in starts h t r = subst (InNumber m (nth1 p.zones 1)) (sym r) h
  reached_in (follows f) h t r =
      good_lands f.claim (act m r.from (event_of f.step)) t (h r.from r.inside r.takes) r.lands

  not_over : (o : Obligation) → Holds m p o → (t : State) → Over m o t → ⊥
  not_over starts h t r = r
  not_over (follows f) h t r = rw r.over at (h t r.inside r.takes)

  -- demand 2, the other half
  pub holds_no_fault : (o : Obligation) → Holds m p o → (g : Fault) (t : State) → AtFault m p o g t → ⊥
  holds_no_fault o h (late_at k) t a = not_late m t k (proper_in (nth1 p.zones (claim_of o)) t (reached_in o h t a.0)) a.1
  holds_no_fault o h over t a = not_over o h t a
  holds_no_fault o h unclaimed t a = subst (λ (c : ℕ). InNumber m (nth1 p.zones c) t) a.1 (reached_in o h t a.0)
  holds_no_fault o h elsewhere t a = not_elsewhere (nth1 p.zones (claim_of o)) t (reached_in o h t a.0) a.1
  holds_no_fault o h (breaks i j) t a = not_broken (nth1 p.zones (claim_of o)) t i j (reached_in o h t a.0) a.1

-- an obligation holds exactly when no state is at fault
pub holds_exactly : (m : Model) (p : Proposal) → WellFormed m → (o : Obligation) → Named p (claim_of o)
    → Holds m p o ↔ ((g : Fault) (t : State) → AtFault m p o g t → ⊥)
holds_exactly m p w o n = (holds_no_fault m p o, no_fault_holds m p w o n)

-- ── a failure says one thing ───────────────────────────────────────────────────────────────────

-- (a, b) comes before (i, j), "row by row"
abbrev pub RowByRow : ℕ → ℕ → ℕ → ℕ → Type 0
RowByRow a b i j = (a < i) ⊎ ((a ≡ i) × (b < j))

home_for : Model → Obligation → Fault → Home
home_for m starts f = home_of (start m)
home_for m (follows f) (late_at k) = home_after m (home_of_zone f.zone) f.step
home_for m (follows f) over = home_of_zone f.zone
home_for m (follows f) unclaimed = home_after m (home_of_zone f.zone) f.step
home_for m (follows f) elsewhere = home_after m (home_of_zone f.zone) f.step
home_for m (follows f) (breaks i j) = home_after m (home_of_zone f.zone) f.step

at_lies : (m : Model) (p : Proposal) (o : Follow) (f : Fault) (t : State) → AtFault m p (follows o) f t → Lies m (home_for m (follows o) f) t
unfolding home_for
at_lies m p o (late_at k) t h = reached_lies m o.zone o.step t h.0
at_lies m p o over t h = record { home = home_in m o.zone t h.inside; clocks = h.inside.proper.clocks }
at_lies m p o unclaimed t h = reached_lies m o.zone o.step t h.0
at_lies m p o elsewhere t h = reached_lies m o.zone o.step t h.0
at_lies m p o (breaks i j) t h = reached_lies m o.zone o.step t h.0

-- what is at fault at the start is the start
pub at_start : (m : Model) (p : Proposal) (f : Fault) (t : State) → AtFault m p starts f t → t ≡ start m
at_start m p (late_at k) t h = h.0
at_start m p over t h = absurd h
at_start m p unclaimed t h = h.0
at_start m p elsewhere t h = h.0
at_start m p (breaks i j) t h = h.0

one_state : (m : Model) (p : Proposal) (o : Obligation) (f : Fault) (t u : State) → Fails m p o f t → Fails m p o f u → t ≡ u
one_state m p starts f t u a b = at_start m p f t a.at ∙ sym (at_start m p f u b.at)
one_state m p (follows o) f t u a b =
    below_same m (home_for m (follows o) f) t u (at_lies m p o f t a.at) (at_lies m p o f u b.at) (a.least u b.at) (b.least t a.at)

-- two faults that are not one before the other are one
fault_same : (f g : Fault) → (Before f g → ⊥) → (Before g f → ⊥) → f ≡ g
fault_same f g a b = sym (decoded f) ∙ (λ x. decode (kinds x) (rows x) (columns x)) ∙ decoded g
  where
    decode : ℕ → ℕ → ℕ → Fault
    decode zero i j = over
    decode (suc zero) i j = late_at i
    decode (suc (suc zero)) i j = over
    decode (suc (suc (suc zero))) i j = unclaimed
    decode (suc (suc (suc (suc zero)))) i j = elsewhere
    decode (suc (suc (suc (suc (suc n))))) i j = breaks i j

    decoded : (x : Fault) → decode (kind_of x) (row_of x) (column_of x) ≡ x
    decoded (late_at k) = refl
    decoded over = refl
    decoded unclaimed = refl
    decoded elsewhere = refl
    decoded (breaks i j) = refl

    meet : (x y : ℕ) → (x < y → ⊥) → (y < x → ⊥) → x ≡ y
    meet x y h k = omega arith

    kinds : kind_of f ≡ kind_of g
    kinds = meet (kind_of f) (kind_of g) (λ h. a (inl h)) (λ h. b (inl h))

    rows : row_of f ≡ row_of g
    rows = meet (row_of f) (row_of g) (λ h. a (inr (kinds, inl h))) (λ h. b (inr (sym kinds, inl h)))

    columns : column_of f ≡ column_of g
    columns = meet (column_of f) (column_of g) (λ h. a (inr (kinds, inr (rows, h)))) (λ h. b (inr (sym kinds, inr (sym rows, h))))

-- the fault and the state of a failure are one
pub one_failure : (m : Model) (p : Proposal) (o : Obligation) (f g : Fault) (t u : State) → Fails m p o f t → Fails m p o g u → (f ≡ g) × (t ≡ u)
one_failure m p o f g t u a b =
    let e : f ≡ g = fault_same f g (λ h. b.first f h t a.at) (λ h. a.first g h u b.at) in
    (e, one_state m p o g t u (rw e at a) b)
