-- The models that a text can say: document 01's ranges, "How many", rising order, C not over D, and priorities.
-- Assumes nothing.
use Rattle.std.specs.Prelude.{ℕ, ◌≤◌, ◌<◌, ◌≡◌, Bool, true, ◌&&◌, ◌||◌, List, [], ◌∷◌, ltb, eqb, length}
use Rattle.meaning.specs.Numbers.{over, under}
use Rattle.meaning.specs.Model.{Policy, fps, edf, sjf, Task, Limit, Bound, Location, Edge, Model}
use Rattle.meaning.specs.Text.Ranges.{clocks_most, time_most, prio_most, tasks_most, locations_most, edges_most}

-- each of the list is so
abbrev pub Each : {A : Type 0} → (A → Type 0) → List A → Type 0
Each P [] = Unit {0}
Each P (x ∷ xs) = P x × Each P xs

-- each of the list stands so to each behind it
abbrev pub Ordered : {A : Type 0} → (A → A → Type 0) → List A → Type 0
Ordered R [] = Unit {0}
Ordered R (x ∷ xs) = Each (R x) xs × Ordered R xs

-- "C and D, 1 to 10,000; priority 0 to 6"; refusal 7 is "C over D"
pub record RightTask (x : Task) : Type 0 where
  pub low : 1 ≤ x.C
  pub high : x.D ≤ time_most
  pub enough : x.C ≤ x.D
  pub prio : x.prio ≤ prio_most

-- "clock, limit 0 to 10,000"
pub record RightLimit (clocks : ℕ) (x : Limit) : Type 0 where
  pub low : 1 ≤ x.clock
  pub high : x.clock ≤ clocks
  pub most : x.most ≤ time_most

-- "task released or 0"; "rising clock"
pub record RightLocation (clocks tasks : ℕ) (x : Location) : Type 0 where
  pub task : x.task ≤ tasks
  pub limits : Each (RightLimit clocks) x.limits
  pub rising : Ordered (λ (a b : Limit). a.clock < b.clock) x.limits

-- "i, j, c": i and j of the variables 0 to last, "i ≠ j", c from −end to end
pub record RightBound (last end : ℕ) (x : Bound) : Type 0 where
  pub i : x.i ≤ last
  pub j : x.j ≤ last
  pub two : x.i ≡ x.j → ⊥
  pub least : under x.c ≤ end
  pub most : over x.c ≤ end

-- "rising (i, j)": row by row
abbrev pub before : Bound → Bound → Bool
before a b = ltb a.i b.i || (eqb a.i b.i && ltb a.j b.j)

-- "from, to", locations of the model; "c from −10,000 to 10,000", "clocks or 0", "rising (i, j)"; RS: "clock", "rising"
pub record RightEdge (clocks locations : ℕ) (x : Edge) : Type 0 where
  pub from_low : 1 ≤ x.from
  pub from_high : x.from ≤ locations
  pub to_low : 1 ≤ x.to
  pub to_high : x.to ≤ locations
  pub guard : Each (RightBound clocks time_most) x.guard
  pub guard_rising : Ordered (λ (a b : Bound). before a b ≡ true) x.guard
  pub resets : Each (λ (k : ℕ). (1 ≤ k) × (k ≤ clocks)) x.resets
  pub resets_rising : Ordered (λ (a b : ℕ). a < b) x.resets

-- refusal 8 is "FPS: priority 0 or used before. EDF: not 0"; M-100: "priority must then be 0, else 8"
abbrev pub Ranked : Policy → List Task → Type 0
Ranked fps xs = Each (λ (x : Task). 1 ≤ x.prio) xs × Ordered (λ (x y : Task). x.prio ≡ y.prio → ⊥) xs
Ranked edf xs = Each (λ (x : Task). x.prio ≡ 0) xs
Ranked sjf xs = Each (λ (x : Task). x.prio ≡ 0) xs

-- "clocks, 0 to 4"; TK "1 to 6", LO "1 to 16", ED "0 to 32"
pub record RightModel (x : Model) : Type 0 where
  pub clocks : x.clocks ≤ clocks_most
  pub tasks_low : 1 ≤ length x.tasks
  pub tasks_high : length x.tasks ≤ tasks_most
  pub tasks : Each RightTask x.tasks
  pub ranks : Ranked x.policy x.tasks
  pub locations_low : 1 ≤ length x.locations
  pub locations_high : length x.locations ≤ locations_most
  pub locations : Each (RightLocation x.clocks (length x.tasks)) x.locations
  pub edges_high : length x.edges ≤ edges_most
  pub edges : Each (RightEdge x.clocks (length x.locations)) x.edges
