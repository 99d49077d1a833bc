-- What is asked of an edge by its number, where a number that names none leaves no location and releases nothing; and of a task in a queue order.
-- Assumes nothing.
use Rattle.std.specs.Prelude.{Bool, false, List, [], ℕ, eqb}
use Rattle.std.proofs.Math.Option.{Option, none, some}
use Rattle.meaning.specs.Lists.{nth1, count}
use Rattle.meaning.specs.Model.{Edge, Model, leaves_at, target, released}

-- the edge, if there is one, leaves location l
abbrev pub leaves_if : Option Edge → ℕ → Bool
leaves_if none l = false
leaves_if (some e) l = leaves_at e l

-- "each edge leaving the location": edge k leaves location l
abbrev pub leaves_by : Model → ℕ → ℕ → Bool
leaves_by m k l = leaves_if (nth1 m.edges k) l

-- the target of the edge, if there is one, from location l
abbrev pub target_if : Option Edge → ℕ → ℕ
target_if none l = 0
target_if (some e) l = target e l

-- the target of edge k from location l
abbrev pub target_by : Model → ℕ → ℕ → ℕ
target_by m k l = target_if (nth1 m.edges k) l

-- the tasks that the edge, if there is one, releases
abbrev pub released_if : Model → Option Edge → List ℕ
released_if m none = []
released_if m (some e) = released m e

-- the tasks that edge k releases
abbrev pub released_by : Model → ℕ → List ℕ
released_by m k = released_if m (nth1 m.edges k)

-- how often task t stands in a queue of the tasks o
abbrev pub often : ℕ → List ℕ → ℕ
often t o = count (eqb t) o
