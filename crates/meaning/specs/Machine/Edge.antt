-- An edge: its guard, then its resets, then the release.
-- Assumes nothing.
use Rattle.std.specs.Prelude.{Bool, List, [], ◌∷◌, ℕ}
use Rattle.meaning.specs.Numbers.{within}
use Rattle.meaning.specs.Lists.{nth1D, set1, every}
use Rattle.meaning.specs.Model.{Bound, Edge, Model, target, released}
use Rattle.meaning.specs.Machine.State.{State}
use Rattle.meaning.specs.Machine.Release.{put_all}

-- "variable i minus variable j is at most c", over the values of variables 1, 2, ..; "Variable 0 is always 0."
abbrev pub bound_test : List ℕ → Bound → Bool
bound_test vs b = within (nth1D vs b.i 0) (nth1D vs b.j 0) b.c

-- "Resets follow": the clocks with those named at 0
abbrev pub reset_all : List ℕ → List ℕ → List ℕ
reset_all [] cs = cs
reset_all (r ∷ rs) cs = reset_all rs (set1 cs r 0)

-- "Edge: allowed when its guard holds of the clocks before the resets."
unfoldable pub guard_test : Model → State → Edge → Bool
guard_test m s e = every (bound_test s.clocks) e.guard

-- "then the release of the target's task, if any. As in 000, limits bind delays and not arrivals."
abbrev pub entered : Model → State → Edge → State
entered m s e = record {
  location = target e s.location;
  clocks = reset_all e.resets s.clocks;
  queue = put_all m (released m e) s.queue;
}
