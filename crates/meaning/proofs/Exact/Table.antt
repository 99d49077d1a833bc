-- The bounds of some steps and their plans, worked out: one table under one statement.
-- Assumes nothing.
use mathlib.Core.Path.{◌≡◌, refl}
use mathlib.Core.List.{List, [], ◌∷◌}
use Prim.Native.Nat.{ℕ}
use lib.IntN.{ℤ, pos, negsuc}
use Rattle.meaning.specs.Model.{Policy, fps, edf, Model, leaves_at, released}
use Rattle.meaning.specs.Machine.Place.{behind}
use Rattle.meaning.specs.Machine.Release.{overflows}
use Rattle.meaning.specs.Zones.Steps.{Step, go_on, finish, by_edge}
use Rattle.meaning.specs.Zones.Reached.{Home}
use Rattle.meaning.specs.ConsoleChecks.{model_a}
use Rattle.meaning.specs.Inner.Words.{tab_from}
use Rattle.meaning.specs.Inner.Bounds.{bound, impossible}
use Rattle.meaning.specs.Inner.Slots.{proper_bounds}
use Rattle.meaning.specs.Inner.StepBounds.{step_bounds}
use Rattle.meaning.specs.Inner.Plans.{plan_of, from, off}
use Rattle.meaning.proofs.Zones.Home.{mk_home}

-- a clock; task 1 of C 4, D 5, task 2 of C 2, D 3, priorities 1 and 2; the edge resets the clock and releases task 2
abbrev two : Policy → Model
two p = record {
  policy = p;
  clocks = 1;
  tasks = record { C = 4; D = 5; prio = 1 } ∷ record { C = 2; D = 3; prio = 2 } ∷ [];
  locations = record { task = 0; limits = [] } ∷ record { task = 2; limits = [] } ∷ [];
  edges = record { from = 1; to = 2; guard = bound 0 1 (negsuc 4) ∷ []; resets = 1 ∷ [] } ∷ [];
}

-- the tables of a step, for the first k variables after it
abbrev froms : Model → Home → Step → ℕ → List ℕ
froms m h st k = tab_from 0 (from m (plan_of m h st)) k

abbrev offs : Model → Home → Step → ℕ → List ℤ
offs m h st k = tab_from 0 (off m (plan_of m h st)) k

pub record StepTable : Type 0 where
  pub proper : proper_bounds model_a (1 ∷ []) ≡ bound 0 2 (pos 0) ∷ bound 2 0 (pos 1) ∷ bound 3 0 (pos 3) ∷ []
  pub sums : proper_bounds (two edf) (2 ∷ 1 ∷ [])
      ≡ bound 0 2 (pos 0) ∷ bound 2 0 (pos 1) ∷ bound 3 0 (pos 2) ∷ bound 2 4 (pos 0) ∷ bound 4 2 (pos 3) ∷ bound 5 0 (pos 4) ∷ []
  pub on : step_bounds model_a (mk_home 1 (1 ∷ [])) go_on ≡ bound 1 0 (pos 4) ∷ bound 2 0 (pos 0) ∷ []
  pub finishes : step_bounds model_a (mk_home 1 (1 ∷ [])) finish ≡ bound 1 0 (pos 4) ∷ bound 0 2 (negsuc 0) ∷ []
  pub empty : step_bounds model_a (mk_home 1 []) finish ≡ bound 1 0 (pos 4) ∷ impossible ∷ []
  pub alone : step_bounds model_a (mk_home 1 []) (by_edge 1 (0 ∷ [])) ≡ bound 0 1 (negsuc 4) ∷ []
  pub overflowing : step_bounds model_a (mk_home 1 (1 ∷ [])) (by_edge 1 []) ≡ bound 0 1 (negsuc 4) ∷ []
  pub edf_ahead : step_bounds (two edf) (mk_home 1 (1 ∷ [])) (by_edge 1 (0 ∷ [])) ≡ bound 0 1 (negsuc 4) ∷ bound 3 0 (pos 2) ∷ []
  pub edf_behind : step_bounds (two edf) (mk_home 1 (1 ∷ [])) (by_edge 1 (1 ∷ [])) ≡ bound 0 1 (negsuc 4) ∷ bound 0 3 (negsuc 2) ∷ []
  pub fps_ahead : step_bounds (two fps) (mk_home 1 (1 ∷ [])) (by_edge 1 (0 ∷ [])) ≡ bound 0 1 (negsuc 4) ∷ []
  pub fps_behind : step_bounds (two fps) (mk_home 1 (1 ∷ [])) (by_edge 1 (1 ∷ [])) ≡ bound 0 1 (negsuc 4) ∷ impossible ∷ []
  pub on_from : froms (two edf) (mk_home 1 (2 ∷ 1 ∷ [])) go_on 6 ≡ 0 ∷ 1 ∷ 2 ∷ 3 ∷ 4 ∷ 5 ∷ []
  pub on_off : offs (two edf) (mk_home 1 (2 ∷ 1 ∷ [])) go_on 6 ≡ pos 0 ∷ pos 1 ∷ pos 1 ∷ pos 1 ∷ pos 1 ∷ pos 1 ∷ []
  pub finish_from : froms (two edf) (mk_home 1 (2 ∷ 1 ∷ [])) finish 4 ≡ 0 ∷ 1 ∷ 4 ∷ 5 ∷ []
  pub finish_off : offs (two edf) (mk_home 1 (2 ∷ 1 ∷ [])) finish 4 ≡ pos 0 ∷ pos 1 ∷ negsuc 0 ∷ pos 1 ∷ []
  pub first_from : froms (two edf) (mk_home 1 (1 ∷ [])) (by_edge 1 (0 ∷ [])) 6 ≡ 0 ∷ 0 ∷ 0 ∷ 0 ∷ 2 ∷ 3 ∷ []
  pub last_from : froms (two edf) (mk_home 1 (1 ∷ [])) (by_edge 1 (1 ∷ [])) 6 ≡ 0 ∷ 0 ∷ 2 ∷ 3 ∷ 2 ∷ 0 ∷ []
  pub last_off : offs (two edf) (mk_home 1 (1 ∷ [])) (by_edge 1 (1 ∷ [])) 6 ≡ pos 0 ∷ pos 0 ∷ pos 0 ∷ pos 0 ∷ pos 0 ∷ pos 0 ∷ []
  pub over_from : froms model_a (mk_home 1 (1 ∷ [])) (by_edge 1 []) 4 ≡ 0 ∷ 1 ∷ 2 ∷ 3 ∷ []

pub step_table : StepTable
unfolding leaves_at released behind overflows
step_table = record {
  proper = refl;
  sums = refl;
  on = refl;
  finishes = refl;
  empty = refl;
  alone = refl;
  overflowing = refl;
  edf_ahead = refl;
  edf_behind = refl;
  fps_ahead = refl;
  fps_behind = refl;
  on_from = refl;
  on_off = refl;
  finish_from = refl;
  finish_off = refl;
  first_from = refl;
  last_from = refl;
  last_off = refl;
  over_from = refl;
}
