-- The console checks marked (P), proved together by computation.
-- Assumes nothing.
use mathlib.Core.Path.{refl}
use Rattle.meaning.specs.Model.{leaves_at, target, released, released_at_start}
use Rattle.meaning.specs.Machine.Place.{beats_by, beats, behind}
use Rattle.meaning.specs.Machine.Release.{overflows}
use Rattle.meaning.specs.Machine.Tick.{finishes}
use Rattle.meaning.specs.Machine.Edge.{guard_test}
use Rattle.meaning.specs.ConsoleChecks.{ConsoleChecks}

pub console_checks : ConsoleChecks
unfolding leaves_at target released released_at_start beats beats_by behind overflows finishes guard_test
console_checks = record {
  finish_in_time = refl;
  limit = refl;
  below = refl;
  early = refl;
  due = refl;
  sums = refl;
  alone = refl;
  sum_after = refl;
  edf_ahead = refl;
  edf_behind = refl;
  third_late = refl;
  fourth_done = refl;
}
