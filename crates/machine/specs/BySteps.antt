-- What the inner step functions say: for their contracts, not for a reader to believe.
-- Assumes nothing.
use Rattle.std.specs.Prelude.{ℕ, List, length}
use Rattle.meaning.specs.Model.{Model}
use Rattle.meaning.specs.Machine.State.{order}
use Rattle.meaning.specs.Machine.Release.{overflows_any, put_all}
use Rattle.meaning.specs.Text.Choice.{pick}
use Rattle.home.specs.Asked.{target_by, released_by}
use Rattle.machine.specs.Stands.{queue_of, cells_of}
use Rattle.machine.specs.Promise.{Said, went, overflow}
use Rattle.machine.specs.declared.State.{State}

-- allowed edge k, with the clocks after its resets
abbrev pub moved_said : Model → State → ℕ → List ℕ → Said
moved_said m s k cs =
    pick (overflows_any m (released_by m k) (order (queue_of s.jobs s.count)))
    (overflow s)
    (went (record {
      location = target_by m k s.location;
      clocks = cs;
      jobs = cells_of (put_all m (released_by m k) (queue_of s.jobs s.count));
      count = length (put_all m (released_by m k) (queue_of s.jobs s.count));
    }))
