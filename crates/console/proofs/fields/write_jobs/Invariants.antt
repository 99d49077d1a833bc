-- What the loop of `write_jobs` keeps.
use Prim.Native.Nat.{◌+◌, ◌*◌, ◌≤◌}
use lib.ListN.{take}
use Rattle.lines.specs.Put.{Put}
use Rattle.console.specs.Line.{spaced, job_numbers}
use Rattle.console.proofs.fields.write_jobs.Given as goal

abbrev pub invariant-loop-job : goal.invariant-loop-job
invariant-loop-job l = record { put : Put l.initial.buf l.at (spaced (job_numbers (take l.job-index l.job-items))) l.buf l.p; near : l.p ≤ l.at + 63 * l.job-index }
