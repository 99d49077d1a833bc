-- The printed line. Document 01: "prints one line: `OK` and the number tried; or `NO`, the obligation's number, zone (1 for the start), place (0 for the
-- start), kind, location, clocks, then task, done, age per job; or `RF`, 1 model or 2 proposal, refusal number, place."
-- Assumes nothing.
use Rattle.std.specs.Prelude.{ℕ, List, [], ◌∷◌, ◌++◌, take}
use Rattle.meaning.specs.Text.Numerals.{dec_f}
use Rattle.meaning.specs.Check.Faults as F
use Rattle.machine.specs.declared.Job.{Job}
use Rattle.machine.specs.declared.State.{State}
use Rattle.verdict.specs.Answers.{fault_of}
use Rattle.verdict.specs.declared.answer.Fault.{Fault}
use Rattle.verdict.specs.declared.answer.Failure.{Failure}
use Rattle.verdict.specs.declared.answer.Verdict.TheVariants.{Accepted, Failed}
use Rattle.console.specs.declared.told.Told.{Told}
use Rattle.console.specs.declared.told.Told.TheVariants.{Refused, Judged}

-- "fields each after one space": 32, and the digits of a number of 64 bits, which are at most 20
abbrev pub spaced : List ℕ → List ℕ
spaced [] = []
spaced (v ∷ vs) = 32 ∷ (dec_f 20 v ++ spaced vs)

-- "task, done, age per job"
abbrev pub job_numbers : List Job → List ℕ
job_numbers [] = []
job_numbers (j ∷ js) = j.task ∷ j.done ∷ j.age ∷ job_numbers js

-- "location, clocks, then task, done, age per job": of the clocks the first n, of the jobs as many as the state counts
abbrev pub state_numbers : ℕ → State → List ℕ
state_numbers n s = s.location ∷ (take n s.clocks ++ job_numbers (take s.count s.jobs))

-- the number of the kind
abbrev pub kind_by : Fault → ℕ
kind_by f = F.kind_of (fault_of f)

-- "`RF`, 1 model or 2 proposal, refusal number, place"; 82 and 70 are R and F
abbrev pub refused_line : ℕ → ℕ → ℕ → List ℕ
refused_line text number place = 82 ∷ 70 ∷ spaced (text ∷ number ∷ place ∷ [])

-- "`OK` and the number tried"; 79 and 75 are O and K
abbrev pub ok_line : ℕ → List ℕ
ok_line n = 79 ∷ 75 ∷ spaced (n ∷ [])

-- "`NO`, the obligation's number, zone, place, kind, location, clocks, then task, done, age per job", of n clocks; 78 and 79 are N and O
abbrev pub failed_line : ℕ → Failure → List ℕ
failed_line n f = 78 ∷ 79 ∷ spaced (f.number ∷ f.zone ∷ f.place ∷ kind_by f.fault ∷ state_numbers n f.state)

-- the bytes of the line, without a line feed
abbrev pub line_of : Told → List ℕ
line_of (Refused text number place) = refused_line text number place
line_of (Judged n (Accepted k)) = ok_line k
line_of (Judged n (Failed f)) = failed_line n f
