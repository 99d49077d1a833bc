-- The numbers of the policies.
-- Assumes nothing.
use Rattle.std.specs.Prelude.{ℕ}
use Rattle.model_table.specs.declared.policies.Policy.{Policy}
use Rattle.model_table.specs.declared.policies.Policy.TheVariants.{FixedPriority, EarliestDeadline, ShortestJob}

-- the policy's number: "1 FPS, 2 EDF"; M-100: "PO may be 3"
abbrev pub number_of : Policy → ℕ
number_of FixedPriority = 1
number_of EarliestDeadline = 2
number_of ShortestJob = 3
