-- `beats` meets its contract.
use mathlib.Core.Path.{sym, ◌∙◌, ap₂}
use lib.Dec.{ltb}
use Rattle.machine.proofs.JobLaws.{beats_policy}
use Rattle.machine.proofs.queue.beats.Goals as goal

pub returns-in-FixedPriority : goal.returns-in-FixedPriority
returns-in-FixedPriority c = let a = c.args in
    ap₂ ltb c.priority.ensures c.priority-in-FixedPriority.ensures
    ∙ sym (beats_policy a.model.now a.task a.job c.policy.result c.policy.ensures _ (sym c.in-FixedPriority.is ∙ c.unwrap_or.ensures))

pub returns-in-EarliestDeadline : goal.returns-in-EarliestDeadline
returns-in-EarliestDeadline c = let a = c.args in
    c.is_sooner.ensures ∙ sym (beats_policy a.model.now a.task a.job c.policy.result c.policy.ensures _ (sym c.in-EarliestDeadline.is ∙ c.unwrap_or.ensures))

pub returns-in-ShortestJob : goal.returns-in-ShortestJob
returns-in-ShortestJob c = let a = c.args in
    c.is_shorter.ensures ∙ sym (beats_policy a.model.now a.task a.job c.policy.result c.policy.ensures _ (sym c.in-ShortestJob.is ∙ c.unwrap_or.ensures))
