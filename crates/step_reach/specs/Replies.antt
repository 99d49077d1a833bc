-- What the reply of a zone's step stands for, and which reply is right.
-- Assumes nothing.
use Rattle.std.specs.Prelude.{◌≡◌, ◌&&◌, List, ℕ, ◌+◌, ◌*◌, ◌≤◌, ltb, ℤ, pos, get_or, Result, Ok, Err}
use Rattle.std.proofs.Math.Option.{Option, none, some}
use Rattle.meaning.specs.Model.{Model}
use Rattle.meaning.specs.Zones.Zone as Z
use Rattle.meaning.specs.Zones.Steps as S
use Rattle.meaning.specs.Zones.Tightest.{Reply, RightReply}
use Rattle.meaning.specs.Text.Choice.{pick}
use Rattle.meaning.specs.Text.Ranges.{queue_most, variables_most}
use Rattle.meaning.specs.Text.ModelReader.{Given}
use Rattle.meaning.specs.Text.ModelTable.{decode}
use Rattle.refusals.specs.declared.Reason.{Reason}
use Rattle.refusals.specs.declared.Reason.TheVariants.{NotProper, NotAllowed}
use Rattle.home.specs.Stands.{home_of}
use Rattle.zone_list.specs.declared.form.Step.{Step}
use Rattle.zone_list.specs.Steps.{step_of, Listed}
use Rattle.zone_bounds.specs.Entries.{is_bound}
use Rattle.zone.specs.declared.Zone.{Zone}
use Rattle.zone.specs.Stands.{zone_of, Lendable}
use Rattle.step_reach.specs.declared.reply.StepReply.{StepReply}

-- an entry as it stands: a bound, or "no bound"
abbrev pub as_entry : ℤ → Option ℤ
as_entry c = pick (is_bound c) (some c) none

-- the entry (i, j) stands at i * 17 + j; variables that no zone has are 0
abbrev pub entry_at : List ℤ → ℕ → ℕ → Option ℤ
entry_at l i j = pick (ltb i variables_most && ltb j variables_most) (as_entry (get_or l (i * 17 + j) (pos 0))) (some (pos 0))

-- "A zone's step gives the location and queue order after it and the tightest bounds"
abbrev pub reply_of : StepReply → Reply
reply_of r = record {
  home = home_of r.home;
  empty = r.empty;
  entry = entry_at r.bounds;
}

-- the step's reply: right, and unused cells 0
pub record RightStep (m : Model) (z : Z.Zone) (st : S.Step) (r : StepReply) : Type 0 where
  pub reply : RightReply m z st (reply_of r)
  pub few : r.home.count ≤ queue_most
  pub unused : (k : ℕ) → r.home.count ≤ k → get_or r.home.tasks k 0 ≡ 0

-- 13 is given for "tables that no text within 1 gives" and for a zone that can't be lent; then 12 for "a zone's step that isn't in its list"
pub data Replied (t : List ℕ) (z : Zone) (step : Step) (r : Result StepReply Reason) : Type 0 where
  bad : (Given t × Lendable (decode t) z → ⊥) → r ≡ Err NotProper → Replied t z step r
  unlisted : Given t → Lendable (decode t) z → (Listed (decode t) (home_of z.home) step → ⊥) → r ≡ Err NotAllowed → Replied t z step r
  right : Given t → Lendable (decode t) z → Listed (decode t) (home_of z.home) step → (s : StepReply) → r ≡ Ok s → RightStep (decode t) (zone_of z) (step_of step) s
      → Replied t z step r
