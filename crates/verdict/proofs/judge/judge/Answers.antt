-- `verdict::judge::judge` meets its contract.
use Rattle.model_table.specs.Held.{model_of}
use Rattle.meaning.specs.Text.ProposalTable as table
use Rattle.zone_list.specs.Steps.{step_of}
use Rattle.verdict.proofs.DrawLaws.{closed_ready, none_judged, drawn_of}
use Rattle.verdict.proofs.judge.judge.Goals as goal

pub step_matrix-requires : goal.step_matrix-requires
step_matrix-requires c =
    let y = c.requires.closed_by in
    record {
      right_home = y.closed.right;
      listed = c.requires.listed;
      workable = closed_ready (model_of c.args.model.now) c.args.home c.args.closed y.zone y.closed;
    }

pub returns-in_err-m : goal.returns-in_err-m
returns-in_err-m c =
    rw c.from_residual.ensures
    (λ n x z q.
    none_judged (model_of c.args.model.now) c.args.model.now.right.right c.args.home (step_of c.args.step) c.args.closed c.in_err-m.ensures z q
    (table.decode c.args.zones.now) n x c.args.claim)

pub plan_of-plan-requires : goal.plan_of-plan-requires
plan_of-plan-requires c = record { right_home = c.requires.closed_by.closed.right; listed = c.requires.listed }

pub by_kind-requires : goal.by_kind-requires
by_kind-requires c =
    let y = c.requires.closed_by in record {
      given = c.requires.given;
      right_home = y.closed.right;
      drawn_by = record {
        zone = y.zone;
        step = step_of c.args.step;
        drawn = drawn_of (model_of c.args.model.now) c.args.model.now.right.right c.args.home (step_of c.args.step) c.args.closed c.in_ok-m.m c.in_ok-m.ensures y.zone
            y.closed c.plan_of-plan.result c.plan_of-plan.ensures;
      };
    }

pub returns : goal.returns
returns c = λ n x z q.
    c.by_kind.ensures n x z q.home
    (drawn_of (model_of c.args.model.now) c.args.model.now.right.right c.args.home (step_of c.args.step) c.args.closed c.in_ok-m.m c.in_ok-m.ensures z
    q c.plan_of-plan.result c.plan_of-plan.ensures)
