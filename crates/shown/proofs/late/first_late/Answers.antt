-- `shown::late::first_late` meets its contract: at every position before k each age stays below D.
use mathlib.Core.Path.{◌≡◌, sym}
use Prim.Native.Nat.{suc, ◌+◌}
use native.Mathlib.Omega.{arith}
use borrow.Author.Rules.{rules}
use lib.IntN.{pos}
use lib.ListN.{get_or}
use mir.Syntax.{w32}
use mir.Val.{SFits}
use Rattle.meaning.specs.Text.ModelTable.{clocks}
use Rattle.model_table.proofs.PartLaws.{deadline_small}
use Rattle.bounds.proofs.Signed as S
use Rattle.bounds.proofs.Signed.{signed, fits_make}
use Rattle.shown.proofs.LateLaws.{Age, on_time_next, age_asks, first_here, none_late}
use Rattle.shown.proofs.late.first_late.Goals as goal
use Rattle.shown.proofs.late.first_late.Goals.{After-sum_at, After-deadline-d}

-- the variable that is read: the age at position k + 1
here : (c : After-sum_at) → c.sum_at.result + 1 ≡ suc (suc (clocks c.args.model.now.cells.now) + (c.loop-k.k + c.loop-k.k))
here c = omega (arith, c.sum_at.ensures, c.clocks-n.ensures)

age : (c : After-deadline-d) → Age c.args.m.now c.args.plan.from c.args.plan.off (clocks c.args.model.now.cells.now) c.loop-k.k c.reached-age.result
age c = record { is = rw (sym (here (goal.at.After-deadline-d c).After-sum_at)) c.reached-age.ensures }

cast : (c : After-deadline-d) → SFits w32 (pos c.deadline-d.result)
cast c =
    fits_make (omega (arith, deadline_small c.args.model.now.cells.now c.args.model.now.right (get_or c.args.plan.home.tasks c.loop-k.k 0), c.deadline-d.ensures)) (omega arith)

read : (c : After-deadline-d) → SFits w32 c.reached-age.result
read c = record { sfits = c.reached-age.type_inv }

pub reached-age-requires : goal.reached-age-requires
reached-age-requires c =
    let b = c.requires in
    let a = rw (sym (here (goal.at.reached-age-requires c).After-sum_at)) at (age_asks c.args.model.now.cells.now c.args.model.now.right c.args.m.now c.args.plan (search rules) b.zone b.step b.drawn c.loop-k.k (omega arith)) in
    record { a_bound = (a.0, omega arith); a_bound_2 = (a.1, a.2); size = (a.3, a.4); entries = b.drawn.narrowed.ready.entries }

pub returns-then-d-age : goal.returns-then-d-age
returns-then-d-age c z st w =
    let d = (goal.at.returns-then-d-age c).After-deadline-d in
    first_here c.args.model.now.cells.now c.args.model.now.right c.args.m.now c.args.plan (search rules) z st w c.loop-k.k (omega arith) c.loop-k.invariant c.reached-age.result (age d)
    (omega (signed, c.deadline-d.ensures, S.at (cast d), S.at (read d)))

pub loop-k-preserved : goal.loop-k-preserved
loop-k-preserved c =
    let d = (goal.at.loop-k-preserved c).After-deadline-d in
    on_time_next c.args.model.now.cells.now c.args.m.now c.args.plan.from c.args.plan.off c.args.plan.home.tasks (clocks c.args.model.now.cells.now) c.loop-k.k c.loop-k.invariant
    (record { entry = c.reached-age.result; age = age d; below = omega (signed, c.deadline-d.ensures, S.at (cast d), S.at (read d)) })

pub returns : goal.returns
returns c z st d = none_late c.args.model.now.cells.now c.args.model.now.right c.args.m.now c.args.plan (search rules) z st d (λ i h. c.loop-k.invariant i (omega arith))
