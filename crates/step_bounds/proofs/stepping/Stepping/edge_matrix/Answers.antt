-- `step_bounds::Stepping::edge_matrix` meets its contract.
use mathlib.Core.Path.{◌≡◌, sym, ◌∙◌}
use lib.ListN.{length}
use Rattle.std.specs.Prelude.{Some}
use Rattle.step_bounds.proofs.StepLaws.{step_range, narrows_guard, narrows_over, step_places, narrows_placed}
use borrow.Author.Rules.{rules}
use Rattle.step_bounds.proofs.stepping.Stepping.edge_matrix.Goals as goal

pub guard-requires : goal.guard-requires
guard-requires c =
    let l = c.released_by-releases in
    record { le_edge = step_range c.args.self.model.cells.now c.args.self.model.right c.args.self.home c.args.edge c.args.step c.requires.edge_in l.result l.ensures; workable = c.requires.workable }

pub returns-in_err-r : goal.returns-in_err-r
returns-in_err-r c =
    let l = c.released_by-releases in
    rw c.from_residual.ensures
    (narrows_guard c.args.self.model.cells.now c.args.self.model.right c.args.self.home c.args.edge c.args.step c.requires.edge_in l.result l.ensures c.args.m c.in_err-r.ensures)

pub returns-then-overflows : goal.returns-then-overflows
returns-then-overflows c =
    let l = c.released_by-releases in
    narrows_over c.args.self.model.cells.now c.args.self.model.right c.args.self.home c.args.edge c.args.step c.requires.edge_in l.result l.ensures c.args.m (Some c.in_ok-r.r)
    (sym (rw (c.list.ensures, c.order.ensures) at c.overflows.ensures) ∙ c.if-overflows.true) c.in_ok-r.ensures

pub placed-requires : goal.placed-requires
placed-requires c =
    let six : length c.args.self.home.tasks ≡ 6 = search rules in
    let far : length c.args.step.positions ≡ 4 = search rules in
    let l = c.released_by-releases in
    let o = sym (rw (c.list.ensures, c.order.ensures) at c.overflows.ensures) ∙ c.if-overflows.false in
    let four : length l.result.tasks ≡ 4 = search rules in
    let ahead-far : length c.ahead_of.result ≡ 4 = search rules in
    record {
      places_in = step_places c.args.self.model.cells.now c.args.self.model.right c.args.self.home c.args.edge c.args.step c.requires.edge_in l.result l.ensures o c.ahead_of.result six four far ahead-far c.ahead_of.ensures c.args.self.right_home;
      workable = c.in_ok-r.ensures.usable;
    }

pub returns : goal.returns
returns c =
    let six : length c.args.self.home.tasks ≡ 6 = search rules in
    let far : length c.args.step.positions ≡ 4 = search rules in
    let l = c.released_by-releases in
    let o = sym (rw (c.list.ensures, c.order.ensures) at c.overflows.ensures) ∙ c.if-overflows.false in
    let four : length l.result.tasks ≡ 4 = search rules in
    let ahead-far : length c.ahead_of.result ≡ 4 = search rules in
    narrows_placed c.args.self.model.cells.now c.args.self.model.right c.args.self.home c.args.edge c.args.step c.requires.edge_in l.result l.ensures o c.ahead_of.result six four far ahead-far c.ahead_of.ensures
    c.args.m c.in_ok-r.r c.placed.result c.in_ok-r.ensures c.placed.ensures
