-- `step_bounds::Stepping::head_finishes` meets its contract.
use mathlib.Core.Path.{◌≡◌, ◌∙◌, ap}
use Prim.Native.Nat.{ℕ, ◌≤◌, suc}
use native.Mathlib.Omega.{arith}
use lib.IntN.{sub_ℕ}
use lib.ListN.{length, get_or}
use Rattle.std.specs.Prelude.{None}
use Rattle.meaning.specs.Text.ModelTable.{decode}
use Rattle.step_bounds.specs.Stepping.{model_of}
use Rattle.model_table.proofs.PartLaws.{clocks_is, work_is, work_small}
use Rattle.zone_bounds.proofs.NumberLaws.{read, sub_small}
use Rattle.zone_bounds.proofs.LoopLaws.{clocks_small}
use Rattle.step_bounds.proofs.HeadLaws.{finish_none, finish_head}
use borrow.Author.Rules.{rules}
use Rattle.step_bounds.proofs.stepping.Stepping.head_finishes.Goals as goal

pub returns-then-self-eq0 : goal.returns-then-self-eq0
returns-then-self-eq0 c = finish_none (model_of c.args.self) c.args.self.home.count c.args.self.home.tasks c.args.m None c.if-self-eq0.true

pub sum_at-requires : goal.sum_at-requires
sum_at-requires c =
    let clocks-few : c.clocks.result ≤ 4 =
    (omega (arith, c.clocks.ensures, clocks_small c.args.self.model.cells.now c.args.self.model.right)) in
    (clocks-few, omega arith)

pub within-requires : goal.within-requires
within-requires c =
    let short : c.work.result ≤ 10000 =
    (omega (arith, c.work.ensures, work_small c.args.self.model.cells.now c.args.self.model.right (get_or c.args.self.home.tasks 0 0))) in
    let clocks-few : c.clocks.result ≤ 4 =
    (omega (arith, c.clocks.ensures, clocks_small c.args.self.model.cells.now c.args.self.model.right)) in
    let w = short in
    let n = clocks-few in
    let l = c.less-c in
    rw (read l.result _ (record { sfits = l.type_inv }) l.ensures)
    (record { i_bound = (omega (arith, c.sum_at.ensures), omega (arith, c.sum_at.ensures)); size = sub_small 1 c.work.result (omega arith) (omega arith); workable = c.requires.workable })

pub returns : goal.returns
returns c = let t = c.args.self.model.cells.now in
    let m = decode t in
    let six : length c.args.self.home.tasks ≡ 6 = search rules in
    let v : c.sum_at.result ≡ suc m.clocks = omega (arith, c.sum_at.ensures, c.clocks.ensures, clocks_is t c.args.self.model.right) in
    let l = c.less-c in
    let e = l.ensures ∙ ap (λ (x : ℕ). sub_ℕ 1 x) (c.work.ensures ∙ work_is t c.args.self.model.right (get_or c.args.self.home.tasks 0 0)) in
    finish_head m c.args.self.home.count c.args.self.home.tasks c.args.m c.within.result (omega arith) (omega arith)
    (rw (v, read l.result _ (record { sfits = l.type_inv }) e) at c.within.ensures)
