-- `zone::making::exact_zone` meets its contract.
use Rattle.std.proofs.Common.{◌≡◌, ◌≤◌, ◌∙◌, ℕ, length, take, sym, subst, arith}
use Rattle.std.proofs.lemmas.List.{length-take}
use Rattle.model_table.specs.Held.{model_of}
use Rattle.model_table.proofs.PartLaws.{clocks_is}
use Rattle.zone.specs.ByCell.{ClocksWritten, JobsWritten, SmallClocks}
use Rattle.zone.proofs.StateLaws.{clocks_small, clocks_few, jobs_few, jobs_small}
use Rattle.zone.proofs.MadeLaws.{exact_made}
use Rattle.zone.proofs.making.exact_zone.Goals as goal

pub of_clocks-requires : goal.of_clocks-requires
of_clocks-requires c =
    let m = model_of c.args.model.now in
    let s = c.args.state in
    let n : c.clocks.result ≡ m.clocks = c.clocks.ensures ∙ clocks_is c.args.model.now.cells.now c.args.model.now.right in
    subst (λ (n : ℕ). (length (take n s.clocks) ≤ 4) × SmallClocks (take n s.clocks)) (sym n) (clocks_few m s c.requires c.args.model.now.right.right, clocks_small m s c.requires)

pub with_jobs-bounds-requires : goal.with_jobs-bounds-requires
with_jobs-bounds-requires c =
    let m = model_of c.args.model.now in
    let s = c.args.state in
    let n : c.clocks.result ≡ m.clocks = c.clocks.ensures ∙ clocks_is c.args.model.now.cells.now c.args.model.now.right in
    let few : length (take c.clocks.result s.clocks) ≤ 4 = rw n (clocks_few m s c.requires c.args.model.now.right.right) in
    (few, omega (arith, length-take s.count s.jobs, jobs_few m s c.requires), jobs_small m s c.requires c.args.model.now.right.right)

pub returns : goal.returns
returns c =
    let m = model_of c.args.model.now in
    let s = c.args.state in
    let n : c.clocks.result ≡ m.clocks = c.clocks.ensures ∙ clocks_is c.args.model.now.cells.now c.args.model.now.right in
    let first = c.of_clocks.result in
    let second = c.with_jobs-bounds.result in
    rw c.tasks_of.ensures
    (exact_made m c.args.model.now.right.right s c.requires first second
    (subst (λ (n : ℕ). ClocksWritten (take n s.clocks) first) n c.of_clocks.ensures)
    (subst (λ (n : ℕ). JobsWritten first (length (take n s.clocks)) (take s.count s.jobs) second) n c.with_jobs-bounds.ensures))
